-- Every line of an accepted script's list fits its digits. Assumes nothing.
use mathlib.Core.Path.{◌≡◌, refl}
use mathlib.Core.Bool.{false}
use mathlib.Core.Option.{some}
use mathlib.Core.List.{List, [], ◌∷◌, ◌++◌}
use Prim.Native.Nat.{ℕ, zero, suc, ◌*◌, ◌≤◌, ◌<◌}
use native.Mathlib.Omega.{arith}
use lib.Dec.{eqb, lit<}
use lib.ListN.{length}
use borrow.Author.Tests.{eq-eqb, leb-false}
use Rattle.rules.specs.Sizes.{Room, base}
use Rattle.rules.specs.Slots.{Placement}
use Rattle.rules.specs.Scopes.{Binding, Found, open_child, drain_dangling}
use Rattle.rules.specs.Needs.{Kind, Need, defer, at, ignore, freed_need, output_of}
use Rattle.rules.specs.Frames.{Frame, child, pop, dangle, restore, pop_last, alloc, alloc_in, linear, define, get, take_from, free, free_quietly, forget, drain, Source, constant, next_sample, write, read, read_name, new_defer, new_assigned, new_ignore, alloc_need, output_need, drop_need, Remembered, State, add_need, lost, allot, allot_need, slot_shown, output_shown, Line, loads, shows, step}
use Rattle.rules.specs.Text.{rowed, line_table, counted}
use Rattle.rules.specs.Demand3.{Fair}
use Rattle.rules.proofs.Chains.{All, all-as, all-given, all_then, all-when, all-unless}
use Rattle.rules.proofs.Sets.{Within, member-same, member-tail, pigeons}
use Rattle.rules.proofs.Leaves.{child-leaves, take-leaves}
use Rattle.rules.proofs.Digits.{Fit, fit-nil, fit}
use Rattle.rules.proofs.Lists.{FitLine, FitLines, lines}
use Rattle.rules.proofs.Names.{bound-is, BoundAs, got}
use Rattle.rules.proofs.Sound.{SlotsSound, NeedAgrees, StateSound}
use Rattle.rules.proofs.Needing.{found}
use Rattle.rules.proofs.Small.{Small, allot-small}

-- a room with a slot, a scope and a line, whose numbers fit four digits
pub record Wide (room : Room) : Type 0 where
  pub segments : 0 < room.segments
  pub scopes : 0 < room.scopes
  pub slots : 128 * room.segments ≤ room.size
  pub size : room.size < 65536
  pub lines : room.lines < 65536
  pub one_line : 0 < room.lines
  pub needs : room.needs < 65536

pub base-wide : Wide base
unfolding base
base-wide = record { segments = lit< tt; scopes = lit< tt; slots = omega arith; size = lit< tt; lines = lit< tt; one_line = lit< tt; needs = lit< tt }

-- "values are 16 bits"
abbrev pub FitSource : Source → Type 0
FitSource (constant v) = v < 65536
FitSource next_sample = Unit {0}

abbrev pub FitFrame : Frame → Type 0
FitFrame child = Unit {0}
FitFrame (pop n) = Unit {0}
FitFrame (dangle n) = Unit {0}
FitFrame (restore n) = Unit {0}
FitFrame pop_last = Unit {0}
FitFrame alloc = Unit {0}
FitFrame (alloc_in n) = Unit {0}
FitFrame (linear n) = Unit {0}
FitFrame (define name h) = Unit {0}
FitFrame (get name) = Unit {0}
FitFrame (take_from name) = Unit {0}
FitFrame (free h) = Unit {0}
FitFrame (free_quietly h) = Unit {0}
FitFrame (forget h) = Unit {0}
FitFrame drain = Unit {0}
FitFrame (write h x) = FitSource x
FitFrame (read h) = Unit {0}
FitFrame (read_name name) = Unit {0}
FitFrame (new_defer n) = Unit {0}
FitFrame (new_assigned h) = Unit {0}
FitFrame new_ignore = Unit {0}
FitFrame (alloc_need n) = Unit {0}
FitFrame (output_need n) = Unit {0}
FitFrame (drop_need n) = Unit {0}

-- one line, which fits
pub data OneFit : List Line → Type 0 where
  one-fit : {l : Line} → FitLine l → OneFit (l ∷ [])

pub fit_on : {first rest : List Line} → OneFit first → FitLines rest → FitLines (first ++ rest)
fit_on (one-fit f) more = lines f more

pub one-length : {first : List Line} → OneFit first → (rest : List Line) → length (first ++ rest) ≡ suc (length rest)
one-length (one-fit f) rest = refl

-- ---- lines by their operands

abbrev Reads : ℕ → List ℕ → Type 0
Reads o l = rowed line_table (record { opcode = o; operands = l }) ≡ some (shows o l)

line0 : (o : ℕ) → o < 256 → Reads o [] → eqb 0x90 o ≡ false → OneFit (shows o [] ∷ [])
line0 o h r q = one-fit (record { small = h; fits = fit-nil; reads = r; other = q })

line1 : (o a : ℕ) → o < 256 → a < 65536 → Reads o (a ∷ []) → eqb 0x90 o ≡ false → OneFit (shows o (a ∷ []) ∷ [])
line1 o a h k r q = one-fit (record { small = h; fits = fit k fit-nil; reads = r; other = q })

load : (o a : ℕ) → o < 256 → a < 65536 → rowed line_table (record { opcode = o; operands = a ∷ [] }) ≡ some (loads o a) → eqb 0x90 o ≡ false → OneFit (loads o a ∷ [])
load o a h k r q = one-fit (record { small = h; fits = fit k fit-nil; reads = r; other = q })

fit-within : (m : ℕ) (l : List ℕ) → m < 65536 → Within m l → Fit l
fit-within m [] h w = fit-nil
fit-within m (a ∷ l) h w = fit {a = a} (omega (arith, w a (member-same a l))) (fit-within m l h (λ b p. w b (member-tail b a l p)))

counted-reads : (o : ℕ) (l : List ℕ) → counted o (length l ∷ l) ≡ some (shows o (length l ∷ l))
counted-reads o l = rw (eq-eqb (length l) (length l) refl, counted)

-- ---- a step

module _ (room : Room) (place : Placement) (fair : Fair room place (SlotsSound room.segments)) (wide : Wide room)
    (i : ℕ) (early : i < room.lines) (s : State) (ok : StateSound room s) (small : Small i s) where
  slots-fit : 128 * room.segments < 65536
  slots-fit = omega (arith, wide.slots, wide.size)

  child_fits : All (λ r. r.0.number < 65536) (open_child room s.scopes)
  child_fits = all-as (λ r w. omega (arith, w.0, small.count, wide.lines)) (child-leaves room s.scopes)

  allot-fits : (k : Found) (kind : Kind) (n : ℕ) → All (λ r. r.0 < 65536) (allot room place k kind n s)
  allot-fits k kind n = all-as (λ r w. omega (arith, w.1, slots-fit)) (allot-small room place fair slots-fit i s ok.scopes.slots small k kind n)

  -- a binding's address is its handle's
  bound-fits : (name : ℕ) (b : Binding) → BoundAs s.scopes.bindings name b → b.address < 65536
  bound-fits name b w =
      let agrees = (bound-is w.index name s.scopes.bindings b w.is ok.agreeing).2 in
      rw agrees.1 at (small.addresses b.handle)

  add-fits : (x : Remembered) → All (λ t. s.needed < 65536) (add_need room x s)
  unfolding add_need
  add-fits x = all-when 22 _ λ q. all-given (omega (arith, leb-false room.needs s.needed q, wide.needs))

  -- a need's address is its handle's
  at-fits : (h a : ℕ) → (s.handles h).address ≡ a → a < 65536
  at-fits h a e = rw e at (small.addresses h)

  need-fits : (n h : ℕ) (d : Need) → NeedAgrees s.handles s.handed h d → All (λ r. slot_shown r.0 < 65536) (allot_need room place n s d)
  unfolding allot_need
  need-fits n h (defer id) w = all-unless 4 λ k _. all_then λ r e. all-given ((allot-fits k _ 1).at r e)
  need-fits n h (at a) w = all-given (at-fits h a.slot w.1)
  need-fits n h ignore w = all-given (lit< tt)
  need-fits n h freed_need w = all-given (lit< tt)

  output-fits : (h : ℕ) (d : Need) → NeedAgrees s.handles s.handed h d → All (λ o. output_shown o < 65536) (output_of d)
  unfolding output_of
  output-fits h (defer id) w = record { at = λ o e. absurd (let z : ◌≡◌ {A = ℕ} 0 1 = cc in omega arith) }
  output-fits h (at a) w = all-given (at-fits h a.slot w.1)
  output-fits h ignore w = all-given (lit< tt)
  output-fits h freed_need w = record { at = λ o e. absurd (let z : ◌≡◌ {A = ℕ} 0 1 = cc in omega arith) }

  there : (n : ℕ) → lost s n ≡ false → NeedAgrees s.handles s.handed (s.needs n).handle (s.needs n).need
  there n q = ok.needing.agree n (found s n q)

  drain-fits : OneFit (shows 0x0f (length s.scopes.dangling ∷ s.scopes.dangling) ∷ [])
  unfolding rowed line_table
  drain-fits =
      one-fit
      (record {
        small = lit< tt;
        fits = fit {a = length s.scopes.dangling}
            (omega (arith, pigeons (128 * room.segments) s.scopes.dangling ok.scopes.dangling.once ok.scopes.dangling.within, slots-fit))
            (fit-within (128 * room.segments) s.scopes.dangling slots-fit ok.scopes.dangling.within);
        reads = counted-reads 0x0f s.scopes.dangling;
        other = refl;
      })

  pub fits-step : (f : Frame) → FitFrame f → All (λ r. OneFit r.0) (step room place s f)
  unfolding step rowed line_table drain_dangling
  fits-step child ff = all_then λ r e. all-given (line1 0x01 _ (lit< tt) (child_fits.at r e) refl refl)
  fits-step (pop n) ff = all_then λ k _. all-given (line0 0x02 (lit< tt) refl refl)
  fits-step (dangle n) ff = all_then λ c _. all-given (line0 0x03 (lit< tt) refl refl)
  fits-step (restore n) ff = all_then λ c _. all-given (line0 0x04 (lit< tt) refl refl)
  fits-step pop_last ff = all_then λ k _. all-given (line0 0x05 (lit< tt) refl refl)
  fits-step alloc ff = all-unless 3 λ t _. all_then λ r e. all-given (line1 0x06 r.0 (lit< tt) ((allot-fits t _ 1).at r e) refl refl)
  fits-step (alloc_in n) ff = all-unless 4 λ k _. all_then λ r e. all-given (line1 0x07 r.0 (lit< tt) ((allot-fits k _ 1).at r e) refl refl)
  fits-step (linear zero) ff = all-unless 3 λ _ _. all-given (line1 0x08 0xffff (lit< tt) (lit< tt) refl refl)
  fits-step (linear (suc n)) ff = all-unless 3 λ t _. all_then λ r e. all-given (line1 0x08 r.0 (lit< tt) ((allot-fits t _ (suc n)).at r e) refl refl)
  fits-step (define name h) ff = all-unless 3 λ t _. all-when 13 _ λ _. all_then λ c _. all-given (line0 0x09 (lit< tt) refl refl)
  fits-step (get name) ff = all_then λ b e. all-given (line1 0x0a b.address (lit< tt) (bound-fits name b ((got room name s.scopes).at b e)) refl refl)
  fits-step (take_from name) ff = all_then λ r e. all-given (line1 0x0b r.0.address (lit< tt) (bound-fits name r.0 ((take-leaves room s.scopes name).at r e).0) refl refl)
  fits-step (free h) ff = all_then λ t _. all-given (line0 0x0c (lit< tt) refl refl)
  fits-step (free_quietly h) ff = all_then λ t _. all-given (line0 0x0d (lit< tt) refl refl)
  fits-step (forget h) ff = all-when 13 _ λ _. all-given (line0 0x0e (lit< tt) refl refl)
  fits-step drain ff = all-given drain-fits
  fits-step (write h (constant v)) ff = all-when 13 _ λ _. all-when 14 _ λ _. all-given (one-fit (record { small = lit< tt; fits = fit (small.addresses h) (fit ff fit-nil); reads = refl; other = refl }))
  fits-step (write h next_sample) ff = all-when 13 _ λ _. all-when 14 _ λ _. all-given (one-fit (record { small = lit< tt; fits = fit (small.addresses h) fit-nil; reads = refl; other = refl }))
  fits-step (read h) ff = all-when 13 _ λ _. all-when 14 _ λ _. all-when 15 _ λ _. all-given (load 0x11 _ (lit< tt) (small.addresses h) refl refl)
  fits-step (read_name name) ff = all_then λ b _. all-when 14 _ λ _. all-when 15 _ λ _. all-given (load 0x12 _ (lit< tt) (small.addresses b.handle) refl refl)
  fits-step (new_defer n) ff = all-unless 4 λ k _. all_then λ t e. all-given (line1 0x20 s.needed (lit< tt) ((add-fits _).at t e) refl refl)
  fits-step (new_assigned h) ff = all-when 13 _ λ _. all_then λ t e. all-given (line1 0x21 s.needed (lit< tt) ((add-fits _).at t e) refl refl)
  fits-step new_ignore ff = all_then λ t e. all-given (line1 0x22 s.needed (lit< tt) ((add-fits _).at t e) refl refl)
  fits-step (alloc_need n) ff = all-when 21 _ λ q. all_then λ r e. all-given (line1 0x23 (slot_shown r.0) (lit< tt) ((need-fits n (s.needs n).handle (s.needs n).need (there n q)).at r e) refl refl)
  fits-step (output_need n) ff = all-when 21 _ λ q. all_then λ o e. all-given (line1 0x24 (output_shown o) (lit< tt) ((output-fits (s.needs n).handle (s.needs n).need (there n q)).at o e) refl refl)
  fits-step (drop_need n) ff = all-when 21 _ λ q. all_then λ t _. all-given (line0 0x25 (lit< tt) refl refl)
