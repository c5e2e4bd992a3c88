-- Demand 3, once for all: a run whose frames are each placed fairly is a trace of the core's effects, and it prints what its script means by
-- whatever placement accepts the script. Assumes nothing.
use mathlib.Core.Path.{◌≡◌, refl, sym, ap, subst, ◌∙◌}
use mathlib.Core.Bool.{true≢false}
use mathlib.Core.List.{List, [], ◌∷◌, ◌++◌}
use Prim.Native.Nat.{ℕ, suc, ◌+◌, ◌≤◌}
use native.Mathlib.Omega.{arith}
use native.Mathlib.Nat.{le_of_eq}
use lib.ListN.{replicate, length-replicate}
use Rattle.rules.specs.Notation.{Answer, given, refused}
use Rattle.rules.specs.Sizes.{Room}
use Rattle.rules.specs.Slots.{Slots, Placement, fresh_slots, Place, placing}
use Rattle.rules.specs.Scopes.{Binding, fresh_scopes, get_name}
use Rattle.rules.specs.Frames.{State, start, Frame, child, pop, dangle, restore, pop_last, alloc, alloc_in, linear, define, get, take_from, free, free_quietly, forget, drain, write, read, read_name, new_defer, new_assigned, new_ignore, alloc_need, output_need, drop_need, Line, Step, step, steps, Outcome, accepted, refused_at, before, onward}
use Rattle.rules.specs.Meaning.{Deed, show_bound, deed, filled, unused, shown, unless_refused, meaning, frame_takes, frames_take}
use Rattle.rules.specs.Demand3.{Fair, Holds, Demand3}
use Rattle.rules.proofs.Core.{Inv, Trace, ends, goes, told, deed_takes, deeds_take, trace-grows, prints, samples, touches}
use Rattle.rules.proofs.Effects.{view, effect}
use Rattle.rules.proofs.Blanks.{blank}
use Rattle.rules.proofs.Said.{names-on, deeds-on}
use Rattle.rules.proofs.Editions.{InOrder, placing-fair}

-- what stands behind the lines of an accepted script's first frame
pub record Tail (first : List Line) (o : Outcome) (ls : List Line) (size : ℕ) : Type 0 where
  pub rest : List Line
  pub went : o ≡ accepted rest size
  pub whole : first ++ rest ≡ ls

pub tail : (first : List Line) (o : Outcome) (ls : List Line) (size : ℕ) → before first o ≡ accepted ls size → Tail first o ls size
tail first (accepted rest n) ls size e = record { rest = rest; went = cc; whole = cc }
tail first (refused_at n i) ls size e = absurd (let z : ◌≡◌ {A = ℕ} 0 1 = cc in omega arith)

-- at first no handle is held
at-start : (cells : List ℕ) → Inv (view start) (λ h. 0) cells
unfolding start fresh_scopes
at-start cells =
    record {
      occupied = λ h p. absurd (true≢false (sym p));
      below = λ h p. absurd (true≢false (sym p));
      apart = λ g h p q e. absurd (true≢false (sym p));
      same = λ h p q. absurd (true≢false (sym p));
    }

-- a frame's deed takes as many samples as the frame, whatever the state
bound-takes : (b : Answer Binding) → deed_takes (show_bound b) ≡ 0
bound-takes (given b) = refl
bound-takes (refused n) = refl

deed-takes : (room : Room) (s : State) (f : Frame) → deed_takes (deed room s f) ≡ frame_takes f
unfolding deed
deed-takes room s child = refl
deed-takes room s (pop n) = refl
deed-takes room s (dangle n) = refl
deed-takes room s (restore n) = refl
deed-takes room s pop_last = refl
deed-takes room s alloc = refl
deed-takes room s (alloc_in n) = refl
deed-takes room s (linear n) = refl
deed-takes room s (define name h) = refl
deed-takes room s (get name) = refl
deed-takes room s (take_from name) = refl
deed-takes room s (free h) = refl
deed-takes room s (free_quietly h) = refl
deed-takes room s (forget h) = refl
deed-takes room s drain = refl
deed-takes room s (write h x) = refl
deed-takes room s (read h) = refl
deed-takes room s (read_name name) = bound-takes (get_name room name s.scopes)
deed-takes room s (new_defer n) = refl
deed-takes room s (new_assigned h) = refl
deed-takes room s new_ignore = refl
deed-takes room s (alloc_need n) = refl
deed-takes room s (output_need n) = refl
deed-takes room s (drop_need n) = refl

-- frame by frame: each is judged in the state that the one before it left; at the end stands that state's size
module _ (room : Room) (place : Placement) (i : ℕ) (s : State) where
  pub next-frame : (f : Frame) (fs : List Frame) → steps room place i s (f ∷ fs) ≡ onward i (step room place s f) (λ t. steps room place (suc i) t fs)
  unfolding steps
  next-frame f fs = refl

  pub no-frame : steps room place i s [] ≡ accepted [] s.scopes.size
  unfolding steps
  no-frame = refl

-- A run: the frames lead from s to t and give these lines, each frame placed by some placement that will do.
pub data Goes (room : Room) (Ok : Placement → Type 0) : State → List Frame → List Line → State → Type 0 where
  ended : {s : State} → Goes room Ok s [] [] s
  went : {s t : State} {f : Frame} {fs : List Frame} {ls : List Line} (place : Placement) → Ok place → (r : List Line × State) → step room place s f ≡ given r
      → Goes room Ok r.1 fs ls t → Goes room Ok s (f ∷ fs) (r.0 ++ ls) t

-- a run and the size that it ends with
pub record Ended (room : Room) (Ok : Placement → Type 0) (s : State) (fs : List Frame) (ls : List Line) (size : ℕ) : Type 0 where
  pub last : State
  pub goes : Goes room Ok s fs ls last
  pub size_is : last.scopes.size ≡ size

module _ (room : Room) (place : Placement) where
  -- the first frame of an accepted script is given, and the rest is accepted
  pub record Split (i : ℕ) (s : State) (f : Frame) (fs : List Frame) (ls : List Line) (size : ℕ) : Type 0 where
    pub result : List Line × State
    pub stepped : step room place s f ≡ given result
    pub tail : Tail result.0 (steps room place (suc i) result.1 fs) ls size

  pub split-first : (i : ℕ) (s : State) (f : Frame) (fs : List Frame) (ls : List Line) (size : ℕ) → steps room place i s (f ∷ fs) ≡ accepted ls size → Split i s f fs ls size
  unfolding onward
  split-first i s f fs ls size e = go (step room place s f) refl (sym (next-frame room place i s f fs) ∙ e)
    where
      go : (a : Step) → step room place s f ≡ a → onward i a (λ t. steps room place (suc i) t fs) ≡ accepted ls size → Split i s f fs ls size
      go (refused n) q x = absurd (let z : ◌≡◌ {A = ℕ} 0 1 = cc in omega arith)
      go (given r) q x = record { result = r; stepped = q; tail = tail r.0 (steps room place (suc i) r.1 fs) ls size x }

  -- an accepted script is a run
  pub accepted-goes : {Ok : Placement → Type 0} → Ok place → (fs : List Frame) (i : ℕ) (s : State) (ls : List Line) (size : ℕ) → steps room place i s fs ≡ accepted ls size → Ended room Ok s fs ls size
  accepted-goes {Ok = Ok} ok [] i s ls size e =
      let end = no-frame room place i s in
      let el : [] ≡ ls = cc in
      record { last = s; goes = subst (λ (y : List Line). Goes room Ok s [] y s) el ended; size_is = cc }
  accepted-goes {Ok = Ok} ok (f ∷ fs) i s ls size e =
      let w = split-first i s f fs ls size e in
      let more = accepted-goes {Ok = Ok} ok fs (suc i) w.result.1 w.tail.rest size w.tail.went in
      record {
        last = more.last;
        goes = subst (λ (y : List Line). Goes room Ok s (f ∷ fs) y more.last) w.tail.whole (went place ok w.result w.stepped more.goes);
        size_is = more.size_is;
      }

module _ (room : Room) (Ord : Slots → Type 0) where
  abbrev Ok : Placement → Type 0
  Ok place = Fair room place Ord

  -- a run as a trace, whose deeds tell what the script means by any placement that accepts it from a state with the same names
  record Traced (fs : List Frame) (s : State) (ls : List Line) (size : ℕ) : Type 0 where
    deeds : List Deed
    trace : Trace (view s) deeds ls size
    means : (own : Placement) (i : ℕ) (u : State) (ms : List Line) (n : ℕ) → blank s.scopes ≡ blank u.scopes → steps room own i u fs ≡ accepted ms n
        → (boxes : ℕ → ℕ) (vs : List ℕ) → told deeds vs boxes ≡ meaning room own u boxes vs fs
    takes : deeds_take deeds ≡ frames_take fs

  traced : {s t : State} {fs : List Frame} {ls : List Line} → Goes room Ok s fs ls t → Ord s.scopes.slots → Traced fs s ls t.scopes.size
  unfolding meaning unless_refused frames_take
  traced ended o = record { deeds = []; trace = ends; means = λ own i u ms n same e boxes vs. refl; takes = refl }
  traced {s = s} {t = t} (went {f = f} {fs = fs} {ls = ls} place fair r e more) o =
      let g = (effect room place Ord fair s o f).at r e in
      let rest : Traced fs r.1 ls t.scopes.size = traced more g.order in
      record {
        deeds = deed room s f ∷ rest.deeds;
        trace = subst (λ (y : List Line). Trace (view s) (deed room s f ∷ rest.deeds) (y ++ ls) t.scopes.size) (sym g.only) (goes g.effect rest.trace);
        means = λ own i u ms n same x boxes vs.
            let w = split-first room own i u f fs ms n x in
            let one = deeds-on room place own s u same f r w.result e w.stepped in
            let names = names-on room place own s u same f r w.result e w.stepped in
            rw (w.stepped, ← one, meaning)
            (ap (shown (deed room s f) boxes)
            (rest.means own (suc i) w.result.1 w.tail.rest n names w.tail.went (filled (deed room s f) vs boxes) (unused (deed room s f) vs)));
        takes = ap (λ (n : ℕ). n + deeds_take rest.deeds) (deed-takes room s f) ∙ ap (λ (n : ℕ). frame_takes f + n) rest.takes;
      }

  -- the size never falls
  pub size-up : {s t : State} {fs : List Frame} {ls : List Line} → Goes room Ok s fs ls t → Ord s.scopes.slots → s.scopes.size ≤ t.scopes.size
  size-up {s = s} run o = let w = traced run o in trace-grows (view s) w.deeds _ _ w.trace

  start-in-order : Ord fresh_slots → Ord start.scopes.slots
  unfolding start fresh_scopes
  start-in-order o = o

  -- a run from the start, of a script that a placement of its own accepts
  pub run_holds : Ord fresh_slots → (own : Placement) (i : ℕ) (fs : List Frame) (ms ls : List Line) (n : ℕ) (t : State) → steps room own i start fs ≡ accepted ms n
      → Goes room Ok start fs ls t → Holds room own fs ls t.scopes.size
  run_holds o own i fs ms ls n t e run =
      let w = traced run (start-in-order o) in
      let size : ℕ = t.scopes.size in
      let zeros : List ℕ = replicate size 0 in
      record {
        prints = λ vs cells fits. prints (view start) w.deeds ls size w.trace (λ h. 0) vs cells (at-start cells) fits ∙ w.means own i start ms n refl e (λ h. 0) vs;
        samples = samples (view start) w.deeds ls size w.trace ∙ w.takes;
        inside = touches (view start) w.deeds ls size w.trace (λ h. 0) [] zeros (at-start zeros) (le_of_eq (sym (length-replicate size 0))) 0;
      }

pub demand3 : (room : Room) (place : Placement) (Ord : Slots → Type 0) → Fair room place Ord → Demand3 room place
unfolding Demand3
demand3 room place Ord fair i fs ls size e =
    let w = accepted-goes room place {Ok = λ p. Fair room p Ord} fair fs i start ls size e in
    subst (Holds room place fs ls) w.size_is (run_holds room Ord fair.at_first place i fs ls ls size w.last e w.goes)

-- of both editions and W-203's places, in every room
pub demand3-editions : (room : Room) (p : Place) → Demand3 room (placing room.segments p)
demand3-editions room p = demand3 room (placing room.segments p) (InOrder room.segments) (placing-fair room p)
