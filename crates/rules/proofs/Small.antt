-- What the digits of a list need of a script's history: each frame raises the counter by one at most, and every handle's address, held or
-- not, was one of the slots. Assumes nothing.
use mathlib.Core.Path.{◌≡◌, refl}
use mathlib.Core.Bool.{Bool, true, false}
use mathlib.Core.List.{List}
use Prim.Native.Nat.{ℕ, zero, suc, ◌+◌, ◌*◌, ◌%◌, ◌≤◌, ◌<◌}
use native.Mathlib.Omega.{arith}
use native.Mathlib.Nat.{mod-le}
use lib.Dec.{lit<}
use Rattle.rules.specs.Notation.{◌▹◌, put}
use Rattle.rules.specs.Sizes.{Room, COUNTERS}
use Rattle.rules.specs.Slots.{Placement}
use Rattle.rules.specs.AddressSets.{member}
use Rattle.rules.specs.Scopes.{Scopes, fresh_scopes, Found, closed, drain_dangling}
use Rattle.rules.specs.Needs.{Kind, freed, Need, defer, at, ignore, freed_need}
use Rattle.rules.specs.Frames.{Frame, child, pop, dangle, restore, pop_last, alloc, alloc_in, linear, define, get, take_from, free, free_quietly, forget, drain, write, read, read_name, new_defer, new_assigned, new_ignore, alloc_need, output_need, drop_need, Handle, kind≔, State, start, scopes≔, set_handle, let_go, allot, close, hand_back, free_as, free_handle, Remembered, no_need, needs≔, needed≔, set_need, add_need, allot_need, free_own, step}
use Rattle.rules.specs.Demand3.{Fair}
use Rattle.rules.proofs.Chains.{All, all-given, all_then, all-when, all-unless, all-if}
use Rattle.rules.proofs.Tables.{put-alike, grant-cases}
use Rattle.rules.proofs.Tells.{decided}
use Rattle.rules.proofs.Sound.{SlotsSound}
use Rattle.rules.proofs.Leaves.{Leaves, child-leaves, bind-leaves, take-leaves, dangle-leaves, restore-leaves, back-leaves, allotted}

-- after i frames
pub record Small (i : ℕ) (s : State) : Type 0 where
  pub count : s.scopes.counter ≤ suc i
  pub addresses : (h : ℕ) → (s.handles h).address < 65536

pub small-start : (i : ℕ) → Small i start
unfolding start fresh_scopes
small-start i = record { count = omega arith; addresses = λ h. lit< tt }

let_go-address : (l : List ℕ) (f : ℕ → Handle) (h : ℕ) → (let_go l f h).address ≡ (f h).address
unfolding let_go
let_go-address l f h = decided (member (f h).address l) (λ e. rw (e, let_go)) (λ e. rw (e, let_go))

module _ (room : Room) (place : Placement) (fair : Fair room place (SlotsSound room.segments)) (wide : 128 * room.segments < 65536)
    (i : ℕ) (s : State) (order : SlotsSound room.segments s.scopes.slots) (small : Small i s) where
  abbrev c : Scopes
  c = s.scopes

  abbrev After : State → Type 0
  After t = Small (suc i) t

  stays : After s
  stays = record { count = omega (arith, small.count); addresses = small.addresses }

  -- other scopes with the same counter
  with-scopes : (d : Scopes) → d.counter ≡ c.counter → After (s ▹ scopes≔ d)
  with-scopes d e = record { count = omega (arith, small.count); addresses = small.addresses }

  with-handle : (h : ℕ) (x : Handle) → x.address ≡ (s.handles h).address → (d : Scopes) → d.counter ≡ c.counter → After (s ▹ scopes≔ d ▹ set_handle h x)
  unfolding set_handle
  with-handle h x e d q = record { count = omega (arith, small.count); addresses = λ j. rw (put-alike s.handles h x (λ y. y.address) e j) (small.addresses j) }

  close-small : (k : Found) → After (close k s)
  unfolding close closed
  close-small k = record { count = omega (arith, small.count); addresses = λ h. rw let_go-address (small.addresses h) }

  pub allot-small : (k : Found) (kind : Kind) (n : ℕ) → All (λ r. After r.1 × (r.0 + n ≤ 128 * room.segments)) (allot room place k kind n s)
  unfolding allot
  allot-small k kind n =
      all-when 16 _ λ _. all_then λ r q.
      let w = (allotted place k n c).at r q in
      let fits : r.0 + n ≤ 128 * room.segments = omega (arith, w.address, (fair.placed n c.slots w.placed w.from order).2) in
      all-given (
        record {
          count = omega (arith, w.leaves.counter-is, small.count);
          addresses = λ h. grant-cases s.handed n r.0 kind s.handles h (λ lo hi x. rw x (omega arith)) (λ x. rw x (small.addresses h));
        },
        fits,
      )

  free-as-small : (k : Kind) (dangles : Bool) (h : ℕ) → All After (free_as k dangles h s)
  unfolding free_as hand_back
  free-as-small k dangles h =
      all-if
      (λ _. all-when 14 _ λ _. all_then λ d e. all-given (with-handle h _ refl d ((back-leaves c dangles (s.handles h).address).at d e).counter-is))
      (λ _. all-given (with-handle h (s.handles h ▹ kind≔ freed) refl c refl))

  free-small : (dangles : Bool) (h : ℕ) → All After (free_handle dangles h s)
  unfolding free_handle
  free-small dangles h = all-when 13 _ λ _. free-as-small (s.handles h).kind dangles h

  with-needs : {t : State} (needs : ℕ → Remembered) (needed : ℕ) → After t → After (t ▹ needs≔ needs ▹ needed≔ needed)
  with-needs needs needed a = record { count = a.count; addresses = a.addresses }

  add_small : (x : Remembered) → All After (add_need room x s)
  unfolding add_need set_need
  add_small x = all-when 22 _ λ _. all-given (with-needs (put s.needs s.needed x) (s.needed + 1) stays)

  need-small : (n : ℕ) (d : Need) → All (λ r. After r.1) (allot_need room place n s d)
  unfolding allot_need set_need
  need-small n (defer id) = all-unless 4 λ k _. all_then λ r e. all-given (with-needs (put r.1.needs n _) r.1.needed ((allot-small k _ 1).at r e).0)
  need-small n (at a) = all-given (with-needs (put s.needs n _) s.needed stays)
  need-small n ignore = all-given stays
  need-small n freed_need = all-given stays

  own-small : (h : ℕ) (d : Need) → All After (free_own h s d)
  unfolding free_own
  own-small h (defer id) = all-given stays
  own-small h (at a) = all-if (λ _. free-as-small a.kind true h) (λ _. all-given stays)
  own-small h ignore = all-given stays
  own-small h freed_need = all-given stays

  child-small : (d : Scopes) {n : ℕ} → Leaves c.slots c.bindings ((c.counter + 1) % COUNTERS) n d → After (s ▹ scopes≔ d)
  child-small d w = record { count = omega (arith, w.counter-is, small.count, mod-le (c.counter + 1) COUNTERS); addresses = small.addresses }

  pub small-step : (f : Frame) → All (λ r. After r.1) (step room place s f)
  unfolding step set_need drain_dangling
  small-step child = all_then λ r e. all-given (child-small r.1 ((child-leaves room c).at r e).1)
  small-step (pop n) = all_then λ k _. all-given (close-small k)
  small-step (dangle n) = all_then λ d e. all-given (with-scopes d ((dangle-leaves c _).at d e).counter-is)
  small-step (restore n) = all_then λ d e. all-given (with-scopes d ((restore-leaves c _).at d e).counter-is)
  small-step pop_last = all_then λ k _. all-given (close-small k)
  small-step alloc = all-unless 3 λ t _. all_then λ r e. all-given ((allot-small t _ 1).at r e).0
  small-step (alloc_in n) = all-unless 4 λ k _. all_then λ r e. all-given ((allot-small k _ 1).at r e).0
  small-step (linear zero) = all-unless 3 λ _ _. all-given stays
  small-step (linear (suc n)) = all-unless 3 λ t _. all_then λ r e. all-given ((allot-small t _ (suc n)).at r e).0
  small-step (define name h) = all-unless 3 λ t _. all-when 13 _ λ _. all_then λ d e. all-given (with-scopes d ((bind-leaves room c t name _ h).at d e).counter-is)
  small-step (get name) = all_then λ b _. all-given stays
  small-step (take_from name) = all_then λ r e. all-given (with-scopes r.1 ((take-leaves room c name).at r e).1.counter-is)
  small-step (free h) = all_then λ t e. all-given ((free-small true h).at t e)
  small-step (free_quietly h) = all_then λ t e. all-given ((free-small false h).at t e)
  small-step (forget h) = all-when 13 _ λ _. all-given (with-handle h (s.handles h ▹ kind≔ freed) refl c refl)
  small-step drain = all-given (with-scopes _ refl)
  small-step (write h v) = all-when 13 _ λ _. all-when 14 _ λ _. all-given (with-handle h _ refl c refl)
  small-step (read h) = all-when 13 _ λ _. all-when 14 _ λ _. all-when 15 _ λ _. all-given stays
  small-step (read_name name) = all_then λ b _. all-when 14 _ λ _. all-when 15 _ λ _. all-given stays
  small-step (new_defer n) = all-unless 4 λ k _. all_then λ t e. all-given ((add_small _).at t e)
  small-step (new_assigned h) = all-when 13 _ λ _. all_then λ t e. all-given ((add_small _).at t e)
  small-step new_ignore = all_then λ t e. all-given ((add_small _).at t e)
  small-step (alloc_need n) = all-when 21 _ λ _. all_then λ r e. all-given ((need-small n (s.needs n).need).at r e)
  small-step (output_need n) = all-when 21 _ λ _. all_then λ o _. all-given stays
  small-step (drop_need n) = all-when 21 _ λ _. all_then λ t e. all-given (with-needs (put t.needs n no_need) t.needed ((own-small (s.needs n).handle (s.needs n).need).at t e))
