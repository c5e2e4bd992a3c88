-- Every library call and every step of a script keeps soundness, and a fresh state is sound: one statement a call, in the order of document
-- 01, by the tests of specs/Sound. `All P (call ..)` says that P holds of whatever the call gives; where it refuses, nothing changes.
-- Assumes nothing.
use mathlib.Core.Path.{◌≡◌}
use mathlib.Core.Bool.{Bool, true}
use mathlib.Core.Option.{Option, some}
use mathlib.Core.List.{List}
use Prim.Native.Nat.{ℕ, ◌*◌, ◌≤◌, ◌<◌}
use lib.Dec.{lit<}
use Rattle.rules.specs.Notation.{Answer}
use Rattle.rules.specs.Sizes.{Room, base}
use Rattle.rules.specs.Slots.{Placement, Place, placing}
use Rattle.rules.specs.Scopes.{Id, Scopes, fresh_scopes, Found, open_child, alloc_top, alloc_in, alloc_run, pop_scope, pop_last_scope, dangle_scope, restore_scope, top_scope, bind_in, define_name, take_name, drain_dangling}
use Rattle.rules.specs.Needs.{Address, alloc_address, alloc_address_in, alloc_addresses, give_back, free_address, free_run, Need, allocate_need, free_need}
use Rattle.rules.specs.Frames.{Frame, State, start, step}
use Rattle.rules.specs.Sound.{sound_slots, sound, sound_state}
use Rattle.rules.specs.Demand3.{Fair}
use Rattle.rules.proofs.Chains.{All, all-as}
use Rattle.rules.proofs.Sound.{SlotsSound, Sound}
use Rattle.rules.proofs.Tests.{tells-slots, tells-sound}
use Rattle.rules.proofs.HandleTests.{tells-state}
use Rattle.rules.proofs.Editions.{fair-as, placing-fair-test}
use Rattle.rules.proofs.Fits.{base-wide}
use Rattle.rules.proofs.Naming.{top-here, Named, named_here}
use Rattle.rules.proofs.KeepsScopes.{keeps-child, keeps-dangle, keeps-restore, keeps-pop, keeps-pop-last}
use Rattle.rules.proofs.KeepsSlots.{keeps-alloc, keeps-alloc-in, keeps-run, keeps-back}
use Rattle.rules.proofs.KeepsNames.{keeps-bind, keeps-define, keeps-take, keeps-drain}
use Rattle.rules.proofs.KeepsNeeds.{keeps-free, keeps-free-run, keeps-free-need, keeps-address, keeps-address-in, keeps-addresses, keeps-need, fresh-sound}
use Rattle.rules.proofs.KeepsSteps.{keeps-step}
use Rattle.rules.proofs.Reached.{Reaches, keeps-frames, start-sound}

-- ---- fresh

module _ (room : Room) (segments : 0 < room.segments) (scopes : 0 < room.scopes) where
  pub fresh_kept : sound room fresh_scopes ≡ true
  fresh_kept = (tells-sound room fresh_scopes).shows (fresh-sound room segments scopes)

  pub start-kept : sound_state room start ≡ true
  start-kept = (tells-state room start).shows (start-sound room segments scopes)

-- ---- "Scopes"

module _ (room : Room) where
  tested : {A : Type 0} (after : A → Scopes) {m : Answer A} → All (λ r. Sound room (after r)) m → All (λ r. sound room (after r) ≡ true) m
  tested after = all-as (λ r. (tells-sound room (after r)).shows)

  is-sound : (c : Scopes) → sound room c ≡ true → Sound room c
  is-sound c h = (tells-sound room c).holds h

  as-record : (place : Placement) → Fair room place (λ t. sound_slots room.segments t ≡ true) → Fair room place (SlotsSound room.segments)
  as-record place = fair-as (λ t. (tells-slots room.segments t).holds) (λ t. (tells-slots room.segments t).shows)

module _ (room : Room) (c : Scopes) (h : sound room c ≡ true) where
  pub child-kept : All (λ r. sound room r.1 ≡ true) (open_child room c)
  child-kept = tested room (λ r. r.1) (keeps-child room c (is-sound room c h))

  module _ (big : 128 * room.segments ≤ room.size) (place : Placement) (fair : Fair room place (λ t. sound_slots room.segments t ≡ true)) where
    pub alloc-kept : All (λ r. sound room r.1 ≡ true) (alloc_top place c)
    alloc-kept = tested room (λ r. r.1) (keeps-alloc room c (is-sound room c h) big place (as-record room place fair))

    pub alloc-in-kept : (o : Option Found) → Named room c o → All (λ r. sound room r.1 ≡ true) (alloc_in place o c)
    alloc-in-kept o n = tested room (λ r. r.1) (keeps-alloc-in room c (is-sound room c h) big place (as-record room place fair) o (named_here n))

    pub linear-kept : (n : ℕ) → All (λ r. sound room r.1 ≡ true) (alloc_run place n c)
    linear-kept n = tested room (λ r. r.1) (keeps-run room c (is-sound room c h) big place (as-record room place fair) n)

  pub pop_kept : (o : Option Found) → Named room c o → All (λ d. sound room d ≡ true) (pop_scope room o c)
  pop_kept o n = tested room (λ d. d) (keeps-pop room c (is-sound room c h) o (named_here n))

  pub pop-last-kept : All (λ d. sound room d ≡ true) (pop_last_scope room c)
  pop-last-kept = tested room (λ d. d) (keeps-pop-last room c (is-sound room c h))

  pub dangle-kept : (o : Option Found) → Named room c o → All (λ d. sound room d ≡ true) (dangle_scope o c)
  dangle-kept o n = tested room (λ d. d) (keeps-dangle room c (is-sound room c h) o (named_here n))

  pub restore-kept : (o : Option Found) → Named room c o → All (λ d. sound room d ≡ true) (restore_scope o c)
  restore-kept o n = tested room (λ d. d) (keeps-restore room c (is-sound room c h) o (named_here n))

  pub define-kept : (name address handle : ℕ) → All (λ d. sound room d ≡ true) (define_name room name address handle c)
  define-kept name address handle = tested room (λ d. d) (keeps-define room c (is-sound room c h) name address handle)

  -- with a handle, as a script defines
  pub bind-kept : (t : Found) → top_scope c ≡ some t → (name address handle : ℕ) → All (λ d. sound room d ≡ true) (bind_in room t name address handle c)
  bind-kept t e name address handle =
      tested room (λ d. d) (keeps-bind room c (is-sound room c h) t name address handle (top-here c t e room.scopes (is-sound room c h).top))

  -- get gives a binding and no state
  pub take-kept : (name : ℕ) → All (λ r. sound room r.1 ≡ true) (take_name room name c)
  take-kept name = tested room (λ r. r.1) (keeps-take room c (is-sound room c h) name)

  pub drain_kept : sound room (drain_dangling c).1 ≡ true
  drain_kept = (tells-sound room (drain_dangling c).1).shows (keeps-drain room c (is-sound room c h))

-- ---- "Addresses and needs"

module _ (room : Room) (c : Scopes) (h : sound room c ≡ true) where
  module _ (big : 128 * room.segments ≤ room.size) (place : Placement) (fair : Fair room place (λ t. sound_slots room.segments t ≡ true)) where
    pub address_kept : All (λ r. sound room r.1 ≡ true) (alloc_address place c)
    address_kept = tested room (λ r. r.1) (keeps-address room big place (as-record room place fair) c (is-sound room c h))

    pub address-in-kept : (id : Id) → All (λ r. sound room r.1 ≡ true) (alloc_address_in room place id c)
    address-in-kept id = tested room (λ r. r.1) (keeps-address-in room big place (as-record room place fair) c (is-sound room c h) id)

    pub addresses-kept : (n : ℕ) → All (λ r. sound room r.1 ≡ true) (alloc_addresses place n c)
    addresses-kept n = tested room (λ r. r.1) (keeps-addresses room big place (as-record room place fair) c (is-sound room c h) n)

  pub back-kept : (dangles : Bool) (a : ℕ) → All (λ d. sound room d ≡ true) (give_back dangles a c)
  back-kept dangles a = tested room (λ d. d) (keeps-back room c (is-sound room c h) dangles a)

  pub free-kept : (dangles : Bool) (a : Address) → All (λ r. sound room r.1 ≡ true) (free_address dangles a c)
  free-kept dangles a = tested room (λ r. r.1) (keeps-free room dangles a c (is-sound room c h))

  pub free-run-kept : (dangles : Bool) (l : List Address) → All (λ r. sound room r.1 ≡ true) (free_run dangles l c)
  free-run-kept dangles l = tested room (λ r. r.1) (keeps-free-run room dangles l c (is-sound room c h))

  module _ (big : 128 * room.segments ≤ room.size) (place : Placement) (fair : Fair room place (λ t. sound_slots room.segments t ≡ true)) where
    pub need-kept : (d : Need) → All (λ r. sound room r.scopes ≡ true) (allocate_need room place d c)
    need-kept d = tested room (λ r. r.scopes) (keeps-need room big place (as-record room place fair) c (is-sound room c h) d)

  pub free-need-kept : (d : Need) → All (λ r. sound room r.1 ≡ true) (free_need d c)
  free-need-kept d = tested room (λ r. r.1) (keeps-free-need room d c (is-sound room c h))

-- ---- scripts

module _ (room : Room) (big : 128 * room.segments ≤ room.size) (place : Placement) (fair : Fair room place (λ t. sound_slots room.segments t ≡ true)) where
  pub step_kept : (s : State) → sound_state room s ≡ true → (f : Frame) → All (λ r. sound_state room r.1 ≡ true) (step room place s f)
  step_kept s h f = all-as (λ r. (tells-state room r.1).shows) (keeps-step room s ((tells-state room s).holds h) big place (as-record room place fair) f)

  pub frames-kept : (s t : State) (fs : List Frame) → sound_state room s ≡ true → Reaches room place s fs t → sound_state room t ≡ true
  frames-kept s t fs h r = (tells-state room t).shows (keeps-frames room big place (as-record room place fair) r ((tells-state room s).holds h))

-- ---- in our room, by any place

module _ (p : Place) where
  pub base-fair : Fair base (placing base.segments p) (λ t. sound_slots base.segments t ≡ true)
  unfolding base
  base-fair = placing-fair-test base (lit< tt) p

  pub base-step-kept : (s : State) → sound_state base s ≡ true → (f : Frame) → All (λ r. sound_state base r.1 ≡ true) (step base (placing base.segments p) s f)
  base-step-kept = step_kept base base-wide.slots (placing base.segments p) base-fair

  -- whatever a script reaches is sound
  pub script-kept : (t : State) (fs : List Frame) → Reaches base (placing base.segments p) start fs t → sound_state base t ≡ true
  script-kept t fs r = frames-kept base base-wide.slots (placing base.segments p) base-fair start t fs (start-kept base base-wide.segments base-wide.scopes) r
