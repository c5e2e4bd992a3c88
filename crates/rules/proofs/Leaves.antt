-- What the calls of "Scopes" leave of slots, bindings, counter and size, if they are not refused. Assumes nothing.
use mathlib.Core.Path.{◌≡◌, refl}
use mathlib.Core.Bool.{Bool, true, false}
use mathlib.Core.Option.{Option, some}
use mathlib.Core.List.{List}
use Prim.Native.Nat.{ℕ, ◌+◌, max}
use Rattle.rules.specs.Notation.{◌▹◌}
use Rattle.rules.specs.Sizes.{Room}
use Rattle.rules.specs.Slots.{Slots, Placed, Placement, remove}
use Rattle.rules.specs.Scopes.{Binding, Scopes, moved≔, Found, set_scope, after_counter, open_child, allocate, dangle_scope, restore_scope, rebound, bind_in, take_name}
use Rattle.rules.specs.Needs.{give_back}
use Rattle.rules.proofs.Chains.{All, all-given, all_then, all-when, all-unless}
use Rattle.rules.proofs.Names.{BoundAs, got}

pub record Leaves (slots : Slots) (bindings : List Binding) (counter size : ℕ) (d : Scopes) : Type 0 where
  pub slots-are : d.slots ≡ slots
  pub bindings-are : d.bindings ≡ bindings
  pub counter-is : d.counter ≡ counter
  pub size_is : d.size ≡ size

pub left : (d : Scopes) → Leaves d.slots d.bindings d.counter d.size d
left d = record { slots-are = refl; bindings-are = refl; counter-is = refl; size_is = refl }

-- all four as they were
abbrev pub LeavesSame : Scopes → Scopes → Type 0
LeavesSame c d = Leaves c.slots c.bindings c.counter c.size d

module _ (room : Room) (c : Scopes) where
  pub child-leaves : All (λ r. (r.0.number ≡ c.counter) × Leaves c.slots c.bindings (after_counter c.counter) c.size r.1) (open_child room c)
  unfolding open_child
  child-leaves = all-unless 3 λ t _. all-unless 8 λ i _. all-given (refl, left _)

  pub bind-leaves : (t : Found) (name address handle : ℕ)
      → All (Leaves c.slots (rebound (record { scope = t.index; name = name; address = address; handle = handle; moved = false }) c.bindings) c.counter c.size) (bind_in room t name address handle c)
  unfolding bind_in
  bind-leaves t name address handle = all-when 9 _ λ _. all-given (left _)

  -- a binding that a lookup found, and the same one moved
  pub take-leaves : (name : ℕ) → All (λ r. BoundAs c.bindings name r.0 × Leaves c.slots (rebound (r.0 ▹ moved≔ true) c.bindings) c.counter c.size r.1) (take_name room name c)
  unfolding take_name
  take-leaves name = all_then λ b e. all-given ((got room name c).at b e, left _)

module _ (c : Scopes) where
  pub dangle-leaves : (o : Option Found) → All (LeavesSame c) (dangle_scope o c)
  unfolding dangle_scope set_scope
  dangle-leaves o = all-unless 4 λ k _. all-when 5 _ λ _. all-given (left _)

  pub restore-leaves : (o : Option Found) → All (LeavesSame c) (restore_scope o c)
  unfolding restore_scope set_scope
  restore-leaves o = all-unless 4 λ k _. all-when 5 _ λ _. all-given (left _)

  pub back-leaves : (dangles : Bool) (a : ℕ) → All (Leaves (remove a c.slots) c.bindings c.counter c.size) (give_back dangles a c)
  unfolding give_back set_scope
  back-leaves dangles a = all-unless 12 λ t _. all-when 12 _ λ _. all-given (left _)

-- n slots were given by the placement
pub record Allotted (place : Placement) (n : ℕ) (c : Scopes) (r : ℕ × Scopes) : Type 0 where
  pub placed : Placed
  pub from : place n c.slots ≡ some placed
  pub address : r.0 ≡ placed.address
  pub leaves : Leaves placed.next c.bindings c.counter (max c.size (placed.address + n)) r.1

pub allotted : (place : Placement) (k : Found) (n : ℕ) (c : Scopes) → All (Allotted place n c) (allocate place k n c)
unfolding allocate set_scope
allotted place k n c = all-unless 7 λ p e. all-given (record { placed = p; from = e; address = refl; leaves = left _ })
