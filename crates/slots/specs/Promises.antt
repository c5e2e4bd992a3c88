-- What the public entries promise, in the words of document 01: the answer and the next state, for every state handed in. Assumes nothing.
use Rattle.std.specs.Prelude.{◌≡◌, Bool, true, false, List, ℕ, ◌^◌, ◌<◌, length, get_or, Result}
use Rattle.std.proofs.Math.Option.{Option, none, some}
use Rattle.rules.specs.Notation.{Answer, given, refused}
use Rattle.rules.specs.Refusals.{says}
use Rattle.rules.specs.Sizes.{base, HALVES}
use Rattle.rules.specs.Sound.{sound_slots}
use Rattle.rules.specs.Slots as rule
use Rattle.rules.specs.declared.refusal.Refusal.{Refusal}
use Rattle.slots.specs.Halves.{slots_of}
use Rattle.slots.specs.Spots.{placement_of}
use Rattle.slots.specs.declared.Slots.{Slots}
use Rattle.slots.specs.declared.SlotAddress.{SlotAddress}
use Rattle.slots.specs.declared.Place.{Place}
use Rattle.slots.specs.declared.Placing.{Placing}
use Rattle.slots.specs.declared.Removing.{Removing}

-- ---- the declared types in 01's terms

-- the state as the rules see it
abbrev pub view : Slots → rule.Slots
view s = slots_of s.halves s.segments s.head

-- what an answer says: the address that is given, or the number of the refusal
abbrev pub place_says : Result SlotAddress Refusal → Answer ℕ
place_says = says (λ a. a.0)

-- yes, no, or the number of the refusal
abbrev pub remove_says : Result Bool Refusal → Answer Bool
remove_says = says (λ removed. removed)

-- ---- what a call shows

pub record SeenSlots (A : Type 0) : Type 0 where
  pub next : rule.Slots
  pub says : Answer A

abbrev pub seen_placing : Placing → SeenSlots ℕ
seen_placing r = record { next = view r.state; says = place_says r.answer }

abbrev pub seen_removing : Removing → SeenSlots Bool
seen_removing r = record { next = view r.state; says = remove_says r.answer }

-- "All leave state and lent memory unchanged."
abbrev pub refusing : {A : Type 0} → ℕ → rule.Slots → SeenSlots A
refusing n s = record { next = s; says = refused n }

-- a slot that is given, and the slots afterwards; or 7
abbrev pub placed_or7 : rule.Slots → Option rule.Placed → SeenSlots ℕ
placed_or7 s none = refusing 7 s
placed_or7 s (some p) = record { next = p.next; says = given p.address }

abbrev pub removal : ℕ → rule.Slots → SeenSlots Bool
removal a s = record { next = rule.remove a s; says = given (rule.removes a s) }

-- "29 first": a state that isn't sound
unfoldable pub checked : {A : Type 0} → ℕ → rule.Slots → SeenSlots A → SeenSlots A
checked n s x = elim (sound_slots n s) [ true ↦ x | false ↦ refusing 29 s ]

-- ---- the promises

-- what the type `[u64; HALVES]` says of the halves
pub record Typed (halves : List ℕ) : Type 0 where
  pub long : length halves ≡ HALVES
  pub wide : (i : ℕ) → get_or halves i 0 < 2 ^ 64

-- A call with these halves in its next state shows x, where the rules say y.
pub record Promised {A : Type 0} (x y : SeenSlots A) (halves : List ℕ) : Type 0 where
  pub shows : x ≡ y
  pub typed : Typed halves

pub record FreshPromise (r : Slots) : Type 0 where
  pub shows : view r ≡ rule.fresh_slots
  pub typed : Typed r.halves

abbrev pub InsertPromise : Slots → Placing → Type 0
InsertPromise s r =
    Promised (seen_placing r) (checked base.segments (view s) (placed_or7 (view s) (rule.insert base.segments (view s)))) r.state.halves

-- W-211, of edition 2: "insert gives the lowest clear slot of all, whatever was removed last"
abbrev pub InsertLowestPromise : Slots → Placing → Type 0
InsertLowestPromise s r =
    Promised (seen_placing r) (checked base.segments (view s) (placed_or7 (view s) (rule.insert_lowest base.segments (view s)))) r.state.halves

-- one slot, where the place puts it
abbrev pub inserted_by : Place → rule.Slots → Option rule.Placed
inserted_by place = placement_of place 1

-- every place at once: one slot, by this place
abbrev pub InsertByPromise : Place → Slots → Placing → Type 0
InsertByPromise place s r = Promised (seen_placing r) (checked base.segments (view s) (placed_or7 (view s) (inserted_by place (view s)))) r.state.halves

abbrev pub PushPromise : Slots → Placing → Type 0
PushPromise s r =
    Promised (seen_placing r) (checked base.segments (view s) (placed_or7 (view s) (rule.push base.segments (view s)))) r.state.halves

abbrev pub RemovePromise : Slots → SlotAddress → Removing → Type 0
RemovePromise s a r =
    Promised (seen_removing r) (checked base.segments (view s) (removal a.0 (view s))) r.state.halves
