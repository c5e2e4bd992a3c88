-- Document 01, "Slots"; `remove` as W-202 of document 02 amends it; edition 2 of W-211; W-203's allocations where a list shows them.
-- W-206: "State the room rule once over the number of segments": `n`, or `m` beside a number of slots, is the most segments there may be, where 01
-- writes 8; its 1,024 is 128 times that. Assumes nothing.
use Rattle.std.specs.Prelude.{Bool, true, false, not, ◌&&◌, List, [], ◌∷◌, ℕ, zero, suc, ◌+◌, ◌*◌, ◌-◌, ◌/◌, ◌%◌, min, max, eqb, ltb, leb}
use Rattle.std.proofs.Math.Option.{Option, none, some}
use Rattle.rules.specs.Notation.{is_some, or_else, put, first, past_last, all_below}

-- "State: the occupied slots, segment count L, head segment H."
pub record Slots : Type 0 where
  pub occupied : ℕ → Bool
  pub segments : ℕ
  pub head : ℕ

-- "Fresh: none, 0, 0."
unfoldable pub fresh_slots : Slots
fresh_slots = record { occupied = λ a. false; segments = 0; head = 0 }

-- an address that is given, and the slots afterwards; where there is none, the call is refused by 7
pub record Placed : Type 0 where
  pub address : ℕ
  pub next : Slots

abbrev pub placed : ℕ → Slots → Option Placed
placed a s = some (record { address = a; next = s })

-- ---- insert

-- the lowest clear slot of segment g, if it has one
unfoldable pub clear_in : (ℕ → Bool) → ℕ → Option ℕ
clear_in occupied g = first (λ a. not (occupied a)) (128 * g) 128

abbrev pub has_clear : (ℕ → Bool) → ℕ → Bool
has_clear occupied g = is_some (clear_in occupied g)

abbrev pub lowest_clear : (ℕ → Bool) → ℕ → ℕ
lowest_clear occupied g = or_else (clear_in occupied g) (128 * g)

-- "start at segment min(H, L)"
abbrev pub start_of : Slots → ℕ
start_of s = min s.head s.segments

-- "The first segment from there, below L, with a clear slot .."
unfoldable pub first_with_clear : Slots → Option ℕ
first_with_clear s = first (has_clear s.occupied) (start_of s) (s.segments - start_of s)

-- ".. gives its lowest clear slot; H becomes that segment."
unfoldable pub insert_into : ℕ → Slots → Option Placed
insert_into g s =
    placed (lowest_clear s.occupied g)
    (record { occupied = put s.occupied (lowest_clear s.occupied g) true; segments = s.segments; head = g })

-- "If there is none, the address is 128·L, H becomes L, then L grows by one; refused (7) exactly if L is 8.": if it is n
unfoldable pub insert_new : ℕ → Slots → Option Placed
insert_new n s =
    elim (eqb s.segments n) [
      | true ↦ none
      | false ↦ placed (128 * s.segments) (record { occupied = put s.occupied (128 * s.segments) true; segments = s.segments + 1; head = s.segments })
    ]

unfoldable pub insert : ℕ → Slots → Option Placed
insert n s = elim (first_with_clear s) [ some g ↦ insert_into g s | none ↦ insert_new n s ]

-- ---- push

-- "g is one past the greatest occupied slot, 0 if none"
unfoldable pub past_greatest : ℕ → Slots → ℕ
past_greatest n s = past_last s.occupied (128 * n)

-- "g becomes occupied. If g is a multiple of 128, L becomes g/128 + 1, which may shrink it; otherwise L stays. H stays."
unfoldable pub push_at : ℕ → Slots → Slots
push_at g s = record { occupied = put s.occupied g true; segments = elim (eqb (g % 128) 0) [ true ↦ g / 128 + 1 | false ↦ s.segments ]; head = s.head }

-- "refused (7) exactly if g is 1,024": if it is 128 * n
unfoldable pub push : ℕ → Slots → Option Placed
push n s =
    elim (eqb (past_greatest n s) (128 * n)) [
      | true ↦ none
      | false ↦ placed (past_greatest n s) (push_at (past_greatest n s) s)
    ]

-- ---- remove

-- "at segment L or above it answers no. Removing a slot that is clear answers no ..": yes exactly if the slot was occupied
unfoldable pub removes : ℕ → Slots → Bool
removes a s = ltb (a / 128) s.segments && s.occupied a

-- 01 goes on: ".. and changes nothing. Otherwise the slot is cleared and H becomes its segment." W-202: "Document 01 is wrong: if the
-- segment exists, `remove` sets the head to it even when the slot was already clear, and still answers no."
unfoldable pub remove : ℕ → Slots → Slots
remove a s =
    elim (ltb (a / 128) s.segments) [
      | true ↦ record { occupied = put s.occupied a false; segments = s.segments; head = a / 128 }
      | false ↦ s
    ]

unfoldable pub remove_all : List ℕ → Slots → Slots
remove_all [] s = s
remove_all (a ∷ more) s = remove_all more (remove a s)

-- ---- where the slots of an allocation go

-- A placement gives the n slots (n ≥ 1) of an allocation, by the first address; the others follow it.
abbrev pub Placement : Type 0
Placement = ℕ → Slots → Option Placed

-- n pushes, of which the first gives g: calls of `push`, as is shown (Pushes)
unfoldable pub pushes : ℕ → ℕ → Slots → Slots
pushes g zero s = s
pushes g (suc n) s = pushes (suc g) n (push_at g s)

-- "n ≥ 2 pushes n times, owner top, refused (7) exactly if g + n > 1,024", which is 128 * m; whose they are is for the scopes to say
unfoldable pub push_run : ℕ → Placement
push_run m n s =
    elim (ltb (128 * m) (past_greatest m s + n)) [
      | true ↦ none
      | false ↦ placed (past_greatest m s) (pushes (past_greatest m s) n s)
    ]

-- Edition 1: one slot by insert, a run of two or more by pushes.
unfoldable pub edition1 : ℕ → Placement
edition1 m n s = elim (eqb n 1) [ true ↦ insert m s | false ↦ push_run m n s ]

-- ---- W-211, "Tight placement as a second edition"

-- "insert gives the lowest clear slot of all, whatever was removed last"
unfoldable pub lowest_of_all : ℕ → Slots → Option ℕ
lowest_of_all m s = first (λ a. not (s.occupied a)) 0 (128 * m)

-- ".. L grows to take in its segment, and H becomes it": the slot a becomes occupied
unfoldable pub take_at : ℕ → Slots → Slots
take_at a s = record { occupied = put s.occupied a true; segments = max s.segments (a / 128 + 1); head = a / 128 }

-- "refused by 7 exactly if every slot is held"
unfoldable pub insert_lowest : ℕ → Slots → Option Placed
insert_lowest m s = elim (lowest_of_all m s) [ none ↦ none | some a ↦ placed a (take_at a s) ]

-- Edition 2: ".. push and the rest stay."
unfoldable pub edition2 : ℕ → Placement
edition2 m n s = elim (eqb n 1) [ true ↦ insert_lowest m s | false ↦ push_run m n s ]

-- ---- W-203, "Lists from the rig supplier": an allocation goes where the list shows it

-- the n slots from a on lie in the room, and none of them is occupied
unfoldable pub vacant : ℕ → ℕ → ℕ → Slots → Bool
vacant m a n s = leb (a + n) (128 * m) && all_below (λ i. not (s.occupied (a + i))) n

-- they become occupied one after another, each with L and H as by edition 2's insert
unfoldable pub take_run : ℕ → ℕ → Slots → Slots
take_run a zero s = s
take_run a (suc n) s = take_run (suc a) n (take_at a s)

-- "each run is consecutive, no slot is given while another allocation holds it": the n slots from a on, or none
unfoldable pub exactly : ℕ → ℕ → Placement
exactly m a n s = elim (vacant m a n s) [ true ↦ placed a (take_run a n s) | false ↦ none ]

-- ---- a placement as a value

-- Where an allocation goes: by the head (edition 1), to the lowest clear slot (edition 2), or exactly at an address (W-203).
pub data Place : Type 0 where
  by_head lowest : Place
  exactly_at : ℕ → Place

unfoldable pub placing : ℕ → Place → Placement
placing m by_head = edition1 m
placing m lowest = edition2 m
placing m (exactly_at a) = exactly m a
