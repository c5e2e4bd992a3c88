-- Runs of calls on bare slots, over the rules of document 01, "Slots", and what the entries of `slots` show. Assumes nothing.
use Rattle.std.specs.Prelude.{ℕ, zero, suc, ◌+◌, ◌*◌, ◌/◌, ◌%◌, ◌^◌, Bool, true, false, List, ◌==◌, slice_index, slice_set}
use Rattle.rules.specs.Notation.{Answer, given, refused}
use Rattle.rules.specs.Sizes.{base, SLOTS}
use Rattle.rules.specs.Slots as rule
use Rattle.slots.specs.Promises.{view, SeenSlots, placed_or7, removal, checked}
use Rattle.bare.specs.declared.calls.Shown.{Shown}

-- ---- one call, by number

-- the slots afterwards, and the answer as a number
pub record Called : Type 0 where
  pub next : rule.Slots
  pub says : ℕ

abbrev pub shown_call : Shown → Called
shown_call r = record { next = view r.state; says = r.says }

-- an address stands for itself, yes for 1, no for 0; a refusal is 65,536 and its number
abbrev pub place_number : Answer ℕ → ℕ
place_number (given a) = a
place_number (refused n) = 65536 + n

abbrev pub remove_number : Answer Bool → ℕ
remove_number (given true) = 1
remove_number (given false) = 0
remove_number (refused n) = 65536 + n

abbrev pub numbered : {A : Type 0} → (Answer A → ℕ) → SeenSlots A → Called
numbered f x = record { next = x.next; says = f x.says }

-- what insert shows of slots that are sound
abbrev pub inserting : rule.Slots → SeenSlots ℕ
inserting s = placed_or7 s (rule.insert base.segments s)

-- .. and what edition 2's insert shows
abbrev pub inserting_lowest : rule.Slots → SeenSlots ℕ
inserting_lowest s = placed_or7 s (rule.insert_lowest base.segments s)

abbrev pub pushing : rule.Slots → SeenSlots ℕ
pushing s = placed_or7 s (rule.push base.segments s)

-- 65,535 inserts, 65,534 pushes, 65,533 inserts by edition 2, every other number removes; 29 first
unfoldable pub called : ℕ → rule.Slots → Called
called c s =
    elim (c == 65535) [
      | true ↦ numbered place_number (checked base.segments s (inserting s))
      | false ↦ elim (c == 65534) [
        | true ↦ numbered place_number (checked base.segments s (pushing s))
        | false ↦ elim (c == 65533) [
          | true ↦ numbered place_number (checked base.segments s (inserting_lowest s))
          | false ↦ numbered remove_number (checked base.segments s (removal c s))
        ]
      ]
    ]

-- ---- a run of calls

-- answer, L and H, written from w on
abbrev pub row : List ℕ → ℕ → ℕ → ℕ → ℕ → List ℕ
row shown w says l h = slice_set (slice_set (slice_set shown w says) (w + 1) l) (w + 2) h

abbrev pub call_row : List ℕ → ℕ → Called → List ℕ
call_row shown i r = row shown (3 * i) r.says r.next.segments r.next.head

-- k calls from number i on: call i writes row i
unfoldable pub rows : List ℕ → ℕ → ℕ → rule.Slots → List ℕ → List ℕ
rows calls zero i s shown = shown
rows calls (suc k) i s shown =
    rows calls k (i + 1) (called (slice_index calls i) s).next (call_row shown i (called (slice_index calls i) s))

-- ---- pairs of a remove and an insert

abbrev pub address_given : Answer ℕ → ℕ
address_given (given a) = a
address_given (refused n) = 0

-- n inserts
unfoldable pub inserts : ℕ → rule.Slots → rule.Slots
inserts zero s = s
inserts (suc n) s = inserts n (inserting s).next

-- half of the slots
abbrev pub HALF : ℕ
HALF = SLOTS / 2

unfoldable pub half_full : rule.Slots
half_full = inserts HALF rule.fresh_slots

-- the sum of the addresses given by k pairs: slot a is removed and one inserted, then slot (a + stride) mod HALF, and so on
unfoldable pub summed : ℕ → ℕ → ℕ → rule.Slots → ℕ → ℕ
summed stride zero a s sum = sum
summed stride (suc k) a s sum =
    summed stride k ((a + stride) % HALF) (inserting (rule.remove a s)).next ((sum + address_given (inserting (rule.remove a s)).says) % 2 ^ 64)

unfoldable pub pairs_sum : ℕ → ℕ → ℕ
pairs_sum stride n = summed stride n 0 half_full 0
