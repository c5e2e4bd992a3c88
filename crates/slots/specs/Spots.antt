-- Where the slots of an allocation go: the declared place and spot in the rules' terms. Assumes nothing.
use Rattle.std.specs.Prelude.{◌≡◌, Bool, true, false, ℕ, zero, suc, ◌+◌, ◌*◌, ◌-◌, ◌/◌, ◌%◌, max, ◌≤◌, ◌<◌, eqb, ltb, Option, Some, None}
use Rattle.std.proofs.Math.Option as maybe
use Rattle.std.proofs.Math.Option.{none, some}
use Rattle.rules.specs.Notation.{put}
use Rattle.rules.specs.Sizes.{base, SEGMENTS, SLOTS}
use Rattle.rules.specs.Slots as rule
use Rattle.slots.specs.Halves.{clear_from}
use Rattle.slots.specs.declared.Place.{Place}
use Rattle.slots.specs.declared.Place.TheVariants as place
use Rattle.slots.specs.declared.Spot.{Spot}

-- the place as the rules name it
abbrev pub place_of : Place → rule.Place
place_of place.ByHead = rule.by_head
place_of place.Lowest = rule.lowest
place_of (place.ExactlyAt a) = rule.exactly_at a.0

-- where this place puts the slots of an allocation
abbrev pub placement_of : Place → rule.Placement
placement_of p = rule.placing base.segments (place_of p)

-- the n slots from a on are below the room and clear
abbrev pub Vacant : (ℕ → Bool) → ℕ → ℕ → Type 0
Vacant occupied a n = (a + n ≤ SLOTS) × ((i : ℕ) → i < n → occupied (a + i) ≡ false)

-- the n slots from a on become occupied
unfoldable pub filled : ℕ → ℕ → (ℕ → Bool) → ℕ → Bool
filled a zero f = f
filled a (suc n) f = filled (suc a) n (put f a true)

-- the n slots from a on are taken one after another: "L grows to take in its segment, and H becomes it", at last those of the last one
abbrev pub taken_from : ℕ → ℕ → ℕ → Spot
taken_from l a n = record { address = a; segments = max l ((a + n - 1) / 128 + 1); head = (a + n - 1) / 128 }

-- L and H once n slots from g on are pushed: L becomes the last one's segment and one, if a first slot of a segment is among them
abbrev pub pushed_from : ℕ → ℕ → ℕ → ℕ → Spot
pushed_from l h g n =
    record { address = g; segments = elim (ltb ((g + n - 1) % 128) n) [ true ↦ (g + n - 1) / 128 + 1 | false ↦ l ]; head = h }

-- the slots s, once the n from r's address on are occupied
abbrev pub after : rule.Slots → ℕ → Spot → rule.Slots
after s n r = record { occupied = filled r.address n s.occupied; segments = r.segments; head = r.head }

-- what a spot says of the n slots of an allocation: the first address, and the slots afterwards; or that there is no room
abbrev pub spot_says : ℕ → rule.Slots → Option Spot → maybe.Option rule.Placed
spot_says n s None = maybe.none
spot_says n s (Some r) = rule.placed r.address (after s n r)

-- the slot that a search found, taken as edition 2's insert takes it
abbrev pub taking : maybe.Option ℕ → rule.Slots → maybe.Option rule.Placed
taking none s = none
taking (some a) s = rule.placed a (rule.take_at a s)

-- one slot is the least clear one from segment `from` on; two or more are pushed
unfoldable pub going_from : ℕ → rule.Placement
going_from from n s =
    elim (eqb n 1) [
      | true ↦ taking (clear_from s.occupied (128 * from) (SLOTS - 128 * from)) s
      | false ↦ rule.push_run SEGMENTS n s
    ]
