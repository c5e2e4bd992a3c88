use mathlib.Core.Path.{refl}
use native.Mathlib.Omega.{arith}
use Rattle.rules.specs.Sizes.{HALVES}
use Rattle.rules.specs.Slots.{fresh_slots}
use Rattle.slots.proofs.Occupied.{none-occupied, zero-half}
use Rattle.slots.proofs.entries.fresh.Goals as goal

pub returns : goal.returns
unfolding fresh_slots
returns c = record {
  shows = λ i. record { occupied = none-occupied HALVES i; segments = 0; head = 0 };
  typed = record { long = refl; wide = λ i. rw (zero-half HALVES i) (omega arith) };
}
