-- Where slots go, by any placement. Assumes nothing.
use mathlib.Core.Path.{◌∙◌}
use native.Mathlib.Omega.{arith}
use Rattle.rules.specs.Sizes.{base}
use Rattle.rules.specs.Slots as rule
use Rattle.slots.specs.Halves.{slots_of}
use Rattle.slots.proofs.Steps.{sound-segments, sound-head}
use Rattle.slots.proofs.Going.{goes-by-head, goes-lowest}
use Rattle.slots.proofs.spots.choose.Goals as goal

pub from_on-requires : goal.from_on-requires
unfolding base
from_on-requires c =
    let s = slots_of c.args.halves.now c.args.segments c.args.head in
    (omega (arith, sound-segments base.segments s c.requires.0, sound-head base.segments s c.requires.0), c.requires.1, c.requires.2)

pub returns-in-ByHead : goal.returns-in-ByHead
unfolding base
returns-in-ByHead c = rw c.in-ByHead.is (c.from_on.ensures ∙ goes-by-head (slots_of c.args.halves.now c.args.segments c.args.head) _ _ c.requires.0 c.min.ensures)

pub returns-in-Lowest : goal.returns-in-Lowest
unfolding base
returns-in-Lowest c = rw c.in-Lowest.is (c.from_on-in-Lowest.ensures ∙ goes-lowest (slots_of c.args.halves.now c.args.segments c.args.head) _)

pub returns-in-ExactlyAt : goal.returns-in-ExactlyAt
unfolding base rule.placing
returns-in-ExactlyAt c = rw c.in-ExactlyAt.is (rw c.from.ensures at c.exactly_at.ensures)
