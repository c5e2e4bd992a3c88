use mathlib.Core.Path.{sym}
use native.Mathlib.Omega.{arith}
use Rattle.rules.specs.Sizes.{base}
use Rattle.rules.proofs.Tells.{is_false}
use Rattle.slots.proofs.Steps.{sound-test, sound-head, sound-segments}
use Rattle.slots.proofs.halves.are_sound.Goals as goal

pub returns-then-segments-gt-SEGMENTS : goal.returns-then-segments-gt-SEGMENTS
unfolding base
returns-then-segments-gt-SEGMENTS c = sym (is_false _ (λ y. absurd (omega (arith, sound-segments _ _ y, sound-head _ _ y, c.then-segments-gt-SEGMENTS.either))))

pub returns : goal.returns
unfolding base
returns c = sound-test _ _ _ c.if-segments-gt-SEGMENTS.false c.if-head-ge-SEGMENTS.false c.none_from.ensures
