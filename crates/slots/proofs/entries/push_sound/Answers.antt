use native.Mathlib.Omega.{arith}
use Rattle.rules.specs.Sizes.{base}
use Rattle.slots.specs.Promises.{view}
use Rattle.slots.proofs.Steps.{push-within, push-refused, push-placed}
use Rattle.slots.proofs.entries.push_sound.Goals as goal

pub returns-then-g-eq-SLOTS : goal.returns-then-g-eq-SLOTS
unfolding base
returns-then-g-eq-SLOTS c = push-refused base.segments (view c.args.s) _ c.past_greatest-g.ensures c.if-g-eq-SLOTS.true

pub occupy-requires : goal.occupy-requires
unfolding base
occupy-requires c = omega (arith, push-within base.segments (view c.args.s) _ c.past_greatest-g.ensures)

pub overflow_cast-result : goal.overflow_cast-result
unfolding base
overflow_cast-result c = omega (arith, push-within base.segments (view c.args.s) _ c.past_greatest-g.ensures)

pub returns : goal.returns
unfolding base
returns c =
    push-placed base.segments (view c.args.s) _ c.past_greatest-g.ensures
    c.if-g-eq-SLOTS.false c.occupy.ensures.halves_after c.grown.ensures
