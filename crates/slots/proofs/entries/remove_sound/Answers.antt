use mathlib.Core.Path.{sym}
use mathlib.Core.Bool.{true, false}
use native.Mathlib.Omega.{arith}
use Rattle.rules.specs.Sizes.{base}
use Rattle.slots.specs.Promises.{view}
use Rattle.slots.proofs.Steps.{sound-segments, remove-within, still-clear, remove-past}
use Rattle.slots.proofs.entries.remove_sound.Goals as goal

pub occupied-requires : goal.occupied-requires
unfolding base
occupied-requires c = omega (arith, sound-segments base.segments (view c.args.s) c.requires)

pub returns-then-occupied : goal.returns-then-occupied
returns-then-occupied c = remove-within (view c.args.s) _ true c.if-a-t.true (sym c.if-occupied.ensures) c.vacate.ensures.halves_after

pub returns-else-occupied : goal.returns-else-occupied
returns-else-occupied c =
    let clear = sym c.if-occupied.ensures in
    remove-within (view c.args.s) _ false c.if-a-t.true clear (still-clear (view c.args.s) _ clear)

pub returns-else-a-t : goal.returns-else-a-t
returns-else-a-t c = remove-past (view c.args.s) _ c.if-a-t.false
