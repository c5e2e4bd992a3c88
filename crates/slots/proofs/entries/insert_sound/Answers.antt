-- One slot, where the place puts it. Assumes nothing.
use native.Mathlib.Omega.{arith}
use Rattle.rules.specs.Sizes.{base}
use Rattle.slots.specs.Promises.{view}
use Rattle.slots.specs.Spots.{place_of}
use Rattle.slots.proofs.Going.{spot-below, one-refused, one-placed}
use Rattle.slots.proofs.entries.insert_sound.Goals as goal

pub returns-in_default : goal.returns-in_default
returns-in_default c = one-refused _ c.in_default.ensures

pub occupy-requires : goal.occupy-requires
unfolding base
occupy-requires c = omega (arith, spot-below (place_of c.args.place) 1 (view c.args.s) c.in-Some.spot c.requires c.in-Some.ensures)

pub overflow_cast-result : goal.overflow_cast-result
unfolding base
overflow_cast-result c = omega (arith, spot-below (place_of c.args.place) 1 (view c.args.s) c.in-Some.spot c.requires c.in-Some.ensures)

pub returns : goal.returns
returns c = one-placed _ c.in-Some.spot c.in-Some.ensures c.occupy.ensures.halves_after
