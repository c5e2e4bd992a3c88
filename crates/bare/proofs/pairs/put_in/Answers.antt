use Rattle.std.proofs.Common.{◌*◌, ◌-◌, sym, arith}
use Rattle.rules.specs.Sizes.{base, SLOTS}
use Rattle.slots.specs.Halves.{occ}
use Rattle.slots.specs.Promises.{view}
use Rattle.slots.proofs.Finds.{clear_of}
use Rattle.slots.proofs.Steps.{sound-segments}
use Rattle.bare.proofs.Runs.{put-none, put-some}
use Rattle.bare.proofs.pairs.put_in.Goals as goal

pub first_clear-requires : goal.first_clear-requires
unfolding base
first_clear-requires c = omega (arith, sound-segments base.segments (view c.args.t.now) c.requires.sound)

pub returns-in_default-clause-inserted : goal.returns-in_default-clause-inserted
returns-in_default-clause-inserted c = put-none _ _ _ c.requires.sound _ c.min.ensures c.in_default.ensures

pub occupy-requires : goal.occupy-requires
unfolding base
occupy-requires c = omega (arith, (clear_of (occ c.args.t.now.halves) (128 * c.min.result) (SLOTS - 128 * c.min.result) c.in-Some.a (sym c.in-Some.ensures)).high, sound-segments base.segments (view c.args.t.now) c.requires.sound)

pub overflow_cast-result : goal.overflow_cast-result
unfolding base
overflow_cast-result c = omega (arith, (clear_of (occ c.args.t.now.halves) (128 * c.min.result) (SLOTS - 128 * c.min.result) c.in-Some.a (sym c.in-Some.ensures)).high, sound-segments base.segments (view c.args.t.now) c.requires.sound)

pub returns-clause-inserted : goal.returns-clause-inserted
returns-clause-inserted c = rw c.max-t.ensures (put-some _ _ _ c.requires.sound _ c.min.ensures c.in-Some.a _ c.in-Some.ensures c.occupy.ensures.halves_after)
