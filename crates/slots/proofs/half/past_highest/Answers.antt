use mathlib.Core.Path.{sym}
use lib.Count.{leading_le}
use Rattle.slots.proofs.Counts.{past-by-count}
use Rattle.slots.proofs.Finds.{past_is}
use Rattle.slots.proofs.half.past_highest.Goals as goal

pub overflow_sub-result : goal.overflow_sub-result
overflow_sub-result c = leading_le 64 _

pub returns : goal.returns
returns c = sym (past_is _ 64 _ (past-by-count c.args.h c.ranges.h.fits))
