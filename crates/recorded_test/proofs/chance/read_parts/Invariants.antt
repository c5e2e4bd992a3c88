-- `read_parts` ends: what is left of the recording grows shorter. Assumes nothing.
use Rattle.std.proofs.Common.{length}
use Rattle.recorded_test.proofs.chance.read_parts.Given as goal

abbrev pub decreases-loop-rest : goal.decreases-loop-rest
decreases-loop-rest l = length l.rest
