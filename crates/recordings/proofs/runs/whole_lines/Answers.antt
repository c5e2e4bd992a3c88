-- `whole_lines` meets its contract. Assumes nothing.
use native.Mathlib.Omega.{arith}
use Rattle.rules.proofs.Readers.{facts}
use Rattle.recordings.specs.Reading.{seen}
use Rattle.recordings.proofs.WholeLines.{read-begun, none_read}
use Rattle.recordings.proofs.runs.whole_lines.Goals as goal

pub overflow_sub-r : goal.overflow_sub-r
overflow_sub-r c = omega (arith, (facts (seen c.args.r) c.args.r.left_by_bytes).line-in)

pub keep_lines-requires-clause-part_bound : goal.keep_lines-requires-clause-part_bound
keep_lines-requires-clause-part_bound c = omega (arith, (facts (seen c.args.r) c.args.r.left_by_bytes).line-in)

pub returns-then-rest-r : goal.returns-then-rest-r
returns-then-rest-r c = read-begun c.args.part.now c.args.p (seen c.args.r) c.args.r.left_by_bytes c.if-r-eq0.true c.args.samples.now _ _ c.keep_lines.ensures

pub returns : goal.returns
returns c = none_read _ _ (seen c.args.r) _ (omega arith) c.args.r.left_by_bytes
