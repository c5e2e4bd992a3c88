-- `closed` meets its contract. Assumes nothing.
use native.Mathlib.Omega.{arith}
use Rattle.rules.proofs.Readers.{facts}
use Rattle.recordings.specs.Reading.{seen}
use Rattle.recordings.proofs.states.Reader.closed.Goals as goal

pub overflow_mul-result : goal.overflow_mul-result
overflow_mul-result c = let f = facts (seen c.args.self) c.args.self.left_by_bytes in omega (arith, f)

pub overflow_mul-result-2 : goal.overflow_mul-result-2
overflow_mul-result-2 c = let f = facts (seen c.args.self) c.args.self.left_by_bytes in omega (arith, f)

pub overflow_add-result : goal.overflow_add-result
overflow_add-result c = let f = facts (seen c.args.self) c.args.self.left_by_bytes in omega (arith, f)

pub overflow_add-result-2 : goal.overflow_add-result-2
overflow_add-result-2 c = let f = facts (seen c.args.self) c.args.self.left_by_bytes in omega (arith, f)
