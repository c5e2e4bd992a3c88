-- `limit_of` meets its contract. Assumes nothing.
use native.Mathlib.Omega.{arith}
use Rattle.recordings.proofs.Limits.{shifted}
use Rattle.recordings.proofs.states.limit_of.Goals as goal

pub returns-in-3-to-6 : goal.returns-in-3-to-6
returns-in-3-to-6 c = shifted _ (omega arith) (omega arith)
