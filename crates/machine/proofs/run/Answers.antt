-- `run` meets its contract, over the rules' own `run_entry`: it is a run with no recording. Assumes nothing.
use native.Mathlib.Omega.{arith}
use Rattle.rules.specs.Sizes.{base}
use Rattle.machine.proofs.Ruled.{run_none}
use Rattle.machine.proofs.run.Goals as goal

pub returns : goal.returns
returns c = run_none base c.args.list.now _ c.args.cells.now c.args.out.now _ (omega arith) (omega arith) _ _ _ _ c.run_recorded.ensures
