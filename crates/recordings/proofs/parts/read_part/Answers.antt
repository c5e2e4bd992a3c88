-- `read_part` meets its contract. Assumes nothing.
use native.Mathlib.Omega.{arith}
use Rattle.recordings.proofs.Turns.{end-fed, end_kept}
use Rattle.recordings.proofs.parts.read_part.Goals as goal

pub returns-clause-next : goal.returns-clause-next
returns-clause-next c = end-fed _ _ c.args.part.now _ _ c.loop-p.p c.loop-p.invariant.1 (omega arith)

pub returns-clause-left : goal.returns-clause-left
returns-clause-left c = end_kept _ _ c.args.part.now _ _ c.loop-p.p c.loop-p.invariant.1 (omega arith)
