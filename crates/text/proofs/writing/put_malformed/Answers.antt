-- `put_malformed` meets its contract. Assumes nothing.
use native.Mathlib.Omega.{arith}
use Rattle.text.proofs.Over.{malformed-put}
use Rattle.text.proofs.writing.put_malformed.Goals as goal

pub returns-clause-out_after : goal.returns-clause-out_after
returns-clause-out_after c = malformed-put c.args.out.now _ _ c.args.w _ c.args.line (omega arith) c.put_byte-w1.ensures.value c.put_byte-w1.ensures.out_after c.put_line.ensures.out_after
