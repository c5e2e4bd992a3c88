-- `put_line` meets its contract. Assumes nothing.
use native.Mathlib.Omega.{arith}
use Rattle.text.proofs.Over.{line-put}
use Rattle.text.proofs.writing.put_line.Goals as goal

pub returns-clause-out_after : goal.returns-clause-out_after
returns-clause-out_after c =
    let a = c.put_byte-w1.ensures in
    let b = c.put_words-w2.ensures in
    line-put c.args.out.now _ _ _ c.args.w _ _ c.args.opcode c.args.operands.now (omega arith) a.value b.value a.out_after b.out_after c.put_end.ensures.out_after
