-- `put_drain` meets its contract. Assumes nothing.
use native.Mathlib.Omega.{arith}
use Rattle.text.proofs.Over.{drain-put}
use Rattle.text.proofs.writing.put_drain.Goals as goal

pub returns-clause-out_after : goal.returns-clause-out_after
returns-clause-out_after c =
    let a = c.put_byte-w1.ensures in
    let b = c.put_word-w2.ensures in
    let d = c.put_words-w3.ensures in
    drain-put c.args.out.now _ _ _ _ c.args.w _ _ _ c.args.ws.now (omega (arith, c.requires)) a.value b.value d.value a.out_after b.out_after d.out_after c.put_end.ensures.out_after
