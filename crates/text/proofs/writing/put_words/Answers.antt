-- `put_words` meets its contract. Assumes nothing.
use native.Mathlib.Omega.{arith}
use mathlib.Core.Path.{refl, ◌∙◌}
use Rattle.text.proofs.Over.{words-none, words_more}
use Rattle.text.proofs.writing.put_words.Goals as goal

pub loop-n-init : goal.loop-n-init
loop-n-init c = (omega arith, refl, words-none _ _ c.args.ws.now)

pub loop-n-preserved : goal.loop-n-preserved
loop-n-preserved c =
    let i = c.loop-n.invariant in (
      omega (arith, c.put_word-v.ensures.value),
      c.put_word-v.auto.out ∙ i.1,
      words_more c.args.out.now _ _ _ _ _ c.args.ws.now (omega arith) (omega arith) i.0 i.2 c.put_word-v.ensures.out_after,
    )
