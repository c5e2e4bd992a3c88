-- `put_refusal` meets its contract. Assumes nothing.
use native.Mathlib.Omega.{arith}
use Rattle.text.proofs.Over.{refusal-put}
use Rattle.text.proofs.writing.put_refusal.Goals as goal

pub returns : goal.returns
returns c = record {
  value = omega (arith, c.put_byte-w1.ensures.value, c.put_byte-w2.ensures.value, c.put_word-w3.ensures.value, c.put_end.ensures.value);
  out_after = refusal-put c.args.out.now _ _ _ _ c.args.w _ _ _ c.args.number c.args.line (omega (arith, c.requires)) c.put_byte-w1.ensures.value c.put_byte-w2.ensures.value c.put_word-w3.ensures.value c.put_byte-w1.ensures.out_after c.put_byte-w2.ensures.out_after c.put_word-w3.ensures.out_after c.put_end.ensures.out_after;
}
