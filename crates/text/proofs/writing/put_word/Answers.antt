-- `put_word` meets its contract. Assumes nothing.
use mathlib.Core.Path.{◌≡◌, ap, ◌∙◌}
use mathlib.Core.List.{List}
use Prim.Native.Nat.{ℕ, ◌/◌, ◌%◌}
use lib.ListN.{get_or}
use native.Mathlib.Omega.{arith}
use Rattle.text.proofs.Over.{word-put}
use Rattle.text.proofs.writing.put_word.Goals as goal

pub returns-clause-out_after : goal.returns-clause-out_after
returns-clause-out_after c =
    let bytes = c.to_be_bytes.ensures in
    let high : get_or c.to_be_bytes.result 0 0 ≡ c.args.n / 256 = ap (λ (l : List ℕ). get_or l 0 0) bytes ∙ omega arith in
    let low : get_or c.to_be_bytes.result 1 0 ≡ c.args.n % 256 = ap (λ (l : List ℕ). get_or l 1 0) bytes in
    word-put c.args.out.now _ _ c.args.w _ c.args.n _ _ (omega arith) (omega arith) c.put_byte-v.ensures.value high low c.put_byte-v.ensures.out_after c.put_byte.ensures.out_after
