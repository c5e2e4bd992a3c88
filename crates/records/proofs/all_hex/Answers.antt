-- `all_hex` meets its contract. Assumes nothing.
use mathlib.Core.Path.{◌≡◌, sym, ◌∙◌}
use mathlib.Core.Bool.{true, false}
use native.Mathlib.Omega.{arith}
use native.Mathlib.Numerals.{add-one}
use lib.Dec.{ltb}
use lib.ListN.{get_or}
use lib.Seq.{slice-cons, slice_empty}
use Rattle.rules.specs.Text.{value}
use Rattle.records.specs.Records.{all_hex}
use Rattle.records.proofs.Digits.{digit-some}
use Rattle.records.proofs.all_hex.Goals as goal

pub returns-then-is_none : goal.returns-then-is_none
unfolding all_hex
returns-then-is_none c =
    let i = c.loop-i.i in
    let v : ltb (value (get_or c.args.s.now i 0)) 16 ≡ false = sym (digit-some _ _ c.digit_value.ensures) ∙ c.if-is_none.ensures in
    sym (c.loop-i.invariant ∙ rw (slice-cons i c.args.e c.args.s.now 0 (omega arith) (omega arith), v, all_hex))

pub loop-i-preserved : goal.loop-i-preserved
unfolding all_hex
loop-i-preserved c =
    let i = c.loop-i.i in
    let v : ltb (value (get_or c.args.s.now i 0)) 16 ≡ true = sym (digit-some _ _ c.digit_value.ensures) ∙ c.if-is_none.ensures in
    c.loop-i.invariant ∙ rw (add-one, slice-cons i c.args.e c.args.s.now 0 (omega arith) (omega arith), v, all_hex)

pub returns : goal.returns
unfolding all_hex
returns c =
    let q : c.loop-i.i ≡ c.args.e = omega arith in
    sym (c.loop-i.invariant ∙ rw (q, slice_empty c.args.e c.args.s.now, all_hex))
