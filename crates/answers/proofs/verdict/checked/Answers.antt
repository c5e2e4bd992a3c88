-- `checked` meets its contract, over the rules' own `checker_prints`. Assumes nothing.
use mathlib.Core.Path.{ap, ◌∙◌}
use Prim.Native.Nat.{ℕ}
use Rattle.std.specs.Int.{from_bool}
use Rattle.rules.specs.Entries.{ee_text}
use native.Mathlib.Omega.{arith}
use Rattle.answers.proofs.Printed.{prints-as, ee-printed}
use Rattle.answers.proofs.Checked.{script-too-long, list-too-long, yes-printed, no-printed, line-fits, stopped-printed}
use Rattle.answers.proofs.verdict.checked.Goals as goal

pub returns-then-script-gt-TEXT : goal.returns-then-script-gt-TEXT
returns-then-script-gt-TEXT c = prints-as (script-too-long c.args.script.now c.args.list.now (omega (arith, c.if-script-gt-TEXT.true))) c.longer.ensures

pub returns-then-list-gt-TEXT : goal.returns-then-list-gt-TEXT
returns-then-list-gt-TEXT c = prints-as (list-too-long c.args.script.now c.args.list.now (omega (arith, c.if-script-gt-TEXT.false)) (omega (arith, c.if-list-gt-TEXT.true))) c.longer-then-list-gt-TEXT.ensures

pub returns-in-Ok-true : goal.returns-in-Ok-true
returns-in-Ok-true c = prints-as (yes-printed c.args.script.now c.args.list.now (omega (arith, c.if-script-gt-TEXT.false)) (omega (arith, c.if-list-gt-TEXT.false)) _ c.in-Ok-true.ensures (ap from_bool c.in-Ok-true.field-0-test)) c.put.ensures

pub returns-in-Ok-false : goal.returns-in-Ok-false
returns-in-Ok-false c = prints-as (no-printed c.args.script.now c.args.list.now (omega (arith, c.if-script-gt-TEXT.false)) (omega (arith, c.if-list-gt-TEXT.false)) _ c.in-Ok-false.ensures (ap from_bool c.in-Ok-false.field-0-test)) c.put-in-Ok-false.ensures

pub overflow_cast-e : goal.overflow_cast-e
overflow_cast-e c = let h = line-fits c.args.script.now c.args.list.now (omega (arith, c.if-script-gt-TEXT.false)) (omega (arith, c.if-list-gt-TEXT.false)) c.in-Err.e (omega arith) c.in-Err.ensures in omega (arith, h)

pub returns-in-Err : goal.returns-in-Err
returns-in-Err c =
    prints-as (ap (λ (n : ℕ). ee_text n c.in-Err.e.line) c.number.ensures ∙ stopped-printed c.args.script.now c.args.list.now (omega (arith, c.if-script-gt-TEXT.false)) (omega (arith, c.if-list-gt-TEXT.false)) c.in-Err.e (omega arith) c.in-Err.ensures)
    (ee-printed _ _ _ _ _ c.put_refusal.ensures.value c.put_refusal.ensures.out_after)
