-- `shown` meets its contract. Assumes nothing.
use mathlib.Core.Path.{refl}
use native.Mathlib.Omega.{arith}
use Rattle.answers.proofs.Printed.{ee-printed}
use Rattle.answers.proofs.shown.Goals as goal

pub returns-then-answer-lt-REFUSAL : goal.returns-then-answer-lt-REFUSAL
returns-then-answer-lt-REFUSAL c = record { counts = λ h. (refl, refl); refuses = λ h. absurd (omega (arith, c.if-answer-lt-REFUSAL.true)) }

pub returns : goal.returns
returns c = record {
  counts = λ h. absurd (omega (arith, c.if-answer-lt-REFUSAL.false));
  refuses = λ h. ee-printed _ _ _ _ _ c.put_refusal.ensures.value c.put_refusal.ensures.out_after;
}
