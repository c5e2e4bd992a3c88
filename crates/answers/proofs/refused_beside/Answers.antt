-- `refused_beside` meets its contract. Assumes nothing.
use native.Mathlib.Omega.{arith}
use Rattle.answers.proofs.Beside.{malformed-printed, other-printed}
use Rattle.answers.proofs.refused_beside.Goals as goal

pub returns-then-number-eq24 : goal.returns-then-number-eq24
returns-then-number-eq24 c = malformed-printed _ _ _ _ _ c.if-number-eq24.true c.put_malformed.ensures.value c.put_malformed.ensures.out_after

pub overflow_cast-line-2 : goal.overflow_cast-line-2
overflow_cast-line-2 c = omega (arith, c.requires.line c.if-number-eq24.false)

pub returns : goal.returns
returns c = other-printed _ _ _ _ _ c.if-number-eq24.false c.put_refusal.ensures.value c.put_refusal.ensures.out_after
