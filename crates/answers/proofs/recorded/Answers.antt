-- `recorded` meets its contract, over the rules' own `recorded_prints`. Assumes nothing.
use mathlib.Core.Path.{refl}
use native.Mathlib.Omega.{arith}
use Rattle.answers.proofs.Printed.{prints-as}
use Rattle.answers.proofs.Beside.{says-room, halved-beside, printed-behind, printed-stopped, beside-longer, beside-says}
use Rattle.answers.proofs.recorded.Goals as goal

pub returns-then-list-gt-TEXT : goal.returns-then-list-gt-TEXT
returns-then-list-gt-TEXT c = prints-as (beside-longer _ _ _ (omega (arith, c.if-list-gt-TEXT.true))) c.longer.ensures

pub put_left-requires : goal.put_left-requires
put_left-requires c = says-room _ _ _ _ _ (beside-says _ _ _ (omega (arith, c.if-list-gt-TEXT.false)) _ (omega (arith, c.run_recorded-arg-1.given)) _ refl _ refl _ _ _ _ c.run_recorded-answer.ensures) (omega (arith, c.if-answer-eq0.true))

pub returns-then-answer-eq0 : goal.returns-then-answer-eq0
returns-then-answer-eq0 c =
    printed-behind _ _ _ _ _ _ _ (omega (arith, c.run_recorded-arg-1.given))
    (beside-says _ _ _ (omega (arith, c.if-list-gt-TEXT.false)) _ (omega (arith, c.run_recorded-arg-1.given)) _ refl _ refl _ _ _ _ c.run_recorded-answer.ensures) (omega (arith, c.if-answer-eq0.true)) c.put_left.ensures

pub refused_beside-requires : goal.refused_beside-requires
refused_beside-requires c = halved-beside _ _ _ _ _ (beside-says _ _ _ (omega (arith, c.if-list-gt-TEXT.false)) _ (omega (arith, c.run_recorded-arg-1.given)) _ refl _ refl _ _ _ _ c.run_recorded-answer.ensures) (omega (arith, c.if-answer-eq0.false))

pub returns : goal.returns
returns c =
    printed-stopped _ _ _ _ _ _ _
    (beside-says _ _ _ (omega (arith, c.if-list-gt-TEXT.false)) _ (omega (arith, c.run_recorded-arg-1.given)) _ refl _ refl _ _ _ _ c.run_recorded-answer.ensures) (omega (arith, c.if-answer-eq0.false)) c.refused_beside.ensures
