-- `ran` meets its contract, over the rules' own `runner_prints`. Assumes nothing.
use mathlib.Core.Path.{refl}
use native.Mathlib.Omega.{arith}
use Rattle.answers.proofs.Printed.{prints-as}
use Rattle.answers.proofs.Answers.{halved, printed, list-longer, run-says}
use Rattle.answers.proofs.ran.Goals as goal

pub returns-then-list-gt-TEXT : goal.returns-then-list-gt-TEXT
returns-then-list-gt-TEXT c = prints-as (list-longer _ (omega (arith, c.if-list-gt-TEXT.true))) c.longer.ensures

pub shown-requires : goal.shown-requires
shown-requires c = halved _ _ _ _ (run-says _ (omega (arith, c.if-list-gt-TEXT.false)) _ (omega (arith, c.run-arg-1.given)) _ refl _ _ _ c.run-answer.ensures)

pub returns : goal.returns
returns c = printed _ _ _ _ _ _ (run-says _ (omega (arith, c.if-list-gt-TEXT.false)) _ (omega (arith, c.run-arg-1.given)) _ refl _ _ _ c.run-answer.ensures) c.shown.ensures
