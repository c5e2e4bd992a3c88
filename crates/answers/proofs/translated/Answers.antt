-- `translated` meets its contract, over the rules' own `translator_prints`. Assumes nothing.
use native.Mathlib.Omega.{arith}
use Rattle.answers.proofs.Printed.{prints-as}
use Rattle.answers.proofs.Answers.{halved, printed, script-longer, translate-says}
use Rattle.answers.proofs.translated.Goals as goal

pub returns-then-script-gt-TEXT : goal.returns-then-script-gt-TEXT
returns-then-script-gt-TEXT c = prints-as (script-longer _ (omega (arith, c.if-script-gt-TEXT.true))) c.longer.ensures

pub shown-requires : goal.shown-requires
shown-requires c = halved _ _ _ _ (translate-says _ (omega (arith, c.if-script-gt-TEXT.false)) _ (omega (arith, c.translate-arg-1.given)) _ _ c.translate-answer.ensures)

pub returns : goal.returns
returns c = printed _ _ _ _ _ _ (translate-says _ (omega (arith, c.if-script-gt-TEXT.false)) _ (omega (arith, c.translate-arg-1.given)) _ _ c.translate-answer.ensures) c.shown.ensures
