-- `check_script` meets its contract. Assumes nothing.
use mathlib.Core.Path.{sym, subst, ◌∙◌}
use Rattle.rules.specs.Sizes.{base}
use Rattle.text.specs.Titles.{Titles}
use Rattle.text.proofs.Titling.{script-start}
use Rattle.text.proofs.whole.check_script.Goals as goal

pub returns : goal.returns
returns c = c.check_from.ensures ∙ sym (script-start base _ _ (subst (Titles c.args.s.now) (sym c.from-first.ensures) c.has_title.ensures))
