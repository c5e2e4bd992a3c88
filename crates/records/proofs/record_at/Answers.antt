-- `record_at` meets its contract. Assumes nothing.
use mathlib.Core.Path.{sym, ◌∙◌}
use Rattle.records.proofs.Parts.{no-head, headless, no-script, no_answer, whole}
use borrow.Author.Rules.{rules}
use Rattle.records.proofs.record_at.Goals as goal

pub returns-then-left-lt18 : goal.returns-then-left-lt18
returns-then-left-lt18 c = no-head _ _ (search rules)

pub returns-then-not-head_at : goal.returns-then-not-head_at
returns-then-not-head_at c = headless _ _ (sym c.head_at.ensures ∙ c.if-not-head_at.true)

pub returns-then-most-script : goal.returns-then-most-script
returns-then-most-script c = no-script _ _ (sym c.head_at.ensures ∙ c.if-not-head_at.false) (search rules) _ c.number_at-script.ensures (search rules)

pub returns-then-most-script-2 : goal.returns-then-most-script-2
returns-then-most-script-2 c = no_answer _ _ (sym c.head_at.ensures ∙ c.if-not-head_at.false) (search rules) _ c.number_at-script.ensures (search rules) _ c.number_at-answer.ensures (search rules)

pub returns : goal.returns
returns c = whole _ _ (sym c.head_at.ensures ∙ c.if-not-head_at.false) (search rules) _ c.number_at-script.ensures (search rules) _ c.number_at-answer.ensures (search rules)
