use mathlib.Core.Path.{sym, ◌∙◌}
use Rattle.frames.proofs.Beside.{forget-barred, forget-works-with}
use Rattle.frames.proofs.owned.forget_beside.Goals as goal

pub returns-then-belongs-clause-leads : goal.returns-then-belongs-clause-leads
returns-then-belongs-clause-leads c = λ s stands. forget-barred stands c.args.h.0 (sym c.belongs.ensures ∙ c.if-belongs.true)

pub returns-clause-leads : goal.returns-clause-leads
returns-clause-leads c = λ s stands drained. forget-works-with stands c.args.h.0 (sym c.belongs.ensures ∙ c.if-belongs.false) (c.forget.ensures.leads s stands.stands drained)
