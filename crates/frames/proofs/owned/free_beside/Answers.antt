use mathlib.Core.Path.{sym, ◌∙◌}
use Rattle.frames.proofs.Beside.{needed-few, free-barred, freeing-works}
use Rattle.frames.proofs.owned.free_beside.Goals as goal

pub belongs-requires : goal.belongs-requires
belongs-requires c = needed-few c.requires

pub returns-then-belongs-clause-leads : goal.returns-then-belongs-clause-leads
returns-then-belongs-clause-leads c = free-barred c.requires c.args.h.0 c.args.dangles (sym c.belongs.ensures ∙ c.if-belongs.true)

pub returns-clause-leads : goal.returns-clause-leads
returns-clause-leads c = λ drained. freeing-works c.requires c.args.h.0 (sym c.belongs.ensures ∙ c.if-belongs.false) c.args.dangles (c.free.ensures.leads drained)
