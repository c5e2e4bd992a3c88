use Rattle.frames.proofs.Told.{handed-on}
use Rattle.frames.proofs.Handling.{forget-spent, forget-works}
use Rattle.frames.proofs.frees.forget.Goals as goal

pub returns-in_err-x-clause-leads : goal.returns-in_err-x-clause-leads
returns-in_err-x-clause-leads c = rw (handed-on c.from_residual.result c.from_residual.ensures.1) (λ s stands drained. forget-spent stands c.args.h.0 c.in_err-x.field-0.0 drained c.in_err-x.ensures)

pub returns-clause-leads : goal.returns-clause-leads
returns-clause-leads c = λ s stands. forget-works stands c.args.h.0 c.in_ok-x.x c.in_ok-x.ensures.0 _ c.set.new.self c.set.ensures c.forgotten.ensures c.in_ok-x.ensures.1
