use Rattle.std.specs.Prelude.{Ok, Err}
use Rattle.frames.proofs.Told.{handed-on}
use Rattle.frames.proofs.Moving.{child-works}
use Rattle.frames.proofs.scoped.child.Goals as goal

pub returns-in_err-id : goal.returns-in_err-id
returns-in_err-id c = rw (handed-on c.from_residual.result c.from_residual.ensures.1) (λ handles stands drained. child-works stands (Err c.in_err-id.field-0.0) c.in_err-id.ensures drained)

pub returns : goal.returns
returns c = rw c.from.ensures (λ handles stands drained. child-works stands (Ok c.in_ok-id.id) c.in_ok-id.ensures drained)
