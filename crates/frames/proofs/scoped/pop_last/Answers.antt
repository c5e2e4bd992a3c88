use Rattle.std.specs.Prelude.{Ok, Err}
use Rattle.frames.proofs.Told.{handed-on}
use Rattle.frames.proofs.Moving.{pop-last-works}
use Rattle.frames.proofs.scoped.pop_last.Goals as goal

pub returns-in_err-pop_last : goal.returns-in_err-pop_last
returns-in_err-pop_last c = rw (handed-on c.from_residual.result c.from_residual.ensures.1) (λ handles stands drained. pop-last-works stands (Err c.in_err-pop_last.field-0.0) c.in_err-pop_last.ensures drained)

pub returns : goal.returns
returns c = λ handles stands drained. pop-last-works stands (Ok tt) c.in_ok-pop_last.ensures drained
