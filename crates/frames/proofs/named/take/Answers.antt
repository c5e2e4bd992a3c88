use Rattle.std.specs.Prelude.{Ok, Err}
use Rattle.frames.proofs.Told.{handed-on}
use Rattle.frames.proofs.Reading.{take-works}
use Rattle.frames.proofs.named.take.Goals as goal

pub returns-in_err-b : goal.returns-in_err-b
returns-in_err-b c = rw (handed-on c.from_residual.result c.from_residual.ensures.1) (λ handles stands. take-works stands c.args.name (Err c.in_err-b.field-0.0) c.in_err-b.ensures)

pub returns : goal.returns
returns c = λ handles stands. take-works stands c.args.name (Ok c.in_ok-b.b) c.in_ok-b.ensures
