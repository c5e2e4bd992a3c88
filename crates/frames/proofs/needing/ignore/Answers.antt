use Rattle.rules.specs.Frames as frame
use Rattle.frames.proofs.Told.{handed-on}
use Rattle.frames.proofs.NeedSteps.{ignore-as, made-works, full-works}
use Rattle.frames.proofs.needing.ignore.Goals as goal

pub returns-in_err-k : goal.returns-in_err-k
returns-in_err-k c = rw (handed-on c.from_residual.result c.from_residual.ensures.1) (λ s handles stands. full-works stands frame.new_ignore 0x22 _ (ignore-as stands) c.in_err-k.field-0.0 c.in_err-k.ensures)

pub returns : goal.returns
returns c = λ s handles stands. made-works stands frame.new_ignore 0x22 _ (ignore-as stands) c.in_ok-k.k c.in_ok-k.ensures
