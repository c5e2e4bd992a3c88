use Rattle.rules.specs.Frames as frame
use Rattle.frames.proofs.Told.{handed-on}
use Rattle.frames.proofs.Handling.{handed-few, read-unknown, read-loads}
use Rattle.frames.proofs.cells.read.Goals as goal

pub known-requires : goal.known-requires
known-requires c = handed-few c.requires

pub returns-in_err-x : goal.returns-in_err-x
returns-in_err-x c = rw (handed-on c.from_residual.result c.from_residual.ensures.1) (λ drained. read-unknown c.requires c.args.h.0 c.in_err-x.field-0.0 drained c.in_err-x.ensures)

pub returns : goal.returns
returns c = c.load.ensures (frame.read c.args.h.0) 0x11 (read-loads c.requires c.args.h.0 c.in_ok-x.x c.in_ok-x.ensures)
