use native.Mathlib.Omega.{arith}
use Rattle.rules.specs.Frames as frame
use Rattle.frames.proofs.Told.{handed-on}
use Rattle.frames.proofs.Handling.{handed-few}
use Rattle.frames.proofs.Reading.{named-refused, named-known, named-loads}
use Rattle.frames.proofs.cells.read_name.Goals as goal

pub returns-in_err-b : goal.returns-in_err-b
returns-in_err-b c = rw (handed-on c.from_residual.result c.from_residual.ensures.1) (named-refused c.requires c.args.name c.in_err-b.field-0.0 c.in_err-b.ensures)

pub known-requires : goal.known-requires
known-requires c = handed-few c.requires

pub returns-in_err-x : goal.returns-in_err-x
returns-in_err-x c = absurd (omega (arith, c.in_err-x.ensures.0, named-known c.requires c.args.name c.in_ok-b.b c.in_ok-b.ensures))

pub returns : goal.returns
returns c = c.load.ensures (frame.read_name c.args.name) 0x12 (named-loads c.requires c.args.name c.in_ok-b.b c.in_ok-b.ensures)
