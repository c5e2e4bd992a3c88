use Rattle.frames.proofs.Told.{handed-on}
use Rattle.rules.specs.Frames as frame
use Rattle.frames.proofs.Moving.{works-by}
use Rattle.frames.proofs.InScope.{in-unnumbered, in-by-number}
use Rattle.frames.proofs.allots.alloc_in.Goals as goal

pub returns-in_err-id : goal.returns-in_err-id
returns-in_err-id c = rw (handed-on c.from_residual.result c.from_residual.ensures.1) (in-unnumbered _ c.requires c.args.n c.from.ensures c.in_err-id.field-0.0 c.in_err-id.ensures)

pub returns : goal.returns
returns c = λ drained. works-by 0x07 (frame.alloc_in c.args.n) (in-by-number _ c.requires c.in_ok-id.id c.args.n c.from.ensures c.in_ok-id.ensures) (c.alloc_in_scope.ensures.comes 0x07 drained)
