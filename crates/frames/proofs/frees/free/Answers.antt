use Rattle.frames.proofs.Told.{handed-on}
use Rattle.frames.specs.Steps.{freeing, free_code}
use Rattle.frames.proofs.Moving.{works-by}
use Rattle.frames.proofs.Handling.{handed-few}
use Rattle.frames.proofs.Freeing.{free-13, free-then}
use Rattle.frames.proofs.frees.free.Goals as goal

pub unspent-requires : goal.unspent-requires
unspent-requires c = handed-few c.requires

pub returns-in_err-x-clause-leads : goal.returns-in_err-x-clause-leads
returns-in_err-x-clause-leads c = rw (handed-on c.from_residual.result c.from_residual.ensures.1) (free-13 c.requires c.args.dangles c.args.h.0 c.in_err-x.field-0.0 c.in_err-x.ensures)

pub returns-clause-leads : goal.returns-clause-leads
returns-clause-leads c = λ drained. works-by (free_code c.args.dangles) (freeing c.args.dangles c.args.h.0) (free-then c.requires c.args.dangles c.args.h.0 c.in_ok-x.x c.in_ok-x.ensures.0 c.in_ok-x.ensures.1) (c.free_as.ensures.frees (free_code c.args.dangles) drained)
