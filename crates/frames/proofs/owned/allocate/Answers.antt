use Rattle.frames.proofs.Told.{handed-on}
use Rattle.frames.proofs.Beside.{needed-few}
use Rattle.frames.proofs.Owning.{allocate-unmade, allocate-freed, again-works, ignored-works}
use Rattle.frames.proofs.owned.allocate.Goals as goal

pub made-requires : goal.made-requires
made-requires c = needed-few c.requires

pub returns-in_err-need : goal.returns-in_err-need
returns-in_err-need c = rw (handed-on c.from_residual.result c.from_residual.ensures.1) (allocate-unmade _ c.requires c.args.k.0 c.in_err-need.field-0.0 c.in_err-need.ensures)

pub returns-in-Address : goal.returns-in-Address
returns-in-Address c = again-works _ c.requires c.args.k.0 c.in-Address.a (rw c.in-Address.is at c.in_ok-need.ensures)

pub returns-in-Ignore : goal.returns-in-Ignore
returns-in-Ignore c = ignored-works _ c.requires c.args.k.0 (rw c.in-Ignore.is at c.in_ok-need.ensures)

pub returns-in-Freed : goal.returns-in-Freed
returns-in-Freed c = allocate-freed _ c.requires c.args.k.0 (rw c.in-Freed.is at c.in_ok-need.ensures)
