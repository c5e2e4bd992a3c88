use mathlib.Core.Path.{refl}
use Rattle.frames.proofs.Told.{handed-on}
use Rattle.frames.proofs.Beside.{needed-few}
use Rattle.frames.proofs.Owning.{free-21, dropped-refused, dropped-works}
use Rattle.frames.proofs.owned.free_need.Goals as goal

pub known-requires : goal.known-requires
known-requires c = needed-few c.requires

pub returns-in_err-d-clause-leads : goal.returns-in_err-d-clause-leads
returns-in_err-d-clause-leads c = rw (handed-on c.from_residual.result c.from_residual.ensures.1) (free-21 _ c.requires c.args.k.0 c.in_err-d.field-0.0 c.in_err-d.ensures)

pub returns-in_err-adds-clause-leads : goal.returns-in_err-adds-clause-leads
returns-in_err-adds-clause-leads c =
    rw (handed-on c.from_residual-in_err-adds.result c.from_residual-in_err-adds.ensures.1) (λ drained. dropped-refused _ c.requires c.args.k.0 c.from.ensures c.in_ok-d.d c.in_ok-d.ensures c.in_err-adds.ensures.frees drained refl)

pub returns-clause-leads : goal.returns-clause-leads
returns-clause-leads c = rw c.set.ensures (λ drained. dropped-works _ c.requires c.args.k.0 c.from.ensures c.in_ok-d.d c.in_ok-d.ensures c.in_ok-adds.ensures.frees drained refl)
