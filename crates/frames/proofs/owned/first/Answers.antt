use mathlib.Core.Path.{refl}
use Rattle.scopes.specs.View.{id_of}
use Rattle.frames.proofs.Told.{handed-on}
use Rattle.frames.proofs.Owning.{first-refused, first-works}
use Rattle.frames.proofs.owned.first.Goals as goal

pub returns-in_err-adds : goal.returns-in_err-adds
returns-in_err-adds c =
    rw (handed-on c.from_residual.result c.from_residual.ensures.1)
    (λ drained. first-refused _ c.requires.stands c.args.k.0 c.requires.defers.0 (id_of c.args.id) c.requires.defers.1 c.in_err-adds.ensures drained refl)

pub returns : goal.returns
returns c = rw c.set.ensures (λ drained. first-works _ c.requires.stands c.args.k.0 c.requires.defers.0 (id_of c.args.id) c.requires.defers.1 c.in_ok-adds.ensures drained refl)
