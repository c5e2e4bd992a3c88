-- `same` meets its contract. Assumes nothing.
use Rattle.std.proofs.lemmas.Slice.Eq.{slice_eq-Decides}
use Rattle.std.proofs.lemmas.Bool.Decides.{Decides-eqb}
use Rattle.records.proofs.Texts.{same-told}
use Rattle.records.proofs.same.Goals as goal

pub returns : goal.returns
returns c = same-told c.args.a.now c.args.b.now _ (slice_eq-Decides Decides-eqb _ _ _ c.eq.ensures)
