use mathlib.Core.Path.{sym, ◌∙◌}
use Rattle.std.proofs.lemmas.Result.{err_from_is_err_and}
use Rattle.needs.specs.Kinds.{address_of}
use Rattle.needs.proofs.Tops.{back_from_lem}
use Rattle.allocations.proofs.Frees.{freed-spent, freed-kept, freed-back}
use Rattle.allocations.proofs.addresses.free.Goals as goal
use Rattle.allocations.proofs.addresses.free.Goals.{then-goes_back+in_ok-give_back, else-goes_back}

pub returns-then-is_freed : goal.returns-then-is_freed
returns-then-is_freed c = freed-spent c.requires c.args.dangles (address_of c.args.a) (sym c.is_freed.ensures ∙ c.if-is_freed.true)

pub returns-in_err-give_back : goal.returns-in_err-give_back
returns-in_err-give_back c =
    let p = err_from_is_err_and c.from_residual.result c.from_residual.ensures.1 in
    rw (p.1, p.2)
    (freed-back c.requires c.args.dangles (address_of c.args.a) (sym c.is_freed.ensures ∙ c.if-is_freed.false)
    (sym (back_from_lem _ c.requires.sound c.args.a.kind) ∙ sym c.goes_back.ensures ∙ c.if-goes_back.true) _ c.in_err-give_back.ensures)

pub returns : goal.returns
returns c =
    rw c.forget.ensures
    (elim c.if-goes_back.branch [
      | then-goes_back+in_ok-give_back w ↦ rw w.s-is
          (freed-back c.requires c.args.dangles (address_of c.args.a) (sym c.is_freed.ensures ∙ c.if-is_freed.false)
          (sym (back_from_lem _ c.requires.sound c.args.a.kind) ∙ sym c.goes_back.ensures ∙ w.if-goes_back.true) _ w.in_ok-give_back.ensures)
      | else-goes_back w ↦ rw w.s-is
          (freed-kept c.requires c.args.dangles (address_of c.args.a) (sym c.is_freed.ensures ∙ c.if-is_freed.false)
          (sym (back_from_lem _ c.requires.sound c.args.a.kind) ∙ sym c.goes_back.ensures ∙ w.if-goes_back.false))
    ])
