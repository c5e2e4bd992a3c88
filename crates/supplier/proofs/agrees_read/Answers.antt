-- The list is read, and then both are judged. Assumes nothing.
use mathlib.Core.Path.{refl}
use Rattle.std.proofs.lemmas.Result.{err_from_is_err_and}
use Rattle.supplier.proofs.Verdicts.{list-unread, the-list, answered}
use Rattle.supplier.proofs.agrees_read.Goals as goal

pub agrees_both-requires : goal.agrees_both-requires
agrees_both-requires c = (c.requires, the-list c.args.script.now c.args.list.now c.requires _ _ _ _ c.in_ok-read.ensures.value c.in_ok-read.was c.check_list.ensures.tabled refl)

pub returns-in_err-read : goal.returns-in_err-read
returns-in_err-read c =
    let p = err_from_is_err_and c.from_residual.result c.from_residual.ensures.1 in
    rw (p.1, p.2) (list-unread c.args.script.now c.args.list.now c.requires _ _ _ c.in_err-read.ensures.value refl)

pub returns : goal.returns
returns c =
    answered c.args.script.now c.args.list.now c.requires _ _ _ _ (the-list c.args.script.now c.args.list.now c.requires _ _ _ _ c.in_ok-read.ensures.value c.in_ok-read.was c.check_list.ensures.tabled refl)
    c.agrees_both.ensures refl
