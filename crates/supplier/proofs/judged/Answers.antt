-- `judged` meets its contract, over the rules' own `verdict`. Assumes nothing.
use mathlib.Core.Path.{refl, sym}
use Rattle.std.proofs.lemmas.Result.{err_from_is_err_and}
use Rattle.supplier.proofs.Verdicts.{script-read, script-unread}
use Rattle.supplier.proofs.judged.Goals as goal

pub returns-in_err-check_script : goal.returns-in_err-check_script
returns-in_err-check_script c =
    let p = err_from_is_err_and c.from_residual.result c.from_residual.ensures.1 in
    rw (p.1, p.2) (script-unread c.args.script.now c.args.list.now _ _ _ c.in_err-check_script.ensures refl)

pub agrees_read-requires : goal.agrees_read-requires
agrees_read-requires c = script-read c.args.script.now _ (sym c.in_ok-check_script.ensures)
