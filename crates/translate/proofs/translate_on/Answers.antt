-- The list goes from the page to lent memory, or a refusal leaves that. Assumes nothing.
use borrow.Author.Rules.{rules}
use Rattle.std.proofs.lemmas.Result.{err_from_is_err_and}
use Rattle.translate.proofs.Left.{left-refused, left-short, left-list, page-same}
use Rattle.translate.proofs.translate_on.Goals as goal

pub returns-in_err-n-clause-leaves_on : goal.returns-in_err-n-clause-leaves_on
returns-in_err-n-clause-leaves_on c =
    let p = err_from_is_err_and c.from_residual.result c.from_residual.ensures.1 in
    rw (p.1, p.2) (page-same c.steps_on.auto.page (left-refused c.args.script.now c.args.list.now c.steps_on.new.page _ c.in_err-n.ensures))

pub returns-then-list-n-clause-leaves_on : goal.returns-then-list-n-clause-leaves_on
returns-then-list-n-clause-leaves_on c = rw c.new.ensures (page-same c.steps_on.auto.page (left-short c.args.script.now c.args.list.now c.steps_on.new.page c.in_ok-n.field-0 c.in_ok-n.ensures c.if-list-n.true))

pub returns-clause-leaves_on : goal.returns-clause-leaves_on
returns-clause-leaves_on c =
    page-same c.steps_on.auto.page
    (left-list c.args.script.now c.args.list.now c.steps_on.new.page c.in_ok-n.field-0 c.in_ok-n.ensures _ c.if-list-n.false (search rules))
