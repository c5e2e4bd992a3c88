use mathlib.Core.Path.{sym, ◌∙◌}
use Rattle.std.proofs.lemmas.Result.{err_from_is_err_and}
use Rattle.needs.specs.Kinds.{kind_of}
use Rattle.needs.proofs.Tops.{back_from_lem}
use Rattle.allocations.proofs.Rounds.{run-freed-empty, run-freed-spent, run-freed-kept, run-freed-back}
use Rattle.allocations.proofs.linear.free_run.Goals as goal

pub returns-then-run-eq0-clause-becomes : goal.returns-then-run-eq0-clause-becomes
returns-then-run-eq0-clause-becomes c =
    rw c.forget_run-freed.ensures.0 (run-freed-empty c.requires c.args.dangles (kind_of c.args.run.kind) c.args.run.first.0 c.args.run.count c.if-run-eq0.true)

pub returns-then-is_freed-clause-becomes : goal.returns-then-is_freed-clause-becomes
returns-then-is_freed-clause-becomes c =
    run-freed-spent c.requires c.args.dangles (kind_of c.args.run.kind) c.args.run.first.0 c.args.run.count c.if-run-eq0.false (sym c.is_freed.ensures ∙ c.if-is_freed.true)

pub returns-in_err-give_back_run-clause-becomes : goal.returns-in_err-give_back_run-clause-becomes
returns-in_err-give_back_run-clause-becomes c =
    let p = err_from_is_err_and c.from_residual.result c.from_residual.ensures.1 in
    rw (p.1, p.2)
    (run-freed-back c.requires c.args.dangles (kind_of c.args.run.kind) c.args.run.first.0 c.args.run.count (sym c.is_freed.ensures ∙ c.if-is_freed.false)
    (sym (back_from_lem _ c.requires.sound c.args.run.kind) ∙ sym c.goes_back.ensures ∙ c.if-goes_back.true) _ c.in_err-give_back_run.ensures)

pub returns-in_ok-give_back_run-clause-becomes : goal.returns-in_ok-give_back_run-clause-becomes
returns-in_ok-give_back_run-clause-becomes c =
    rw c.forget_run-freed.ensures.0
    (run-freed-back c.requires c.args.dangles (kind_of c.args.run.kind) c.args.run.first.0 c.args.run.count (sym c.is_freed.ensures ∙ c.if-is_freed.false)
    (sym (back_from_lem _ c.requires.sound c.args.run.kind) ∙ sym c.goes_back.ensures ∙ c.if-goes_back.true) _ c.in_ok-give_back_run.ensures)

pub returns-else-goes_back-clause-becomes : goal.returns-else-goes_back-clause-becomes
returns-else-goes_back-clause-becomes c =
    rw c.forget_run-freed.ensures.0
    (run-freed-kept c.requires c.args.dangles (kind_of c.args.run.kind) c.args.run.first.0 c.args.run.count (sym c.is_freed.ensures ∙ c.if-is_freed.false)
    (sym (back_from_lem _ c.requires.sound c.args.run.kind) ∙ sym c.goes_back.ensures ∙ c.if-goes_back.false))
