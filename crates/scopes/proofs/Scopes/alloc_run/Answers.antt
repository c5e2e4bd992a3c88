-- A run of slots for the top, by any placement. Assumes nothing.
use Rattle.std.proofs.Common.{◌≢◌}
use Rattle.std.proofs.lemmas.Result.{err_from_is_err_and}
use Rattle.scopes.proofs.Becoming.{passes, does}
use Rattle.scopes.proofs.Allocs.{run-no-top, run-empty, run_is}
use Rattle.scopes.proofs.Scopes.alloc_run.Goals as goal

pub returns-in_err-top : goal.returns-in_err-top
returns-in_err-top c = passes c.args.self.now _ _ _ _ c.from_residual.ensures.1 c.requires (run-no-top _ c.args.self.now c.args.many _ c.in_err-top.ensures)

pub returns-then-many-eq0 : goal.returns-then-many-eq0
returns-then-many-eq0 c = does c.args.self.now _ _ _ (run-empty _ c.args.self.now _ c.args.many c.in_ok-top.ensures c.if-many-eq0.true) c.requires

pub returns-in_err-a : goal.returns-in_err-a
returns-in_err-a c =
    let p = err_from_is_err_and c.from_residual-in_err-a.result c.from_residual-in_err-a.ensures.1 in
    let n : c.args.many ≢ 0 = c.if-many-eq0.false in
    rw (p.1, p.2) (run_is _ c.args.self.now _ c.args.many c.in_ok-top.ensures n _ _ (rw c.from.ensures at c.in_err-a.ensures))

pub returns : goal.returns
returns c = run_is _ c.args.self.now _ c.args.many c.in_ok-top.ensures c.if-many-eq0.false _ _ (rw c.from.ensures at c.in_ok-a.ensures)
