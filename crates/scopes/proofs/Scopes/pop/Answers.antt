-- A scope is popped. Assumes nothing.
use Rattle.std.proofs.Common.{sym, ap}
use Rattle.scopes.specs.View.{view, id_of, told_only}
use Rattle.scopes.proofs.Becoming.{passes, instead}
use Rattle.scopes.proofs.Pops.{pop-refused, pop-shuts}
use Rattle.scopes.proofs.Scopes.pop.Goals as goal

pub returns-in_err-i : goal.returns-in_err-i
returns-in_err-i c =
    passes c.args.self.now _ _ _ _ c.from_residual.ensures.1 c.requires (pop-refused c.args.self.now (id_of c.args.id) _ c.in_err-i.ensures)

pub returns : goal.returns
returns c = instead _ _ _ _ _ (sym (ap (told_only (view c.args.self.now)) (pop-shuts c.args.self.now (id_of c.args.id) _ c.in_ok-i.ensures))) c.close.ensures
