-- A scope is dangled. Assumes nothing.
use Rattle.std.proofs.Common.{rules}
use Rattle.scopes.specs.View.{id_of}
use Rattle.scopes.proofs.Marks.{dangle-refused, dangle-marks}
use Rattle.scopes.proofs.Scopes.dangle.Goals as goal

pub returns-in_err-i : goal.returns-in_err-i
returns-in_err-i c = search (rules, dangle-refused)

pub returns : goal.returns
returns c = dangle-marks c.args.self.now (id_of c.args.id) c.requires c.in_ok-i.i c.in_ok-i.ensures _ c.from-self.ensures
