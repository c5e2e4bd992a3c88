-- A scope is restored. Assumes nothing.
use Rattle.std.proofs.Common.{rules}
use Rattle.scopes.specs.View.{id_of}
use Rattle.scopes.proofs.Marks.{restore-refused, restore-unmarks}
use Rattle.scopes.proofs.Scopes.restore.Goals as goal

pub returns-in_err-i : goal.returns-in_err-i
returns-in_err-i c = search (rules, restore-refused)

pub returns : goal.returns
returns c = restore-unmarks c.args.self.now (id_of c.args.id) c.requires c.in_ok-i.i c.in_ok-i.ensures
