-- A name is looked for from the top on, and its binding marked moved. Assumes nothing.
use Rattle.scopes.proofs.Becoming.{passes}
use Rattle.scopes.proofs.Lookups.{take-refused, take-moves}
use Rattle.scopes.proofs.Scopes.take.Goals as goal

pub returns-in_err-j : goal.returns-in_err-j
returns-in_err-j c = passes c.args.self.now _ _ _ _ c.from_residual.ensures.1 c.requires (take-refused c.args.self.now c.args.name _ c.in_err-j.ensures)

pub returns : goal.returns
returns c = take-moves c.args.self.now c.args.name c.requires.sound c.in_ok-j.j c.in_ok-j.ensures c.requires.sized _ c.bound_of.ensures
