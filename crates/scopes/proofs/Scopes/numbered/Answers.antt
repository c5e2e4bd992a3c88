-- The id of the scope that a number means. Assumes nothing.
use Rattle.std.proofs.Common.{sym}
use Rattle.rules.specs.Notation.{refuse◌unless◌}
use Rattle.scopes.proofs.Scopes.numbered.Goals as goal

pub returns-in_default : goal.returns-in_default
unfolding refuse◌unless◌
returns-in_default c = rw (sym c.in_default.ensures.is)

pub returns : goal.returns
unfolding refuse◌unless◌
returns c = rw (sym c.in-Some.ensures.is)
