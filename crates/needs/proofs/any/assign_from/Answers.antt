use mathlib.Core.Path.{sym, ◌∙◌}
use Rattle.needs.specs.Kinds.{address_of}
use Rattle.needs.proofs.Asks.{assign-same, assign_other}
use Rattle.needs.proofs.any.assign_from.Goals as goal

pub returns-then-eq : goal.returns-then-eq
returns-then-eq c = rw c.in-Address.is (assign-same (address_of c.in-Address.a) c.args.x.0 (sym c.eq.ensures ∙ c.if-eq.true))

pub returns-else-eq : goal.returns-else-eq
returns-else-eq c = rw c.in-Address.is (assign_other (address_of c.in-Address.a) c.args.x.0 (sym c.eq.ensures ∙ c.if-eq.false))
