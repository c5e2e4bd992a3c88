use mathlib.Core.Path.{sym, ◌∙◌}
use Rattle.needs.specs.Kinds.{address_of}
use Rattle.needs.proofs.Asks.{tried-dangling, tried_other}
use Rattle.needs.proofs.any.try_as_addr.Goals as goal

pub returns-then-is_dangling : goal.returns-then-is_dangling
returns-then-is_dangling c = rw c.in-Address.is (tried-dangling (address_of c.in-Address.a) (sym c.is_dangling.ensures ∙ c.if-is_dangling.true))

pub returns-else-is_dangling : goal.returns-else-is_dangling
returns-else-is_dangling c = rw c.in-Address.is (tried_other (address_of c.in-Address.a) (sym c.is_dangling.ensures ∙ c.if-is_dangling.false))
