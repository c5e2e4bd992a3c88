-- `links::first` meets its contract. Assumes nothing.
use native.Mathlib.Omega.{arith}
use Rattle.rules.specs.Sizes.{LISTS, SLOTS}
use Rattle.links.proofs.Walks.{first-some, first-none}
use Rattle.links.proofs.first.Goals as goal

pub returns-else-a-lt-SLOTS : goal.returns-else-a-lt-SLOTS
returns-else-a-lt-SLOTS c xs h = first-none SLOTS LISTS c.args.t.now xs h c.args.i c.requires (omega (arith, c.from-a.ensures))
