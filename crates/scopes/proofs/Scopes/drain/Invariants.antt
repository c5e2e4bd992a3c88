use Rattle.std.proofs.Common.{length}
use Rattle.rules.specs.Sizes.{SCOPES}
use Rattle.scopes.specs.View.{list_of}
use Rattle.scopes.proofs.Drains.{Draining}
use Rattle.scopes.proofs.Scopes.drain.Given as goal

abbrev pub invariant-loop-a : goal.invariant-loop-a
invariant-loop-a l = Draining l.initial.self l.initial.out l.self l.n l.out

abbrev pub decreases-loop-a : goal.decreases-loop-a
decreases-loop-a l = length (list_of l.self.links SCOPES)
