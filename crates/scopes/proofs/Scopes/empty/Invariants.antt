use Rattle.std.proofs.Common.{length}
use Rattle.scopes.specs.View.{list_of}
use Rattle.scopes.proofs.Closes.{Closing}
use Rattle.scopes.proofs.Scopes.empty.Given as goal

abbrev pub invariant-loop-a : goal.invariant-loop-a
invariant-loop-a l = Closing l.i l.initial.self l.self

abbrev pub decreases-loop-a : goal.decreases-loop-a
decreases-loop-a l = length (list_of l.self.links l.i)
