use Rattle.std.proofs.Common.{◌≡◌}
use Rattle.rules.specs.Notation.{first, is_some}
use Rattle.scopes.specs.Leaves.{child_of}
use Rattle.scopes.proofs.Scopes.has_child.Given as goal

abbrev pub invariant-loop-j : goal.invariant-loop-j
invariant-loop-j l = l.hit ≡ is_some (first (child_of l.self.live l.self.parent l.i) 0 l.j)
