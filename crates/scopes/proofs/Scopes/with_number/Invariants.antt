use Rattle.std.proofs.Common.{◌≡◌, ℕ, ◌<◌, ◌≤◌, false}
use Rattle.scopes.specs.Leaves.{has_number}
use Rattle.scopes.proofs.Scopes.with_number.Given as goal

abbrev pub invariant-loop-i : goal.invariant-loop-i
invariant-loop-i l = (j : ℕ) → 0 ≤ j → j < l.i → has_number l.self.live l.self.number l.n j ≡ false
