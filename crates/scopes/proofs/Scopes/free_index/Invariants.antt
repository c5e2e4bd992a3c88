use Rattle.std.proofs.Common.{◌≡◌, ℕ, ◌<◌, ◌≤◌, false}
use Rattle.scopes.specs.Leaves.{is_free}
use Rattle.scopes.proofs.Scopes.free_index.Given as goal

abbrev pub invariant-loop-i : goal.invariant-loop-i
invariant-loop-i l = (j : ℕ) → 1 ≤ j → j < l.i → is_free l.self.live j ≡ false
