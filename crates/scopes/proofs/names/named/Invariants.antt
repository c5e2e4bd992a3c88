use Rattle.std.proofs.Common.{◌≡◌, ℕ, ◌+◌, ◌<◌, ◌≤◌, false}
use Rattle.scopes.specs.Leaves.{binds}
use Rattle.scopes.proofs.names.named.Given as goal

abbrev pub invariant-loop-k : goal.invariant-loop-k
invariant-loop-k l = l.hit ≡ false → (i j : ℕ) → l.from ≤ j → j < l.from + l.k → binds l.bindings l.name i j ≡ false
