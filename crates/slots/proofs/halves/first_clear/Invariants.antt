use mathlib.Core.Path.{◌≡◌}
use mathlib.Core.Bool.{true}
use Prim.Native.Nat.{ℕ, ◌*◌, ◌≤◌, ◌<◌}
use Rattle.slots.specs.Halves.{occ}
use Rattle.slots.proofs.halves.first_clear.Given as goal

abbrev pub invariant-loop-i : goal.invariant-loop-i
invariant-loop-i l = (k : ℕ) → 128 * l.from ≤ k → k < 64 * l.i → occ l.halves k ≡ true
