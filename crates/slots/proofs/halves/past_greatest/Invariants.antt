use mathlib.Core.Path.{◌≡◌}
use mathlib.Core.Bool.{false}
use Prim.Native.Nat.{ℕ, ◌*◌, ◌≤◌, ◌<◌}
use Rattle.rules.specs.Sizes.{SLOTS}
use Rattle.slots.specs.Halves.{occ}
use Rattle.slots.proofs.halves.past_greatest.Given as goal

abbrev pub invariant-loop-i : goal.invariant-loop-i
invariant-loop-i l = (k : ℕ) → 64 * l.i ≤ k → k < SLOTS → occ l.halves k ≡ false
