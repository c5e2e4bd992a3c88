use mathlib.Core.Path.{◌≡◌}
use mathlib.Core.Bool.{false}
use Prim.Native.Nat.{ℕ, ◌≤◌, ◌<◌}
use Rattle.slots.specs.Halves.{occ}
use Rattle.slots.proofs.spots.vacant.Given as goal

abbrev pub invariant-loop-b : goal.invariant-loop-b
invariant-loop-b l = (j : ℕ) → l.a ≤ j → j < l.b → occ l.halves j ≡ false
