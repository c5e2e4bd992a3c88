use mathlib.Core.Path.{◌≡◌}
use mathlib.Core.Bool.{false}
use Prim.Native.Nat.{ℕ, ◌<◌}
use lib.ListN.{get_or}
use Rattle.handles.proofs.remembered.is_remembered.Given as goal

abbrev pub invariant-loop-r : goal.invariant-loop-r
invariant-loop-r l = l.hit ≡ false → (j : ℕ) → j < l.r-index → get_or l.remembers j 0 ≡ l.h.0 → ⊥
