use Prim.Native.Nat.{ℕ, ◌≤◌, ◌<◌}
use lib.ListN.{get_or}
use Rattle.rules.specs.Text.{value}
use Rattle.text.proofs.lines.digits_end.Given as goal

abbrev pub invariant-loop-e : goal.invariant-loop-e
invariant-loop-e l = (k : ℕ) → l.from ≤ k → k < l.e → value (get_or l.s k 0) < 16
