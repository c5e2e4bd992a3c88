use Prim.Native.Nat.{ℕ, ◌≤◌, ◌<◌, ◌-◌}
use lib.ListN.{get_or}
use Rattle.rules.specs.Text.{value}
use Rattle.text.proofs.Numbers.{Shifted}
use Rattle.text.proofs.lines.digits_one_by_one.Given as goal

abbrev pub invariant-loop-e : goal.invariant-loop-e
invariant-loop-e l = ((k : ℕ) → l.p ≤ k → k < l.e → value (get_or l.s k 0) < 16) × Shifted l.s l.p (l.e - l.p) l.number
