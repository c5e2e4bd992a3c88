use mathlib.Core.Path.{◌≡◌}
use Prim.Native.Nat.{◌≤◌, ◌-◌}
use Rattle.scopes.specs.View.{view}
use Rattle.scopes.specs.Steps.{Whole}
use Rattle.allocations.specs.Inner.{down_from, back_each}
use Rattle.allocations.proofs.linear.give_back_run.Given as goal

-- those below `a` are still to go back
abbrev pub invariant-loop-a : goal.invariant-loop-a
invariant-loop-a l =
    (l.fn.first.0 ≤ l.a) × Whole l.t
    × (back_each l.dangles (down_from l.fn.first.0 (l.a - l.fn.first.0)) (view l.t) ≡ back_each l.dangles (down_from l.fn.first.0 l.count) (view l.s))
