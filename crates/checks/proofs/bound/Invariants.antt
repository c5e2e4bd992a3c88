use Prim.Native.Nat.{◌-◌}
use Rattle.rules.specs.Sizes.{SCOPES, SLOTS}
use Rattle.scopes.specs.View.{view}
use Rattle.scopes.specs.Steps.{Whole}
use Rattle.checks.specs.States.{Filled}
use Rattle.checks.proofs.bound.Given as goal

abbrev pub invariant-loop-name : goal.invariant-loop-name
invariant-loop-name l = Whole l.s × (Filled (SCOPES - 1) SLOTS 0 (view l.fn.t) → Filled (SCOPES - 1) SLOTS l.name (view l.s))
