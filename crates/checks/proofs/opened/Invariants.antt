use Rattle.scopes.specs.View.{view}
use Rattle.scopes.specs.Steps.{Whole}
use Rattle.checks.specs.States.{Filled}
use Rattle.checks.proofs.opened.Given as goal

abbrev pub invariant-loop-i : goal.invariant-loop-i
invariant-loop-i l = Whole l.s × Filled l._i 0 0 (view l.s)
