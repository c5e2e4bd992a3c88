use mathlib.Core.Path.{◌≡◌}
use Rattle.scopes.specs.Sound.{Sound}
use Rattle.checks.proofs.full_checks.Given as goal

abbrev pub invariant-loop-i : goal.invariant-loop-i
invariant-loop-i l = Sound l.s × (l.yes ≡ l._i)
