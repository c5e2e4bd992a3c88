use mathlib.Core.Path.{◌≡◌}
use Rattle.scopes.specs.View.{view}
use Rattle.scopes.specs.Sound.{Sound}
use Rattle.checks.specs.States.{Idle}
use Rattle.checks.proofs.answered.Given as goal

abbrev pub invariant-loop-i : goal.invariant-loop-i
invariant-loop-i l = (l.done ≡ l._i) × (Sound l.fn.start → Idle (view l.fn.start) → Sound l.s × Idle (view l.s))
