use mathlib.Core.Path.{◌≡◌}
use Prim.Native.Nat.{◌≤◌, ◌-◌}
use lib.ListN.{length}
use Rattle.rules.specs.Sizes.{base, LINES}
use Rattle.text.specs.Whole.{script_left}
use Rattle.text.proofs.whole.check_from.Given as goal

abbrev pub invariant-loop-p : goal.invariant-loop-p
invariant-loop-p l = (script_left base l.s l.from l.line ≡ script_left base l.s l.p l.i) × (l.p ≤ length l.s) × (l.i ≤ LINES)

abbrev pub decreases-loop-p : goal.decreases-loop-p
decreases-loop-p l = length l.s - l.p
