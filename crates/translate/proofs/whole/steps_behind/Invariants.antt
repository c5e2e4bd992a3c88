use Rattle.std.specs.Int.{from_bool}
use Prim.Native.Nat.{◌-◌}
use lib.ListN.{length}
use Rattle.translate.specs.Whole.{guide_at, walked}
use Rattle.translate.proofs.Going.{Going}
use Rattle.translate.proofs.whole.steps_behind.Given as goal

abbrev pub invariant-loop-p : goal.invariant-loop-p
invariant-loop-p l = Going (guide_at l.guide) (walked (guide_at l.guide) (from_bool l.fn.titled) l.script) l.script l.fn.page l.state l.drained l.p l.i l.w l.page

abbrev pub decreases-loop-p : goal.decreases-loop-p
decreases-loop-p l = length l.script - l.p
