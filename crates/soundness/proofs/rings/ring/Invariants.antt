use Prim.Native.Nat.{◌+◌, ◌-◌}
use Rattle.rules.specs.Sizes.{LISTS, SLOTS}
use Rattle.soundness.proofs.Marked.{Round}
use Rattle.soundness.proofs.rings.ring.Given as goal

abbrev pub invariant-loop-step : goal.invariant-loop-step
invariant-loop-step l = Round SLOTS LISTS l.s.links l.s.owner l.i l.initial.marks (SLOTS + 1 - l._step) l.before l.cell l.marks
