use Rattle.soundness.specs.Parts.{Below, Known, RootedAt}
use Rattle.soundness.proofs.parents.rooted.Given as goal

abbrev pub invariant-loop-i : goal.invariant-loop-i
invariant-loop-i l = record { each : Below l.i (RootedAt l.s.live l.s.dangled l.s.parent l.s.number); known : Known l.s.live l.s.parent l.known }
