use mathlib.Core.Path.{◌≡◌}
use Prim.Native.Nat.{◌≤◌, ◌-◌}
use lib.ListN.{length, drop}
use Rattle.recordings.specs.Reading.{seen, Same}
use Rattle.recordings.proofs.parts.read_part.Given as goal

abbrev pub invariant-loop-p : goal.invariant-loop-p
invariant-loop-p l = (l.p ≤ length l.part) × Same (seen l.initial.r) l.part l.initial.samples (seen l.r) (drop l.p l.part) l.samples × (length l.samples ≡ length l.initial.samples)

abbrev pub decreases-loop-p : goal.decreases-loop-p
decreases-loop-p l = length l.part - l.p
