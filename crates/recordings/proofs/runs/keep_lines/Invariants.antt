use mathlib.Core.Path.{◌≡◌}
use Prim.Native.Nat.{◌+◌, ◌*◌}
use lib.ListN.{length}
use Rattle.recordings.proofs.WholeLines.{Run}
use Rattle.recordings.proofs.runs.keep_lines.Given as goal

abbrev pub invariant-loop-i : goal.invariant-loop-i
invariant-loop-i l = Run l.part l.from l.first l.initial.samples (l.first + l.i) (l.from + 7 * l.i) l.samples × (length l.samples ≡ length l.initial.samples)
