use mathlib.Core.Path.{◌≡◌}
use Prim.Native.Nat.{◌≤◌}
use Rattle.machine.specs.Entries.{entries_of}
use Rattle.machine.specs.Survey.{survey_of}
use Rattle.machine.proofs.Rows.{left}
use Rattle.machine.proofs.survey.scan.Given as goal

abbrev pub invariant-loop-i : goal.invariant-loop-i
invariant-loop-i l = (survey_of l.size 0 0 0 (entries_of l.table 0 l.lines) ≡ survey_of l.size l.i l.loads l.takes (left l.table l.lines l.i)) × (l.loads ≤ l.i) × (l.takes ≤ l.i)
