use mathlib.Core.Path.{◌≡◌}
use Rattle.machine.specs.Entries.{entries_of}
use Rattle.machine.specs.Survey.{lacking_of}
use Rattle.machine.proofs.Rows.{left}
use Rattle.machine.proofs.survey.lacking.Given as goal

abbrev pub invariant-loop-i : goal.invariant-loop-i
invariant-loop-i l = lacking_of 0 l.samples (entries_of l.table 0 l.lines) ≡ lacking_of l.i l.left (left l.table l.lines l.i)
