use mathlib.Core.Path.{◌≡◌}
use lib.Seq.{slice}
use Rattle.records.specs.Records.{all_hex}
use Rattle.records.proofs.all_hex.Given as goal

abbrev pub invariant-loop-i : goal.invariant-loop-i
invariant-loop-i l = all_hex (slice l.p l.e l.s) ≡ all_hex (slice l.i l.e l.s)
