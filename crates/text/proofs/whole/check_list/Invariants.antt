use mathlib.Core.Path.{◌≡◌}
use Prim.Native.Nat.{◌≤◌, ◌-◌}
use lib.ListN.{length, drop}
use Rattle.rules.specs.Sizes.{base, LINES}
use Rattle.rules.specs.Text.{split, list_from}
use Rattle.text.specs.Whole.{of_listed, listing}
use Rattle.text.proofs.Tabling.{Filling}
use Rattle.text.proofs.whole.check_list.Given as goal

abbrev pub invariant-loop-p : goal.invariant-loop-p
invariant-loop-p l = (listing base l.s ≡ of_listed l.i (list_from base l.i (split (drop l.p l.s)))) × (l.p ≤ length l.s) × (l.i ≤ LINES) × (length l.table ≡ length l.initial.table) × Filling l.s l.table l.p l.i

abbrev pub decreases-loop-p : goal.decreases-loop-p
decreases-loop-p l = length l.s - l.p
