use mathlib.Core.Path.{◌≡◌}
use mathlib.Core.Bool.{true}
use Rattle.rules.specs.Sizes.{LISTS, SLOTS}
use Rattle.soundness.specs.Parts.{Below, Marks, round}
use Rattle.soundness.proofs.rings.rounds.Given as goal

abbrev pub invariant-loop-i : goal.invariant-loop-i
invariant-loop-i l = record { each : Below l.i (λ k. round SLOTS LISTS l.s.links l.s.owner k ≡ true); marks : Marks SLOTS LISTS l.s.links l.i l.marks }
