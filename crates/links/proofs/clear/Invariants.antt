use Rattle.rules.specs.Sizes.{LISTS, SLOTS}
use Rattle.links.proofs.Empty.{Emptied}
use Rattle.links.proofs.clear.Given as goal

abbrev pub invariant-loop-i : goal.invariant-loop-i
invariant-loop-i l = Emptied SLOTS LISTS l.t l.i
