use Prim.Native.Nat.{◌*◌}
use Rattle.rules.specs.Tells.{Tells}
use Rattle.slots.proofs.Occupied.{ClearTo}
use Rattle.slots.proofs.halves.none_from.Given as goal

abbrev pub invariant-loop-i : goal.invariant-loop-i
invariant-loop-i l = Tells l.none (ClearTo l.halves (128 * l.from) (64 * l.i))
