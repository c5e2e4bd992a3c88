use Rattle.machine.proofs.Placing.{Placing}
use Rattle.machine.proofs.obeying.fill.Given as goal

abbrev pub invariant-loop-i : goal.invariant-loop-i
invariant-loop-i l = Placing l.initial.table l.samples l.lines l.table l.i l.j
