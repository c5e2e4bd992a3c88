use Rattle.machine.proofs.Doing.{Obeying}
use Rattle.machine.proofs.obeying.obey.Given as goal

abbrev pub invariant-loop-i : goal.invariant-loop-i
invariant-loop-i l = Obeying l.table l.lines l.initial.cells l.initial.out l.i l.w l.cells l.out
