use Rattle.scopes.proofs.Compacts.{Passed}
use Rattle.scopes.proofs.names.forget_names.Given as goal

abbrev pub invariant-loop-j : goal.invariant-loop-j
invariant-loop-j l = Passed l.initial.bindings l.count l.i l.bindings l.w l.j
