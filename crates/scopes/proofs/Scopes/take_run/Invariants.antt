use Rattle.std.proofs.Common.{◌+◌, max}
use Rattle.scopes.specs.Steps.{roomy}
use Rattle.scopes.proofs.Runs.{Running}
use Rattle.scopes.proofs.Scopes.take_run.Given as goal

abbrev pub invariant-loop-b : goal.invariant-loop-b
invariant-loop-b l = Running (roomy l.initial.self (max l.initial.self.size (l.a + l.many))) l.k l.a l.many (roomy l.self (max l.initial.self.size (l.a + l.many))) l.b
