-- The lowest index that is free. Assumes nothing.
use Rattle.std.proofs.Common.{not, ap, arith}
use Rattle.scopes.proofs.Tables.{first-here, first-nowhere}
use Rattle.scopes.proofs.Scopes.free_index.Goals as goal

pub returns-then-not-self-i : goal.returns-then-not-self-i
returns-then-not-self-i c = record { is = first-here _ 1 c.loop-i.i c.loop-i.auto.i c.loop-i-test.true c.loop-i.invariant (ap not c.if-not-self-i.true); below = c.loop-i-test.true }

pub returns : goal.returns
returns c = record { is = first-nowhere _ 1 (omega arith) (λ j a b. c.loop-i.invariant j a (omega (arith, c.loop-i-test.false))); below = tt }
