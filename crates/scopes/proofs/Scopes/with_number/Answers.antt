-- The lowest live scope with a number. Assumes nothing.
use Rattle.std.proofs.Common.{arith}
use Rattle.scopes.proofs.Finds.{by-number-here, by-number-none}
use Rattle.scopes.proofs.Scopes.with_number.Goals as goal

pub returns-then-self-i-2 : goal.returns-then-self-i-2
returns-then-self-i-2 c = record { is = by-number-here c.args.self.now c.args.n c.loop-i.i c.loop-i-test.true c.loop-i.invariant c.if-self-i.true c.if-self-i-2.true; lives = (c.loop-i-test.true, c.if-self-i.true) }

pub returns : goal.returns
returns c = record { is = by-number-none c.args.self.now c.args.n (λ j a b. c.loop-i.invariant j a (omega (arith, c.loop-i-test.false))); lives = tt }
