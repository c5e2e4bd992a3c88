-- `halves::first_clear`. The loop's invariant: every slot from segment `from` up to half i is occupied. Assumes nothing.
use mathlib.Core.Path.{sym}
use native.Mathlib.Omega.{arith}
use Rattle.slots.proofs.Finds.{seam, full-is}
use Rattle.slots.proofs.Occupied.{up-past, up-here}
use Rattle.slots.proofs.halves.first_clear.Goals as goal

pub loop-i-init : goal.loop-i-init
loop-i-init c = λ k a b. absurd (omega (arith, a, b))

pub returns-in-Some : goal.returns-in-Some
returns-in-Some c = sym (up-here c.args.halves.now c.loop-i.i c.in-Some.j _ _ (sym c.in-Some.ensures) (omega arith) (omega arith) c.loop-i.invariant)

pub loop-i-preserved : goal.loop-i-preserved
loop-i-preserved c = seam _ _ _ _ c.loop-i.invariant (up-past c.args.halves.now c.loop-i.i (sym c.in_default.ensures))

pub returns : goal.returns
returns c = sym (full-is _ _ _ (λ j a b. c.loop-i.invariant j a (omega (arith, b))))
