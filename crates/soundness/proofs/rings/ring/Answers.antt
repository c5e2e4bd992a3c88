-- `rings::ring` meets its contract. Assumes nothing.
use mathlib.Core.Path.{refl}
use Prim.Native.Nat.{◌+◌}
use native.Mathlib.Omega.{arith}
use Rattle.rules.specs.Sizes.{LISTS, SLOTS}
use Rattle.soundness.proofs.Marked.{round-begins, round-on, round-marks, round-long, round-home, round-astray, round-back, round-off}
use Rattle.soundness.proofs.rings.ring.Goals as goal
use Rattle.soundness.proofs.rings.ring.Goals.{then-from-before-via-then-from-before, then-from-before-via-else-from-before+then-from-i}

pub loop-step-init : goal.loop-step-init
loop-step-init c = rw c.from-cell.ensures (round-begins SLOTS LISTS c.args.s.now.links c.args.s.now.owner c.args.i c.args.marks.now (SLOTS + 1) refl)

pub returns-then-cell-end : goal.returns-then-cell-end
returns-then-cell-end c = record {
  value = rw c.from.ensures (round-home c.loop-step.invariant (omega arith) c.if-cell-ge-SLOTS.true c.if-cell-end.true);
  marked = λ _. round-marks c.loop-step.invariant c.if-cell-ge-SLOTS.true;
}

pub returns-else-cell-end-clause-value : goal.returns-else-cell-end-clause-value
returns-else-cell-end-clause-value c = round-astray c.loop-step.invariant (omega arith) c.if-cell-ge-SLOTS.true c.if-cell-end.false

pub returns-then-from-before-clause-value : goal.returns-then-from-before-clause-value
returns-then-from-before-clause-value c = elim c.then-from-before.branch [
  | then-from-before-via-then-from-before w ↦ round-back c.loop-step.invariant (omega arith) c.if-cell-ge-SLOTS.false (rw c.from-in-loop-step.ensures at w.if-from-before.true)
  | then-from-before-via-else-from-before+then-from-i w ↦
      round-off c.loop-step.invariant (omega arith) c.if-cell-ge-SLOTS.false (rw c.from-in-loop-step.ensures at w.if-from-before.false) (rw w.from-else-from-before.ensures at w.if-from-i.true)
]

pub loop-step-preserved : goal.loop-step-preserved
loop-step-preserved c =
    rw c.from-cell-in-loop-step.ensures
    (round-on c.loop-step.invariant _ (omega arith) c.if-cell-ge-SLOTS.false (rw c.from-in-loop-step.ensures at c.if-from-before.false) (rw c.from-else-from-before.ensures at c.if-from-i.false))

pub returns-clause-value : goal.returns-clause-value
returns-clause-value c = round-long c.loop-step.invariant (omega arith)
