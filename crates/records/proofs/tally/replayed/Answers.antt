-- `replayed` meets its contract. Assumes nothing.
use native.Mathlib.Omega.{arith}
use Rattle.records.proofs.Counting.{count_none, count-end, count-broken, in_row, count-more}
use Rattle.records.proofs.tally.replayed.Goals as goal

pub loop-p-init : goal.loop-p-init
loop-p-init c = count_none _

pub returns-in_default : goal.returns-in_default
returns-in_default c = count-broken _ _ _ c.loop-p.invariant c.loop-p-test.true _ c.record_at.ensures c.in_default.is

pub slice_bounds-agrees-count : goal.slice_bounds-agrees-count
slice_bounds-agrees-count c = let w = in_row _ _ _ c.loop-p.invariant c.loop-p-test.true _ c.record_at.ensures _ c.in-Some.is in omega (arith, w.1)

pub slice_bounds-agrees-start : goal.slice_bounds-agrees-start
slice_bounds-agrees-start c = let w = in_row _ _ _ c.loop-p.invariant c.loop-p-test.true _ c.record_at.ensures _ c.in-Some.is in omega (arith, w.1)

pub slice_bounds-agrees-end : goal.slice_bounds-agrees-end
slice_bounds-agrees-end c = let w = in_row _ _ _ c.loop-p.invariant c.loop-p-test.true _ c.record_at.ensures _ c.in-Some.is in omega (arith, w.2, w.3)

pub slice_bounds-agrees-count-in-loop-p : goal.slice_bounds-agrees-count-in-loop-p
slice_bounds-agrees-count-in-loop-p c = let w = in_row _ _ _ c.loop-p.invariant c.loop-p-test.true _ c.record_at.ensures _ c.in-Some.is in omega (arith, w.2)

pub slice_bounds-agrees-start-in-loop-p : goal.slice_bounds-agrees-start-in-loop-p
slice_bounds-agrees-start-in-loop-p c = let w = in_row _ _ _ c.loop-p.invariant c.loop-p-test.true _ c.record_at.ensures _ c.in-Some.is in omega (arith, w.2)

pub slice_bounds-agrees-end-in-loop-p : goal.slice_bounds-agrees-end-in-loop-p
slice_bounds-agrees-end-in-loop-p c = let w = in_row _ _ _ c.loop-p.invariant c.loop-p-test.true _ c.record_at.ensures _ c.in-Some.is in omega (arith, w.3)

pub counted-t-requires : goal.counted-t-requires
counted-t-requires c = (c.loop-p.invariant.fewer, omega (arith, c.loop-p.invariant.few, c.loop-p.invariant.within, c.loop-p-test.true), c.loop-p.invariant.whole)

pub loop-p-smaller : goal.loop-p-smaller
loop-p-smaller c = let w = in_row _ _ _ c.loop-p.invariant c.loop-p-test.true _ c.record_at.ensures _ c.in-Some.is in omega (arith, w.0, w.1, w.2, w.3)

pub loop-p-preserved : goal.loop-p-preserved
loop-p-preserved c = count-more _ _ _ c.loop-p.invariant c.loop-p-test.true _ c.record_at.ensures _ c.in-Some.is _ c.agrees-equal.ensures _ c.counted-t.ensures

pub returns : goal.returns
returns c = count-end _ _ _ c.loop-p.invariant c.loop-p-test.false
