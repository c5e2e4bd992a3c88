-- `obey` meets its contract. Assumes nothing.
use Rattle.machine.specs.Entries.{entries_of}
use Rattle.machine.proofs.Rows.{left, took, left_end}
use Rattle.machine.proofs.Doing.{obeying-start, doing-reach, doing-room, doing_step, doing-count, doing-cells, doing-out}
use Rattle.machine.proofs.obeying.obey.Goals as goal

pub loop-i-init : goal.loop-i-init
loop-i-init c = obeying-start c.args.table.now c.args.lines c.args.cells.now c.args.out.now c.requires.reaches

pub obey_one-w-requires-clause-reach : goal.obey_one-w-requires-clause-reach
obey_one-w-requires-clause-reach c =
    let k = took c.args.table.now c.args.lines c.loop-i.i _ c.loop-i-test.true c.entry_at.ensures in
    doing-reach (entries_of c.args.table.now 0 c.args.lines) c.args.cells.now c.args.out.now (left c.args.table.now c.args.lines c.loop-i.i) c.loop-i.w c.loop-i.cells c.loop-i.out c.requires.lines_in_bounds_2 c.loop-i.invariant _ _ k.here

pub obey_one-w-requires-clause-x_in_bounds : goal.obey_one-w-requires-clause-x_in_bounds
obey_one-w-requires-clause-x_in_bounds c =
    let k = took c.args.table.now c.args.lines c.loop-i.i _ c.loop-i-test.true c.entry_at.ensures in
    doing-room (entries_of c.args.table.now 0 c.args.lines) c.args.cells.now c.args.out.now (left c.args.table.now c.args.lines c.loop-i.i) c.loop-i.w c.loop-i.cells c.loop-i.out c.requires.lines_in_bounds_2 c.loop-i.invariant _ _ k.here

pub loop-i-preserved : goal.loop-i-preserved
loop-i-preserved c =
    let k = took c.args.table.now c.args.lines c.loop-i.i _ c.loop-i-test.true c.entry_at.ensures in
    doing_step (entries_of c.args.table.now 0 c.args.lines) c.args.cells.now c.args.out.now (left c.args.table.now c.args.lines c.loop-i.i) c.loop-i.w c.loop-i.cells c.loop-i.out c.requires.lines_in_bounds_2 c.loop-i.invariant _ _ k.here _ _ _ (c.obey_one-w.ensures.next, (c.obey_one-w.ensures.stored, c.obey_one-w.ensures.printed)) c.obey_one-w.auto.cells c.obey_one-w.auto.out

pub returns : goal.returns
returns c =
    let e = left_end c.args.table.now c.args.lines c.loop-i.i c.loop-i-test.false in
    record {
      wrote = doing-count (entries_of c.args.table.now 0 c.args.lines) c.args.cells.now c.args.out.now (left c.args.table.now c.args.lines c.loop-i.i) c.loop-i.w c.loop-i.cells c.loop-i.out c.requires.lines_in_bounds_2 c.loop-i.invariant e;
      stored = doing-cells (entries_of c.args.table.now 0 c.args.lines) c.args.cells.now c.args.out.now (left c.args.table.now c.args.lines c.loop-i.i) c.loop-i.w c.loop-i.cells c.loop-i.out c.requires.lines_in_bounds_2 c.loop-i.invariant e;
      printed = doing-out (entries_of c.args.table.now 0 c.args.lines) c.args.cells.now c.args.out.now (left c.args.table.now c.args.lines c.loop-i.i) c.loop-i.w c.loop-i.cells c.loop-i.out c.requires.lines_in_bounds_2 c.loop-i.invariant e;
    }
