-- `fill` meets its contract: the lines before line i have their samples. Assumes nothing.
use mathlib.Core.Path.{◌≡◌, refl, sym, ap, ◌∙◌}
use mathlib.Core.List.{[]}
use native.Mathlib.Omega.{arith}
use Rattle.machine.specs.Work.{cell_at, takes_in, fill_of}
use Rattle.machine.specs.declared.entries.Entry.{Entry}
use Rattle.machine.proofs.Rows.{took, left_end}
use Rattle.machine.proofs.Placing.{placing-start, placing-on, placed}
use Rattle.machine.proofs.obeying.fill.Goals as goal

none : takes_in [] ≡ 0
unfolding takes_in
none = refl

pub loop-i-init : goal.loop-i-init
loop-i-init c = placing-start c.args.table.now c.args.samples.now c.args.lines

pub loop-i-preserved : goal.loop-i-preserved
loop-i-preserved c =
    let l = c.loop-i in
    let k = took l.table c.args.lines l.i _ c.loop-i-test.true c.entry_at.ensures in
    placing-on c.args.table.now c.args.samples.now c.args.lines l.table l.i l.j l.invariant c.requires.lines_in_bounds.0 c.loop-i-test.true _ k _ c.takes_of-n.ensures _
    (c.filled.ensures ∙ ap (λ (x : Entry). fill_of x (cell_at c.args.samples.now l.j)) (sym c.entry_at.ensures))

pub returns-then-j-takes : goal.returns-then-j-takes
returns-then-j-takes c = let l = c.loop-i in placed c.args.table.now c.args.samples.now c.args.lines l.table l.i l.j l.invariant (omega (arith, c.requires.takes_value, c.if-j-takes.true))

pub returns : goal.returns
returns c = let l = c.loop-i in placed c.args.table.now c.args.samples.now c.args.lines l.table l.i l.j l.invariant (omega (arith, l.invariant.taken, ap takes_in (left_end l.table c.args.lines l.i c.loop-i-test.false), none))
