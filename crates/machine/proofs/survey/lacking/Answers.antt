-- `lacking` meets its contract: what remains gives the same answer. Assumes nothing.
use mathlib.Core.Path.{◌≡◌, ap, sym, ◌∙◌}
use native.Mathlib.Omega.{arith}
use Rattle.machine.specs.Survey.{lacking_of}
use Rattle.machine.proofs.Rows.{took, left-start}
use Rattle.machine.proofs.Tallies.{lacking-end, lacking-here, lacking-on}
use Rattle.machine.proofs.survey.lacking.Goals as goal

pub loop-i-init : goal.loop-i-init
loop-i-init c = ap (lacking_of 0 c.args.samples) (sym (left-start c.args.table.now c.args.lines))

pub returns-then-left-n-clause-value : goal.returns-then-left-n-clause-value
returns-then-left-n-clause-value c =
    let k = took c.args.table.now _ _ _ c.loop-i-test.true c.entry_at.ensures in
    sym (c.loop-i.invariant ∙ lacking-here c.args.table.now _ _ _ _ k _ c.takes_of-n.ensures c.if-left-n.true)

pub loop-i-preserved : goal.loop-i-preserved
loop-i-preserved c =
    let k = took c.args.table.now _ _ _ c.loop-i-test.true c.entry_at.ensures in
    c.loop-i.invariant ∙ lacking-on c.args.table.now _ _ _ _ k _ c.takes_of-n.ensures c.if-left-n.false

pub returns-clause-value : goal.returns-clause-value
returns-clause-value c =
    let e : c.loop-i.i ≡ c.args.lines = omega arith in sym (c.loop-i.invariant ∙ lacking-end c.args.table.now _ _ _ c.loop-i-test.false ∙ e)
