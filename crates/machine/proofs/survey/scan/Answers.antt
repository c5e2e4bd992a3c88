-- `scan` meets its contract: what remains gives the same answer. Assumes nothing.
use mathlib.Core.Path.{ap, sym, ◌∙◌}
use native.Mathlib.Omega.{arith}
use Rattle.text.specs.declared.refusal.RefusedAt.{RefusedAt}
use Rattle.text.proofs.Texts.{stopped}
use Rattle.machine.specs.Survey.{survey_of}
use Rattle.machine.proofs.Rows.{took, left-start}
use Rattle.machine.proofs.Tallies.{loads-small, takes-small, survey-end, survey-over, survey-on}
use Rattle.machine.proofs.survey.scan.Goals as goal

pub loop-i-init : goal.loop-i-init
loop-i-init c = (ap (survey_of c.args.size 0 0 0) (sym (left-start c.args.table.now c.args.lines)), omega arith, omega arith)

pub returns-then-over-clause-value : goal.returns-then-over-clause-value
returns-then-over-clause-value c =
    let k = took c.args.table.now _ _ _ c.loop-i-test.true c.entry_at-x.ensures in
    stopped _ _ c.new.ensures _ (c.loop-i.invariant.0 ∙ survey-over c.args.table.now _ _ _ _ _ _ k _ c.over.ensures c.if-over.true)

pub returns-then-over-clause-within : goal.returns-then-over-clause-within
returns-then-over-clause-within c = omega (arith, ap (λ (e : RefusedAt). e.line) c.new.ensures, c.loop-i-test.true, c.requires)

pub loop-i-preserved : goal.loop-i-preserved
loop-i-preserved c =
    let k = took c.args.table.now _ _ _ c.loop-i-test.true c.entry_at-x.ensures in
    let h = loads-small c.entry_at-x.result _ c.loads_of-loads.ensures in
    let m = takes-small c.entry_at-x.result _ c.takes_of-takes.ensures in (
      c.loop-i.invariant.0 ∙ survey-on c.args.table.now _ _ _ _ _ _ k _ c.over.ensures c.if-over.false _ _ c.loads_of-loads.ensures c.takes_of-takes.ensures,
      omega (arith, h, c.loop-i.invariant),
      omega (arith, m, c.loop-i.invariant),
    )

pub returns-clause-value : goal.returns-clause-value
returns-clause-value c = sym (c.loop-i.invariant.0 ∙ survey-end c.args.table.now _ _ _ _ _ c.loop-i-test.false)
