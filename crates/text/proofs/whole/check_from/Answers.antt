-- `check_from` meets its contract: what remains gives the same answer. Assumes nothing.
use mathlib.Core.Path.{sym, ◌∙◌}
use native.Mathlib.Omega.{arith}
use Rattle.rules.specs.Sizes.{base}
use Rattle.text.proofs.Texts.{stopped, script-end, script-late, script-bad, script-on}
use Rattle.text.proofs.whole.check_from.Goals as goal

pub returns-then-i-eq-LINES : goal.returns-then-i-eq-LINES
unfolding base
returns-then-i-eq-LINES c = stopped _ _ c.new.ensures _ (c.loop-p.invariant.0 ∙ script-late base c.args.s.now _ _ c.loop-p-test.true c.if-i-eq-LINES.true)

pub returns-then-is_none : goal.returns-then-is_none
unfolding base
returns-then-is_none c = stopped _ _ c.new-then-is_none.ensures _ (c.loop-p.invariant.0 ∙ script-bad base c.args.s.now _ _ _ c.frame_at-t.ensures c.if-i-eq-LINES.false (c.if-is_none.ensures))

pub loop-p-preserved : goal.loop-p-preserved
unfolding base
loop-p-preserved c = (
  c.loop-p.invariant.0 ∙ script-on base c.args.s.now _ _ _ c.frame_at-t.ensures c.if-i-eq-LINES.false (c.if-is_none.ensures),
  c.frame_at-t.ensures.within,
  omega (arith, c.loop-p.invariant.2, c.if-i-eq-LINES.false),
)

pub returns : goal.returns
returns c = sym (c.loop-p.invariant.0 ∙ script-end base c.args.s.now _ _ c.loop-p-test.false)
