use native.Mathlib.Omega.{arith}
use mathlib.Core.Path.{sym, ◌∙◌}
use Rattle.handles.proofs.NeedTables.{belongs-all, belongs-here, belongs-next, belongs-none, belongs-nobody}
use Rattle.handles.proofs.remembered.Needs.belongs.Goals as goal

pub returns-then-not-is_remembered : goal.returns-then-not-is_remembered
returns-then-not-is_remembered c = sym (belongs-nobody c.args.self.now c.args.h.0 (λ j l e. c.is_remembered.ensures c.if-not-is_remembered.true j (omega (arith, l, c.requires)) e))

pub loop-i-init : goal.loop-i-init
loop-i-init c = belongs-all c.args.self.now c.args.h.0

pub returns-then-is_its : goal.returns-then-is_its
returns-then-is_its c = sym (belongs-here c.args.self.now c.args.h.0 c.loop-i.i c.loop-i-test.true c.loop-i.invariant (sym c.is_its.ensures ∙ c.if-is_its.true))

pub loop-i-preserved : goal.loop-i-preserved
loop-i-preserved c = belongs-next c.args.self.now c.args.h.0 c.loop-i.i c.loop-i-test.true c.loop-i.invariant (sym c.is_its.ensures ∙ c.if-is_its.false)

pub returns : goal.returns
returns c = sym (belongs-none c.args.self.now c.args.h.0 c.loop-i.i c.loop-i-test.false c.loop-i.invariant)
