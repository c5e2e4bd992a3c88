-- `steps_behind` meets its contract: `Going` holds before each frame. Assumes nothing.
use Rattle.std.specs.Prelude.{Ok, Err}
use Rattle.std.specs.Int.{from_bool}
use mathlib.Core.Path.{refl}
use mathlib.Core.Logic.{inl, inr}
use native.Mathlib.Omega.{arith}
use borrow.Author.Rules.{rules}
use Rattle.rules.specs.Sizes.{base}
use Rattle.translate.specs.Whole.{guide_at}
use Rattle.translate.proofs.Going.{going-fresh, going-late, going-bad, going-stop, goes_on, going_end}
use Rattle.translate.proofs.whole.steps_behind.Goals as goal

pub loop-p-init : goal.loop-p-init
loop-p-init c =
    going-fresh (guide_at c.args.guide) c.args.script.now c.args.page.now c.put_title-w.new.page (from_bool c.args.titled) c.put_title-w.result c.requires.1 c.requires.0
    _ (record { fresh = c.begin.ensures.0; whole = c.begin.ensures.1; handles = c.blank-state.ensures.1; needs = c.blank-state.ensures.2 })
    _ (search rules) c.from-i.result (search rules) c.put_title-w.ensures.value c.put_title-w.ensures.puts c.put_title-w.auto.page

pub returns-then-i-eq-LINES : goal.returns-then-i-eq-LINES
returns-then-i-eq-LINES c = rw c.new.ensures (inl (going-late _ _ _ _ _ _ _ _ _ _ c.loop-p.invariant c.loop-p-test.true c.if-i-eq-LINES.true))

pub returns-in_default : goal.returns-in_default
returns-in_default c = rw c.new-in_default.ensures (inl (going-bad _ _ _ _ _ _ _ _ _ _ c.loop-p.invariant c.frame_at-t.result c.frame_at-t.ensures c.if-i-eq-LINES.false c.in_default.is))

pub returns-in-Err : goal.returns-in-Err
returns-in-Err c =
    inl
    (going-stop _ _ _ _ _ _ _ _ _ _ c.loop-p.invariant c.frame_at-t.result c.in-Some.f _ (Err c.in-Err.e) c.step.new.script c.step.new.drained
    (record { took = c.frame_at-t.ensures; early = c.if-i-eq-LINES.false; is = c.in-Some.is; placed = c.place_at.ensures; works = c.in-Err.ensures.steps_on })
    c.in-Err.e refl c.stopped.result c.stopped.ensures)

pub longest-requires : goal.longest-requires
longest-requires c =
    (goes_on _ _ _ _ _ _ _ _ _ _ c.loop-p.invariant c.frame_at-t.result c.in-Some.f _ (Ok c.in-Ok.adds) c.step.new.script c.step.new.drained
    (record { took = c.frame_at-t.ensures; early = c.if-i-eq-LINES.false; is = c.in-Some.is; placed = c.place_at.ensures; works = c.in-Ok.ensures.steps_on })
    c.in-Ok.adds refl).bounds

pub returns-then-page-longest : goal.returns-then-page-longest
returns-then-page-longest c =
    let h =
    goes_on _ _ _ _ _ _ _ _ _ _ c.loop-p.invariant c.frame_at-t.result c.in-Some.f _ (Ok c.in-Ok.adds) c.step.new.script c.step.new.drained
    (record { took = c.frame_at-t.ensures; early = c.if-i-eq-LINES.false; is = c.in-Some.is; placed = c.place_at.ensures; works = c.in-Ok.ensures.steps_on })
    c.in-Ok.adds refl in
    inr (h.outgrown (omega (arith, c.if-page-longest.true, c.longest.ensures)), c.new-then-page-longest.ensures)

pub put_adds-w-requires : goal.put_adds-w-requires
put_adds-w-requires c =
    let h =
    goes_on _ _ _ _ _ _ _ _ _ _ c.loop-p.invariant c.frame_at-t.result c.in-Some.f _ (Ok c.in-Ok.adds) c.step.new.script c.step.new.drained
    (record { took = c.frame_at-t.ensures; early = c.if-i-eq-LINES.false; is = c.in-Some.is; placed = c.place_at.ensures; works = c.in-Ok.ensures.steps_on })
    c.in-Ok.adds refl in
    (h.few, h.room (omega (arith, c.if-page-longest.false, c.longest.ensures)))

pub loop-p-preserved : goal.loop-p-preserved
loop-p-preserved c =
    let h =
    goes_on _ _ _ _ _ _ _ _ _ _ c.loop-p.invariant c.frame_at-t.result c.in-Some.f _ (Ok c.in-Ok.adds) c.step.new.script c.step.new.drained
    (record { took = c.frame_at-t.ensures; early = c.if-i-eq-LINES.false; is = c.in-Some.is; placed = c.place_at.ensures; works = c.in-Ok.ensures.steps_on })
    c.in-Ok.adds refl in
    h.on (omega (arith, c.if-page-longest.false, c.longest.ensures)) c.in-Ok.ensures.drained_len _ _ c.put_adds-w.auto.page c.put_adds-w.ensures.value c.put_adds-w.ensures.puts

pub returns : goal.returns
unfolding base
returns c = going_end _ _ _ _ _ _ _ _ _ _ c.loop-p.invariant c.loop-p-test.false _ _ c.put_size-bytes.ensures.value c.put_size-bytes.auto.out c.put_size-bytes.ensures.out_after
