-- `translate_and_run` meets its contract. Assumes nothing.
use mathlib.Core.Path.{sym}
use native.Mathlib.Omega.{arith}
use lib.Seq.{length-take-le}
use Rattle.demand3.proofs.Together.{on-page, accepted-both, refused-both}
use Rattle.demand3.proofs.translate_and_run.Goals as goal

pub slice_bounds-page-end : goal.slice_bounds-page-end
slice_bounds-page-end c = omega (arith, on-page _ _ _ _ c.translate-r.ensures c.if-r-lt-REFUSAL.true, c.translate-r.auto.list)

pub slice_bounds-run-end : goal.slice_bounds-run-end
slice_bounds-run-end c = sym (length-take-le _ c.translate-r.new.list (omega (arith, on-page _ _ _ _ c.translate-r.ensures c.if-r-lt-REFUSAL.true, c.translate-r.auto.list)))

pub returns-then-r-lt-REFUSAL : goal.returns-then-r-lt-REFUSAL
returns-then-r-lt-REFUSAL c = accepted-both _ _ _ _ c.translate-r.ensures c.if-r-lt-REFUSAL.true _ _ (λ n. (c.slice_known-1.given n).fits) _ _ _ c.run.ensures

pub returns : goal.returns
returns c = refused-both _ _ _ _ c.translate-r.ensures (omega arith) c.if-r-lt-REFUSAL.false _ _
