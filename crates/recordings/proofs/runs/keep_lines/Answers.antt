-- `keep_lines` meets its contract. Assumes nothing.
use mathlib.Core.Path.{◌≡◌, refl, subst, ◌∙◌}
use Prim.Native.Nat.{ℕ, ◌+◌, ◌*◌, ◌/◌, ◌-◌}
use mathlib.Core.List.{List}
use native.Mathlib.Omega.{arith}
use native.Mathlib.Nat.{add-zero}
use lib.ListN.{length}
use Rattle.recordings.proofs.Turns.{same_here}
use Rattle.recordings.proofs.WholeLines.{Run, run_on, run_end}
use Rattle.recordings.proofs.runs.keep_lines.Goals as goal

start : (part : List ℕ) (p i : ℕ) (m : List ℕ) → Run part p i m (i + 0) (p + 0) m
start part p i m = rw (add-zero, add-zero) (same_here _ _ m)

pub loop-i-init : goal.loop-i-init
loop-i-init c = (start c.args.part.now c.args.from c.args.first c.args.samples.now, refl)

pub returns-in_default : goal.returns-in_default
returns-in_default c = run_end c.args.part.now c.args.from c.args.first _ _ _ _ (omega arith) (omega arith) (omega arith) c.requires.part_bound c.loop-i.invariant.0

pub loop-i-preserved : goal.loop-i-preserved
loop-i-preserved c =
    let l = c.loop-i in
    let e : c.args.first + l.i + 1 ≡ c.args.first + (l.i + 1) = omega arith in
    let f : c.args.from + 7 * l.i + 7 ≡ c.args.from + 7 * (l.i + 1) = omega arith in
    let h = run_on c.args.part.now c.args.from c.args.first _ (c.args.first + l.i) (c.args.from + 7 * l.i) _ _ _ l.invariant.0 (omega (arith, c.requires.part_bound)) (omega arith) c.in-Some.ensures c.keep.ensures in (
      subst (λ (x : ℕ). Run c.args.part.now c.args.from c.args.first c.args.samples.now x (c.args.from + 7 * (l.i + 1)) c.keep.new.samples) e (subst (λ (x : ℕ). Run c.args.part.now c.args.from c.args.first c.args.samples.now (c.args.first + l.i + 1) x c.keep.new.samples) f h),
      c.keep.auto.samples ∙ l.invariant.1,
    )

pub returns : goal.returns
returns c =
    let n : c.loop-i.i ≡ (length c.args.part.now - c.args.from) / 7 = omega arith in
    let m = length c.args.part.now in
    run_end c.args.part.now c.args.from c.args.first _ _ (c.args.from + 7 * ((m - c.args.from) / 7)) _ (omega arith) (omega arith) (omega arith) c.requires.part_bound
    (subst (λ (k : ℕ). Run c.args.part.now c.args.from c.args.first c.args.samples.now (c.args.first + k) (c.args.from + 7 * k) c.loop-i.samples) n c.loop-i.invariant.0)
