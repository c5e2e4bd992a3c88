-- `digits_one_by_one` meets its contract. Assumes nothing.
use mathlib.Core.Path.{◌≡◌, refl, sym, ◌∙◌}
use Prim.Native.Nat.{ℕ, ◌+◌, ◌≤◌, ◌<◌}
use native.Mathlib.Omega.{arith}
use mathlib.Core.Bool.{Bool, true, false}
use mathlib.Core.List.{List}
use lib.Dec.{ltb}
use lib.ListN.{get_or}
use borrow.Author.Count.{below_more}
use borrow.Author.Tests.{ltb-true, ltb-false}
use Rattle.rules.specs.Text.{value}
use Rattle.text.proofs.Values.{digit-told, digit-none}
use Rattle.text.proofs.Numbers.{shifted_start, shifted-below, shifted-out, shifted-small, shifted-on, number-rest}
use Rattle.text.proofs.lines.digits_one_by_one.Goals.{then-s-p-lt10, else-s-p-lt10}
use Rattle.text.proofs.lines.digits_one_by_one.Goals as goal

-- the digits before e
all-before : (s : List ℕ) (p e f : ℕ) → ((k : ℕ) → p ≤ k → k < e → value (get_or s k 0) < 16) → ((k : ℕ) → e ≤ k → k < f → value (get_or s k 0) < 16) → (k : ℕ) → p ≤ k → k < f → value (get_or s k 0) < 16
all-before s p e f a b k l m = go (ltb k e) refl
  where
    go : (x : Bool) → ltb k e ≡ x → value (get_or s k 0) < 16
    go true q = a k l (ltb-true k e q)
    go false q = b k (ltb-false k e q) m

pub loop-e-init : goal.loop-e-init
loop-e-init c = (λ k a b. absurd (omega (arith, a, b)), shifted_start c.args.s.now c.args.p)

pub returns-in_default : goal.returns-in_default
returns-in_default c =
    let i = c.loop-e.invariant in
    record {
      from = omega arith;
      to = omega arith;
      all = i.0;
      stop = λ h. digit-none _ c.in_default.ensures;
      number_is = shifted-out c.args.s.now c.args.p _ _ i.1;
      below = omega (arith, shifted-out c.args.s.now c.args.p _ _ i.1, shifted-below c.args.s.now c.args.p _ _ i.1);
    }

pub overflow_mul-number : goal.overflow_mul-number
overflow_mul-number c = omega (arith, shifted-small c.args.s.now c.args.p _ _ c.loop-e.invariant.1)

pub overflow_add-number : goal.overflow_add-number
overflow_add-number c = omega (arith, digit-told _ _ c.in-Some.ensures, shifted-small c.args.s.now c.args.p _ _ c.loop-e.invariant.1)

pub loop-e-preserved : goal.loop-e-preserved
loop-e-preserved c =
    let l = c.loop-e in
    let i = l.invariant in
    let v = digit-told _ _ c.in-Some.ensures in (
      λ k b m. below_more (λ k. c.args.p ≤ k → value (get_or c.args.s.now k 0) < 16) l.e (λ k m b. i.0 k b m) (λ b. v.1) k m b,
      shifted-on c.args.s.now c.args.p l.e _ _ (omega arith) (omega arith) i.1 (omega (arith, v)) (omega (arith, v)),
    )

pub returns : goal.returns
returns c =
    let i = c.loop-e.invariant in
    let d = c.digits_end.ensures in
    let from : c.args.p ≤ c.if-s-p-lt10.stop
    = elim c.if-s-p-lt10.branch [ then-s-p-lt10 w ↦ omega (arith, w.stop-is) | else-s-p-lt10 w ↦ omega (arith, w.stop-is) ] in
    let stop : c.if-s-p-lt10.stop ≡ c.loop-e.e = omega (arith, from) in
    let full : c.loop-e.e < c.digits_end.result → c.loop-e.e ≡ c.args.p + 10
    = λ h. elim c.if-s-p-lt10.branch [ then-s-p-lt10 w ↦ omega (arith, h, d.to, stop, w.stop-is) | else-s-p-lt10 w ↦ omega (arith, stop, w.stop-is) ] in
    let same = number-rest c.args.s.now c.args.p c.loop-e.e _ (omega arith) (omega (arith, d.from, stop)) full in
    rw stop
    (record {
      from = omega (arith, d.from);
      to = d.to;
      all = all-before c.args.s.now c.args.p c.loop-e.e _ i.0 (rw stop at d.all);
      stop = d.stop;
      number_is = shifted-out c.args.s.now c.args.p _ _ i.1 ∙ sym same;
      below = omega (arith, shifted-out c.args.s.now c.args.p _ _ i.1, shifted-below c.args.s.now c.args.p _ _ i.1);
    })
