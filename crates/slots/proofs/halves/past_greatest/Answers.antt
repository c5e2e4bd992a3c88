-- `halves::past_greatest`. The loop's invariant: every slot from half i on is clear. Assumes nothing.
use mathlib.Core.Path.{refl, sym, ap, ◌∙◌}
use Prim.Native.Nat.{ℕ, ◌+◌, ◌-◌, ◌*◌}
use native.Mathlib.Omega.{arith}
use borrow.Author.Tests.{ltb-true, ltb-false}
use Rattle.slots.proofs.Finds.{seam, past_is}
use Rattle.slots.proofs.Occupied.{down-past, down-here}
use Rattle.slots.proofs.halves.past_greatest.Goals as goal

pub loop-i-init : goal.loop-i-init
loop-i-init c = λ k a b. absurd (omega (arith, a, b))

pub returns-then-has_set : goal.returns-then-has_set
returns-then-has_set c =
    ap (λ (x : ℕ). 64 * (c.loop-i.i - 1) + x) c.past_highest.ensures
    ∙ down-here c.args.halves.now _ _ refl
    _ (omega arith) (λ k a b. c.loop-i.invariant k (omega (arith, a)) b)
    (ltb-true _ _ (sym c.if-has_set.ensures))

pub loop-i-preserved : goal.loop-i-preserved
loop-i-preserved c =
    seam _ _ (64 * c.loop-i.i) _
    (λ k a b. down-past c.args.halves.now _ _ refl (ltb-false _ _ (sym c.if-has_set.ensures)) k a (omega (arith, b)))
    c.loop-i.invariant

pub returns : goal.returns
returns c =
    sym (past_is _ _ _ (record {
      high = omega arith;
      after = λ j a b. c.loop-i.invariant j (omega arith) b;
      here = λ j e. absurd (omega (arith, e));
    }))
