-- The value of a digit by ranges. Assumes nothing.
use mathlib.Core.Path.{◌≡◌, refl}
use mathlib.Core.Logic.{◌⊎◌, inl, inr}
use mathlib.Core.Bool.{Bool, true, false}
use Prim.Native.Nat.{ℕ, ◌+◌, ◌≤◌, ◌<◌, ◌-◌, ◌*◌, ◌/◌, ◌%◌}
use native.Mathlib.Omega.{arith}
use lib.Dec.{ltb}
use borrow.Author.Tests.{lt-ltb, le-ltb, lt-leb, le-leb, ltb-true, ltb-false}
use Rattle.std.specs.declared.option.Option.{Option}
use Rattle.std.specs.declared.option.Option.TheVariants.{Some, None}
use Rattle.rules.specs.Text.{value, digit}
use Rattle.text.specs.Shapes.{pick}
use Rattle.text.specs.Lines.{digit_in}

pub value_low : (x : ℕ) → x < 48 → value x ≡ 16
unfolding value
value_low x h = rw (lt-leb 48 x h, lt-leb 97 x (omega arith), value)

pub value-digit : (x : ℕ) → 48 ≤ x → x ≤ 57 → value x ≡ x - 48
unfolding value
value-digit x h k = rw (le-leb 48 x h, le-leb x 57 k, value)

pub value_mid : (x : ℕ) → 57 < x → x < 97 → value x ≡ 16
unfolding value
value_mid x h k = rw (le-leb 48 x (omega arith), lt-leb x 57 h, lt-leb 97 x k, value)

pub value-letter : (x : ℕ) → 97 ≤ x → x ≤ 102 → value x ≡ x - 87
unfolding value
value-letter x h k = rw (le-leb 48 x (omega arith), lt-leb x 57 (omega arith), le-leb 97 x h, le-leb x 102 k, value)

pub value-high : (x : ℕ) → 102 < x → value x ≡ 16
unfolding value
value-high x h = rw (le-leb 48 x (omega arith), lt-leb x 57 (omega arith), le-leb 97 x (omega arith), lt-leb x 102 h, value)

-- ---- a digit, or none

pub some-digit : (x v : ℕ) → value x ≡ v → v < 16 → Some v ≡ digit_in x
some-digit x v e h = rw (e, lt-ltb v 16 h)

-- computed, once it is none of the other bytes
pub digit-by-halves : (x : ℕ) → 48 ≤ x → x ≤ 102 → ((57 < x) × (97 ≤ x)) ⊎ (x ≤ 57) → Some (x % 16 + x / 64 * 9) ≡ digit_in x
digit-by-halves x l h (inl (_, d)) = let e = value-letter x d h in some-digit x _ (omega (arith, e, d, h)) (omega (arith, d, h))
digit-by-halves x l h (inr d) = let e = value-digit x l d in some-digit x _ (omega (arith, e, l, d)) (omega (arith, l, d))

pub no_digit : (x : ℕ) → value x ≡ 16 → None ≡ digit_in x
no_digit x e = rw e

pub digit-told : (x v : ℕ) → Some v ≡ digit_in x → (v ≡ value x) × (value x < 16)
digit-told x v e = go (ltb (value x) 16) refl e
  where
    go : (b : Bool) → ltb (value x) 16 ≡ b → Some v ≡ pick b (Some (value x)) None → (v ≡ value x) × (value x < 16)
    go true q e = (cc, ltb-true (value x) 16 q)
    go false q e = cc

pub digit-none : (x : ℕ) → None ≡ digit_in x → 16 ≤ value x
digit-none x e = go (ltb (value x) 16) refl e
  where
    go : (b : Bool) → ltb (value x) 16 ≡ b → ◌≡◌ {A = Option ℕ} None (pick b (Some (value x)) None) → 16 ≤ value x
    go true q e = cc
    go false q e = ltb-false (value x) 16 q

pub digit_low : (n : ℕ) → n < 10 → digit n ≡ 48 + n
unfolding digit
digit_low n h = rw (lt-ltb n 10 h, digit)

pub digit-high : (n : ℕ) → 10 ≤ n → digit n ≡ 87 + n
unfolding digit
digit-high n h = rw (le-ltb n 10 h, digit)
