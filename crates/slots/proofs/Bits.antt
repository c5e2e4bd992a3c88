-- One half: what a set bit and a cleared bit leave, and that a number is told by its bits. Assumes nothing.
use mathlib.Core.Path.{◌≡◌, refl, sym, ap, ◌∙◌}
use mathlib.Core.Bool.{true, false}
use mathlib.Core.Logic.{by_cases}
use Prim.Native.Nat.{ℕ, zero, suc, ◌*◌, ◌%◌, ◌^◌, ◌<◌}
use native.Mathlib.Decide.{dec_lt}
use native.Mathlib.Omega.{arith}
use lib.Bits.{bit_and, bit_or}
use lib.Dec.{eqb}
use Rattle.std.specs.Int.{w64, bit_at, bit_not}
use Rattle.std.proofs.lemmas.Nat.{and_le_l}
use Rattle.std.proofs.lemmas.Nat.Bits.{bit_at-lt, bit_at_above, bit_at_set_same, bit_at_set_other, bit_at_clear_same, bit_at_clear_other, same_from_bits_below}
use Rattle.rules.specs.Notation.{put}
use Rattle.rules.proofs.Tables.{put-ext}
use Rattle.rules.proofs.Tells.{clash}
use Rattle.slots.specs.Halves.{bit}

-- a digit as a bit
pub as_bit : {x y : ℕ} → x ≡ y → eqb x 1 ≡ eqb y 1
as_bit e = ap (λ (x : ℕ). eqb x 1) e

-- 1 << i, as the machine has it
abbrev one_shl : ℕ → ℕ
one_shl i = 1 * 2 ^ i % 2 ^ 64

module _ (h i : ℕ) (l : i < 64) where
  pub bit-set : bit (bit_or h (one_shl i)) ≡ put (bit h) i true
  bit-set =
      put-ext (bit h) i true (bit (bit_or h (one_shl i))) (as_bit (bit_at_set_same w64 h i l)) (λ j n. as_bit (bit_at_set_other w64 h i l j (λ e. n (sym e))))

  pub bit-clear : h < 2 ^ 64 → bit (bit_and h (bit_not w64 (one_shl i))) ≡ put (bit h) i false
  bit-clear fits =
      put-ext (bit h) i false (bit (bit_and h (bit_not w64 (one_shl i)))) (as_bit (bit_at_clear_same w64 h i l))
      (λ j n. by_cases (dec_lt j 64)
      (λ b. as_bit (bit_at_clear_other w64 h i l j b (λ e. n (sym e))))
      (λ b. as_bit (bit_at_above (bit_and h (bit_not w64 (one_shl i))) 64 j (omega (arith, and_le_l h (bit_not w64 (one_shl i)))) (omega arith) ∙ sym (bit_at_above h 64 j fits (omega arith)))))

digit-eq : (x y : ℕ) → x < 2 → y < 2 → eqb x 1 ≡ eqb y 1 → x ≡ y
digit-eq zero zero p q e = refl
digit-eq zero (suc zero) p q e = clash refl (sym e)
digit-eq (suc zero) zero p q e = clash refl e
digit-eq (suc zero) (suc zero) p q e = refl
digit-eq zero (suc (suc y)) p q e = absurd (omega arith)
digit-eq (suc zero) (suc (suc y)) p q e = absurd (omega arith)
digit-eq (suc (suc x)) y p q e = absurd (omega arith)

-- two halves with the same bits
pub bits-ext : (a b : ℕ) → a < 2 ^ 64 → b < 2 ^ 64 → ((j : ℕ) → j < 64 → bit a j ≡ bit b j) → a ≡ b
bits-ext a b p q e = same_from_bits_below 64 a b p q (λ j l. digit-eq (bit_at a j) (bit_at b j) (bit_at-lt a j) (bit_at-lt b j) (e j l))
