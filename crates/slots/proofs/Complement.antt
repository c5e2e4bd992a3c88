-- The lowest clear bit by the zeros at the low end of the complement, as the language counts them: the same count of trailing ones. Laws over one
-- half, with 64 where every bit is set. Assumes nothing.
use mathlib.Core.Path.{◌≡◌, refl, sym, ap, ◌∙◌}
use mathlib.Core.Bool.{Bool, true, false, not}
use mathlib.Core.Option.{Option}
use Prim.Native.Nat.{ℕ, zero, suc, ◌+◌, ◌-◌, ◌/◌, ◌%◌, ◌^◌, ◌≤◌, ◌<◌}
use native.Mathlib.Omega.{arith}
use lib.Bits.{bit_xor}
use lib.Count.{count_trailing_zeros, under, trailing_le}
use lib.Dec.{eqb, ltb}
use borrow.Author.Tests.{not-true, not-false, eq-eqb, ne_eqb, lt-ltb}
use Rattle.std.specs.Int.{w64, bit_at, trailing_ones}
use Rattle.std.proofs.lemmas.Nat.Bits.{bit_at-lt, bit_at_lowest, bit_at-suc, bit_at_xor, bit_at_ones, bit_at-trailing_ones}
use Rattle.rules.specs.Notation.{or_else}
use Rattle.rules.proofs.Tables.{by_eqb}
use Rattle.slots.specs.Halves.{bit, clear_from}
use Rattle.slots.proofs.Bits.{as_bit}
use Rattle.slots.proofs.Counts.{full-half, lowest-by-count}

-- the least clear place among the n from i on, or i + n
abbrev pub first_clear : (ℕ → Bool) → ℕ → ℕ → ℕ
first_clear p i n = or_else (clear_from p i n) (i + n)

-- a half has a clear bit exactly where it is not full
pub any-clear : (h : ℕ) → h < 2 ^ 64 → not (eqb h (2 ^ 64 - 1)) ≡ ltb (first_clear (bit h) 0 64) 64
any-clear h fits =
    by_eqb h (2 ^ 64 - 1)
    (λ e. ap not (eq-eqb h (2 ^ 64 - 1) e) ∙ sym (ap (λ (o : Option ℕ). ltb (or_else o 64) 64) (full-half h e)))
    (λ n.
    ap not (ne_eqb h (2 ^ 64 - 1) n)
    ∙ sym (ap (λ (o : Option ℕ). ltb (or_else o 64) 64) (lowest-by-count h fits n) ∙ lt-ltb (trailing_ones w64 h) 64 (bit_at-trailing_ones w64 h (omega arith)).0))

-- ---- zeros at the low end: of the complement, the ones of the half

-- r is the least clear place of the n from i on, or i + n
pub record Clear (p : ℕ → Bool) (i n r : ℕ) : Type 0 where
  pub low : i ≤ r
  pub high : r ≤ i + n
  pub before : (j : ℕ) → i ≤ j → j < r → p j ≡ true
  pub here : r < i + n → p r ≡ false

-- the bits below the count are clear
trailing_below : (k n j : ℕ) → j < count_trailing_zeros k n → bit n j ≡ false
unfolding count_trailing_zeros
trailing_below zero n j l = absurd (omega arith)
trailing_below (suc k) n j l = go (n % 2) refl (trailing_below k (n / 2)) j l
  where
    go : (d : ℕ) → n % 2 ≡ d → ((j : ℕ) → j < count_trailing_zeros k (n / 2) → bit (n / 2) j ≡ false)
        → (j : ℕ) → j < under d (count_trailing_zeros k (n / 2)) → bit n j ≡ false
    go zero e rest zero l = as_bit (bit_at_lowest n ∙ e)
    go zero e rest (suc j) l = as_bit (bit_at-suc n j) ∙ rest j (omega arith)
    go (suc d) e rest j l = absurd (omega arith)

-- the bit at the count is set
trailing-here : (k n : ℕ) → count_trailing_zeros k n < k → bit n (count_trailing_zeros k n) ≡ true
unfolding count_trailing_zeros
trailing-here zero n l = absurd (omega arith)
trailing-here (suc k) n l = go (n % 2) refl (trailing-here k (n / 2)) l
  where
    go : (d : ℕ) → n % 2 ≡ d → (count_trailing_zeros k (n / 2) < k → bit (n / 2) (count_trailing_zeros k (n / 2)) ≡ true)
        → under d (count_trailing_zeros k (n / 2)) < suc k → bit n (under d (count_trailing_zeros k (n / 2))) ≡ true
    go zero e rest l = as_bit (bit_at-suc n (count_trailing_zeros k (n / 2))) ∙ rest (omega arith)
    go (suc zero) e rest l = as_bit (bit_at_lowest n ∙ e)
    go (suc (suc d)) e rest l = absurd (omega arith)

turned : (d : ℕ) → d < 2 → eqb ((d + 1) % 2) 1 ≡ not (eqb d 1)
turned zero l = refl
turned (suc zero) l = refl
turned (suc (suc d)) l = absurd (omega arith)

complement : (h j : ℕ) → j < 64 → bit (bit_xor h (2 ^ 64 - 1)) j ≡ not (bit h j)
complement h j l = as_bit (bit_at_xor h (2 ^ 64 - 1) j ∙ ap (λ (d : ℕ). (bit_at h j + d) % 2) (bit_at_ones 64 j l)) ∙ turned (bit_at h j) (bit_at-lt h j)

pub clear-by-count : (h : ℕ) → Clear (bit h) 0 64 (count_trailing_zeros 64 (bit_xor h (2 ^ 64 - 1)))
clear-by-count h =
    let r : ℕ = count_trailing_zeros 64 (bit_xor h (2 ^ 64 - 1)) in
    record {
      low = omega arith;
      high = trailing_le 64 (bit_xor h (2 ^ 64 - 1));
      before = λ j _ l. not-false _ (sym (complement h j (omega (arith, l, trailing_le 64 (bit_xor h (2 ^ 64 - 1))))) ∙ trailing_below 64 (bit_xor h (2 ^ 64 - 1)) j l);
      here = λ l. not-true _ (sym (complement h r l) ∙ trailing-here 64 (bit_xor h (2 ^ 64 - 1)) l);
    }
