-- The language's counts of ones and zeros, of one half: which bit each finds. Assumes nothing.
use mathlib.Core.Path.{◌≡◌, refl, sym, ap, subst, ◌∙◌}
use mathlib.Core.Bool.{true, false, not}
use mathlib.Core.Option.{none, some}
use Prim.Native.Nat.{ℕ, suc, ◌+◌, ◌-◌, ◌*◌, ◌/◌, ◌%◌, ◌^◌, ◌≤◌, ◌<◌}
use native.Mathlib.Nat.{pow-suc}
use native.Mathlib.Omega.{arith}
use lib.Arith.{digits_div}
use lib.Count.{count_leading_zeros, leading_length}
use lib.Dec.{eqb, ltb}
use lib.Pow.{pow_pos}
use borrow.Author.Tests.{eq-eqb, ne_eqb, ltb-true, ltb-false}
use Rattle.std.specs.Int.{w64, trailing_ones}
use Rattle.std.proofs.lemmas.Nat.Bits.{bit_at-zero, bit_at_ones, bit_at_above, bit_at-trailing_ones}
use Rattle.rules.specs.Notation.{past_last}
use Rattle.rules.proofs.Tables.{by_eqb}
use Rattle.rules.proofs.Tells.{clash, decided, is_false}
use Rattle.slots.specs.Halves.{bit, clear_from}
use Rattle.slots.proofs.Bits.{as_bit, bits-ext}
use Rattle.slots.proofs.Finds.{Past, past_of, clear-is, full-is}

-- ---- ones at the low end

full-bit : (j : ℕ) → j < 64 → bit (2 ^ 64 - 1) j ≡ true
full-bit j l = as_bit (bit_at_ones 64 j l)

pub full-half : (h : ℕ) → h ≡ 2 ^ 64 - 1 → clear_from (bit h) 0 64 ≡ none
full-half h e = rw e (full-is (bit (2 ^ 64 - 1)) 0 64 (λ j _ l. full-bit j (omega arith)))

pub lowest-by-count : (h : ℕ) → h < 2 ^ 64 → (h ≡ 2 ^ 64 - 1 → ⊥) → clear_from (bit h) 0 64 ≡ some (trailing_ones w64 h)
lowest-by-count h fits ne =
    let q = bit_at-trailing_ones w64 h (omega arith) in
    clear-is (bit h) 0 64 (trailing_ones w64 h) (record { low = omega arith; high = q.0; before = λ j _ l. as_bit (q.2 j l); here = as_bit q.1 })

-- ---- zeros at the high end

pub empty-bit : (j : ℕ) → bit 0 j ≡ false
empty-bit j = as_bit (bit_at-zero j)

-- a half has a set bit exactly where it is not empty
pub any-set : (h : ℕ) → h < 2 ^ 64 → not (eqb h 0) ≡ ltb 0 (past_last (bit h) 64)
any-set h fits =
    let q = past_of (bit h) 64 _ refl in
    let r : ℕ = past_last (bit h) 64 in
    by_eqb h 0
    (λ e. ap not (eq-eqb h 0 e) ∙ sym (is_false (ltb 0 r) (λ t. clash (q.here (r - 1) (omega (arith, ltb-true 0 r t))) (ap (λ (x : ℕ). bit x (r - 1)) e ∙ empty-bit (r - 1)))))
    (λ n. ap not (ne_eqb h 0 n) ∙ sym (decided (ltb 0 r) (λ t. t) (λ f. absurd (n (bits-ext h 0 fits (pow_pos 64) (λ j l. q.after j (omega (arith, ltb-false 0 r f)) l ∙ sym (empty-bit j)))))))

-- the highest bit of a number of j + 1 digits
top_bit : (h j : ℕ) → h < 2 ^ suc j → 2 ^ suc j ≤ 2 * h + 1 → bit h j ≡ true
top_bit h j a b =
    let twice : 2 ^ suc j ≡ 2 ^ j * 2 = pow-suc 2 j in
    let e : h ≡ 1 * 2 ^ j + (h - 2 ^ j) = omega arith in
    as_bit (ap (λ (x : ℕ). x % 2) (ap (λ (x : ℕ). x / 2 ^ j) e ∙ digits_div 1 (omega arith)))

pub past-by-count : (h : ℕ) → h < 2 ^ 64 → Past (bit h) 64 (64 - count_leading_zeros 64 h)
past-by-count h fits =
    let s = leading_length 64 h fits in
    let e : s.0 ≡ 64 - count_leading_zeros 64 h = omega (arith, s.1) in
    subst (Past (bit h) 64) e (record {
      high = omega (arith, s.1);
      after = λ j a _. as_bit (bit_at_above h s.0 j s.2 a);
      here = λ j q. top_bit h j (subst (λ (m : ℕ). h < 2 ^ m) q s.2) (subst (λ (m : ℕ). 2 ^ m ≤ 2 * h + 1) q s.3);
    })
