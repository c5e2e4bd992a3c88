-- A rule of a table of numbers, at all its places by one test that antt computes. Assumes nothing.
use mathlib.Core.Path.{◌≡◌, refl, sym, subst}
use mathlib.Core.Bool.{Bool, true, false, true≢false}
use Prim.Native.Nat.{ℕ, zero, suc, ◌<◌}
use native.Mathlib.Omega.{arith}
use lib.Dec.{eqb}
use borrow.Author.Tests.{eqb-true}
use Rattle.rules.specs.Notation.{all_below}
use Rattle.rules.proofs.Tables.{by_eqb}

-- what passes at every place below n passes at each
pub at : (f : ℕ → Bool) (n : ℕ) → all_below f n ≡ true → (k : ℕ) → k < n → f k ≡ true
unfolding all_below
at f zero t k h = absurd (omega arith)
at f (suc n) t k h = go (f n) refl (λ u l. at f n u k l)
  where
    go : (b : Bool) → f n ≡ b → (all_below f n ≡ true → k < n → f k ≡ true) → f k ≡ true
    go true e ih = by_eqb k n (λ q. subst (λ (m : ℕ). f m ≡ true) (sym q) e) (λ ne. ih (rw (e, all_below) at t) (omega (arith, ne)))
    go false e ih = absurd (true≢false (sym (rw (e, all_below) at t)))

-- two tables of numbers that agree below n
pub same_at : (f g : ℕ → ℕ) (n : ℕ) → all_below (λ k. eqb (f k) (g k)) n ≡ true → (k : ℕ) → k < n → f k ≡ g k
same_at f g n t k h = eqb-true (f k) (g k) (at (λ k. eqb (f k) (g k)) n t k h)
