-- `clear_from` and `past_last`: each gives the one number with the properties that its name says. Assumes nothing.
use mathlib.Core.Path.{◌≡◌, refl, sym, ap, subst, ◌∙◌}
use mathlib.Core.Bool.{Bool, true, false, not}
use mathlib.Core.Logic.{by_cases}
use mathlib.Core.Option.{none, some}
use Prim.Native.Nat.{ℕ, zero, suc, ◌+◌, ◌≤◌, ◌<◌}
use native.Mathlib.Decide.{dec_lt}
use native.Mathlib.Omega.{arith}
use borrow.Author.Tests.{not-true, not-false}
use Rattle.rules.specs.Notation.{past_last}
use Rattle.rules.proofs.Searches.{first_found, first-none, first-is, first-is-none, past-within, past-above, past-last}
use Rattle.rules.proofs.Tells.{clash, decided}
use Rattle.slots.specs.Halves.{clear_from}

-- what holds from a to b and from b to c holds from a to c
pub seam : (P : ℕ → Type 0) (a b c : ℕ) → ((k : ℕ) → a ≤ k → k < b → P k) → ((k : ℕ) → b ≤ k → k < c → P k) → (k : ℕ) → a ≤ k → k < c → P k
seam P a b c f g k l h = by_cases (dec_lt k b) (f k l) (λ n. g k (omega arith) h)

-- what holds at one place
pub at_one : (P : ℕ → Type 0) (a b : ℕ) → b ≤ a + 1 → P a → (k : ℕ) → a ≤ k → k < b → P k
at_one P a b t here k l h = let e : a ≡ k = omega arith in subst P e here

module _ (p : ℕ → Bool) where
  -- a is the least clear place of the n from i on
  pub record LeastClear (i n a : ℕ) : Type 0 where
    pub low : i ≤ a
    pub high : a < i + n
    pub before : (j : ℕ) → i ≤ j → j < a → p j ≡ true
    pub here : p a ≡ false

  -- r is one past the last place below n that passes, or 0
  pub record Past (n r : ℕ) : Type 0 where
    pub high : r ≤ n
    pub after : (j : ℕ) → r ≤ j → j < n → p j ≡ false
    pub here : (j : ℕ) → r ≡ suc j → p j ≡ true

  abbrev clear : ℕ → Bool
  clear j = not (p j)

  module _ (i n : ℕ) where
    pub clear-is : (a : ℕ) → LeastClear i n a → clear_from p i n ≡ some a
    clear-is a q = first-is clear i n a (record { low = q.low; high = q.high; before = λ j l h. ap not (q.before j l h); passes = ap not q.here })

    pub clear_of : (a : ℕ) → clear_from p i n ≡ some a → LeastClear i n a
    clear_of a e =
        let q = first_found clear i n a e in
        record { low = q.low; high = q.high; before = λ j l h. not-false _ (q.before j l h); here = not-true _ q.passes }

    pub full-is : ((j : ℕ) → i ≤ j → j < i + n → p j ≡ true) → clear_from p i n ≡ none
    full-is f = first-is-none clear i n (λ j l h. ap not (f j l h))

    pub full_of : clear_from p i n ≡ none → (j : ℕ) → i ≤ j → j < i + n → p j ≡ true
    full_of e j l h = not-false _ (first-none clear i n e j l h)

  pub past_of : (n r : ℕ) → r ≡ past_last p n → Past n r
  past_of n r e =
      record {
        high = omega (arith, past-within p n);
        after = λ j a b. decided (p j) (λ t. absurd (omega (arith, past-above p n j b t))) (λ f. f);
        here = λ j q. past-last p n j (sym e ∙ q);
      }

  pub past_is : (n r : ℕ) → Past n r → past_last p n ≡ r
  past_is n r q = go (past_last p n) (past_of n (past_last p n) refl)
    where
      -- neither of two such numbers is above the other
      most : (g r : ℕ) → Past n g → Past n r → g ≤ r
      most zero r x y = omega arith
      most (suc g) r x y = by_cases (dec_lt g r) (λ l. l) (λ l. clash (x.here g refl) (y.after g (omega arith) (omega (arith, x.high))))

      go : (g : ℕ) → Past n g → g ≡ r
      go g x = omega (arith, most g r x q, most r g q x)
