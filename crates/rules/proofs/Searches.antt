-- What `first` and `past_last` find, both ways. Assumes nothing.
use mathlib.Core.Path.{◌≡◌, refl, sym, ap, subst, ◌∙◌}
use mathlib.Core.Bool.{Bool, true, false, true≢false}
use mathlib.Core.Option.{none, some}
use Prim.Native.Nat.{ℕ, zero, suc, ◌+◌, ◌≤◌, ◌<◌}
use native.Mathlib.Omega.{arith}
use Rattle.rules.specs.Notation.{first, past_last}
use Rattle.rules.proofs.Chains.{none-some}
use Rattle.rules.proofs.Tables.{by_eqb}

module _ (f : ℕ → Bool) where
  -- a is the first place, among the n from i on, that passes
  pub record Least (i n a : ℕ) : Type 0 where
    pub low : i ≤ a
    pub high : a < i + n
    pub before : (j : ℕ) → i ≤ j → j < a → f j ≡ false
    pub passes : f a ≡ true

  pub first_found : (i n a : ℕ) → first f i n ≡ some a → Least i n a
  unfolding first
  first_found i zero a e = none-some e
  first_found i (suc n) a e = go (f i) refl (λ x. first_found (suc i) n a x)
    where
      go : (b : Bool) → f i ≡ b → (first f (suc i) n ≡ some a → Least (suc i) n a) → Least i (suc n) a
      go true p ih =
          let q : some i ≡ some a = rw (p, first) at e in
          let q' : i ≡ a = cc in
          subst (Least i (suc n)) q' (record { low = omega arith; high = omega arith; before = λ j l h. absurd (omega arith); passes = p })
      go false p ih =
          let r = ih (rw (p, first) at e) in
          record {
            low = omega arith;
            high = omega arith;
            before = λ j l h. by_eqb i j (λ q. subst (λ (k : ℕ). f k ≡ false) q p) (λ ne. r.before j (omega (arith, ne)) h);
            passes = r.passes;
          }

  pub first-none : (i n : ℕ) → first f i n ≡ none → (j : ℕ) → i ≤ j → j < i + n → f j ≡ false
  unfolding first
  first-none i zero e j l h = absurd (omega arith)
  first-none i (suc n) e j l h = go (f i) refl (λ x k. first-none (suc i) n x j k (omega arith))
    where
      go : (b : Bool) → f i ≡ b → (first f (suc i) n ≡ none → suc i ≤ j → f j ≡ false) → f j ≡ false
      go true p ih = none-some (sym (rw (p, first) at e))
      go false p ih = by_eqb i j (λ q. subst (λ (k : ℕ). f k ≡ false) q p) (λ ne. ih (rw (p, first) at e) (omega (arith, ne)))

  pub first-is-none : (i n : ℕ) → ((j : ℕ) → i ≤ j → j < i + n → f j ≡ false) → first f i n ≡ none
  unfolding first
  first-is-none i zero h = refl
  first-is-none i (suc n) h = rw (h i (omega arith) (omega arith), first) (first-is-none (suc i) n (λ j l k. h j (omega arith) (omega arith)))

  pub first-is : (i n a : ℕ) → Least i n a → first f i n ≡ some a
  unfolding first
  first-is i zero a l = absurd (omega arith)
  first-is i (suc n) a l =
      by_eqb i a
      (λ e. rw (subst (λ (k : ℕ). f k ≡ true) (sym e) l.passes, first) (ap some e))
      (λ ne.
      rw (l.before i (omega arith) (omega (arith, ne)), first)
      (first-is (suc i) n a (record { low = omega (arith, ne); high = omega arith; before = λ j p q. l.before j (omega arith) q; passes = l.passes })))

  -- m places from i on, and then n from k on
  pub first_on : (i m n k : ℕ) → k ≡ i + m → first f i (n + m) ≡ elim (first f i m) [ some a ↦ some a | none ↦ first f k n ]
  unfolding first
  first_on i zero n k e =
      let d : k ≡ i = omega arith in
      let z : n + 0 ≡ n = omega arith in
      rw (d, z)
  first_on i (suc m) n k e = go (f i) refl (first_on (suc i) m n k (omega arith))
    where
      go : (b : Bool) → f i ≡ b → first f (suc i) (n + m) ≡ elim (first f (suc i) m) [ some a ↦ some a | none ↦ first f k n ]
          → first f i (n + suc m) ≡ elim (first f i (suc m)) [ some a ↦ some a | none ↦ first f k n ]
      go true p ih = let z : n + suc m ≡ suc (n + m) = omega arith in rw (z, p, first)
      go false p ih = let z : n + suc m ≡ suc (n + m) = omega arith in rw (z, p, first) ih

  -- nothing that passes lies at `past_last` or above it, and just below it one does
  pub past-within : (n : ℕ) → past_last f n ≤ n
  unfolding past_last
  past-within zero = omega arith
  past-within (suc n) = go (f n) refl (past-within n)
    where
      go : (x : Bool) → f n ≡ x → past_last f n ≤ n → past_last f (suc n) ≤ suc n
      go true q ih = rw (q, past_last) (omega arith)
      go false q ih = rw (q, past_last) (omega arith)

  pub past-above : (n b : ℕ) → b < n → f b ≡ true → b < past_last f n
  unfolding past_last
  past-above zero b h p = absurd (omega arith)
  past-above (suc n) b h p = go (f n) refl (λ l. past-above n b l p)
    where
      go : (x : Bool) → f n ≡ x → (b < n → b < past_last f n) → b < past_last f (suc n)
      go true q ih = rw (q, past_last) h
      go false q ih = rw (q, past_last) (ih (by_eqb n b (λ e. absurd (true≢false (sym p ∙ subst (λ (c : ℕ). f c ≡ false) e q))) (λ ne. omega (arith, ne))))

  pub past-last : (n m : ℕ) → past_last f n ≡ suc m → f m ≡ true
  unfolding past_last
  past-last zero m e = absurd (omega arith)
  past-last (suc n) m e = go (f n) refl (λ x. past-last n m x)
    where
      go : (x : Bool) → f n ≡ x → (past_last f n ≡ suc m → f m ≡ true) → f m ≡ true
      go true q ih = let r : suc n ≡ suc m = rw (q, past_last) at e in subst (λ (c : ℕ). f c ≡ true) (omega arith) q
      go false q ih = ih (rw (q, past_last) at e)

  -- one past g, where g passes and nothing above it does
  pub past_is : (n g : ℕ) → g < n → f g ≡ true → ((b : ℕ) → g < b → b < n → f b ≡ false) → past_last f n ≡ suc g
  past_is n g l p above = go (past_last f n) refl
    where
      go : (x : ℕ) → past_last f n ≡ x → past_last f n ≡ suc g
      go zero e = absurd (omega (arith, past-above n g l p))
      go (suc k) e =
          by_eqb g k
          (λ q. e ∙ ap suc (sym q))
          (λ ne. absurd (true≢false (sym (past-last n k e) ∙ above k (omega (arith, ne, past-above n g l p)) (omega (arith, past-within n)))))
