-- Counting: how often an address stands on a list, and sums over places, against "exactly one". Assumes nothing.
use mathlib.Core.Path.{◌≡◌, refl, sym, subst, ◌∙◌}
use mathlib.Core.Bool.{true, false}
use mathlib.Core.List.{List, [], ◌∷◌}
use Prim.Native.Nat.{ℕ, zero, suc, ◌+◌, ◌≤◌, ◌<◌}
use native.Mathlib.Omega.{arith}
use lib.Dec.{ltb}
use borrow.Author.Tests.{eq-eqb, ne_eqb, ltb-true, ltb-false}
use Rattle.rules.specs.AddressSets.{member}
use Rattle.rules.specs.Sound.{sum_below, times}
use Rattle.rules.proofs.Tables.{by_eqb}
use Rattle.rules.proofs.Sets.{member-same, member-skip, member-cons, Once, once-nil, once}
use Rattle.rules.proofs.Tells.{clash, decided, is_false}

-- ---- on a list

times-same : (a : ℕ) (l : List ℕ) → times a (a ∷ l) ≡ suc (times a l)
unfolding times
times-same a l = rw (eq-eqb a a refl, times) (omega arith)

times-skip : (a b : ℕ) (l : List ℕ) → (a ≡ b → ⊥) → times a (b ∷ l) ≡ times a l
unfolding times
times-skip a b l ne = rw (ne_eqb a b ne, times) (omega arith)

pub times-member : (a : ℕ) (l : List ℕ) → member a l ≡ true → 1 ≤ times a l
unfolding member
times-member a [] p = clash p refl
times-member a (b ∷ l) p =
    member-cons a b l p
    (λ e. subst (λ (c : ℕ). 1 ≤ times a (c ∷ l)) e (omega (arith, times-same a l)))
    (λ q. by_eqb a b
    (λ e. subst (λ (c : ℕ). 1 ≤ times a (c ∷ l)) e (omega (arith, times-same a l)))
    (λ ne. omega (arith, times-skip a b l ne, times-member a l q)))

pub times_none : (a : ℕ) (l : List ℕ) → member a l ≡ false → times a l ≡ 0
unfolding times
times_none a [] n = refl
times_none a (b ∷ l) n =
    by_eqb a b
    (λ e. clash (subst (λ (c : ℕ). member a (c ∷ l) ≡ true) e (member-same a l)) n)
    (λ ne. times-skip a b l ne ∙ times_none a l (sym (member-skip a b l ne) ∙ n))

pub times-once : (a : ℕ) {l : List ℕ} → Once l → times a l ≤ 1
unfolding times
times-once a once-nil = omega arith
times-once a (once {a = b} {l = l} n o) =
    by_eqb a b
    (λ e. subst (λ (c : ℕ). times c (b ∷ l) ≤ 1) (sym e) (omega (arith, times-same b l, times_none b l n)))
    (λ ne. omega (arith, times-skip a b l ne, times-once a o))

pub once-times : (l : List ℕ) → ((a : ℕ) → times a l ≤ 1) → Once l
once-times [] t = once-nil
once-times (b ∷ l) t =
    once
    (is_false (member b l) (λ p. absurd (omega (arith, t b, times-same b l, times-member b l p))))
    (once-times l (λ a. by_eqb a b (λ e. subst (λ (c : ℕ). times c l ≤ 1) (sym e) (omega (arith, t b, times-same b l))) (λ ne. omega (arith, t a, times-skip a b l ne))))

-- ---- over places

module _ (f : ℕ → ℕ) where
  pub sum-suc : (n : ℕ) → sum_below f (suc n) ≡ sum_below f n + f n
  unfolding sum_below
  sum-suc n = refl

  pub sum-zero : sum_below f 0 ≡ 0
  unfolding sum_below
  sum-zero = refl

  pub sum-none : (n : ℕ) → ((i : ℕ) → i < n → f i ≡ 0) → sum_below f n ≡ 0
  sum-none zero h = sum-zero
  sum-none (suc n) h = omega (arith, sum-suc n, sum-none n (λ i l. h i (omega arith)), h n (omega arith))

  -- only place i counts
  pub sum-only : (n i : ℕ) → i < n → ((j : ℕ) → j < n → (j ≡ i → ⊥) → f j ≡ 0) → sum_below f n ≡ f i
  sum-only zero i l h = absurd (omega arith)
  sum-only (suc n) i l h =
      by_eqb n i
      (λ e. sum-suc n ∙ rw (sum-none n (λ j q. h j (omega arith) (λ r. absurd (omega arith)))) (subst (λ (k : ℕ). 0 + f n ≡ f k) e (omega arith)))
      (λ ne. omega (arith, sum-suc n, h n (omega arith) ne, sum-only n i (omega (arith, ne)) (λ j q r. h j (omega arith) r)))

  pub sum-at : (n i : ℕ) → i < n → f i ≤ sum_below f n
  sum-at zero i l = absurd (omega arith)
  sum-at (suc n) i l =
      by_eqb n i
      (λ e. subst (λ (k : ℕ). f k ≤ sum_below f (suc n)) e (omega (arith, sum-suc n)))
      (λ ne. omega (arith, sum-suc n, sum-at n i (omega (arith, ne))))

  -- two places that count
  sum-pair : (n i j : ℕ) → i < j → j < n → f i + f j ≤ sum_below f n
  sum-pair zero i j l m = absurd (omega arith)
  sum-pair (suc n) i j l m =
      by_eqb n j
      (λ e. subst (λ (k : ℕ). f i + f k ≤ sum_below f (suc n)) e (omega (arith, sum-suc n, sum-at n i (omega arith))))
      (λ ne. omega (arith, sum-suc n, sum-pair n i j l (omega (arith, ne))))

  -- where the sum is at most one, no two places count
  pub sum-single : (n i j : ℕ) → sum_below f n ≤ 1 → i < n → j < n → 1 ≤ f i → 1 ≤ f j → i ≡ j
  sum-single n i j most l m p q =
      by_eqb i j (λ e. e)
      (λ ne. absurd (decided (ltb i j)
      (λ h. omega (arith, ltb-true i j h, sum-pair n i j (ltb-true i j h) m))
      (λ h. omega (arith, sum-pair n j i (omega (arith, ne, ltb-false i j h)) l))))

  -- some place counts
  pub record Place (n : ℕ) : Type 0 where
    pub at : ℕ
    pub below : at < n
    pub counts : 1 ≤ f at

  pub sum-some : (n : ℕ) → 1 ≤ sum_below f n → Place n
  sum-some zero h = absurd (omega (arith, sum-zero))
  sum-some (suc n) h = go (f n) refl (sum-some n)
    where
      go : (x : ℕ) → f n ≡ x → (1 ≤ sum_below f n → Place n) → Place (suc n)
      go zero e ih = let r = ih (omega (arith, sum-suc n)) in record { at = r.at; below = omega (arith, r.below); counts = r.counts }
      go (suc x) e ih = record { at = n; below = omega arith; counts = omega arith }
