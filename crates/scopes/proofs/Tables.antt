-- Tables, searches and tests in the forms that the operations meet. Assumes nothing.
use Rattle.std.proofs.Common.{◌≡◌, ℕ, ◌+◌, ◌-◌, ◌<◌, ◌≤◌, Bool, true, false, ◌&&◌, ◌||◌, ◌≢◌, sym, refl, ap, ◌∙◌, true≢false, arith}
use mathlib.Core.Logic.{by_cases}
use mathlib.Core.Option.{Option, none, some}
use native.Mathlib.Decide.{ℕ_discrete}
use Rattle.rules.specs.Sizes.{SCOPES}
use Rattle.rules.specs.Notation.{put, first, is_some}
use Rattle.rules.proofs.Tables as rules
use Rattle.rules.proofs.Tables.{put_same, put_other}
use Rattle.rules.proofs.Searches.{first-is, first-is-none, first_on}

pub and_left : (a b : Bool) → (a && b) ≡ true → a ≡ true
and_left true b e = refl
and_left false b e = e

pub and_right : (a b : Bool) → (a && b) ≡ true → b ≡ true
and_right true b e = e
and_right false b e = absurd (true≢false (sym e))

pub and_both : (a b : Bool) → a ≡ true → b ≡ true → (a && b) ≡ true
and_both a b p q = rw (p, q)

pub and-false : (a : Bool) → (a && false) ≡ false
and-false true = refl
and-false false = refl

-- a table that is f but for x at i
pub put-ext : {A : Type 0} (f g : ℕ → A) (i : ℕ) (x : A) → g i ≡ x → ((j : ℕ) → j ≢ i → g j ≡ f j) → g ≡ put f i x
put-ext f g i x same other = rules.put-ext f i x g same (λ j n. other j (λ e. n (sym e)))

-- a change that changes nothing, and a second one at the same place
pub put-nothing : {A : Type 0} (f : ℕ → A) (i : ℕ) (x : A) → f i ≡ x → put f i x ≡ f
put-nothing f i x e = sym (put-ext f f i x e (λ j n. refl))

pub put-again : {A : Type 0} (f : ℕ → A) (i : ℕ) (x y : A) → put (put f i x) i y ≡ put f i y
put-again f i x y = put-ext f (put (put f i x) i y) i y (put_same (put f i x) i y) (λ j n. put_other (put f i x) i y j (λ e. n (sym e)) ∙ put_other f i x j (λ e. n (sym e)))

-- ---- the first below SCOPES that passes

-- one place more is passed
pub more : (f : ℕ → Bool) (i : ℕ) (k : ℕ) → ((j : ℕ) → k ≤ j → j < i → f j ≡ false) → f i ≡ false → (j : ℕ) → k ≤ j → j < i + 1 → f j ≡ false
more f i k h e j a l = by_cases (ℕ_discrete j i) (λ q. rw q e) (λ q. h j a (omega arith))

module _ (f : ℕ → Bool) (k : ℕ) where
  pub first-here : (i : ℕ) → k ≤ i → i < SCOPES → ((j : ℕ) → k ≤ j → j < i → f j ≡ false) → f i ≡ true → some i ≡ first f k (SCOPES - k)
  first-here i l h before e = sym (first-is f k (SCOPES - k) i (record { low = l; high = omega arith; before = before; passes = e }))

  pub first-nowhere : k ≤ SCOPES → ((j : ℕ) → k ≤ j → j < SCOPES → f j ≡ false) → none ≡ first f k (SCOPES - k)
  first-nowhere hk before = sym (first-is-none f k (SCOPES - k) (λ j a b. before j a (omega arith)))

-- ---- whether one below n passes

pub none_is : {A : Type 0} (o : Option A) → is_some o ≡ false → o ≡ none
none_is none e = refl
none_is (some a) e = absurd (true≢false e)

pub any-more : (f : ℕ → Bool) (n : ℕ) → is_some (first f 0 (n + 1)) ≡ (is_some (first f 0 n) || f n)
unfolding first
any-more f n = let e : n + 1 ≡ 1 + n = omega arith in ap (λ (k : ℕ). is_some (first f 0 k)) e ∙ ap is_some (first_on f 0 n 1 n (omega arith)) ∙ either (first f 0 n)
  where
    here : (b : Bool) → f n ≡ b → is_some (first f n 1) ≡ f n
    here true q = rw (q, first)
    here false q = rw (q, first)

    either : (o : Option ℕ) → is_some {A = ℕ} (elim o [ some a ↦ some a | none ↦ first f n 1 ]) ≡ (is_some o || f n)
    either (some a) = refl
    either none = here (f n) refl
