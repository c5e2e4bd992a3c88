-- A record by its tests: its head, then its two lengths. Assumes nothing.
use mathlib.Core.Path.{◌≡◌, refl, sym, ap, subst, ◌∙◌}
use mathlib.Core.Bool.{Bool, true, false, not}
use mathlib.Core.List.{List}
use Prim.Native.Nat.{ℕ, ◌+◌, ◌-◌, ◌≤◌, ◌<◌}
use native.Mathlib.Omega.{arith}
use lib.ListN.{length, get_or}
use lib.Seq.{slice}
use lib.Dec.{ltb, eqb}
use borrow.Author.Tests.{eq-eqb, ne_eqb, lt-ltb, le-ltb, ltb-false}
use Rattle.records.specs.Records.{marked, all_hex, head_at, number_at, Found, found, broken_if, record_by, record_at, Bounded}
use Rattle.std.specs.declared.option.Option.TheVariants.{Some, None}

-- ---- its lengths

no-head-by : (p left a b : ℕ) → left < 18 → record_by p left a b ≡ None
unfolding broken_if
no-head-by p left a b h = rw (lt-ltb left 18 h) refl

no-script-by : (p left a b : ℕ) → 18 ≤ left → left - 18 < a → record_by p left a b ≡ None
unfolding broken_if
no-script-by p left a b h k = rw (le-ltb left 18 h, lt-ltb (left - 18) a k) refl

no-answer-by : (p left a b : ℕ) → 18 ≤ left → a ≤ left - 18 → left - 18 - a < b → record_by p left a b ≡ None
unfolding broken_if
no-answer-by p left a b h k m = rw (le-ltb left 18 h, le-ltb (left - 18) a k, lt-ltb (left - 18 - a) b m) refl

whole_by : (p left a b : ℕ) → 18 ≤ left → a ≤ left - 18 → b ≤ left - 18 - a → record_by p left a b ≡ Some (found (p + 18) (p + 18 + a) (p + 18 + a + b))
unfolding broken_if
whole_by p left a b h k m = rw (le-ltb left 18 h, le-ltb (left - 18) a k, le-ltb (left - 18 - a) b m) refl

module _ (s : List ℕ) (p : ℕ) where
  abbrev lengths : Found
  lengths = record_by p (length s - p) (number_at s (p + 1)) (number_at s (p + 9))

  pub headless : head_at s p ≡ false → None ≡ record_at s p
  unfolding record_at broken_if
  headless h = ap (λ (x : Bool). broken_if (not x) lengths) (sym h)

  headed : head_at s p ≡ true → record_at s p ≡ lengths
  unfolding record_at broken_if
  headed h = ap (λ (x : Bool). broken_if (not x) lengths) h

  pub no-head : length s - p < 18 → None ≡ record_at s p
  no-head h = go (head_at s p) refl
    where
      go : (x : Bool) → head_at s p ≡ x → None ≡ record_at s p
      go true e = sym (headed e ∙ no-head-by p (length s - p) (number_at s (p + 1)) (number_at s (p + 9)) h)
      go false e = headless e

  module _ (hd : head_at s p ≡ true) (h : 18 ≤ length s - p) (a : ℕ) (e : a ≡ number_at s (p + 1)) where
    pub no-script : length s - p - 18 < a → None ≡ record_at s p
    no-script k = sym (headed hd ∙ ap (λ (x : ℕ). record_by p (length s - p) x (number_at s (p + 9))) (sym e) ∙ no-script-by p (length s - p) a (number_at s (p + 9)) h k)

    module _ (k : a ≤ length s - p - 18) (b : ℕ) (f : b ≡ number_at s (p + 9)) where
      numbers : record_at s p ≡ record_by p (length s - p) a b
      numbers =
          headed hd ∙ ap (λ (x : ℕ). record_by p (length s - p) x (number_at s (p + 9))) (sym e) ∙ ap (λ (y : ℕ). record_by p (length s - p) a y) (sym f)

      pub no_answer : length s - p - 18 - a < b → None ≡ record_at s p
      no_answer m = sym (numbers ∙ no-answer-by p (length s - p) a b h k m)

      pub whole : b ≤ length s - p - 18 - a → Some (found (p + 18) (p + 18 + a) (p + 18 + a + b)) ≡ record_at s p
      whole m = sym (numbers ∙ whole_by p (length s - p) a b h k m)

bounded-by : (p n a b : ℕ) → p ≤ n → Bounded p n (record_by p (n - p) a b)
unfolding broken_if
bounded-by p n a b h = go (ltb (n - p) 18) refl (ltb (n - p - 18) a) refl (ltb (n - p - 18 - a) b) refl
  where
    go :
        (x : Bool) → ltb (n - p) 18 ≡ x → (y : Bool) → ltb (n - p - 18) a ≡ y → (z : Bool) → ltb (n - p - 18 - a) b ≡ z
        → Bounded p n (broken_if x (broken_if y (broken_if z (Some (found (p + 18) (p + 18 + a) (p + 18 + a + b))))))
    go true e y f z g = tt
    go false e true f z g = tt
    go false e false f true g = tt
    go false e false f false g =
        let i = ltb-false (n - p) 18 e in
        let j = ltb-false (n - p - 18) a f in
        let k = ltb-false (n - p - 18 - a) b g in
        (omega arith, omega arith, omega arith, omega (arith, i, j, k, h))

-- what a record is told to be lies within the text
pub bounded : (s : List ℕ) (p : ℕ) → p ≤ length s → (f : Found) → record_at s p ≡ f → Bounded p (length s) f
bounded s p h f e = go (head_at s p) refl
  where
    go : (x : Bool) → head_at s p ≡ x → Bounded p (length s) f
    go true q = subst (Bounded p (length s)) (sym (headed s p q) ∙ e) (bounded-by p (length s) (number_at s (p + 1)) (number_at s (p + 9)) h)
    go false q = subst (Bounded p (length s)) (headless s p q ∙ e) tt
