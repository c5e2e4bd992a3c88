-- Tables and sets: what `put`, `grant`, `let_go` and `remove` leave where they were, and what they change. Assumes nothing.
use mathlib.Core.Path.{◌≡◌, refl, sym, ap, subst, ◌∙◌, fun_ext}
use mathlib.Core.Bool.{Bool, true, false, true≢false}
use mathlib.Core.List.{List, [], ◌∷◌}
use Prim.Native.Nat.{ℕ, ◌+◌, ◌-◌, ◌/◌, ◌≤◌, ◌<◌}
use lib.Dec.{eqb, leb, ltb}
use borrow.Author.Tests.{eqb-true, eqb-false, eq-eqb, ne_eqb, leb-true, ltb-true}
use Rattle.rules.specs.Notation.{put}
use Rattle.rules.specs.AddressSets.{member}
use Rattle.rules.specs.Slots.{Slots, remove, remove_all}
use Rattle.rules.specs.Needs.{Kind}
use Rattle.rules.specs.Frames.{Handle, grant, let_go}

-- equal or not
pub by_eqb {ℓ} : {X : Type ℓ} (i j : ℕ) → (i ≡ j → X) → ((i ≡ j → ⊥) → X) → X
by_eqb {X = X} i j same other = go (eqb i j) refl
  where
    go : (b : Bool) → eqb i j ≡ b → X
    go true e = same (eqb-true i j e)
    go false e = other (eqb-false i j e)

module _ {A : Type 0} (f : ℕ → A) (i : ℕ) (x : A) where
  pub put_same : put f i x i ≡ x
  unfolding put
  put_same = rw (eq-eqb i i refl, put)

  pub put_other : (j : ℕ) → (i ≡ j → ⊥) → put f i x j ≡ f j
  unfolding put
  put_other j ne = rw (ne_eqb i j ne, put)

  -- x, or what was there
  pub put-cases {ℓ} : {X : Type ℓ} (j : ℕ) → (i ≡ j → put f i x j ≡ x → X) → ((i ≡ j → ⊥) → put f i x j ≡ f j → X) → X
  put-cases j here there = by_eqb i j (λ e. here e (subst (λ (k : ℕ). put f i x k ≡ x) e put_same)) (λ ne. there ne (put_other j ne))

  -- what a part of the entry says stays everywhere if it stays at i
  pub put-alike : {B : Type 0} (P : A → B) → P x ≡ P (f i) → (j : ℕ) → P (put f i x j) ≡ P (f j)
  put-alike P e j =
      by_eqb i j
      (λ q. subst (λ (k : ℕ). P (put f i x k) ≡ P (f k)) q (ap P put_same ∙ e))
      (λ ne. ap P (put_other j ne))

  -- a table that has x at i and is f elsewhere
  pub put-ext : (g : ℕ → A) → g i ≡ x → ((j : ℕ) → (i ≡ j → ⊥) → g j ≡ f j) → g ≡ put f i x
  put-ext g here other =
      fun_ext (λ j. by_eqb i j
      (λ q. subst (λ (k : ℕ). g k ≡ put f i x k) q (here ∙ sym put_same))
      (λ ne. other j ne ∙ sym (put_other j ne)))

-- a handle of the n new ones, or as it was
module _ (next n a : ℕ) (k : Kind) (f : ℕ → Handle) (h : ℕ) where
  pub grant-cases {ℓ} : {X : Type ℓ}
      → (next ≤ h → h < next + n → grant next n a k f h ≡ record { address = a + (h - next); kind = k; held = true; written = false } → X)
      → (grant next n a k f h ≡ f h → X)
      → X
  unfolding grant
  grant-cases {X = X} new old = go (leb next h) (ltb h (next + n)) refl refl
    where
      go : (x y : Bool) → leb next h ≡ x → ltb h (next + n) ≡ y → X
      go true true p q = new (leb-true next h p) (ltb-true h (next + n) q) (rw (p, q, grant))
      go true false p q = old (rw (p, q, grant))
      go false y p q = old (rw (p, grant))

-- a handle whose slot is let go is not held; any other is as it was
module _ (l : List ℕ) (f : ℕ → Handle) (h : ℕ) where
  pub let_go-held : (let_go l f h).held ≡ true → (member (f h).address l ≡ false) × (let_go l f h ≡ f h)
  unfolding let_go
  let_go-held = go (member (f h).address l) refl
    where
      go : (b : Bool) → member (f h).address l ≡ b → (let_go l f h).held ≡ true → (member (f h).address l ≡ false) × (let_go l f h ≡ f h)
      go true e p = absurd (true≢false (sym p ∙ rw (e, let_go)))
      go false e p = (e, rw (e, let_go))

-- a slot that stays
pub remove-other : (a b : ℕ) (s : Slots) → (a ≡ b → ⊥) → s.occupied b ≡ true → (remove a s).occupied b ≡ true
unfolding remove
remove-other a b s ne o = go (ltb (a / 128) s.segments) refl
  where
    go : (r : Bool) → ltb (a / 128) s.segments ≡ r → (remove a s).occupied b ≡ true
    go true e = rw (e, remove) (put_other s.occupied a false b ne ∙ o)
    go false e = rw (e, remove) o

pub member-no : (b a : ℕ) (l : List ℕ) → member b (a ∷ l) ≡ false → (a ≡ b → ⊥) × (member b l ≡ false)
unfolding member
member-no b a l ne = go (eqb b a) refl
  where
    go : (r : Bool) → eqb b a ≡ r → (a ≡ b → ⊥) × (member b l ≡ false)
    go true e = absurd (true≢false (sym (rw (e, member)) ∙ ne))
    go false e = (λ q. eqb-false b a e (sym q), sym (rw (e, member)) ∙ ne)

pub remove_all-other : (l : List ℕ) (b : ℕ) (s : Slots) → member b l ≡ false → s.occupied b ≡ true → (remove_all l s).occupied b ≡ true
unfolding remove_all
remove_all-other [] b s ne o = o
remove_all-other (a ∷ l) b s ne o =
    remove_all-other l b (remove a s) (member-no b a l ne).1 (remove-other a b s (member-no b a l ne).0 o)
