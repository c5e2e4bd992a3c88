-- A test tells a fact (specs/Tells). One law for each way in which the tests of specs/Sound are put together. Assumes nothing.
use mathlib.Core.Path.{◌≡◌, refl, sym, subst, ◌∙◌}
use mathlib.Core.Bool.{Bool, true, false, not, ◌&&◌, ◌||◌, true≢false}
use mathlib.Core.List.{List, [], ◌∷◌}
use Prim.Native.Nat.{ℕ, zero, suc, ◌≤◌, ◌<◌}
use native.Mathlib.Omega.{arith}
use lib.Dec.{eqb, leb, ltb}
use borrow.Author.Tests.{eqb-true, eq-eqb, leb-true, le-leb, ltb-true, lt-ltb, not-true}
use Rattle.rules.specs.Notation.{implies, all_below, all_of}
use Rattle.rules.specs.Tells.{Tells}
use Rattle.rules.proofs.Tables.{by_eqb}
use Rattle.rules.proofs.Sound.{Every, every-nil, every}

-- yes or no
pub decided {ℓ} : {X : Type ℓ} (b : Bool) → (b ≡ true → X) → (b ≡ false → X) → X
decided true yes' no' = yes' refl
decided false yes' no' = no' refl

pub is_false : (b : Bool) → (b ≡ true → ⊥) → b ≡ false
is_false true n = absurd (n refl)
is_false false n = refl

pub clash {ℓ} : {X : Type ℓ} {b : Bool} → b ≡ true → b ≡ false → X
clash p q = absurd (true≢false (sym p ∙ q))

pub neither : (a b : Bool) → (a || b) ≡ false → (a ≡ false) × (b ≡ false)
neither true b q = clash refl q
neither false b q = (refl, q)

pub or-second : (a b : Bool) → b ≡ true → (a || b) ≡ true
or-second true b q = refl
or-second false b q = q

pub tells-no : {P : Type 0} → (P → ⊥) → Tells false P
tells-no n = record { holds = λ e. clash e refl; shows = λ h. absurd (n h) }

pub tells-yes : {P : Type 0} → P → Tells true P
tells-yes h = record { holds = λ _. h; shows = λ _. refl }

pub tells_as : {r : Bool} {P Q : Type 0} → Tells r P → (P → Q) → (Q → P) → Tells r Q
tells_as t f g = record { holds = λ e. f (t.holds e); shows = λ q. t.shows (g q) }

pub tells-and : {a b : Bool} {P Q : Type 0} → Tells a P → Tells b Q → Tells (a && b) (P × Q)
tells-and {a = true} s t = record { holds = λ e. (s.holds refl, t.holds e); shows = λ h. t.shows h.1 }
tells-and {a = false} s t = record { holds = λ e. clash e refl; shows = λ h. s.shows h.0 }

pub tells-implies : (b : Bool) {r : Bool} {P : Type 0} → Tells r P → Tells (implies b r) (b ≡ true → P)
tells-implies true t = record { holds = λ e _. t.holds e; shows = λ h. t.shows (h refl) }
tells-implies false t = record { holds = λ e p. clash p refl; shows = λ h. refl }

pub tells-true : (b : Bool) → Tells b (b ≡ true)
tells-true b = record { holds = λ e. e; shows = λ e. e }

pub tells-not : (b : Bool) → Tells (not b) (b ≡ false)
tells-not b = record { holds = not-true b; shows = λ e. rw e }

pub tells-lt : (a b : ℕ) → Tells (ltb a b) (a < b)
tells-lt a b = record { holds = ltb-true a b; shows = lt-ltb a b }

pub tells-le : (a b : ℕ) → Tells (leb a b) (a ≤ b)
tells-le a b = record { holds = leb-true a b; shows = le-leb a b }

pub tells-eq : (a b : ℕ) → Tells (eqb a b) (a ≡ b)
tells-eq a b = record { holds = eqb-true a b; shows = eq-eqb a b }

pub tells-ne : (a b : ℕ) → Tells (not (eqb a b)) (a ≡ b → ⊥)
tells-ne a b = record { holds = λ e q. clash (eq-eqb a b q) (not-true _ e); shows = λ n. by_eqb a b (λ e. absurd (n e)) (λ _. rw (is_false (eqb a b) (λ e. n (eqb-true a b e)))) }

pub tells-below : {f : ℕ → Bool} {P : ℕ → Type 0} (n : ℕ) → ((i : ℕ) → i < n → Tells (f i) (P i)) → Tells (all_below f n) ((i : ℕ) → i < n → P i)
unfolding all_below
tells-below zero t = record { holds = λ _ i h. absurd (omega arith); shows = λ _. refl }
tells-below {f = f} {P = P} (suc n) t = go (f n) refl (t n (omega arith)) (tells-below n (λ i l. t i (omega arith)))
  where
    go : (b : Bool) → f n ≡ b → Tells (f n) (P n) → Tells (all_below f n) ((i : ℕ) → i < n → P i) → Tells (all_below f (suc n)) ((i : ℕ) → i < suc n → P i)
    go false e here ih = record { holds = λ h. clash h (rw (e, all_below)); shows = λ h. clash (here.shows (h n (omega arith))) e }
    go true e here ih = record {
      holds = λ h i l. by_eqb i n (λ q. subst P (sym q) (here.holds e)) (λ ne. ih.holds (rw (e, all_below) at h) i (omega (arith, ne)));
      shows = λ h. rw (e, all_below) (ih.shows (λ i l. h i (omega arith)));
    }

pub tells-every : {A : Type 0} {f : A → Bool} {P : A → Type 0} (l : List A) → ((a : A) → Tells (f a) (P a)) → Tells (all_of f l) (Every P l)
unfolding all_of
tells-every [] t = record { holds = λ _. every-nil; shows = λ _. refl }
tells-every {f = f} {P = P} (a ∷ l) t = go (f a) refl (tells-every l t)
  where
    tail : Every P (a ∷ l) → Every P l
    tail (every p ps) = ps

    head : Every P (a ∷ l) → P a
    head (every p ps) = p

    go : (b : Bool) → f a ≡ b → Tells (all_of f l) (Every P l) → Tells (all_of f (a ∷ l)) (Every P (a ∷ l))
    go false e ih = record { holds = λ h. clash h (rw (e, all_of)); shows = λ h. clash ((t a).shows (head h)) e }
    go true e ih = record {
      holds = λ h. every ((t a).holds e) (ih.holds (rw (e, all_of) at h));
      shows = λ h. rw (e, all_of) (ih.shows (tail h));
    }
