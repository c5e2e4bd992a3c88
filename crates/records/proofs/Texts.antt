-- When two texts are one. Assumes nothing.
use mathlib.Core.Path.{◌≡◌, refl, sym, ap, subst, ◌∙◌}
use mathlib.Core.Bool.{Bool, true, false, true≢false}
use mathlib.Core.List.{List, [], ◌∷◌}
use Prim.Native.Nat.{ℕ, ◌+◌, ◌<◌}
use native.Mathlib.Omega.{arith}
use lib.ListN.{length, get_or}
use lib.Seq.{ext_get_or}
use lib.Dec.{eqb}
use borrow.Author.Tests.{eq-eqb, eqb-true}
use Rattle.rules.proofs.Tables.{by_eqb}
use Rattle.std.specs.Bool.{Decides}
use Rattle.records.specs.Records.{same_text}

-- `same_text` tells whether two texts are equal
pub one-text : (a b : List ℕ) → same_text a b ≡ true → a ≡ b
unfolding same_text
one-text [] [] e = refl
one-text [] (y ∷ m) e = absurd (true≢false (sym e))
one-text (x ∷ l) [] e = absurd (true≢false (sym e))
one-text (x ∷ l) (y ∷ m) e = go (eqb x y) refl e (one-text l m)
  where
    go : (q : Bool) → eqb x y ≡ q → ◌≡◌ {A = Bool} (elim q [ true ↦ same_text l m | false ↦ false ]) true → (same_text l m ≡ true → l ≡ m) → x ∷ l ≡ y ∷ m
    go true f e ih = let h = ih e in let k = eqb-true x y f in cc
    go false f e ih = absurd (true≢false (sym e))

pub text-one : (a : List ℕ) → same_text a a ≡ true
unfolding same_text
text-one [] = refl
text-one (x ∷ l) = rw (eq-eqb x x refl, same_text) (text-one l)

pub same-as : (a b c : List ℕ) (r : Bool) → r ≡ same_text a c → a ≡ b → r ≡ same_text b c
same-as a b c r e q = e ∙ ap (λ (t : List ℕ). same_text t c) q

pub differ : (a b : List ℕ) → (a ≡ b → ⊥) → false ≡ same_text a b
differ a b h = go (same_text a b) refl
  where
    go : (r : Bool) → same_text a b ≡ r → false ≡ same_text a b
    go true e = absurd (h (one-text a b e))
    go false e = sym e

pub same-told : (a b : List ℕ) (r : Bool) → Decides r (a ≡ b) → r ≡ same_text a b
same-told a b true d = sym (ap (λ (t : List ℕ). same_text t b) (d.0 refl) ∙ text-one b)
same-told a b false d = differ a b (λ e. true≢false (sym (d.1 e)))
