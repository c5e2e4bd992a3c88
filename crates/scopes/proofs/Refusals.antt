-- Why pop, dangle and restore refuse a scope: 4, 5. Assumes nothing.
use Rattle.std.proofs.Common.{◌≡◌, ℕ, Bool, true, false, not, ◌||◌, eqb, ◌≢◌, Ok, Err, sym, refl, ap, ◌∙◌, eq-eqb, ne_eqb}
use mathlib.Core.Bool.{beq, or-true}
use mathlib.Core.Option.{Option, none, some}
use Rattle.rules.specs.Notation.{Answer, given, refused, ◌>>=◌, refuse◌unless◌, refuse◌when◌}
use Rattle.rules.specs.Refusals.{number_of}
use Rattle.rules.specs.declared.refusal.Refusal.{Refusal}
use Rattle.rules.specs.Scopes as rule
use Rattle.scopes.specs.View.{found_at}
use Rattle.scopes.specs.Leaves.{differs, meant, Admits}
use Rattle.scopes.specs.declared.Scopes.{Scopes}

-- ---- the leaf

-- the code's test of a mark
differs-is : (mark b : Bool) → not (beq b mark) ≡ differs mark b
differs-is true true = refl
differs-is true false = refl
differs-is false true = refl
differs-is false false = refl

module _ (mark : Bool) where
  pub unmet : (o : Option rule.Found) → none ≡ o → refused 4 ≡ meant mark o
  unfolding ◌>>=◌ refuse◌unless◌
  unmet o e = rw (sym e)

  module _ (s : Scopes) (o : Option rule.Found) (i : ℕ) (e : some (found_at s i) ≡ o) where
    barred : (b : Bool) → (differs mark (found_at s i).scope.dangled || eqb i 0) ≡ b → meant mark o ≡ elim b [ true ↦ refused 5 | false ↦ given (found_at s i) ]
    unfolding ◌>>=◌ refuse◌unless◌ refuse◌when◌
    barred true q = rw (sym e, q)
    barred false q = rw (sym e, q)

    pub at-root : i ≡ 0 → refused 5 ≡ meant mark o
    at-root z = sym (barred true (rw (eq-eqb i 0 z) (or-true (differs mark (found_at s i).scope.dangled))))

    pub other-mark : not (beq (found_at s i).scope.dangled mark) ≡ true → refused 5 ≡ meant mark o
    other-mark t = sym (barred true (rw (sym (differs-is mark (found_at s i).scope.dangled) ∙ t)))

    pub not-refused : i ≢ 0 → not (beq (found_at s i).scope.dangled mark) ≡ false → given (found_at s i) ≡ meant mark o
    not-refused z t = sym (barred false (rw (sym (differs-is mark (found_at s i).scope.dangled) ∙ t, ne_eqb i 0 z)))

-- ---- the rules

-- the two tests, and then the rest of the rule
abbrev pub checked : {A : Type 0} → Bool → Option rule.Found → (rule.Found → Answer A) → Answer A
checked mark o rest = do
  k ← refuse 4 unless o
  _ ← refuse 5 when (differs mark k.scope.dangled || eqb k.index 0)
  rest k

module _ {A : Type 0} (mark : Bool) (rest : rule.Found → Answer A) where
  checked-is : (o : Option rule.Found) → checked mark o rest ≡ (meant mark o >>= rest)
  unfolding ◌>>=◌ refuse◌unless◌ refuse◌when◌
  checked-is none = refl
  checked-is (some k) = go (differs mark k.scope.dangled || eqb k.index 0) refl
    where
      go : (b : Bool) → (differs mark k.scope.dangled || eqb k.index 0) ≡ b → checked mark (some k) rest ≡ (meant mark (some k) >>= rest)
      go true q = rw q
      go false q = rw q

  module _ (s : Scopes) (o : Option rule.Found) where
    pub refused-by : (e : Refusal) → Admits s mark o (Err e) → checked mark o rest ≡ refused (number_of e)
    unfolding ◌>>=◌
    refused-by e a = checked-is o ∙ ap (λ (x : Answer rule.Found). x >>= rest) (sym a.is)

    pub admitted : (i : ℕ) → Admits s mark o (Ok i) → checked mark o rest ≡ rest (found_at s i)
    unfolding ◌>>=◌
    admitted i a = checked-is o ∙ ap (λ (x : Answer rule.Found). x >>= rest) (sym a.is)
