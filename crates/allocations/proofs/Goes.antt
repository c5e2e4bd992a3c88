-- From what an operation does to the state to what the rule goes on to make of it. Assumes nothing.
use mathlib.Core.Path.{◌≡◌, refl, sym, ap, ◌∙◌}
use mathlib.Core.Bool.{true, true≢false}
use Prim.Native.Nat.{ℕ}
use Rattle.rules.specs.Notation.{Answer, given, refused, ◌>>=◌}
use Rattle.rules.specs.Scopes as rule
use Rattle.scopes.specs.View.{view, Seen, told, told_only, replied}
use Rattle.scopes.specs.Steps.{Whole, Becomes, is_refusal}
use Rattle.scopes.specs.declared.Scopes.{Scopes}

-- what is given is changed by `g`
abbrev changed : {A B : Type 0} → (A → B) → Seen A → Seen B
changed g s = record { next = s.next; says = replied g s.says }

changed-told : {A B : Type 0} (g : A → B) (c : rule.Scopes) (m : Answer (A × rule.Scopes)) → changed g (told (λ a. a) c m) ≡ told (λ b. b) c (m >>= λ x. given (g x.0, x.1))
unfolding ◌>>=◌
changed-told g c (given x) = refl
changed-told g c (refused n) = refl

changed-only : {B : Type 0} (b : B) (c : rule.Scopes) (m : Answer rule.Scopes) → changed (λ u. b) (told_only c m) ≡ told (λ b. b) c (m >>= λ d. given (b, d))
unfolding ◌>>=◌
changed-only b c (given d) = refl
changed-only b c (refused n) = refl

-- a refusal stays one
pub refusal-replied : {A B : Type 0} (g : A → B) (a : Answer A) → is_refusal (replied g a) ≡ true → is_refusal a ≡ true
refusal-replied g (given x) e = e
refusal-replied g (refused n) e = e

-- what is given is none
pub not-refused : {A : Type 0} {P : Type 0} (x : A) → is_refusal (given x) ≡ true → P
not-refused x e = absurd (true≢false (sym e))

module _ {s t : Scopes} where
  -- the rule's answer is another way to write it
  pub told-as : {B : Type 0} {a : Answer B} {f g : rule.Scopes → Seen B} → f (view s) ≡ g (view s) → Becomes s t a f → Becomes s t a g
  told-as e h = record { is = h.is ∙ e; whole = h.whole; kept = h.kept }

  -- `g` of what was given, in the state that was left
  pub goes-on : {A B : Type 0} (m : rule.Scopes → Answer (A × rule.Scopes)) (g : A → B) (a : Answer A) → Becomes s t a (λ c. told (λ x. x) c (m c))
      → Becomes s t (replied g a) (λ c. told (λ x. x) c (m c >>= λ x. given (g x.0, x.1)))
  goes-on m g a h = record { is = ap (changed g) h.is ∙ changed-told g (view s) (m (view s)); whole = h.whole; kept = λ e. h.kept (refusal-replied g a e) }

  -- b, once it is done
  pub goes-with : {B : Type 0} (m : rule.Scopes → Answer rule.Scopes) (b : B) (a : Answer (Unit {0})) → Becomes s t a (λ c. told_only c (m c))
      → Becomes s t (replied (λ u. b) a) (λ c. told (λ x. x) c (m c >>= λ d. given (b, d)))
  goes-with m b a h = record { is = ap (changed (λ u. b)) h.is ∙ changed-only b (view s) (m (view s)); whole = h.whole; kept = λ e. h.kept (refusal-replied (λ u. b) a e) }

-- the state stays as it is
pub stays : {B : Type 0} {s : Scopes} {a : Answer B} {f : rule.Scopes → Seen B} → Whole s → f (view s) ≡ record { next = view s; says = a } → Becomes s s a f
stays h e = record { is = sym e; whole = h; kept = λ z. refl }

-- ---- what the rule answered

abbrev next_in : Seen (Unit {0}) → Answer rule.Scopes
next_in x = elim x.says [ given u ↦ given x.next | refused n ↦ refused n ]

next-told : (c : rule.Scopes) (m : Answer rule.Scopes) → next_in (told_only c m) ≡ m
next-told c (given d) = refl
next-told c (refused n) = refl

module _ {s t : Scopes} (m : rule.Scopes → Answer rule.Scopes) where
  pub was-done : Becomes s t (given tt) (λ c. told_only c (m c)) → m (view s) ≡ given (view t)
  was-done h = sym (next-told (view s) (m (view s))) ∙ sym (ap next_in h.is)

  pub was-refused : (n : ℕ) → Becomes s t (refused n) (λ c. told_only c (m c)) → m (view s) ≡ refused n
  was-refused n h = sym (next-told (view s) (m (view s))) ∙ sym (ap next_in h.is)

  -- .. and back
  pub has-become : Whole t → m (view s) ≡ given (view t) → Becomes s t (given tt) (λ c. told_only c (m c))
  has-become h e = record { is = sym (ap (told_only (view s)) e); whole = h; kept = not-refused (tt {0}) }
