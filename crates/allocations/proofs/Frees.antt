-- Freeing an address by cases: Freed, kept by its owner, given back. Assumes nothing.
use mathlib.Core.Path.{◌≡◌, sym, ap, ◌∙◌}
use mathlib.Core.Bool.{Bool, true, false}
use Prim.Native.Nat.{ℕ}
use Rattle.rules.specs.Notation.{Answer, given, refused, ◌>>=◌}
use Rattle.rules.specs.Scopes.{Scopes}
use Rattle.rules.specs.Needs as need
use Rattle.rules.proofs.Chains.{if-true, if-false, when_true, when_false}
use Rattle.scopes.specs.View.{view, told, told_only, replied}
use Rattle.scopes.specs.Steps.{Whole, Becomes}
use Rattle.scopes.specs.declared.Scopes as state
use Rattle.allocations.proofs.Goes.{told-as, goes-with, stays}

-- the address a, Freed, in the state d
abbrev pub freed_in : ℕ → Scopes → Answer (need.Address × Scopes)
freed_in a d = given (need.address a need.freed, d)

module _ (dangles : Bool) (a : ℕ) (k : need.Kind) (c : Scopes) where
  -- 13
  pub free-spent : need.is_freed k ≡ true → need.free_address dangles (need.address a k) c ≡ refused 13
  unfolding need.free_address
  free-spent e = when_true 13 _ e

  pub free-kept : need.is_freed k ≡ false → need.goes_back c k ≡ false → need.free_address dangles (need.address a k) c ≡ freed_in a c
  unfolding need.free_address ◌>>=◌
  free-kept e g =
      when_false 13 _ e
      ∙ ap (λ (m : Answer Scopes). m >>= freed_in a) (if-false (need.give_back dangles a c) (given c) g)

  pub free_back : need.is_freed k ≡ false → need.goes_back c k ≡ true → need.free_address dangles (need.address a k) c ≡ (need.give_back dangles a c >>= freed_in a)
  unfolding need.free_address
  free_back e g =
      when_false 13 _ e
      ∙ ap (λ (m : Answer Scopes). m >>= freed_in a) (if-true (need.give_back dangles a c) (given c) g)

-- ---- of the state s, which is whole

module _ {s : state.Scopes} (whole : Whole s) (dangles : Bool) (a : need.Address) where
  pub freed-spent : need.is_freed a.kind ≡ true → Becomes s s (refused 13) (λ c. told (λ b. b) c (need.free_address dangles a c))
  freed-spent e = stays whole (ap (told (λ b. b) (view s)) (free-spent dangles a.slot a.kind (view s) e))

  pub freed-kept : need.is_freed a.kind ≡ false → need.goes_back (view s) a.kind ≡ false
      → Becomes s s (given (need.forget_address a)) (λ c. told (λ b. b) c (need.free_address dangles a c))
  unfolding need.forget_address
  freed-kept e g = stays whole (ap (told (λ b. b) (view s)) (free-kept dangles a.slot a.kind (view s) e g))

  pub freed-back : need.is_freed a.kind ≡ false → need.goes_back (view s) a.kind ≡ true
      → {t : state.Scopes} (r : Answer (Unit {0})) → Becomes s t r (λ c. told_only c (need.give_back dangles a.slot c))
      → Becomes s t (replied (λ u. need.forget_address a) r) (λ c. told (λ b. b) c (need.free_address dangles a c))
  unfolding need.forget_address
  freed-back e g {t} r h =
      told-as (ap (told (λ b. b) (view s)) (sym (free_back dangles a.slot a.kind (view s) e g))) (goes-with (need.give_back dangles a.slot) (need.address a.slot need.freed) r h)
