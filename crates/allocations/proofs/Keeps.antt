-- Giving an address back: the top and its number stay, and what is no slot is refused. Assumes nothing.
use mathlib.Core.Path.{◌≡◌, refl, sym, ap, subst, ◌∙◌}
use mathlib.Core.Bool.{Bool}
use mathlib.Core.Option.{Option, none, some}
use Prim.Native.Nat.{ℕ, ◌≤◌}
use native.Mathlib.Omega.{arith}
use Rattle.rules.specs.Sizes.{SCOPES, SLOTS}
use Rattle.rules.specs.Notation.{refused, ◌>>=◌, refuse◌when◌, refuse◌unless◌, put}
use Rattle.rules.specs.Scopes.{Scope, Scopes, Found, found, top_scope, set_scope}
use Rattle.rules.specs.Needs as need
use Rattle.rules.proofs.Tables.{by_eqb, put_same}
use Rattle.rules.proofs.Chains.{All, all-given, all-when, all-unless, none-some}
use Rattle.scopes.specs.View.{view}
use Rattle.scopes.specs.Sound.{Sound}
use Rattle.scopes.specs.declared.Scopes as state
use Rattle.scopes.proofs.Finds.{no_top, Topped, topped}
use Rattle.scopes.proofs.Frees.{far}

-- ---- the top, and what stands there

module _ (c : Scopes) where
  pub top-is : (i : ℕ) (k : Scope) → c.top ≡ some i → c.live i ≡ some k → top_scope c ≡ some (record { index = i; scope = k })
  unfolding top_scope
  top-is i k p q = rw (p, top_scope) (ap (found i) q)

  pub top-dead : (i : ℕ) → c.top ≡ some i → c.live i ≡ none → top_scope c ≡ none
  unfolding top_scope
  top-dead i p q = rw (p, top_scope) (ap (found i) q)

  pub top-none : c.top ≡ none → top_scope c ≡ none
  unfolding top_scope
  top-none p = rw (p, top_scope)

abbrev or_that : Found → Option Found → Found
or_that t none = t
or_that t (some u) = u

-- and back
pub top-parts : (c : Scopes) (t : Found) → top_scope c ≡ some t → (c.top ≡ some t.index) × (c.live t.index ≡ some t.scope)
top-parts c t e = at_top c.top refl
  where
    at-scope : (i : ℕ) → c.top ≡ some i → (o : Option Scope) → c.live i ≡ o → (c.top ≡ some t.index) × (c.live t.index ≡ some t.scope)
    at-scope i p none q = none-some (sym (top-dead c i p q) ∙ e)
    at-scope i p (some k) q =
        subst (λ (u : Found). (c.top ≡ some u.index) × (c.live u.index ≡ some u.scope)) (ap (or_that t) (sym (top-is c i k p q) ∙ e)) (p, q)

    at_top : (o : Option ℕ) → c.top ≡ o → (c.top ≡ some t.index) × (c.live t.index ≡ some t.scope)
    at_top none p = none-some (sym (top-none c p) ∙ e)
    at_top (some i) p = at-scope i p (c.live i) refl

-- the top's scope is changed to x
pub top_set : (c d : Scopes) (t : Found) (x : Scope) → top_scope c ≡ some t → d.top ≡ c.top → d.live ≡ put c.live t.index (some x)
    → top_scope d ≡ some (record { index = t.index; scope = x })
top_set c d t x e p q =
    top-is d t.index x (p ∙ (top-parts c t e).0) (ap (λ (f : ℕ → Option Scope). f t.index) q ∙ put_same c.live t.index (some x))

-- "Scope only if its scope is top": giving an address back changes neither the top nor its number
pub back-goes : (dangles : Bool) (a : ℕ) (c : Scopes) (k : need.Kind) → All (λ d. need.goes_back d k ≡ need.goes_back c k) (need.give_back dangles a c)
unfolding need.goes_back need.give_back set_scope
back-goes dangles a c need.local = record { at = λ d e. refl }
back-goes dangles a c need.dangling = record { at = λ d e. refl }
back-goes dangles a c need.assigned = record { at = λ d e. refl }
back-goes dangles a c need.freed = record { at = λ d e. refl }
back-goes dangles a c (need.scope id) = go
  where
    go : All (λ d. need.goes_back d (need.scope id) ≡ need.goes_back c (need.scope id)) (need.give_back dangles a c)
    go =
        all-unless 12 (λ t e. all-when 12 _ (λ m. all-given
        (ap (need.is_scope id) (top_set c _ t _ e refl refl) ∙ sym (ap (need.is_scope id) e))))

-- ---- of a sound state

module _ (s : state.Scopes) (sound : Sound s) where
  -- 12: no scope owns what is no slot
  pub no_slot : (dangles : Bool) (a : ℕ) → SLOTS ≤ a → need.give_back dangles a (view s) ≡ refused 12
  unfolding need.give_back ◌>>=◌ refuse◌unless◌ refuse◌when◌
  no_slot dangles a h =
      by_eqb s.top SCOPES
      (λ e. rw (no_top s e))
      (λ n. let t : Topped s = topped s sound n in rw (t.is, far s.links s.owner a s.top sound.ringed h (omega (arith, t.small))))
