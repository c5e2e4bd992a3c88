-- "a name is looked for in the top scope, then in its parent, up to root; the nearest binding decides": in a sound state a lookup over as
-- many scopes as there may be never stops short of root. Assumes nothing.
use mathlib.Core.Path.{◌≡◌, refl, sym, ap, subst, ◌∙◌}
use mathlib.Core.Option.{Option, none, some}
use Prim.Native.Nat.{ℕ, zero, suc, ◌<◌}
use native.Mathlib.Omega.{arith}
use Rattle.rules.specs.Sizes.{Room}
use Rattle.rules.specs.Scopes.{Scope, Binding, Scopes, bound_in, lookup}
use Rattle.rules.proofs.Sound.{LeadsToRoot, root, up, Sound}
use Rattle.rules.proofs.Climb.{height, height-below}

-- what is met first on the way from i to root: a binding of the name, or none
pub data Nearest (c : Scopes) (name : ℕ) : ℕ → Option Binding → Type 0 where
  here : {i : ℕ} (k : Scope) (b : Binding) → c.live i ≡ some k → bound_in i name c.bindings ≡ some b → Nearest c name i (some b)
  above : {i : ℕ} (k : Scope) (p : ℕ) {o : Option Binding} → c.live i ≡ some k → bound_in i name c.bindings ≡ none → k.parent ≡ some p → Nearest c name p o → Nearest c name i o
  nowhere : {i : ℕ} (k : Scope) → c.live i ≡ some k → bound_in i name c.bindings ≡ none → k.parent ≡ none → Nearest c name i none

module _ (c : Scopes) (name : ℕ) where
  look-here : (n i : ℕ) (k : Scope) (b : Binding) → c.live i ≡ some k → bound_in i name c.bindings ≡ some b → lookup (suc n) c name (some i) ≡ some b
  unfolding lookup
  look-here n i k b e q = rw (e, q, lookup)

  look-above : (n i : ℕ) (k : Scope) → c.live i ≡ some k → bound_in i name c.bindings ≡ none → lookup (suc n) c name (some i) ≡ lookup n c name k.parent
  unfolding lookup
  look-above n i k e q = rw (e, q, lookup)

  look_none : (n : ℕ) → lookup n c name none ≡ none
  unfolding lookup
  look_none zero = refl
  look_none (suc n) = refl

  -- there is one answer
  pub nearest-one : {i j : ℕ} {o o' : Option Binding} → i ≡ j → Nearest c name i o → Nearest c name j o' → o ≡ o'
  nearest-one s (here k b e q) (here k' b' e' q') = cc
  nearest-one s (here k b e q) (above k' p' e' q' u' m') = cc
  nearest-one s (here k b e q) (nowhere k' e' q' u') = cc
  nearest-one s (above k p e q u m) (here k' b' e' q') = cc
  nearest-one s (above k p e q u m) (above k' p' e' q' u' m') = nearest-one (cc) m m'
  nearest-one s (above k p e q u m) (nowhere k' e' q' u') = cc
  nearest-one s (nowhere k e q u) (here k' b' e' q') = cc
  nearest-one s (nowhere k e q u) (above k' p' e' q' u' m') = cc
  nearest-one s (nowhere k e q u) (nowhere k' e' q' u') = refl

  at_place : {i : ℕ} (k : Scope) (n : ℕ) → c.live i ≡ some k → ((bound_in i name c.bindings ≡ none) → Nearest c name i (lookup (suc n) c name (some i))) → Nearest c name i (lookup (suc n) c name (some i))
  at_place {i = i} k n e further = go (bound_in i name c.bindings) refl
    where
      go : (o : Option Binding) → bound_in i name c.bindings ≡ o → Nearest c name i (lookup (suc n) c name (some i))
      go (some b) q = subst (Nearest c name i) (sym (look-here n i k b e q)) (here k b e q)
      go none q = further q

  looks : {m : ℕ} (n : ℕ) {i : ℕ} (d : LeadsToRoot m c.live i) → height d < n → Nearest c name i (lookup n c name (some i))
  unfolding height
  looks zero d h = absurd (omega arith)
  looks (suc n) {i = i} (root k e p z w) h =
      at_place k n e (λ q. subst (Nearest c name i) (sym (look-above n i k e q ∙ ap (lookup n c name) p ∙ look_none n)) (nowhere k e q p))
  looks (suc n) {i = i} (up k p e u z l d) h =
      at_place k n e (λ q. subst (Nearest c name i) (sym (look-above n i k e q ∙ ap (lookup n c name) u)) (above k p e q u (looks n d (omega arith))))

-- from the top, in a sound state
pub lookup-nearest : (room : Room) (c : Scopes) → Sound room c → (name i : ℕ) → c.top ≡ some i → Nearest c name i (lookup room.scopes c name c.top)
lookup-nearest room c s name i e =
    let l = s.top.is_live i e in
    let d = s.rooted i l.0 l.1 in
    subst (λ (o : Option ℕ). Nearest c name i (lookup room.scopes c name o)) (sym e) (looks c name room.scopes d (height-below l.0 d))
