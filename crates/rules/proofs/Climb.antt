-- Climbing over at most as many parents as there may be scopes tells whether they lead to root. Assumes nothing.
use mathlib.Core.Path.{◌≡◌, refl, sym, ap, subst, ◌∙◌}
use mathlib.Core.Bool.{true, false, not, ◌&&◌}
use mathlib.Core.Option.{Option, none, some}
use mathlib.Core.List.{List, [], ◌∷◌}
use Prim.Native.Nat.{ℕ, zero, suc, ◌≤◌, ◌<◌}
use native.Mathlib.Omega.{arith}
use lib.Dec.{eqb, ltb}
use lib.ListN.{length}
use Rattle.rules.specs.Sizes.{Room}
use Rattle.rules.specs.AddressSets.{member}
use Rattle.rules.specs.Scopes.{Scope, Scopes}
use Rattle.rules.specs.Sound.{leads}
use Rattle.rules.specs.Tells.{Tells}
use Rattle.rules.proofs.Sets.{member-cons, Once, once-nil, once, Within, pigeons}
use Rattle.rules.proofs.Sound.{LeadsToRoot, root, up}
use Rattle.rules.proofs.Tells.{clash, is_false, tells-and, tells-eq, tells-ne, tells-lt, tells-true}

-- ---- how far it is to root

module _ {n : ℕ} {live : ℕ → Option Scope} where
  unfoldable pub height : {i : ℕ} → LeadsToRoot n live i → ℕ
  height (root k e p z m) = 0
  height (up k p e q z l d) = suc (height d)

  -- the scopes on the way, root last
  way : {i : ℕ} → LeadsToRoot n live i → List ℕ
  way {i = i} (root k e p z m) = i ∷ []
  way {i = i} (up k p e q z l d) = i ∷ way d

  way-length : {i : ℕ} (d : LeadsToRoot n live i) → length (way d) ≡ suc (height d)
  unfolding height way
  way-length (root k e p z m) = refl
  way-length (up k p e q z l d) = ap suc (way-length d)

  -- there is one way
  height-same : {i j : ℕ} → i ≡ j → (d : LeadsToRoot n live i) (e : LeadsToRoot n live j) → height d ≡ height e
  unfolding height
  height-same s (root k e p z m) (root k' e' p' z' m') = refl
  height-same s (root k e p z m) (up k' p' e' q z' l d) = absurd (z' (sym s ∙ z))
  height-same s (up k p e q z l d) (root k' e' p' z' m') = absurd (z (s ∙ z'))
  height-same s (up k p e q z l d) (up k' p' e' q' z' l' d') = ap suc (height-same (cc) d d')

  here : {i j : ℕ} → j ≡ i → (d : LeadsToRoot n live i) → (e : LeadsToRoot n live j) × (height e ≤ height d)
  here q d = let e = subst (LeadsToRoot n live) (sym q) d in (e, omega (arith, height-same q e d))

  -- what is met on the way is no further from root
  met : {i : ℕ} (d : LeadsToRoot n live i) (j : ℕ) → member j (way d) ≡ true → (e : LeadsToRoot n live j) × (height e ≤ height d)
  unfolding height way member
  met {i = i} (root k e p z m) j h = member-cons j i [] h (λ q. here q (root k e p z m)) (λ f. clash f refl)
  met {i = i} (up k p e q z l d) j h = member-cons j i (way d) h (λ s. here s (up k p e q z l d)) (λ f. let r = met d j f in (r.0, omega (arith, r.1)))

  -- so no scope is met twice
  way-once : {i : ℕ} (d : LeadsToRoot n live i) → Once (way d)
  unfolding height way member
  way-once (root k e p z m) = once refl once-nil
  way-once {i = i} (up k p e q z l d) =
      once
      (is_false (member i (way d)) (λ h. let r = met d i h in omega (arith, r.1, height-same refl r.0 (up k p e q z l d))))
      (way-once d)

  way-within : {i : ℕ} → i < n → (d : LeadsToRoot n live i) → Within n (way d)
  unfolding way member
  way-within {i = i} h (root k e p z m) j f = member-cons j i [] f (λ s. omega arith) (λ g. clash g refl)
  way-within {i = i} h (up k p e q z l d) j f = member-cons j i (way d) f (λ s. omega arith) (λ g. way-within l d j g)

  -- fewer parents than there may be scopes
  pub height-below : {i : ℕ} → i < n → (d : LeadsToRoot n live i) → height d < n
  height-below h d = omega (arith, way-length d, pigeons n (way d) (way-once d) (way-within h d))

-- ---- the climb with steps to spare

module _ (room : Room) (c : Scopes) where
  climb-root : (f i : ℕ) (k : Scope) → c.live i ≡ some k → k.parent ≡ none → leads (suc f) room c i ≡ (eqb i 0 && eqb k.number 0)
  unfolding leads
  climb-root f i k e p = rw (e, leads) (rw p)

  climb-up : (f i : ℕ) (k : Scope) (p : ℕ) → c.live i ≡ some k → k.parent ≡ some p → leads (suc f) room c i ≡ (not (eqb i 0) && ltb p room.scopes && leads f room c p)
  unfolding leads
  climb-up f i k p e q = rw (e, leads) (rw q)

  climb-dead : (f i : ℕ) → c.live i ≡ none → leads f room c i ≡ false
  unfolding leads
  climb-dead zero i e = refl
  climb-dead (suc f) i e = rw (e, leads)

  climb-holds : (f i : ℕ) → leads f room c i ≡ true → LeadsToRoot room.scopes c.live i
  unfolding leads
  climb-holds zero i h = clash h refl
  climb-holds (suc f) i h = go (c.live i) refl (climb-holds f)
    where
      step : (k : Scope) → c.live i ≡ some k → ((p : ℕ) → leads f room c p ≡ true → LeadsToRoot room.scopes c.live p) → (o : Option ℕ) → k.parent ≡ o → LeadsToRoot room.scopes c.live i
      step k e ih none q =
          let r = (tells-and (tells-eq i 0) (tells-eq k.number 0)).holds (sym (climb-root f i k e q) ∙ h) in
          root k e q r.0 r.1
      step k e ih (some p) q =
          let r = (tells-and (tells-and (tells-ne i 0) (tells-lt p room.scopes)) (tells-true (leads f room c p))).holds (sym (climb-up f i k p e q) ∙ h) in
          up k p e q r.0.0 r.0.1 (ih p r.1)

      go : (o : Option Scope) → c.live i ≡ o → ((p : ℕ) → leads f room c p ≡ true → LeadsToRoot room.scopes c.live p) → LeadsToRoot room.scopes c.live i
      go none e ih = clash h (climb-dead (suc f) i e)
      go (some k) e ih = step k e ih k.parent refl

  climb-shows : (f : ℕ) {i : ℕ} (d : LeadsToRoot room.scopes c.live i) → height d < f → leads f room c i ≡ true
  unfolding height
  climb-shows zero d h = absurd (omega arith)
  climb-shows (suc f) {i = i} (root k e p z m) h = climb-root f i k e p ∙ (tells-and (tells-eq i 0) (tells-eq k.number 0)).shows (z, m)
  climb-shows (suc f) {i = i} (up k p e q z l d) h =
      climb-up f i k p e q ∙ (tells-and (tells-and (tells-ne i 0) (tells-lt p room.scopes)) (tells-true (leads f room c p))).shows ((z, l), climb-shows f d (omega arith))

  pub tells-leads : (i : ℕ) → i < room.scopes → Tells (leads room.scopes room c i) (LeadsToRoot room.scopes c.live i)
  tells-leads i h = record { holds = climb-holds room.scopes i; shows = λ d. climb-shows room.scopes d (height-below h d) }
