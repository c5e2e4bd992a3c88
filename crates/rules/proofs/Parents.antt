-- Live scopes, their parents and the top stay sound when a scope is opened, changed or closed. Assumes nothing.
use mathlib.Core.Path.{◌≡◌, refl, sym, ap, subst, ◌∙◌}
use mathlib.Core.Bool.{true, false}
use mathlib.Core.Option.{Option, none, some}
use Prim.Native.Nat.{ℕ, ◌<◌}
use borrow.Author.Tests.{eq-eqb}
use Rattle.rules.specs.Notation.{is_some, put}
use Rattle.rules.specs.Scopes.{Scope, Found, child_of}
use Rattle.rules.proofs.Chains.{none-some}
use Rattle.rules.proofs.Tables.{by_eqb, put_same, put_other, put-alike}
use Rattle.rules.proofs.Sound.{IsLive, TopSound, LeadsToRoot, root, up, Rooted}
use Rattle.rules.proofs.Tells.{clash, is_false}
use Rattle.rules.proofs.Naming.{Here}

-- ---- liveness

pub some_is : {A : Type 0} (o : Option A) → is_some o ≡ true → (a : A) × (o ≡ some a)
some_is none e = clash e refl
some_is (some a) e = (a, refl)

pub none_is : {A : Type 0} (o : Option A) → is_some o ≡ false → o ≡ none
none_is none e = refl
none_is (some a) e = clash refl e

pub is-some : {A : Type 0} {o : Option A} {a : A} → o ≡ some a → is_some o ≡ true
is-some e = rw e

pub here-live : {n : ℕ} {live : ℕ → Option Scope} {k : Found} → Here n live k → IsLive n live k.index
here-live h = (h.below, is-some h.is)

pub leads-live : {n : ℕ} {live : ℕ → Option Scope} {i : ℕ} → LeadsToRoot n live i → is_some (live i) ≡ true
leads-live (root k e p z m) = is-some e
leads-live (up k p e q z l d) = is-some e

-- whatever leads anywhere leads to a live root
pub root_live : {n : ℕ} {live : ℕ → Option Scope} {i : ℕ} → LeadsToRoot n live i → is_some (live 0) ≡ true
root_live {live = live} (root k e p z m) = subst (λ (j : ℕ). is_some (live j) ≡ true) z (is-some e)
root_live (up k p e q z l d) = root_live d

pub top-some : {n : ℕ} {live : ℕ → Option Scope} {i : ℕ} → IsLive n live i → TopSound n live (some i)
top-some {n = n} {live = live} h = record { is_live = λ j e. subst (IsLive n live) (cc) h; no-live = λ e. none-some (sym e) }

-- the parent of a live scope other than root is live
pub record Parent (n : ℕ) (live : ℕ → Option Scope) (k : Scope) : Type 0 where
  pub index : ℕ
  pub is : k.parent ≡ some index
  pub live_at : IsLive n live index

pub parent_of : {n : ℕ} {live : ℕ → Option Scope} {i : ℕ} (k : Scope) → live i ≡ some k → (i ≡ 0 → ⊥) → LeadsToRoot n live i → Parent n live k
parent_of k e nz (root k' e' p z m) = absurd (nz z)
parent_of k e nz (up k' p e' q z l d) = record { index = p; is = (let s : k ≡ k' = cc in ap (λ (y : Scope). y.parent) s ∙ q); live_at = (l, leads-live d) }

no-parent : {n : ℕ} {live : ℕ → Option Scope} {i : ℕ} (k : Scope) → live i ≡ some k → i ≡ 0 → LeadsToRoot n live i → k.parent ≡ none
no-parent k e z (root k' e' p z' m) = let s : k ≡ k' = cc in ap (λ (y : Scope). y.parent) s ∙ p
no-parent k e z (up k' p e' q z' l d) = absurd (z' z)

module _ (n : ℕ) (live : ℕ → Option Scope) where
  -- ---- the same scopes live

  module _ (next : ℕ → Option Scope) (alike : (j : ℕ) → is_some (next j) ≡ is_some (live j)) where
    pub live_alike : (i : ℕ) → IsLive n live i → IsLive n next i
    live_alike i h = (h.0, alike i ∙ h.1)

    pub top-alike : (top : Option ℕ) → TopSound n live top → TopSound n next top
    top-alike top t = record { is_live = λ i e. live_alike i (t.is_live i e); no-live = λ e i l. alike i ∙ t.no-live e i l }

  -- ---- the way to root in another table, which has the scopes of P as they were

  leads-in : (next : ℕ → Option Scope) (P : ℕ → Type 0)
      → ((i p : ℕ) (k : Scope) → P i → live i ≡ some k → k.parent ≡ some p → p < n → P p)
      → ((i : ℕ) (k : Scope) → P i → live i ≡ some k → (x : Scope) × (next i ≡ some x) × (x.parent ≡ k.parent) × (x.number ≡ k.number))
      → (i : ℕ) → P i → LeadsToRoot n live i → LeadsToRoot n next i
  leads-in next P above same i h (root k e p z m) = let s = same i k h e in root s.0 s.1 (s.2 ∙ p) z (s.3 ∙ m)
  leads-in next P above same i h (up k p e q z l d) =
      let s = same i k h e in
      up s.0 p s.1 (s.2 ∙ q) z l (leads-in next P above same p (above i p k h e q l) d)

  -- ---- a scope is opened at i

  module _ (i : ℕ) (x : Scope) (free : live i ≡ none) where
    opened-leads : (j : ℕ) → LeadsToRoot n live j → LeadsToRoot n (put live i (some x)) j
    opened-leads j d =
        leads-in (put live i (some x)) (λ _. Unit {0}) (λ _ _ _ _ _ _ _. tt)
        (λ a k _ e. by_eqb i a (λ q. none-some (sym (subst (λ (y : ℕ). live y ≡ none) q free) ∙ e)) (λ ne. (k, put_other live i (some x) a ne ∙ e, refl, refl)))
        j tt d

    pub opened-live : (j : ℕ) → is_some (live j) ≡ true → is_some (put live i (some x) j) ≡ true
    opened-live j l = by_eqb i j (λ q. subst (λ (y : ℕ). is_some (put live i (some x) y) ≡ true) q (ap is_some (put_same live i (some x)))) (λ ne. ap is_some (put_other live i (some x) j ne) ∙ l)

    -- with the parent p
    pub opened-rooted : (p : ℕ) → x.parent ≡ some p → IsLive n live p → (i ≡ 0 → ⊥) → Rooted n live → Rooted n (put live i (some x))
    opened-rooted p up_to_lem h nz r j l e =
        by_eqb i j
        (λ q. subst (LeadsToRoot n (put live i (some x))) q (up x p (put_same live i (some x)) up_to_lem nz h.0 (opened-leads p (r p h.0 h.1))))
        (λ ne. opened-leads j (r j l (sym (ap is_some (put_other live i (some x) j ne)) ∙ e)))

  -- ---- the scope k is changed to x, with its parent and number

  module _ (i : ℕ) (k x : Scope) (e : live i ≡ some k) where
    pub changed-alike : (j : ℕ) → is_some (put live i (some x) j) ≡ is_some (live j)
    changed-alike j = put-alike live i (some x) is_some (rw e) j

    pub changed-rooted : x.parent ≡ k.parent → x.number ≡ k.number → Rooted n live → Rooted n (put live i (some x))
    changed-rooted same-parent same_number r j l h =
        leads-in (put live i (some x)) (λ _. Unit {0}) (λ _ _ _ _ _ _ _. tt)
        (λ a y _ q. by_eqb i a
        (λ s. let t : k ≡ y = cc in (x, subst (λ (z : ℕ). put live i (some x) z ≡ some x) s (put_same live i (some x)), same-parent ∙ ap (λ (z : Scope). z.parent) t, same_number ∙ ap (λ (z : Scope). z.number) t))
        (λ ne. (y, put_other live i (some x) a ne ∙ q, refl, refl)))
        j tt (r j l (sym (changed-alike j) ∙ h))

  -- ---- the scope at i, which has no live child, is closed

  module _ (i : ℕ) (childless : (j : ℕ) → j < n → child_of i (live j) ≡ false) where
    child-is : (j p : ℕ) (k : Scope) → live j ≡ some k → k.parent ≡ some p → i ≡ p → child_of i (live j) ≡ true
    child-is j p k e q s = rw (e, q) (eq-eqb p i (sym s))

    pub closed-live : (j : ℕ) → (i ≡ j → ⊥) → is_some (live j) ≡ true → is_some (put live i none j) ≡ true
    closed-live j ne l = ap is_some (put_other live i none j ne) ∙ l

    closed-was : (j : ℕ) → is_some (put live i none j) ≡ true → (i ≡ j → ⊥) × (is_some (live j) ≡ true)
    closed-was j l =
        by_eqb i j
        (λ q. clash l (subst (λ (y : ℕ). is_some (put live i none y) ≡ false) q (ap is_some (put_same live i none))))
        (λ ne. (ne, sym (ap is_some (put_other live i none j ne)) ∙ l))

    pub closed-rooted : Rooted n live → Rooted n (put live i none)
    closed-rooted r j l h =
        let w = closed-was j h in
        leads-in (put live i none) (λ a. (a < n) × (i ≡ a → ⊥))
        (λ a p k o e q s. (s, λ z. clash (child-is a p k e q z) (childless a o.0)))
        (λ a k o e. (k, put_other live i none a o.1 ∙ e, refl, refl))
        j (l, w.0) (r j l w.1)

    -- the top is its parent then; where it has none, it was root and the last
    pub closed-top : (k : Scope) → i < n → live i ≡ some k → Rooted n live → TopSound n (put live i none) k.parent
    closed-top k l e r = by_eqb i 0 last inner
      where
        last : i ≡ 0 → TopSound n (put live i none) k.parent
        last z =
            rw (no-parent k e z (r i l (is-some e)))
            (record {
              is_live = λ j q. none-some q;
              no-live = λ _ j b. is_false _ (λ q. clash (root_live (closed-rooted r j b q)) (subst (λ (y : ℕ). is_some (put live i none y) ≡ false) z (ap is_some (put_same live i none))));
            })

        inner : (i ≡ 0 → ⊥) → TopSound n (put live i none) k.parent
        inner nz =
            let p = parent_of k e nz (r i l (is-some e)) in
            rw p.is
            (top-some (p.live_at.0, closed-live p.index (λ s. clash (child-is i p.index k e p.is s) (childless i l)) p.live_at.1))
