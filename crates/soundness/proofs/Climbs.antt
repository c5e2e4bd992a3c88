-- Parents lead to root alike as the state stores them and as the rules see them, and climbing over at most SCOPES of them tells it.
-- Assumes nothing.
use mathlib.Core.Path.{◌≡◌, refl, sym, ap, ◌∙◌, subst}
use mathlib.Core.Logic.{◌≢◌, by_cases}
use mathlib.Core.Bool.{Bool, true, false}
use mathlib.Core.Option.{Option, none, some}
use mathlib.Core.List.{List, []}
use Prim.Native.Nat.{ℕ, zero, suc, ◌-◌, ◌≤◌, ◌<◌}
use native.Mathlib.Decide.{dec_lt}
use native.Mathlib.Omega.{arith}
use lib.Dec.{eqb}
use lib.ListN.{length, get_or, set, replicate, length-replicate, length-set, get_or-eq_default}
use lib.Seq.{get_or-set_other}
use borrow.Author.Tests.{eq-eqb, ne_eqb, eqb-true, lt-ltb, le-ltb}
use Rattle.rules.specs.Sizes.{SCOPES}
use Rattle.rules.specs.Scopes.{Scope}
use Rattle.rules.specs.Tells.{Tells}
use Rattle.rules.proofs.Tables.{by_eqb}
use Rattle.rules.proofs.Chains.{none-some}
use Rattle.rules.proofs.Sound as rule
use Rattle.rules.proofs.Climb.{height, height-below}
use Rattle.rules.proofs.Tells.{decided, clash}
use Rattle.scopes.specs.View.{index, only_if, scope_at, scopes_from}
use Rattle.scopes.specs.Sound.{LeadsToRoot, root, up}
use Rattle.soundness.specs.Parts.{climb, Known}

-- ---- an index below SCOPES, or none

pub index-some : (n : ℕ) → n < SCOPES → index n ≡ some n
index-some n h = rw (lt-ltb n SCOPES h, index)

pub index-none : (n : ℕ) → SCOPES ≤ n → index n ≡ none
index-none n h = rw (le-ltb n SCOPES h, index)

pub index_is : (n p : ℕ) → index n ≡ some p → (n ≡ p) × (n < SCOPES)
index_is n p e =
    by_cases (dec_lt n SCOPES)
    (λ l. (let q : some n ≡ some p = sym (index-some n l) ∙ e in cc, l))
    (λ l. none-some (sym (index-none n (omega arith)) ∙ e))

pub index-over : (n : ℕ) → index n ≡ none → SCOPES ≤ n
index-over n e = by_cases (dec_lt n SCOPES) (λ l. none-some (sym e ∙ index-some n l)) (λ l. omega arith)

-- ---- which scopes are live

pub live_below : (live : List Bool) → length live ≡ SCOPES → (i : ℕ) → get_or live i false ≡ true → i < SCOPES
live_below live len i l = by_cases (dec_lt i SCOPES) (λ h. h) (λ h. clash l (get_or-eq_default live false (omega arith)))

pub leads-live : (live : List Bool) (parent : List ℕ) (i : ℕ) → LeadsToRoot live parent i → get_or live i false ≡ true
leads-live live parent i (root l q) = l
leads-live live parent i (up n l r) = l

-- root has no parent
pub leads-root : (live : List Bool) (parent : List ℕ) (i : ℕ) → LeadsToRoot live parent i → get_or parent 0 0 ≡ SCOPES
leads-root live parent i (root l q) = q
leads-root live parent i (up n l r) = leads-root live parent (get_or parent i 0) r

some-live : (b : Bool) (x k : Scope) → only_if b x ≡ some k → (b ≡ true) × (x ≡ k)
some-live true x k e = (refl, cc)
some-live false x k e = none-some e

-- ---- the state's parents and the rules'

module _ (live dangled : List Bool) (parent number : List ℕ) (owned : ℕ → List ℕ) where
  abbrev pub seen : ℕ → Option Scope
  seen = scopes_from live dangled parent number owned

  abbrev scope : ℕ → Scope
  scope i = scope_at dangled parent number owned i

  pub seen-live : (i : ℕ) → get_or live i false ≡ true → seen i ≡ some (scope i)
  seen-live i l = ap (λ (b : Bool). only_if b (scope i)) l

  pub to-rule : length live ≡ SCOPES → get_or number 0 0 ≡ 0 → (i : ℕ) → LeadsToRoot live parent i → rule.LeadsToRoot SCOPES seen i
  to-rule len z i (root l q) = rule.root (scope 0) (seen-live 0 l) (index-none (get_or parent 0 0) (omega (arith, q))) refl z
  to-rule len z i (up n l r) =
      let below : get_or parent i 0 < SCOPES = live_below live len (get_or parent i 0) (leads-live live parent (get_or parent i 0) r) in
      rule.up (scope i) (get_or parent i 0) (seen-live i l) (index-some (get_or parent i 0) below) n below (to-rule len z (get_or parent i 0) r)

  pub of-rule : get_or parent 0 0 ≤ SCOPES → (i : ℕ) → rule.LeadsToRoot SCOPES seen i → LeadsToRoot live parent i
  of-rule most i (rule.root k e p z q) =
      let w : (get_or live i false ≡ true) × (scope i ≡ k) = some-live (get_or live i false) (scope i) k e in
      let over : SCOPES ≤ get_or parent i 0 = index-over (get_or parent i 0) (ap (λ (x : Scope). x.parent) w.1 ∙ p) in
      subst (LeadsToRoot live parent) (sym z)
      (root (subst (λ (j : ℕ). get_or live j false ≡ true) z w.0) (omega (arith, subst (λ (j : ℕ). SCOPES ≤ get_or parent j 0) z over, most)))
  of-rule most i (rule.up k p e q z l d) =
      let w : (get_or live i false ≡ true) × (scope i ≡ k) = some-live (get_or live i false) (scope i) k e in
      let to : get_or parent i 0 ≡ p = (index_is (get_or parent i 0) p (ap (λ (x : Scope). x.parent) w.1 ∙ q)).0 in
      up z w.0 (subst (LeadsToRoot live parent) (sym to) (of-rule most p d))

  -- root's number
  pub root-number : rule.LeadsToRoot SCOPES seen 0 → get_or number 0 0 ≡ 0
  root-number d = go 0 refl d
    where
      go : (i : ℕ) → i ≡ 0 → rule.LeadsToRoot SCOPES seen i → get_or number 0 0 ≡ 0
      go i e (rule.root k f p z q) =
          subst (λ (j : ℕ). get_or number j 0 ≡ 0) z (ap (λ (x : Scope). x.number) (some-live (get_or live i false) (scope i) k f).1 ∙ q)
      go i e (rule.up k p f q z l d) = absurd (z e)

-- ---- the climb

module _ (live : List Bool) (parent : List ℕ) where
  pub climb-dead : (k i : ℕ) → get_or live i false ≡ false → climb live parent k i ≡ false
  unfolding climb
  climb-dead zero i e = refl
  climb-dead (suc k) i e = rw (e, climb)

  climb-root : (k i : ℕ) → get_or live i false ≡ true → i ≡ 0 → climb live parent (suc k) i ≡ eqb (get_or parent i 0) SCOPES
  unfolding climb
  climb-root k i e z = rw (e, eq-eqb i 0 z, climb)

  climb-up : (k i : ℕ) → get_or live i false ≡ true → i ≢ 0 → climb live parent (suc k) i ≡ climb live parent k (get_or parent i 0)
  unfolding climb
  climb-up k i e z = rw (e, ne_eqb i 0 z, climb)

  climb-leads : (k i : ℕ) → climb live parent k i ≡ true → LeadsToRoot live parent i
  unfolding climb
  climb-leads zero i e = clash e refl
  climb-leads (suc k) i e = decided (get_or live i false) (on (climb-leads k (get_or parent i 0))) (λ l. clash e (climb-dead (suc k) i l))
    where
      on : (climb live parent k (get_or parent i 0) ≡ true → LeadsToRoot live parent (get_or parent i 0)) → get_or live i false ≡ true → LeadsToRoot live parent i
      on ih l =
          by_eqb i 0
          (λ z. subst (LeadsToRoot live parent) (sym z)
          (root (subst (λ (j : ℕ). get_or live j false ≡ true) z l) (subst (λ (j : ℕ). get_or parent j 0 ≡ SCOPES) z (eqb-true _ _ (sym (climb-root k i l z) ∙ e)))))
          (λ z. up z l (ih (sym (climb-up k i l z) ∙ e)))

  -- the rules' way up, of which the height is known
  abbrev Way : ℕ → Type 0
  Way i = rule.LeadsToRoot SCOPES (scopes_from live [] parent [] (λ j. [])) i

  climbs : get_or parent 0 0 ≡ SCOPES → (k : ℕ) (i : ℕ) (d : Way i) → height d < k → climb live parent k i ≡ true
  unfolding height
  climbs z zero i d h = absurd (omega arith)
  climbs z (suc k) i (rule.root x e p q m) h =
      climb-root k i (some-live (get_or live i false) _ x e).0 q ∙ eq-eqb (get_or parent i 0) SCOPES (subst (λ (j : ℕ). get_or parent j 0 ≡ SCOPES) (sym q) z)
  climbs z (suc k) i (rule.up x p e q n l d) h =
      let w = some-live (get_or live i false) _ x e in
      climb-up k i w.0 n
      ∙ ap (climb live parent k) (index_is (get_or parent i 0) p (ap (λ (y : Scope). y.parent) w.1 ∙ q)).0
      ∙ climbs z k p d (omega arith)

  pub climb-tells : length live ≡ SCOPES → (r : Bool) (i : ℕ) → r ≡ climb live parent SCOPES i → Tells r (LeadsToRoot live parent i)
  climb-tells len r i e =
      record {
        holds = λ t. climb-leads SCOPES i (sym e ∙ t);
        shows = λ h.
            let d : Way i = to-rule live [] parent [] (λ j. []) len refl i h in
            e ∙ climbs (leads-root live parent i h) SCOPES i d (height-below (live_below live len i (leads-live live parent i h)) d);
      }

  -- ---- the steps as the code takes them: n more are allowed at i

  pub climb-last : (n i : ℕ) → 0 < n → get_or live i false ≡ true → i ≡ 0 → climb live parent n i ≡ eqb (get_or parent i 0) SCOPES
  climb-last n i h l z = let e : n ≡ suc (n - 1) = omega arith in ap (λ (m : ℕ). climb live parent m i) e ∙ climb-root (n - 1) i l z

  pub climb-next : (n k i : ℕ) → n ≡ suc k → get_or live i false ≡ true → i ≢ 0 → climb live parent n i ≡ climb live parent k (get_or parent i 0)
  climb-next n k i e l z = ap (λ (m : ℕ). climb live parent m i) e ∙ climb-up k i l z

  pub climb-zero : (n i : ℕ) → n ≤ 0 → climb live parent n i ≡ false
  unfolding climb
  climb-zero zero i h = refl
  climb-zero (suc n) i h = absurd (omega arith)

  pub beyond : (n i : ℕ) → length live ≤ i → climb live parent n i ≡ false
  beyond n i h = climb-dead n i (get_or-eq_default live false h)

  -- ---- a way, scope by scope, and what is known of the scopes

  pub leads-below : length live ≡ SCOPES → (i : ℕ) → LeadsToRoot live parent i → i < SCOPES
  leads-below len i h = live_below live len i (leads-live live parent i h)

  pub nearer : (i : ℕ) → i ≢ 0 → LeadsToRoot live parent i → LeadsToRoot live parent (get_or parent i 0)
  nearer i z (root l e) = absurd (z refl)
  nearer i z (up n l h) = h

  pub known-none : Known live parent (replicate SCOPES false)
  known-none = record { long = length-replicate SCOPES false; leads = λ k e. clash e (none SCOPES k) }
    where
      none : (n k : ℕ) → get_or (replicate n false) k false ≡ false
      none zero k = refl
      none (suc n) zero = refl
      none (suc n) (suc k) = none n k

  pub known_more : (known : List Bool) (i : ℕ) → Known live parent known → LeadsToRoot live parent i → Known live parent (set known i true)
  known_more known i m h =
      record {
        long = length-set known i true ∙ m.long;
        leads = λ k e. by_eqb k i (λ q. subst (LeadsToRoot live parent) (sym q) h) (λ q. m.leads k (sym (get_or-set_other known i k true false q) ∙ e));
      }
