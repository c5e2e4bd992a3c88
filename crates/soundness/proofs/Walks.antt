-- A walk round each list, with a bound on its steps, tells whether the cells hold the lists that are read off them. Assumes nothing.
use mathlib.Core.Path.{◌≡◌, refl, sym, ◌∙◌, subst}
use mathlib.Core.Logic.{◌≢◌, by_cases}
use mathlib.Core.Bool.{Bool, true, false}
use mathlib.Core.List.{List, [], ◌∷◌}
use Prim.Native.Nat.{ℕ, zero, suc, ◌+◌, ◌≤◌, ◌<◌}
use native.Mathlib.Decide.{ℕ_discrete, dec_lt}
use native.Mathlib.Omega.{arith}
use lib.Dec.{eqb}
use lib.ListN.{length}
use borrow.Author.Tests.{eq-eqb, ne_eqb, eqb-true, lt-ltb, le-ltb}
use Rattle.rules.specs.AddressSets.{member}
use Rattle.rules.proofs.Tables.{by_eqb}
use Rattle.rules.proofs.Sets.{member-cons, within-nil, no_member}
use Rattle.rules.proofs.Tells.{clash}
use Rattle.links.specs.Links.{Links, Link, Held, next_in, prev_in}
use Rattle.links.specs.Follow.{follow, lists}
use Rattle.links.proofs.Lists.{Each, each-head, each_tail}
use Rattle.links.proofs.Rings.{ring-length}
use Rattle.soundness.specs.Parts.{Below, owner_of, goes, round, RingedAt}

each_nil : (P : ℕ → Type 0) → Each P []
each_nil P x p = absurd (omega (arith, within-nil 0 x p))

each-cons : (P : ℕ → Type 0) (x : ℕ) (xs : List ℕ) → P x → Each P xs → Each P (x ∷ xs)
each-cons P x xs h t y p = member-cons y x xs p (λ e. subst P (sym e) h) (t y)

-- ---- one step

module _ (n : ℕ) (next : ℕ → ℕ) where
  pub follow-on : (k c : ℕ) → c < n → follow n (suc k) next c ≡ c ∷ follow n k next (next c)
  unfolding follow
  follow-on k c h = rw (lt-ltb c n h, follow)

  pub follow-end : (k c : ℕ) → n ≤ c → follow n k next c ≡ []
  unfolding follow
  follow-end zero c h = refl
  follow-end (suc k) c h = rw (le-ltb c n h, follow)

module _ (n : ℕ) (next prev owner : ℕ → ℕ) (i e : ℕ) where
  abbrev pub Goes : ℕ → ℕ → ℕ → Bool
  Goes k p c = goes n next prev owner i e k p c

  pub goes-zero : (p c : ℕ) → Goes 0 p c ≡ false
  unfolding goes
  goes-zero p c = refl

  pub goes_on : (k p c : ℕ) → c < n → prev c ≡ p → owner c ≡ i → Goes (suc k) p c ≡ Goes k c (next c)
  unfolding goes
  goes_on k p c h b o = rw (lt-ltb c n h, eq-eqb _ _ b, eq-eqb _ _ o, goes)

  pub goes-back : (k p c : ℕ) → c < n → prev c ≢ p → Goes (suc k) p c ≡ false
  unfolding goes
  goes-back k p c h b = rw (lt-ltb c n h, ne_eqb _ _ b, goes)

  pub goes-off : (k p c : ℕ) → c < n → prev c ≡ p → owner c ≢ i → Goes (suc k) p c ≡ false
  unfolding goes
  goes-off k p c h b o = rw (lt-ltb c n h, eq-eqb _ _ b, ne_eqb _ _ o, goes)

  pub goes-astray : (k p c : ℕ) → n ≤ c → c ≢ e → Goes (suc k) p c ≡ false
  unfolding goes
  goes-astray k p c h b = rw (le-ltb c n h, ne_eqb _ _ b, goes)

  pub goes-home : (k p c : ℕ) → n ≤ c → c ≡ e → Goes (suc k) p c ≡ eqb (prev e) p
  unfolding goes
  goes-home k p c h b = rw (le-ltb c n h, eq-eqb _ _ b, goes)

  -- ---- the whole walk

  record Rung (p : ℕ) (xs : List ℕ) : Type 0 where
    links : Links (Link next prev) p xs e
    addr : Each (λ x. x < n) xs
    own : Each (λ x. owner x ≡ i) xs

  walked : (k p c : ℕ) → next p ≡ c → Goes k p c ≡ true → Rung p (follow n k next c)
  walked zero p c q h = clash h (goes-zero p c)
  walked (suc k) p c q h =
      by_cases (dec_lt c n)
      (λ l. by_cases (ℕ_discrete (prev c) p)
      (λ b. by_cases (ℕ_discrete (owner c) i)
      (λ o. let r : Rung c (follow n k next (next c)) = walked k c (next c) refl (sym (goes_on k p c l b o) ∙ h) in
      subst (Rung p) (sym (follow-on n next k c l))
      (record {
        links = ((q, b), r.links);
        addr = each-cons (λ x. x < n) c (follow n k next (next c)) l r.addr;
        own = each-cons (λ x. owner x ≡ i) c (follow n k next (next c)) o r.own;
      }))
      (λ o. clash h (goes-off k p c l b o)))
      (λ b. clash h (goes-back k p c l b)))
      (λ l. by_cases (ℕ_discrete c e)
      (λ b. subst (Rung p) (sym (follow-end n next (suc k) c (omega arith)))
      (record { links = (q ∙ b, eqb-true _ _ (sym (goes-home k p c (omega arith) b) ∙ h)); addr = each_nil (λ x. x < n); own = each_nil (λ x. owner x ≡ i) }))
      (λ b. clash h (goes-astray k p c (omega arith) b)))

  walks : (k p c : ℕ) → n ≤ e → next p ≡ c → length (follow n k next c) < k → Rung p (follow n k next c) → Goes k p c ≡ true
  walks zero p c he q lt r = absurd (omega arith)
  walks (suc k) p c he q lt r =
      by_cases (dec_lt c n)
      (λ l. on l (subst (Rung p) (follow-on n next k c l) r) (subst (λ (x : List ℕ). length x < suc k) (follow-on n next k c l) lt) (λ lt' r'. walks k c (next c) he refl lt' r'))
      (λ l. let z : Rung p [] = subst (Rung p) (follow-end n next (suc k) c (omega arith)) r in
      goes-home k p c (omega arith) (sym q ∙ z.links.0) ∙ eq-eqb _ _ z.links.1)
    where
      on : c < n → Rung p (c ∷ follow n k next (next c)) → length (c ∷ follow n k next (next c)) < suc k
          → (length (follow n k next (next c)) < k → Rung c (follow n k next (next c)) → Goes k c (next c) ≡ true) → Goes (suc k) p c ≡ true
      on l r lt ih =
          goes_on k p c l r.links.0.1 (each-head (λ x. owner x ≡ i) c (follow n k next (next c)) r.own)
          ∙ ih (omega arith) (record {
            links = r.links.1;
            addr = each_tail (λ x. x < n) c (follow n k next (next c)) r.addr;
            own = each_tail (λ x. owner x ≡ i) c (follow n k next (next c)) r.own;
          })

-- ---- all lists of an array

module _ (n m : ℕ) (links owner : List ℕ) where
  rung : (i : ℕ) → round n m links owner i ≡ true → Rung n (next_in links) (prev_in (n + m) links) (owner_of owner) i (n + i) (n + i) (lists n links i)
  unfolding lists
  rung i h = walked n (next_in links) (prev_in (n + m) links) (owner_of owner) i (n + i) (suc n) (n + i) (next_in links (n + i)) refl h

  -- what the walks and the owners say makes the cells hold the lists ..
  module _ (h : Below m (λ i. round n m links owner i ≡ true)) (k : Below n (RingedAt n m links owner)) where
    pub held_of : Held n m links (lists n links)
    held_of =
        record {
          ring = λ i hi. let r = rung i (h i hi) in record { links = r.links; addr = r.addr };
          free = λ a ha off. (k a ha).off (by_cases (dec_lt (owner_of owner a) m)
              (λ l. clash ((k a ha).on l) (off (owner_of owner a) l))
              (λ l. omega (arith, (k a ha).most)));
        }

    pub tells-of : (a i : ℕ) → a < n → i < m → member a (lists n links i) ≡ eqb (owner_of owner a) i
    tells-of a i ha hi =
        by_eqb (owner_of owner a) i
        (λ e. subst (λ (j : ℕ). member a (lists n links j) ≡ true) e ((k a ha).on (omega arith)) ∙ sym (eq-eqb _ _ e))
        (λ ne. no_member a (lists n links i) (λ p. ne ((rung i (h i hi)).own a p)) ∙ sym (ne_eqb _ _ ne))

  -- .. and where they do, the walks and the owners say so
  module _ (s : Held n m links (lists n links)) (tells : (a i : ℕ) → a < n → i < m → member a (lists n links i) ≡ eqb (owner_of owner a) i) where
    pub goes-round : Below m (λ i. round n m links owner i ≡ true)
    unfolding lists
    goes-round i hi =
        let r = s.ring i hi in
        walks n (next_in links) (prev_in (n + m) links) (owner_of owner) i (n + i) (suc n) (n + i) (next_in links (n + i)) (omega arith) refl
        (omega (arith, ring-length n m (next_in links) (prev_in (n + m) links) (n + i) (lists n links i) (omega arith) r))
        (record { links = r.links; addr = r.addr; own = λ a p. eqb-true _ _ (sym (tells a i (r.addr a p) hi) ∙ p) })

    pub ringed-at : ((a : ℕ) → a < n → owner_of owner a ≤ m) → Below n (RingedAt n m links owner)
    ringed-at most a ha =
        record {
          most = most a ha;
          on = λ l. tells a (owner_of owner a) ha l ∙ eq-eqb (owner_of owner a) (owner_of owner a) refl;
          off = λ e. s.free a ha (λ i hi. tells a i ha hi ∙ ne_eqb (owner_of owner a) i (λ q. omega (arith, e, q, hi)));
        }
