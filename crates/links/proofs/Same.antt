-- The cells tell the lists, and the lists tell the cells. Assumes nothing.
use mathlib.Core.Path.{◌≡◌, refl, sym, ◌∙◌, subst}
use mathlib.Core.Logic.{◌≢◌, ◌⊎◌, inl, inr, ⊎_elim}
use mathlib.Core.Bool.{Bool, true, false}
use mathlib.Core.List.{List, [], ◌∷◌}
use Prim.Native.Nat.{ℕ, zero, suc, ◌+◌, ◌-◌, ◌≤◌, ◌<◌}
use native.Mathlib.Omega.{arith}
use native.Mathlib.Decide.{dec_lt}
use lib.ListN.{length, get_or}
use lib.Seq.{ext_get_or}
use Rattle.rules.specs.AddressSets.{member}
use Rattle.rules.proofs.Tables.{by_eqb}
use Rattle.rules.proofs.Sets.{member-cons}
use Rattle.links.specs.Links.{Links, Link, Chains, next_in, prev_in, Held, On, Off, nowhere}
use Rattle.links.proofs.Lists.{Each, same-list}
use Rattle.links.proofs.Rings.{link-fun, placed}

pub same_lists : (n m : ℕ) (next prev : ℕ → ℕ) (xs ys : ℕ → List ℕ) → Chains n m next prev xs → Chains n m next prev ys → (i : ℕ) → i < m → xs i ≡ ys i
same_lists n m next prev xs ys c d i h =
    (same-list (Link next prev) (λ x. x < n) (link-fun next prev) (n + i) (xs i) (n + i) (ys i) (n + i)
    (c.ring i h).addr (omega arith) (d.ring i h).addr (omega arith) (c.ring i h).links (d.ring i h).links).0

-- each address is on a list, or on none
pub on-or-off : (m : ℕ) (lists : ℕ → List ℕ) (a : ℕ) → On m lists a ⊎ Off m lists a
on-or-off zero lists a = inr (λ i hi. absurd (omega arith))
on-or-off (suc m) lists a = go (member a (lists m)) refl (on-or-off m lists a)
  where
    go : (b : Bool) → member a (lists m) ≡ b → On m lists a ⊎ Off m lists a → On (suc m) lists a ⊎ Off (suc m) lists a
    go true e r = inl (m, omega arith, e)
    go false e (inl w) = inl (w.0, omega (arith, w.1), w.2)
    go false e (inr o) = inr (λ i hi. by_eqb i m (λ q. rw q e) (λ ne. o i (omega arith)))

-- .. and its cell says which
module _ (n m : ℕ) (next prev : ℕ → ℕ) (lists : ℕ → List ℕ) (c : Chains n m next prev lists) (fits : n + m ≤ nowhere) (a : ℕ) (ha : a < n) where
  pub must-be : next a ≢ nowhere → On m lists a
  must-be ne = ⊎_elim (λ w. w) (λ o. absurd (ne (c.free a ha o).0)) (on-or-off m lists a)

  pub must-not : next a ≡ nowhere → Off m lists a
  must-not e = ⊎_elim (λ w. absurd (let k = placed n m next prev lists c w.0 a w.1 w.2 in omega (arith, k.right.0.0))) (λ o. o) (on-or-off m lists a)

module _ (next prev next' prev' : ℕ → ℕ) where
  abbrev Agree : ℕ → Type 0
  Agree u = (next u ≡ next' u) × (prev u ≡ prev' u)

  agree : (p : ℕ) (xs : List ℕ) (q : ℕ) → Links (Link next prev) p xs q → Links (Link next' prev') p xs q → (next p ≡ next' p) × (prev q ≡ prev' q) × Each Agree xs
  unfolding member
  agree p [] q h k = (h.0 ∙ sym k.0, h.1 ∙ sym k.1, λ x p. absurd (let z : ◌≡◌ {A = ℕ} 0 1 = cc in omega arith))
  agree p (x ∷ xs) q h k =
      let r : (next x ≡ next' x) × (prev q ≡ prev' q) × Each Agree xs = agree x xs q h.1 k.1 in (
        h.0.0 ∙ sym k.0.0,
        r.1,
        λ y p. member-cons y x xs p (λ e. rw e (r.0, h.0.1 ∙ sym k.0.1)) (λ s. r.2 y s),
      )

module _ (n m : ℕ) (next prev next' prev' : ℕ → ℕ) (lists : ℕ → List ℕ) (c : Chains n m next prev lists) (d : Chains n m next' prev' lists) where
  agrees : (i : ℕ) → i < m → (next (n + i) ≡ next' (n + i)) × (prev (n + i) ≡ prev' (n + i)) × Each (Agree next prev next' prev') (lists i)
  agrees i hi = agree next prev next' prev' (n + i) (lists i) (n + i) (c.ring i hi).links (d.ring i hi).links

  -- each cell is one of an address, or one of a list's ends
  pub same-chains : (k : ℕ) → k < n + m → (next k ≡ next' k) × (prev k ≡ prev' k)
  same-chains k hk = at (dec_lt k n) (on-or-off m lists k)
    where
      at : Dec (k < n) → On m lists k ⊎ Off m lists k → Agree next prev next' prev' k
      at (yes h) (inl w) = (agrees w.0 w.1).2 k w.2
      at (yes h) (inr o) = ((c.free k h o).0 ∙ sym (d.free k h o).0, (c.free k h o).1 ∙ sym (d.free k h o).1)
      at (no ne) r =
          let e : n + (k - n) ≡ k = omega arith in
          subst (λ (u : ℕ). Agree next prev next' prev' u) e ((agrees (k - n) (omega arith)).0, (agrees (k - n) (omega arith)).1)

-- two arrays that hold the same lists are one
pub same-cells : (n m : ℕ) (t t' : List ℕ) (lists : ℕ → List ℕ) → length t ≡ (n + m) + (n + m) → length t' ≡ (n + m) + (n + m) → Held n m t lists → Held n m t' lists → t ≡ t'
same-cells n m t t' lists l l' c d = ext_get_or 0 t t' (l ∙ sym l') (λ k hk. at k (omega arith) (dec_lt k (n + m)))
  where
    both : (k : ℕ) → k < n + m → (next_in t k ≡ next_in t' k) × (prev_in (n + m) t k ≡ prev_in (n + m) t' k)
    both = same-chains n m (next_in t) (prev_in (n + m) t) (next_in t') (prev_in (n + m) t') lists c d

    at : (k : ℕ) → k < (n + m) + (n + m) → Dec (k < n + m) → get_or t k 0 ≡ get_or t' k 0
    at k hk (yes h) = (both k h).0
    at k hk (no ne) =
        let e : (n + m) + (k - (n + m)) ≡ k = omega arith in
        subst (λ (u : ℕ). get_or t u 0 ≡ get_or t' u 0) e (both (k - (n + m)) (omega arith)).1
