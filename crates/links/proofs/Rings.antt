-- The cells: a list that they hold repeats nothing, and where a member stands on it. m lists over the addresses below n. Assumes nothing.
use mathlib.Core.Path.{◌≡◌, sym, ap, ◌∙◌, subst}
use mathlib.Core.Logic.{◌≢◌}
use mathlib.Core.Bool.{true, false}
use mathlib.Core.List.{List, ◌∷◌, ◌++◌}
use Prim.Native.Nat.{ℕ, ◌+◌, ◌≤◌, ◌<◌}
use native.Mathlib.Omega.{arith}
use lib.ListN.{length}
use Rattle.rules.specs.AddressSets.{member}
use Rattle.rules.proofs.Sets.{member-tail, Once, pigeons}
use Rattle.links.specs.Links.{Links, Link, Ring, Chains}
use Rattle.links.proofs.Lists.{Each, others, member-left, member_right, Cut, cut, links-back, links-map, before, after, last, off-other, off-back, links-once}

-- a link's target is told by its source
pub link-fun : (next prev : ℕ → ℕ) (u v w : ℕ) → Link next prev u v → Link next prev u w → v ≡ w
link-fun next prev u v w h k = cc

module _ (n m : ℕ) (next prev : ℕ → ℕ) where
  -- ---- one list

  pub ring-once : (e : ℕ) (xs : List ℕ) → n ≤ e → Ring n next prev e xs → Once xs
  ring-once e xs lo h = links-once (Link next prev) (λ x. x < n) (link-fun next prev) e xs e (omega arith) h.addr h.links

  pub ring-length : (e : ℕ) (xs : List ℕ) → n ≤ e → Ring n next prev e xs → length xs ≤ n
  ring-length e xs lo h = pigeons n xs (ring-once e xs lo h) h.addr

  -- a list of which each link is kept is kept
  pub ring-keeps : (next' prev' : ℕ → ℕ) (P Q : ℕ → Type 0) → ((u v : ℕ) → P u → Q v → Link next prev u v → Link next' prev' u v)
      → (e : ℕ) (xs : List ℕ) → P e → Q e → Each P xs → Each Q xs → Ring n next prev e xs → Ring n next' prev' e xs
  ring-keeps next' prev' P Q f e xs pe qe ps qs h = record { links = links-map (Link next prev) P Q f e xs e pe ps qs qe h.links; addr = h.addr }

  -- a cell of a list, and not a
  abbrev pub Near : ℕ → ℕ → Type 0
  Near a u = (u < n + m) × (u ≢ a)

  -- where a stands on a list
  pub record Place (e a : ℕ) (xs : List ℕ) : Type 0 where
    pub ys : List ℕ
    pub zs : List ℕ
    pub eq : xs ≡ ys ++ a ∷ zs
    pub small : a < n
    pub links : Links (Link next prev) e (ys ++ a ∷ zs) e
    pub oy : member a ys ≡ false
    pub oz : member a zs ≡ false
    pub left : Near a (prev a) × Link next prev (prev a) a
    pub right : Near a (next a) × Link next prev a (next a)

  near : (a : ℕ) (xs : List ℕ) → Each (λ x. x < n) xs → member a xs ≡ false → Each (Near a) xs
  near a xs h o x p = (omega (arith, h x p), others a xs o x p)

  pub place : (e a : ℕ) (xs : List ℕ) → n ≤ e → e < n + m → Ring n next prev e xs → member a xs ≡ true → Place e a xs
  place e a xs lo hi h p =
      record {
        ys = k.front;
        zs = k.back;
        eq = k.eq;
        small = small;
        links = links;
        oy = k.new;
        oz = oz;
        left = subst (λ (u : ℕ). Near a u × Link next prev u a) (sym l.2.1) (l.1, l.2);
        right = subst (λ (u : ℕ). Near a u × Link next prev a u) (sym r.2.0) (r.1, r.2);
      }
    where
      k : Cut a xs
      k = cut a xs p

      links : Links (Link next prev) e (k.front ++ a ∷ k.back) e
      links = subst (λ (t : List ℕ). Links (Link next prev) e t e) k.eq h.links

      all : Each (λ x. x < n) (k.front ++ a ∷ k.back)
      all = subst (λ (t : List ℕ). Each (λ x. x < n) t) k.eq h.addr

      small : a < n
      small = h.addr a p

      sy : Each (λ x. x < n) k.front
      sy x q = all x (member-left x k.front (a ∷ k.back) q)

      sz : Each (λ x. x < n) k.back
      sz x q = all x (member_right x k.front (a ∷ k.back) (member-tail x a k.back q))

      back : Links (Link next prev) a k.back e
      back = links-back (Link next prev) e k.front a k.back e links

      oz : member a k.back ≡ false
      oz = off-back (Link next prev) (λ x. x < n) (link-fun next prev) a k.back e sz (omega arith) back

      ea : Near a e
      ea = (hi, omega (arith, small))

      l : (l : ℕ) × Near a l × Link next prev l a
      l = before (Link next prev) (Near a) e k.front a k.back e ea (near a k.front sy k.new) links

      r : (r : ℕ) × Near a r × Link next prev a r
      r = after (Link next prev) (Near a) a k.back e (near a k.back sz oz) ea back

  -- where a new address goes
  pub end_of : (e a : ℕ) (xs : List ℕ) → a < n → n ≤ e → e < n + m → Ring n next prev e xs → member a xs ≡ false → Near a (prev e) × Link next prev (prev e) e
  end_of e a xs sa lo hi h o =
      let t : (l : ℕ) × Near a l × Link next prev l e = last (Link next prev) (Near a) e xs e (hi, omega arith) (near a xs h.addr o) h.links in
      subst (λ (u : ℕ). Near a u × Link next prev u e) (sym t.2.1) (t.1, t.2)

-- ---- all lists

module _ (n m : ℕ) (next prev : ℕ → ℕ) (lists : ℕ → List ℕ) (c : Chains n m next prev lists) where
  -- the place of a on list i
  pub placed : (i a : ℕ) → i < m → member a (lists i) ≡ true → Place n m next prev (n + i) a (lists i)
  placed i a hi p = place n m next prev (n + i) a (lists i) (omega arith) (omega arith) (c.ring i hi) p

  -- what is on list i is on no other
  pub off-others : (i a : ℕ) → i < m → member a (lists i) ≡ true → (j : ℕ) → j < m → j ≢ i → member a (lists j) ≡ false
  off-others i a hi p j hj ne =
      let k = placed i a hi p in
      off-other (Link next prev) (λ x. x < n) (link-fun next prev) a k.zs (n + i)
      (λ x q. (c.ring i hi).addr x (subst (λ (t : List ℕ). member x t ≡ true) (sym k.eq) (member_right x k.ys (a ∷ k.zs) (member-tail x a k.zs q))))
      (omega arith) (links-back (Link next prev) (n + i) k.ys a k.zs (n + i) k.links)
      (n + j) (lists j) (n + j) (omega arith) (omega arith) (c.ring j hj).addr (c.ring j hj).links

-- the same lists, said otherwise
pub chains-alike : (n m : ℕ) (next prev : ℕ → ℕ) (xs ys : ℕ → List ℕ) → ((i : ℕ) → i < m → ys i ≡ xs i) → Chains n m next prev xs → Chains n m next prev ys
chains-alike n m next prev xs ys e c =
    record {
      ring = λ i hi. rw (e i hi) (c.ring i hi);
      free = λ a ha o. c.free a ha (λ i hi. ap (member a) (sym (e i hi)) ∙ o i hi);
    }
