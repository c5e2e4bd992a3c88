-- What the stores of `unlink` do to the lists: the cells next to a point at each other, and those of a get the mark. Assumes nothing.
use mathlib.Core.Path.{◌≡◌, sym, ap, ◌∙◌, subst}
use mathlib.Core.Logic.{◌≢◌}
use mathlib.Core.Bool.{true, false}
use mathlib.Core.List.{List, ◌++◌}
use Prim.Native.Nat.{ℕ, ◌+◌, ◌≤◌, ◌<◌}
use native.Mathlib.Omega.{arith}
use Rattle.rules.specs.Notation.{put}
use Rattle.rules.specs.AddressSets.{member, without}
use Rattle.rules.proofs.Tables.{by_eqb}
use Rattle.rules.proofs.Sets.{without-none, without-member}
use Rattle.links.specs.Links.{Links, Link, Ring, Chains, nowhere, Off, leaves}
use Rattle.links.proofs.Lists.{others, without-cut, without_other, without_gone, links-unlink}
use Rattle.links.proofs.Stores.{get_first, get-second, get_other}
use Rattle.links.proofs.Rings.{ring-keeps, Place, placed, off-others, chains-alike}

-- after it a is on no list
pub off-left : (m a : ℕ) (lists : ℕ → List ℕ) → Off m (leaves a lists) a
off-left m a lists i hi = without_gone a (lists i)

-- where a is on no list, nothing leaves
pub stays : (n m : ℕ) (next prev : ℕ → ℕ) (lists : ℕ → List ℕ) (a : ℕ) → Off m lists a → Chains n m next prev lists → Chains n m next prev (leaves a lists)
stays n m next prev lists a o c = chains-alike n m next prev lists (leaves a lists) (λ i hi. without-none a (lists i) (o i hi)) c

module _ (n m : ℕ) (next prev : ℕ → ℕ) (lists : ℕ → List ℕ) (c : Chains n m next prev lists) (fits : n + m ≤ nowhere)
    (i a : ℕ) (hi : i < m) (p : member a (lists i) ≡ true) where
  abbrev l : ℕ
  l = prev a

  abbrev r : ℕ
  r = next a

  abbrev pub next' : ℕ → ℕ
  next' = put (put next l r) a nowhere

  abbrev pub prev' : ℕ → ℕ
  prev' = put (put prev r l) a nowhere

  k : Place n m next prev (n + i) a (lists i)
  k = placed n m next prev lists c i a hi p

  -- a link that a has no part in stays; there is one new link
  keeps : (u v : ℕ) → u ≢ a → v ≢ a → Link next prev u v → Link next' prev' u v
  keeps u v nu nv h = (
    get_other next l r a nowhere u (λ e. nv (cc k.left.1.0)) nu ∙ h.0,
    get_other prev r l a nowhere v (λ e. nu (cc k.right.1.1)) nv ∙ h.1,
  )

  joins : Link next' prev' l r
  joins = (get_first next l r a nowhere k.left.0.1, get_first prev r l a nowhere k.right.0.1)

  gone : without a (lists i) ≡ k.ys ++ k.zs
  gone = ap (without a) k.eq ∙ without-cut a k.ys k.zs k.oy k.oz

  here : Ring n next' prev' (n + i) (without a (lists i))
  here =
      record {
        links = subst (λ (t : List ℕ). Links (Link next' prev') (n + i) t (n + i)) (sym gone)
            (links-unlink (Link next prev) (λ x. x ≢ a) l a r (n + i) k.ys k.zs (n + i) keeps (λ u h. cc) (λ v h. cc) joins (omega (arith, k.small)) (others a k.ys k.oy) (others a k.zs k.oz) (omega (arith, k.small)) k.links);
        addr = λ x q. (c.ring i hi).addr x (without-member a x (lists i) q).0;
      }

  there : (j : ℕ) → j < m → j ≢ i → Ring n next' prev' (n + j) (without a (lists j))
  there j hj ne =
      let o : member a (lists j) ≡ false = off-others n m next prev lists c i a hi p j hj ne in
      subst (λ (t : List ℕ). Ring n next' prev' (n + j) t) (sym (without-none a (lists j) o))
      (ring-keeps n m next prev next' prev' (λ x. x ≢ a) (λ x. x ≢ a) keeps (n + j) (lists j) (omega (arith, k.small)) (omega (arith, k.small)) (others a (lists j) o) (others a (lists j) o) (c.ring j hj))

  free : (b : ℕ) → b < n → Off m (leaves a lists) b → (next' b ≡ nowhere) × (prev' b ≡ nowhere)
  free b hb o =
      by_eqb b a
      (λ e. subst (λ (u : ℕ). (next' u ≡ nowhere) × (prev' u ≡ nowhere)) (sym e) (get-second next l r a nowhere, get-second prev r l a nowhere))
      (λ ne.
      let z : (next b ≡ nowhere) × (prev b ≡ nowhere) = c.free b hb (λ j hj. sym (without_other a b (lists j) ne) ∙ o j hj) in
      let sa : a < n = k.small in (
        get_other next l r a nowhere b (λ q. (let w : a ≡ nowhere = cc k.left.1.0 in omega arith)) ne ∙ z.0,
        get_other prev r l a nowhere b (λ q. (let w : a ≡ nowhere = cc k.right.1.1 in omega arith)) ne ∙ z.1,
      ))

  pub unlinked : Chains n m next' prev' (leaves a lists)
  unlinked =
      record {
        ring = λ j hj. by_eqb j i (λ e. subst (λ (u : ℕ). Ring n next' prev' (n + u) (without a (lists u))) (sym e) here) (λ ne. there j hj ne);
        free = free;
      }
