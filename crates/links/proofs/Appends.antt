-- What the stores of `append` do to the lists: a comes between the last address of list i and the end. Assumes nothing.
use mathlib.Core.Path.{◌≡◌, refl, sym, ap, ◌∙◌, subst}
use mathlib.Core.Logic.{◌≢◌}
use mathlib.Core.Bool.{true≢false}
use mathlib.Core.List.{List}
use Prim.Native.Nat.{ℕ, ◌+◌, ◌≤◌, ◌<◌}
use native.Mathlib.Omega.{arith}
use lib.Dec.{eqb}
use borrow.Author.Tests.{eq-eqb, ne_eqb}
use Rattle.rules.specs.Notation.{put}
use Rattle.rules.specs.AddressSets.{member, added}
use Rattle.rules.proofs.Tables.{by_eqb, put_same, put_other}
use Rattle.rules.proofs.Sets.{member-snoc}
use Rattle.links.specs.Links.{Link, Ring, Chains, nowhere, Off, gains}
use Rattle.links.proofs.Lists.{Each, others, added-same, added-other, added_new, links-append}
use Rattle.links.proofs.Stores.{get_first, get-second, get_other}
use Rattle.links.proofs.Rings.{ring-keeps, Near, end_of}

-- a list that gains a has it; whatever else is on a list stays there
module _ (m a i : ℕ) (xs : ℕ → List ℕ) (off : Off m xs a) (hi : i < m) where
  pub gains-same : (j : ℕ) → j < m → member a (gains i a xs j) ≡ eqb i j
  gains-same j hj =
      by_eqb i j
      (λ e. subst (λ (u : ℕ). member a (gains i a xs u) ≡ eqb i u) e (ap (member a) (put_same xs i (added a (xs i))) ∙ added-same a (xs i) (off i hi) ∙ sym (eq-eqb i i refl)))
      (λ ne. ap (member a) (put_other xs i (added a (xs i)) j ne) ∙ off j hj ∙ sym (ne_eqb i j ne))

  pub gains-other : (b j : ℕ) → b ≢ a → member b (gains i a xs j) ≡ member b (xs j)
  gains-other b j n =
      by_eqb i j
      (λ e. subst (λ (u : ℕ). member b (gains i a xs u) ≡ member b (xs u)) e (ap (member b) (put_same xs i (added a (xs i))) ∙ added-other a b (xs i) (off i hi) n))
      (λ ne. ap (member b) (put_other xs i (added a (xs i)) j ne))

module _ (n m : ℕ) (next prev : ℕ → ℕ) (lists : ℕ → List ℕ) (c : Chains n m next prev lists) (fits : n + m ≤ nowhere)
    (i a : ℕ) (hi : i < m) (sa : a < n) (off : Off m lists a) where
  abbrev e : ℕ
  e = n + i

  abbrev l : ℕ
  l = prev e

  abbrev pub next' : ℕ → ℕ
  next' = put (put next l a) a e

  abbrev pub prev' : ℕ → ℕ
  prev' = put (put prev a l) e a

  t : Near n m next prev a l × Link next prev l e
  t = end_of n m next prev e a (lists i) sa (omega arith) (omega arith) (c.ring i hi) (off i hi)

  abbrev P : ℕ → Type 0
  P x = x ≢ a

  abbrev Q : ℕ → Type 0
  Q x = (x ≢ a) × (x ≢ e)

  ps : (j : ℕ) → j < m → Each P (lists j)
  ps j hj = others a (lists j) (off j hj)

  qs : (j : ℕ) → j < m → Each Q (lists j)
  qs j hj x q = (ps j hj x q, omega (arith, (c.ring j hj).addr x q))

  keeps : (u v : ℕ) → P u → Q v → Link next prev u v → Link next' prev' u v
  keeps u v nu nv h = (
    get_other next l a a e u (λ q. nv.1 (cc t.1.0)) nu ∙ h.0,
    get_other prev a l e a v nv.0 nv.1 ∙ h.1,
  )

  la : Link next' prev' l a
  la = (get_first next l a a e t.0.1, get_first prev a l e a (omega arith))

  ae : Link next' prev' a e
  ae = (get-second next l a a e, get-second prev a l e a)

  at-end : Ring n next' prev' e (added a (lists i))
  at-end =
      subst (λ (xs : List ℕ). Ring n next' prev' e xs) (sym (added_new a (lists i) (off i hi)))
      (record {
        links = links-append (Link next prev) P Q l a e (lists i) e keeps (λ u h. cc) la ae (omega arith) (ps i hi) (qs i hi) (c.ring i hi).links;
        addr = λ x q. member-snoc x a (lists i) q (λ eq. omega arith) (λ p. (c.ring i hi).addr x p);
      })

  elsewhere : (j : ℕ) → j < m → j ≢ i → Ring n next' prev' (n + j) (lists j)
  elsewhere j hj ne = ring-keeps n m next prev next' prev' P Q keeps (n + j) (lists j) (omega arith) (omega arith, omega arith) (ps j hj) (qs j hj) (c.ring j hj)

  -- an address that is on no list now is not a, and was on none before
  not_a : (b : ℕ) → Off m (gains i a lists) b → b ≢ a
  not_a b o q = true≢false (sym (eq-eqb i i refl) ∙ sym (gains-same m a i lists off hi i hi) ∙ ap (λ (u : ℕ). member u (gains i a lists i)) (sym q) ∙ o i hi)

  was-off : (b : ℕ) → Off m (gains i a lists) b → Off m lists b
  was-off b o j hj = sym (gains-other m a i lists off hi b j (not_a b o)) ∙ o j hj

  free : (b : ℕ) → b < n → Off m (gains i a lists) b → (next' b ≡ nowhere) × (prev' b ≡ nowhere)
  free b hb o =
      let z : (next b ≡ nowhere) × (prev b ≡ nowhere) = c.free b hb (was-off b o) in (
        get_other next l a a e b (λ q. (let w : e ≡ nowhere = cc t.1.0 in omega arith)) (not_a b o) ∙ z.0,
        get_other prev a l e a b (not_a b o) (omega arith) ∙ z.1,
      )

  pub appended : Chains n m next' prev' (gains i a lists)
  appended =
      record {
        ring = λ j hj.
            by_eqb i j
            (λ q. subst (λ (u : ℕ). Ring n next' prev' (n + u) (gains i a lists u)) q (rw (put_same lists i (added a (lists i))) at-end))
            (λ ne. rw (put_other lists i (added a (lists i)) j ne) (elsewhere j hj (λ q. ne (sym q))));
        free = free;
      }
