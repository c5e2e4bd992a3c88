-- A table of owners tells the lists: an address is on the list that its owner names, and on none where that is no list. What becomes of
-- this where an address leaves a list or a list gains it. Assumes nothing.
use mathlib.Core.Path.{◌≡◌, refl, sym, ap, ◌∙◌, subst}
use mathlib.Core.List.{List}
use Prim.Native.Nat.{ℕ, ◌≤◌, ◌<◌}
use native.Mathlib.Omega.{arith}
use lib.Dec.{eqb}
use borrow.Author.Tests.{eq-eqb, ne_eqb}
use Rattle.rules.specs.Notation.{put}
use Rattle.rules.specs.AddressSets.{member}
use Rattle.rules.proofs.Tables.{by_eqb, put_same, put_other}
use Rattle.links.specs.Links.{Held, On, Off, leaves, gains}
use Rattle.links.specs.Follow.{lists}
use Rattle.links.proofs.Lists.{without_other, without_gone}
use Rattle.links.proofs.Unlinks.{off-left}
use Rattle.links.proofs.Appends.{gains-same, gains-other}
use Rattle.links.proofs.Walks.{chains-lists}

-- the m lists of the addresses below n, told by their owners
abbrev pub Tells : ℕ → ℕ → (ℕ → ℕ) → (ℕ → List ℕ) → Type 0
Tells n m owner xs = (a i : ℕ) → a < n → i < m → member a (xs i) ≡ eqb (owner a) i

module _ (n m : ℕ) (owner : ℕ → ℕ) (xs : ℕ → List ℕ) (h : Tells n m owner xs) (a : ℕ) (ha : a < n) where
  pub told-on : owner a < m → On m xs a
  told-on lt = (owner a, lt, h a (owner a) ha lt ∙ eq-eqb (owner a) (owner a) refl)

  pub told-off : m ≤ owner a → Off m xs a
  told-off le i hi = h a i ha hi ∙ ne_eqb (owner a) i (omega arith)

  pub leaves-tells : (o : ℕ) → m ≤ o → Tells n m (put owner a o) (leaves a xs)
  leaves-tells o le b j hb hj =
      by_eqb a b
      (λ e. subst (λ (u : ℕ). member u (leaves a xs j) ≡ eqb (put owner a o u) j) e (without_gone a (xs j) ∙ sym (rw (put_same owner a o) (ne_eqb o j (omega arith)))))
      (λ ne. without_other a b (xs j) (λ e. ne (sym e)) ∙ h b j hb hj ∙ ap (λ (u : ℕ). eqb u j) (sym (put_other owner a o b ne)))

  pub gains-tells : Off m xs a → (i : ℕ) → i < m → Tells n m (put owner a i) (gains i a xs)
  gains-tells off i hi b j hb hj =
      by_eqb a b
      (λ e. subst (λ (u : ℕ). member u (gains i a xs j) ≡ eqb (put owner a i u) j) e (gains-same m a i xs off hi j hj ∙ ap (λ (u : ℕ). eqb u j) (sym (put_same owner a i))))
      (λ ne. gains-other m a i xs off hi b j (λ e. ne (sym e)) ∙ h b j hb hj ∙ ap (λ (u : ℕ). eqb u j) (sym (put_other owner a i b ne)))

  -- whichever list it was on, a is on list i then
  pub places-tells : (i : ℕ) → i < m → Tells n m (put owner a i) (gains i a (leaves a xs))
  places-tells i hi b j hb hj =
      by_eqb a b
      (λ e. subst (λ (u : ℕ). member u (gains i a (leaves a xs) j) ≡ eqb (put owner a i u) j) e (gains-same m a i (leaves a xs) (off-left m a xs) hi j hj ∙ ap (λ (u : ℕ). eqb u j) (sym (put_same owner a i))))
      (λ ne.
      gains-other m a i (leaves a xs) (off-left m a xs) hi b j (λ e. ne (sym e))
      ∙ without_other a b (xs j) (λ e. ne (sym e)) ∙ h b j hb hj ∙ ap (λ (u : ℕ). eqb u j) (sym (put_other owner a i b ne)))

-- what is told of the lists that an array holds is told of those that are read off it
pub lists-tell : (n m : ℕ) (t : List ℕ) (owner : ℕ → ℕ) (xs : ℕ → List ℕ) → Held n m t xs → Tells n m owner xs → Tells n m owner (lists n t)
lists-tell n m t owner xs c h a i ha hi = ap (member a) (chains-lists n m t xs c i hi) ∙ h a i ha hi
