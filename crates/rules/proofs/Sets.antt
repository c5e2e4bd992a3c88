-- Address sets: what is in them, and that one without repetition and below m has at most m. Assumes nothing.
use mathlib.Core.Path.{◌≡◌, refl, sym, ap, subst, ◌∙◌}
use mathlib.Core.Bool.{Bool, true, false, true≢false}
use mathlib.Core.List.{List, [], ◌∷◌, ◌++◌}
use Prim.Native.Nat.{ℕ, zero, suc, ◌+◌, ◌≤◌, ◌<◌}
use native.Mathlib.Omega.{arith}
use lib.ListN.{length}
use borrow.Author.Tests.{eq-eqb, ne_eqb}
use Rattle.rules.specs.AddressSets.{member, without, added, added_all, without_all, run}
use Rattle.rules.proofs.Tables.{by_eqb}

pub member-same : (a : ℕ) (l : List ℕ) → member a (a ∷ l) ≡ true
unfolding member
member-same a l = rw (eq-eqb a a refl, member)

pub member-skip : (a b : ℕ) (l : List ℕ) → (a ≡ b → ⊥) → member a (b ∷ l) ≡ member a l
unfolding member
member-skip a b l ne = rw (ne_eqb a b ne, member)

pub member-tail : (a b : ℕ) (l : List ℕ) → member a l ≡ true → member a (b ∷ l) ≡ true
member-tail a b l p = by_eqb a b (λ e. subst (λ (c : ℕ). member a (c ∷ l) ≡ true) e (member-same a l)) (λ ne. member-skip a b l ne ∙ p)

pub member-cons {ℓ} : {X : Type ℓ} (a b : ℕ) (l : List ℕ) → member a (b ∷ l) ≡ true → (a ≡ b → X) → (member a l ≡ true → X) → X
member-cons a b l p same rest = by_eqb a b same (λ ne. rest (sym (member-skip a b l ne) ∙ p))

pub member-snoc {ℓ} : {X : Type ℓ} (a b : ℕ) (l : List ℕ) → member a (l ++ (b ∷ [])) ≡ true → (a ≡ b → X) → (member a l ≡ true → X) → X
unfolding member
member-snoc a b [] p same rest = member-cons a b [] p same rest
member-snoc a b (c ∷ l) p same rest =
    member-cons a c (l ++ (b ∷ [])) p
    (λ e. rest (subst (λ (d : ℕ). member a (d ∷ l) ≡ true) e (member-same a l)))
    (λ q. member-snoc a b l q same (λ r. rest (member-tail a c l r)))

pub without-same : (a : ℕ) (l : List ℕ) → without a (a ∷ l) ≡ without a l
unfolding without
without-same a l = rw (eq-eqb a a refl, without)

pub without-skip : (a b : ℕ) (l : List ℕ) → (a ≡ b → ⊥) → without a (b ∷ l) ≡ b ∷ without a l
unfolding without
without-skip a b l ne = rw (ne_eqb a b ne, without)

-- what is left after `without a` was there, and is not a
pub without-member : (a b : ℕ) (l : List ℕ) → member b (without a l) ≡ true → (member b l ≡ true) × (b ≡ a → ⊥)
unfolding member without
without-member a b [] p = absurd (true≢false (sym p))
without-member a b (c ∷ l) p =
    by_eqb a c
    (λ e. let ih = without-member a b l (sym (ap (member b) (subst (λ (d : ℕ). without a (d ∷ l) ≡ without a l) e (without-same a l))) ∙ p) in (member-tail b c l ih.0, ih.1))
    (λ ne.
    member-cons b c (without a l) (sym (ap (member b) (without-skip a c l ne)) ∙ p)
    (λ e. (subst (λ (d : ℕ). member b (d ∷ l) ≡ true) e (member-same b l), λ q. ne (sym q ∙ e)))
    (λ q. let ih = without-member a b l q in (member-tail b c l ih.0, ih.1)))

-- every member is below m
abbrev pub Within : ℕ → List ℕ → Type 0
Within m l = (a : ℕ) → member a l ≡ true → a < m

pub within-nil : (m : ℕ) → Within m []
unfolding member
within-nil m a p = absurd (true≢false (sym p))

pub within-added : (m a : ℕ) (l : List ℕ) → a < m → Within m l → Within m (added a l)
unfolding added
within-added m a l h w = go (member a l) refl
  where
    go : (x : Bool) → member a l ≡ x → Within m (added a l)
    go true e = rw (e, added) w
    go false e = rw (e, added) (λ b p. member-snoc b a l p (λ q. omega arith) (λ q. w b q))

pub within-added_all : (m : ℕ) (new l : List ℕ) → Within m new → Within m l → Within m (added_all new l)
unfolding added_all
within-added_all m [] l n w = w
within-added_all m (a ∷ new) l n w =
    within-added_all m new (added a l) (λ b p. n b (member-tail b a new p)) (within-added m a l (n a (member-same a new)) w)

pub within-without : (m a : ℕ) (l : List ℕ) → Within m l → Within m (without a l)
within-without m a l w b p = w b (without-member a b l p).0

pub within-without_all : (m : ℕ) (gone l : List ℕ) → Within m l → Within m (without_all gone l)
unfolding without_all
within-without_all m [] l w = w
within-without_all m (a ∷ gone) l w = within-without_all m gone (without a l) (within-without m a l w)

pub within-run : (m n a : ℕ) → a + n ≤ m → Within m (run a n)
unfolding run
within-run m zero a h = within-nil m
within-run m (suc n) a h = λ b p. member-cons b a (run (suc a) n) p (λ e. omega arith) (λ q. within-run m n (suc a) (omega arith) b q)

-- no member twice
pub data Once : List ℕ → Type 0 where
  once-nil : Once []
  once : {a : ℕ} {l : List ℕ} → member a l ≡ false → Once l → Once (a ∷ l)

pub no_member : (a : ℕ) (l : List ℕ) → (member a l ≡ true → ⊥) → member a l ≡ false
no_member a l n = go (member a l) refl
  where
    go : (x : Bool) → member a l ≡ x → member a l ≡ false
    go true e = absurd (n e)
    go false e = e

once-snoc : (a : ℕ) (l : List ℕ) → Once l → member a l ≡ false → Once (l ++ (a ∷ []))
unfolding member
once-snoc a _ once-nil n = once refl once-nil
once-snoc a _ (once {a = b} {l = l} m o) n =
    by_eqb a b
    (λ e. absurd (true≢false (sym (subst (λ (c : ℕ). member a (c ∷ l) ≡ true) e (member-same a l)) ∙ n)))
    (λ ne.
    once
    (no_member b (l ++ (a ∷ [])) (λ p. member-snoc b a l p (λ q. ne (sym q)) (λ q. true≢false (sym q ∙ m))))
    (once-snoc a l o (sym (member-skip a b l ne) ∙ n)))

pub once-added : (a : ℕ) (l : List ℕ) → Once l → Once (added a l)
unfolding added
once-added a l o = go (member a l) refl
  where
    go : (x : Bool) → member a l ≡ x → Once (added a l)
    go true e = rw (e, added) o
    go false e = rw (e, added) (once-snoc a l o e)

pub once-added_all : (new l : List ℕ) → Once l → Once (added_all new l)
unfolding added_all
once-added_all [] l o = o
once-added_all (a ∷ new) l o = once-added_all new (added a l) (once-added a l o)

pub once-without : (a : ℕ) (l : List ℕ) → Once l → Once (without a l)
unfolding without
once-without a _ once-nil = once-nil
once-without a _ (once {a = b} {l = l} m o) =
    by_eqb a b
    (λ e. subst (λ (c : ℕ). Once (without a (c ∷ l))) e (rw without-same (once-without a l o)))
    (λ ne. rw (without-skip a b l ne) (once (no_member b (without a l) (λ p. true≢false (sym (without-member a b l p).0 ∙ m))) (once-without a l o)))

pub once-without_all : (gone l : List ℕ) → Once l → Once (without_all gone l)
unfolding without_all
once-without_all [] l o = o
once-without_all (a ∷ gone) l o = once-without_all gone (without a l) (once-without a l o)

-- taking one number out of such a list shortens it by one at most
pub without-none : (a : ℕ) (l : List ℕ) → member a l ≡ false → without a l ≡ l
unfolding without
without-none a [] n = refl
without-none a (b ∷ l) n =
    by_eqb a b
    (λ e. absurd (true≢false (sym (subst (λ (c : ℕ). member a (c ∷ l) ≡ true) e (member-same a l)) ∙ n)))
    (λ ne. without-skip a b l ne ∙ ap (λ (t : List ℕ). b ∷ t) (without-none a l (sym (member-skip a b l ne) ∙ n)))

without-length : (a : ℕ) (l : List ℕ) → Once l → length l ≤ suc (length (without a l))
unfolding without
without-length a _ once-nil = omega arith
without-length a _ (once {a = b} {l = l} m o) =
    by_eqb a b
    (λ e. subst (λ (c : ℕ). suc (length l) ≤ suc (length (without c (b ∷ l)))) (sym e) (rw (without-same b l, without-none b l m) (omega arith)))
    (λ ne. rw (without-skip a b l ne) (omega (arith, without-length a l o)))

pub pigeons : (m : ℕ) (l : List ℕ) → Once l → Within m l → length l ≤ m
pigeons zero [] o w = omega arith
pigeons zero (a ∷ l) o w = omega (arith, w a (member-same a l))
pigeons (suc m) l o w =
    omega (arith, without-length m l o, pigeons m (without m l) (once-without m l o) (λ a p. let q = without-member m a l p in omega (arith, w a q.0, q.1)))
