-- Address sets: what is on the list after one address or several were added or removed, and which addresses a run has. Assumes nothing.
use mathlib.Core.Path.{◌≡◌, refl, sym, subst, ◌∙◌}
use mathlib.Core.Bool.{true, false}
use mathlib.Core.List.{List, [], ◌∷◌, ◌++◌}
use Prim.Native.Nat.{ℕ, zero, suc, ◌+◌, ◌≤◌, ◌<◌}
use native.Mathlib.Omega.{arith}
use Rattle.rules.specs.AddressSets.{member, added, without, added_all, without_all, run}
use Rattle.rules.proofs.Tables.{by_eqb}
use Rattle.rules.proofs.Sets.{member-same, member-skip, member-tail, member-cons, member-snoc, without-member, without-same, without-skip}
use Rattle.rules.proofs.Tells.{clash, decided}

-- ---- added

member-left : (a b : ℕ) (l : List ℕ) → member a l ≡ true → member a (l ++ (b ∷ [])) ≡ true
unfolding member
member-left a b [] p = clash p refl
member-left a b (c ∷ l) p =
    member-cons a c l p
    (λ e. subst (λ (d : ℕ). member a (d ∷ (l ++ (b ∷ []))) ≡ true) e (member-same a (l ++ (b ∷ []))))
    (λ q. member-tail a c (l ++ (b ∷ [])) (member-left a b l q))

member-last : (a : ℕ) (l : List ℕ) → member a (l ++ (a ∷ [])) ≡ true
member-last a [] = member-same a []
member-last a (c ∷ l) = member-tail a c (l ++ (a ∷ [])) (member-last a l)

added-old : (a b : ℕ) (l : List ℕ) → member b l ≡ true → member b (added a l) ≡ true
unfolding added
added-old a b l p = decided (member a l) (λ e. rw (e, added) p) (λ e. rw (e, added) (member-left b a l p))

added_new : (a : ℕ) (l : List ℕ) → member a (added a l) ≡ true
unfolding added
added_new a l = decided (member a l) (λ e. rw (e, added) e) (λ e. rw (e, added) (member-last a l))

pub added-cases {ℓ} : {X : Type ℓ} (a b : ℕ) (l : List ℕ) → member b (added a l) ≡ true → (b ≡ a → X) → (member b l ≡ true → X) → X
unfolding added
added-cases a b l p new old = decided (member a l) (λ e. old (rw (e, added) at p)) (λ e. member-snoc b a l (rw (e, added) at p) new old)

pub added_all-old : (new l : List ℕ) (b : ℕ) → member b l ≡ true → member b (added_all new l) ≡ true
unfolding added_all
added_all-old [] l b p = p
added_all-old (a ∷ new) l b p = added_all-old new (added a l) b (added-old a b l p)

pub added_all-new : (new l : List ℕ) (b : ℕ) → member b new ≡ true → member b (added_all new l) ≡ true
unfolding added_all member
added_all-new [] l b p = clash p refl
added_all-new (a ∷ new) l b p =
    member-cons b a new p
    (λ e. added_all-old new (added a l) b (subst (λ (c : ℕ). member b (added c l) ≡ true) e (added_new b l)))
    (λ q. added_all-new new (added a l) b q)

pub added_all-cases {ℓ} : {X : Type ℓ} (new l : List ℕ) (b : ℕ) → member b (added_all new l) ≡ true → (member b new ≡ true → X) → (member b l ≡ true → X) → X
unfolding added_all
added_all-cases [] l b p n o = o p
added_all-cases (a ∷ new) l b p n o =
    added_all-cases new (added a l) b p
    (λ q. n (member-tail b a new q))
    (λ q. added-cases a b l q (λ e. n (subst (λ (c : ℕ). member b (c ∷ new) ≡ true) e (member-same b new))) o)

-- ---- removed

pub without_all-member : (gone l : List ℕ) (b : ℕ) → member b (without_all gone l) ≡ true → (member b l ≡ true) × (member b gone ≡ false)
unfolding without_all member
without_all-member [] l b p = (p, refl)
without_all-member (a ∷ gone) l b p =
    let r = without_all-member gone (without a l) b p in
    let q = without-member a b l r.0 in
    (q.0, member-skip b a gone q.1 ∙ r.1)

-- what is not a stays
pub without-keeps : (a b : ℕ) (l : List ℕ) → (b ≡ a → ⊥) → member b l ≡ true → member b (without a l) ≡ true
unfolding member without
without-keeps a b [] ne p = clash p refl
without-keeps a b (d ∷ l) ne p =
    by_eqb a d
    (λ e. rw (subst (λ (y : ℕ). without a (y ∷ l) ≡ without a l) e (without-same a l))
    (without-keeps a b l ne (member-cons b d l p (λ q. absurd (ne (q ∙ sym e))) (λ q. q))))
    (λ n. rw (without-skip a d l n)
    (member-cons b d l p
    (λ q. subst (λ (y : ℕ). member b (y ∷ without a l) ≡ true) q (member-same b (without a l)))
    (λ q. member-tail b d (without a l) (without-keeps a b l ne q))))

-- ---- runs

pub run-member : (n a b : ℕ) → a ≤ b → b < a + n → member b (run a n) ≡ true
unfolding run
run-member zero a b lo hi = absurd (omega arith)
run-member (suc n) a b lo hi =
    by_eqb b a
    (λ e. subst (λ (c : ℕ). member b (c ∷ run (suc a) n) ≡ true) e (member-same b (run (suc a) n)))
    (λ ne. member-tail b a (run (suc a) n) (run-member n (suc a) b (omega (arith, ne)) (omega arith)))

pub run-within : (n a b : ℕ) → member b (run a n) ≡ true → (a ≤ b) × (b < a + n)
unfolding run member
run-within zero a b p = clash p refl
run-within (suc n) a b p =
    member-cons b a (run (suc a) n) p
    (λ e. (omega arith, omega arith))
    (λ q. let r = run-within n (suc a) b q in (omega arith, omega arith))
