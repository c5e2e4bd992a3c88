-- Lists threaded by a relation R, with no cells yet: what becomes of the links where a member goes or comes, and that a relation with one
-- target for each source threads no member twice. Assumes nothing.
use mathlib.Core.Path.{◌≡◌, refl, sym, ap, ap₂, ◌∙◌, subst}
use mathlib.Core.Logic.{◌≢◌}
use mathlib.Core.Bool.{true, false, true≢false}
use mathlib.Core.List.{List, [], ◌∷◌, ◌++◌}
use Prim.Native.Nat.{ℕ, ◌≤◌, ◌<◌}
use native.Mathlib.Omega.{arith}
use lib.ListN.{length}
use Rattle.rules.specs.AddressSets.{member, without, added}
use Rattle.rules.proofs.Tables.{by_eqb}
use Rattle.rules.proofs.Sets.{member-same, member-skip, member-tail, member-cons, without-same, without-skip, without-none, Once, once-nil, once}
use Rattle.links.specs.Links.{Links}

-- ---- members

-- P of each member
abbrev pub Each : (ℕ → Type 0) → List ℕ → Type 0
Each P xs = (x : ℕ) → member x xs ≡ true → P x

pub each-head : (P : ℕ → Type 0) (x : ℕ) (xs : List ℕ) → Each P (x ∷ xs) → P x
each-head P x xs h = h x (member-same x xs)

pub each_tail : (P : ℕ → Type 0) (x : ℕ) (xs : List ℕ) → Each P (x ∷ xs) → Each P xs
each_tail P x xs h y p = h y (member-tail y x xs p)

-- where a is no member, each member is another
pub others : (a : ℕ) (xs : List ℕ) → member a xs ≡ false → Each (λ x. x ≢ a) xs
others a xs n x p e = true≢false (sym p ∙ ap (λ (u : ℕ). member u xs) e ∙ n)

pub member-left : (a : ℕ) (ys zs : List ℕ) → member a ys ≡ true → member a (ys ++ zs) ≡ true
unfolding member
member-left a [] zs p = absurd (true≢false (sym p))
member-left a (y ∷ ys) zs p =
    member-cons a y ys p
    (λ e. subst (λ (u : ℕ). member a (u ∷ (ys ++ zs)) ≡ true) e (member-same a (ys ++ zs)))
    (λ q. member-tail a y (ys ++ zs) (member-left a ys zs q))

pub member_right : (a : ℕ) (ys zs : List ℕ) → member a zs ≡ true → member a (ys ++ zs) ≡ true
member_right a [] zs p = p
member_right a (y ∷ ys) zs p = member-tail a y (ys ++ zs) (member_right a ys zs p)

pub member-append {ℓ} : {X : Type ℓ} (a : ℕ) (ys zs : List ℕ) → member a (ys ++ zs) ≡ true → (member a ys ≡ true → X) → (member a zs ≡ true → X) → X
member-append a [] zs p l r = r p
member-append a (y ∷ ys) zs p l r =
    member-cons a y (ys ++ zs) p
    (λ e. l (subst (λ (u : ℕ). member a (u ∷ ys) ≡ true) e (member-same a ys)))
    (λ q. member-append a ys zs q (λ s. l (member-tail a y ys s)) r)

-- xs, cut at the first place of a member
pub record Cut (a : ℕ) (xs : List ℕ) : Type 0 where
  pub front : List ℕ
  pub back : List ℕ
  pub eq : xs ≡ front ++ a ∷ back
  pub new : member a front ≡ false

pub cut : (a : ℕ) (xs : List ℕ) → member a xs ≡ true → Cut a xs
unfolding member
cut a [] p = absurd (true≢false (sym p))
cut a (x ∷ xs) p =
    by_eqb a x
    (λ e. record { front = []; back = xs; eq = ap (λ (u : ℕ). u ∷ xs) (sym e); new = refl })
    (λ ne.
    let k : Cut a xs = cut a xs (sym (member-skip a x xs ne) ∙ p) in
    record { front = x ∷ k.front; back = k.back; eq = ap (λ (l : List ℕ). x ∷ l) k.eq; new = member-skip a x k.front ne ∙ k.new })

-- ---- without, added

pub without-cut : (a : ℕ) (ys zs : List ℕ) → member a ys ≡ false → member a zs ≡ false → without a (ys ++ a ∷ zs) ≡ ys ++ zs
unfolding member
without-cut a [] zs h k = without-same a zs ∙ without-none a zs k
without-cut a (y ∷ ys) zs h k =
    by_eqb a y
    (λ e. absurd (true≢false (sym (subst (λ (u : ℕ). member a (u ∷ ys) ≡ true) e (member-same a ys)) ∙ h)))
    (λ ne. without-skip a y (ys ++ a ∷ zs) ne ∙ ap (λ (l : List ℕ). y ∷ l) (without-cut a ys zs (sym (member-skip a y ys ne) ∙ h) k))

-- the others stay
pub without_other : (a b : ℕ) (l : List ℕ) → b ≢ a → member b (without a l) ≡ member b l
unfolding member without
without_other a b [] n = refl
without_other a b (c ∷ l) n =
    by_eqb a c
    (λ e. ap (member b) (subst (λ (u : ℕ). without a (u ∷ l) ≡ without a l) e (without-same a l)) ∙ without_other a b l n ∙ sym (member-skip b c l (λ q. n (q ∙ sym e))))
    (λ ne.
    ap (member b) (without-skip a c l ne)
    ∙ by_eqb b c
    (λ e. subst (λ (u : ℕ). member b (u ∷ without a l) ≡ true) e (member-same b (without a l)) ∙ sym (subst (λ (u : ℕ). member b (u ∷ l) ≡ true) e (member-same b l)))
    (λ q. member-skip b c (without a l) q ∙ without_other a b l n ∙ sym (member-skip b c l q)))

-- what has gone is there no more
pub without_gone : (a : ℕ) (l : List ℕ) → member a (without a l) ≡ false
unfolding member without
without_gone a [] = refl
without_gone a (c ∷ l) =
    by_eqb a c
    (λ e. ap (member a) (subst (λ (u : ℕ). without a (u ∷ l) ≡ without a l) e (without-same a l)) ∙ without_gone a l)
    (λ ne. ap (member a) (without-skip a c l ne) ∙ member-skip a c (without a l) ne ∙ without_gone a l)

-- a new address goes to the end
pub added_new : (a : ℕ) (l : List ℕ) → member a l ≡ false → added a l ≡ l ++ (a ∷ [])
unfolding added
added_new a l h = rw (h, added)

snoc-other : (a b : ℕ) (l : List ℕ) → b ≢ a → member b (l ++ (a ∷ [])) ≡ member b l
unfolding member
snoc-other a b [] n = member-skip b a [] n
snoc-other a b (c ∷ l) n =
    by_eqb b c
    (λ e. subst (λ (u : ℕ). member b (u ∷ (l ++ (a ∷ []))) ≡ true) e (member-same b (l ++ (a ∷ []))) ∙ sym (subst (λ (u : ℕ). member b (u ∷ l) ≡ true) e (member-same b l)))
    (λ q. member-skip b c (l ++ (a ∷ [])) q ∙ snoc-other a b l n ∙ sym (member-skip b c l q))

-- .. and is there then, with the others
pub added-same : (a : ℕ) (l : List ℕ) → member a l ≡ false → member a (added a l) ≡ true
added-same a l h = ap (member a) (added_new a l h) ∙ member_right a l (a ∷ []) (member-same a [])

pub added-other : (a b : ℕ) (l : List ℕ) → member a l ≡ false → b ≢ a → member b (added a l) ≡ member b l
added-other a b l h n = ap (member b) (added_new a l h) ∙ snoc-other a b l n

-- "a removed and reinserted address goes to the end"
pub added-again : (a : ℕ) (l : List ℕ) → added a (without a l) ≡ without a l ++ (a ∷ [])
added-again a l = added_new a (without a l) (without_gone a l)

-- ---- links

module _ (R : ℕ → ℕ → Type 0) where
  -- the links behind a member
  pub links-back : (p : ℕ) (ys : List ℕ) (a : ℕ) (zs : List ℕ) (q : ℕ) → Links R p (ys ++ a ∷ zs) q → Links R a zs q
  links-back p [] a zs q h = h.1
  links-back p (y ∷ ys) a zs q h = links-back y ys a zs q h.1

  -- each link of R that meets P and Q is one of R'
  pub links-map : {R' : ℕ → ℕ → Type 0} (P Q : ℕ → Type 0) → ((u v : ℕ) → P u → Q v → R u v → R' u v) → (p : ℕ) (xs : List ℕ) (q : ℕ) → P p → Each P xs → Each Q xs → Q q → Links R p xs q → Links R' p xs q
  links-map P Q f p [] q hp ps qs hq h = f p q hp hq h
  links-map P Q f p (x ∷ xs) q hp ps qs hq h = (
    f p x hp (each-head Q x xs qs) h.0,
    links-map P Q f x xs q (each-head P x xs ps) (each_tail P x xs ps) (each_tail Q x xs qs) hq h.1,
  )

  -- a goes to the end: the link l to q makes way for l to a and a to q
  pub links-append : {R' : ℕ → ℕ → Type 0} (P Q : ℕ → Type 0) (l a : ℕ) (p : ℕ) (xs : List ℕ) (q : ℕ)
      → ((u v : ℕ) → P u → Q v → R u v → R' u v) → ((u : ℕ) → R u q → u ≡ l) → R' l a → R' a q
      → P p → Each P xs → Each Q xs → Links R p xs q → Links R' p (xs ++ a ∷ []) q
  links-append {R'} P Q l a p [] q f only la aq hp ps qs h = (subst (λ (u : ℕ). R' u a) (sym (only p h)) la, aq)
  links-append P Q l a p (x ∷ xs) q f only la aq hp ps qs h = (
    f p x hp (each-head Q x xs qs) h.0,
    links-append P Q l a x xs q f only la aq (each-head P x xs ps) (each_tail P x xs ps) (each_tail Q x xs qs) h.1,
  )

  -- a leaves: the links l to a and a to r make way for l to r
  pub links-unlink : {R' : ℕ → ℕ → Type 0} (P : ℕ → Type 0) (l a r : ℕ) (p : ℕ) (ys zs : List ℕ) (q : ℕ)
      → ((u v : ℕ) → P u → P v → R u v → R' u v) → ((u : ℕ) → R u a → u ≡ l) → ((v : ℕ) → R a v → v ≡ r) → R' l r
      → P p → Each P ys → Each P zs → P q → Links R p (ys ++ a ∷ zs) q → Links R' p (ys ++ zs) q
  links-unlink {R'} P l a r p [] [] q f before after lr hp ps qs hq h = rw (before p h.0, after q h.1) lr
  links-unlink {R'} P l a r p [] (z ∷ zs) q f before after lr hp ps qs hq h = (
    rw (before p h.0, after z h.1.0) lr,
    links-map P P f z zs q (each-head P z zs qs) (each_tail P z zs qs) (each_tail P z zs qs) hq h.1.1,
  )
  links-unlink P l a r p (y ∷ ys) zs q f before after lr hp ps qs hq h = (
    f p y hp (each-head P y ys ps) h.0,
    links-unlink P l a r y ys zs q f before after lr (each-head P y ys ps) (each_tail P y ys ps) qs hq h.1,
  )

  -- the link that leads to a member, the one that leads on from it, and the one that leads to the end
  pub before : (P : ℕ → Type 0) (p : ℕ) (ys : List ℕ) (a : ℕ) (zs : List ℕ) (q : ℕ) → P p → Each P ys → Links R p (ys ++ a ∷ zs) q → (l : ℕ) × P l × R l a
  before P p [] a zs q hp ps h = (p, hp, h.0)
  before P p (y ∷ ys) a zs q hp ps h = before P y ys a zs q (each-head P y ys ps) (each_tail P y ys ps) h.1

  pub after : (P : ℕ → Type 0) (a : ℕ) (zs : List ℕ) (q : ℕ) → Each P zs → P q → Links R a zs q → (r : ℕ) × P r × R a r
  after P a [] q ps hq h = (q, hq, h)
  after P a (z ∷ zs) q ps hq h = (z, each-head P z zs ps, h.0)

  pub last : (P : ℕ → Type 0) (p : ℕ) (xs : List ℕ) (q : ℕ) → P p → Each P xs → Links R p xs q → (l : ℕ) × P l × R l q
  last P p [] q hp ps h = (p, hp, h)
  last P p (x ∷ xs) q hp ps h = last P x xs q (each-head P x xs ps) (each_tail P x xs ps) h.1

  -- R has one target for each source; S ends where a list does
  module _ (S : ℕ → Type 0) (fun : (u v w : ℕ) → R u v → R u w → v ≡ w) where
    -- what the links lead through is one list, up to the first that S does not hold of
    pub same-list : (p : ℕ) (xs : List ℕ) (q : ℕ) (ys : List ℕ) (r : ℕ) → Each S xs → ¬ S q → Each S ys → ¬ S r → Links R p xs q → Links R p ys r → (xs ≡ ys) × (q ≡ r)
    same-list p [] q [] r sx nq sy nr h k = (refl, fun p q r h k)
    same-list p [] q (y ∷ ys) r sx nq sy nr h k = absurd (nq (subst S (fun p y q k.0 h) (each-head S y ys sy)))
    same-list p (x ∷ xs) q [] r sx nq sy nr h k = absurd (nr (subst S (fun p x r h.0 k) (each-head S x xs sx)))
    same-list p (x ∷ xs) q (y ∷ ys) r sx nq sy nr h k =
        let e : y ≡ x = fun p y x k.0 h.0 in
        let ih : (xs ≡ ys) × (q ≡ r) = same-list x xs q ys r (each_tail S x xs sx) nq (each_tail S y ys sy) nr h.1 (subst (λ (u : ℕ). Links R u ys r) e k.1) in
        (ap₂ (λ (u : ℕ) (l : List ℕ). u ∷ l) (sym e) ih.0, ih.1)

    -- a is not on xs, where each run from a that could be a rest of xs is ruled out
    off : (a p : ℕ) (xs : List ℕ) (q n : ℕ) → ((ws : List ℕ) → Each S ws → Links R a ws q → length ws < n → ⊥) → length xs ≤ n → Each S xs → Links R p xs q → member a xs ≡ false
    unfolding member
    off a p [] q n bad le s h = refl
    off a p (x ∷ xs) q n bad le s h =
        member-skip a x xs (λ e. bad xs (each_tail S x xs s) (subst (λ (u : ℕ). Links R u xs q) (sym e) h.1) (omega arith))
        ∙ off a x xs q n bad (omega arith) (each_tail S x xs s) h.1

    module _ (a : ℕ) (zs : List ℕ) (e : ℕ) (sz : Each S zs) (ne : ¬ S e) (hz : Links R a zs e) where
      -- what is followed by zs is on no list with another end
      pub off-other : (p : ℕ) (xs : List ℕ) (q : ℕ) → ¬ S q → e ≢ q → Each S xs → Links R p xs q → member a xs ≡ false
      off-other p xs q nq ne' s h = off a p xs q (length xs) (λ ws sw hw lt. ne' (same-list a zs e ws q sz ne sw nq hz hw).1) (omega arith) s h

      -- .. nor once more behind itself
      pub off-back : member a zs ≡ false
      off-back = off a a zs e (length zs) (λ ws sw hw lt. let l : length zs ≡ length ws = ap length (same-list a zs e ws e sz ne sw ne hz hw).0 in omega arith) (omega arith) sz hz

    -- no member twice
    pub links-once : (p : ℕ) (xs : List ℕ) (q : ℕ) → ¬ S q → Each S xs → Links R p xs q → Once xs
    links-once p [] q nq s h = once-nil
    links-once p (x ∷ xs) q nq s h = once (off-back x xs q (each_tail S x xs s) nq h.1) (links-once x xs q nq (each_tail S x xs s) h.1)
