-- Marks: each address of a list gets the list's number; at the end they agree with the owners exactly where each address is on the list
-- of its owner. Assumes nothing.
use mathlib.Core.Path.{◌≡◌, refl, sym, ap, ◌∙◌, subst}
use mathlib.Core.Logic.{◌≢◌, by_cases}
use mathlib.Core.Bool.{Bool, true, false}
use mathlib.Core.List.{List, [], ◌∷◌}
use Prim.Native.Nat.{ℕ, zero, suc, ◌+◌, ◌-◌, ◌≤◌, ◌<◌}
use native.Mathlib.Decide.{dec_lt}
use native.Mathlib.Omega.{arith}
use lib.Dec.{eqb}
use lib.ListN.{length, get_or, set, length-set}
use lib.Seq.{get_or-set_same, get_or-set_other}
use borrow.Author.Tests.{eq-eqb, ne_eqb}
use Rattle.rules.specs.Sizes.{LISTS, SLOTS}
use Rattle.rules.specs.AddressSets.{member}
use Rattle.rules.proofs.Tables.{by_eqb}
use Rattle.rules.proofs.Sets.{member-same, member-skip}
use Rattle.links.specs.Links.{next_in, prev_in}
use Rattle.links.specs.Follow.{follow, lists}
use Rattle.scopes.specs.Sound.{Ringed}
use Rattle.soundness.specs.Parts.{Below, owner_of, goes, round, mark, last_of, Marks, RingedAt, MarkedAt}
use Rattle.soundness.proofs.Walks.{follow-on, follow-end, goes-zero, goes_on, goes-back, goes-off, goes-astray, goes-home, held_of, tells-of, goes-round, ringed-at}

-- ---- one list

mark-none : (i : ℕ) (m : List ℕ) → mark [] i m ≡ m
unfolding mark
mark-none i m = refl

mark-one : (x : ℕ) (xs : List ℕ) (i : ℕ) (m : List ℕ) → mark (x ∷ xs) i m ≡ mark xs i (set m x i)
unfolding mark
mark-one x xs i m = refl

abbrev picked : Bool → ℕ → ℕ → ℕ
picked true i j = i
picked false i j = j

-- what is marked is told by the list
mark-at : (xs : List ℕ) (i : ℕ) (m : List ℕ) (a : ℕ) → a < length m → get_or (mark xs i m) a 0 ≡ picked (member a xs) i (get_or m a 0)
unfolding member
mark-at [] i m a h = ap (λ (l : List ℕ). get_or l a 0) (mark-none i m)
mark-at (x ∷ xs) i m a h =
    ap (λ (l : List ℕ). get_or l a 0) (mark-one x xs i m) ∙ mark-at xs i (set m x i) a (subst (λ (k : ℕ). a < k) (sym (length-set m x i)) h)
    ∙ by_eqb a x here there
  where
    both : (b : Bool) → picked b i i ≡ i
    both true = refl
    both false = refl

    here : a ≡ x → picked (member a xs) i (get_or (set m x i) a 0) ≡ picked (member a (x ∷ xs)) i (get_or m a 0)
    here e =
        ap (picked (member a xs) i) (ap (λ (k : ℕ). get_or (set m k i) a 0) (sym e) ∙ get_or-set_same m a i 0 h) ∙ both (member a xs)
        ∙ ap (λ (b : Bool). picked b i (get_or m a 0)) (sym (subst (λ (y : ℕ). member a (y ∷ xs) ≡ true) e (member-same a xs)))

    there : a ≢ x → picked (member a xs) i (get_or (set m x i) a 0) ≡ picked (member a (x ∷ xs)) i (get_or m a 0)
    there n = ap (picked (member a xs) i) (get_or-set_other m x a i 0 n) ∙ ap (λ (b : Bool). picked b i (get_or m a 0)) (sym (member-skip a x xs n))

-- the walk round list i, of which n more steps are allowed: it is at c, and came there from p
pub record Round (size m : ℕ) (links owner : List ℕ) (i : ℕ) (first : List ℕ) (n p c : ℕ) (marks : List ℕ) : Type 0 where
  pub goes : round size m links owner i ≡ goes size (next_in links) (prev_in (size + m) links) (owner_of owner) i (size + i) n p c
  pub marked : mark (lists size links i) i first ≡ mark (follow size n (next_in links) c) i marks

pub round-begins : (size m : ℕ) (links owner : List ℕ) (i : ℕ) (first : List ℕ) (n : ℕ) → n ≡ suc size → Round size m links owner i first n (size + i) (next_in links (size + i)) first
unfolding lists
round-begins size m links owner i first n e = record { goes = rw e; marked = rw e }

module _ {size m : ℕ} {links owner : List ℕ} {i : ℕ} {first : List ℕ} {n p c : ℕ} {marks : List ℕ} (r : Round size m links owner i first n p c marks) where
  abbrev next : ℕ → ℕ
  next = next_in links

  abbrev prev : ℕ → ℕ
  prev = prev_in (size + m) links

  abbrev own : ℕ → ℕ
  own = owner_of owner

  pub round-on : (k : ℕ) → n ≡ suc k → c < size → prev c ≡ p → own c ≡ i → Round size m links owner i first k c (next c) (set marks c i)
  round-on k e l b o =
      record {
        goes = r.goes ∙ rw e (goes_on size next prev own i (size + i) k p c l b o);
        marked = r.marked ∙ rw (e, follow-on size next k c l) (mark-one c (follow size k next (next c)) i marks);
      }

  -- the list that was walked is marked
  pub round-marks : size ≤ c → marks ≡ mark (lists size links i) i first
  round-marks l = sym (r.marked ∙ rw (follow-end size next n c l) (mark-none i marks))

  -- too many steps
  pub round-long : n ≡ 0 → false ≡ round size m links owner i
  round-long e = sym (r.goes ∙ rw e (goes-zero size next prev own i (size + i) p c))

  -- another step: home, astray, backwards, to a slot of another
  module _ (h : 0 < n) where
    one : n ≡ suc (n - 1)
    one = omega arith

    pub round-home : size ≤ c → c ≡ size + i → eqb (prev (size + i)) p ≡ round size m links owner i
    round-home l b = sym (r.goes ∙ rw one (goes-home size next prev own i (size + i) (n - 1) p c l b))

    pub round-astray : size ≤ c → c ≢ size + i → eqb c (size + i) ≡ round size m links owner i
    round-astray l b = ne_eqb c (size + i) b ∙ sym (r.goes ∙ rw one (goes-astray size next prev own i (size + i) (n - 1) p c l b))

    pub round-back : c < size → prev c ≢ p → false ≡ round size m links owner i
    round-back l b = sym (r.goes ∙ rw one (goes-back size next prev own i (size + i) (n - 1) p c l b))

    pub round-off : c < size → prev c ≡ p → own c ≢ i → false ≡ round size m links owner i
    round-off l b o = sym (r.goes ∙ rw one (goes-off size next prev own i (size + i) (n - 1) p c l b o))

-- ---- the first k lists

last_step : (xs : ℕ → List ℕ) (m k a : ℕ) → last_of xs m (suc k) a ≡ picked (member a (xs k)) k (last_of xs m k a)
unfolding last_of
last_step xs m k a = go (member a (xs k)) refl
  where
    go : (b : Bool) → member a (xs k) ≡ b → last_of xs m (suc k) a ≡ picked (member a (xs k)) k (last_of xs m k a)
    go true e = rw (e, last_of)
    go false e = rw (e, last_of)

last_on : (xs : ℕ → List ℕ) (m k a : ℕ) → member a (xs k) ≡ true → last_of xs m (suc k) a ≡ k
last_on xs m k a e = last_step xs m k a ∙ ap (λ (b : Bool). picked b k (last_of xs m k a)) e

last_off : (xs : ℕ → List ℕ) (m k a : ℕ) → member a (xs k) ≡ false → last_of xs m (suc k) a ≡ last_of xs m k a
last_off xs m k a e = last_step xs m k a ∙ ap (λ (b : Bool). picked b k (last_of xs m k a)) e

pub marks-none : (n m : ℕ) (links marks : List ℕ) → length marks ≡ n → ((a : ℕ) → a < n → get_or marks a 0 ≡ m) → Marks n m links 0 marks
unfolding last_of
marks-none n m links marks l h = record { long = l; each = h }

pub marks-more : (n m : ℕ) (links : List ℕ) (k : ℕ) (marks marks' : List ℕ) → Marks n m links k marks → length marks' ≡ n → marks' ≡ mark (lists n links k) k marks → Marks n m links (k + 1) marks'
marks-more n m links k marks marks' h l e =
    record {
      long = l;
      each = λ a b.
          ap (λ (x : List ℕ). get_or x a 0) e ∙ mark-at (lists n links k) k marks a (omega (arith, h.long, b))
          ∙ ap (picked (member a (lists n links k)) k) (h.each a b) ∙ sym (last_step (lists n links) m k a)
          ∙ (let q : suc k ≡ k + 1 = omega arith in ap (λ (j : ℕ). last_of (lists n links) m j a) q);
    }

-- ---- the marks and the owners

record Lasts (xs : ℕ → List ℕ) (m k a : ℕ) : Type 0 where
  most : last_of xs m k a ≤ m
  on : last_of xs m k a < k → member a (xs (last_of xs m k a)) ≡ true
  none : k ≤ last_of xs m k a → last_of xs m k a ≡ m

lasts : (xs : ℕ → List ℕ) (m k a : ℕ) → k ≤ m → Lasts xs m k a
unfolding last_of
lasts xs m zero a h = record { most = omega arith; on = λ l. absurd (omega arith); none = λ _. refl }
lasts xs m (suc k) a h = go (member a (xs k)) refl (lasts xs m k a (omega arith))
  where
    go : (b : Bool) → member a (xs k) ≡ b → Lasts xs m k a → Lasts xs m (suc k) a
    go true e r =
        let q : last_of xs m (suc k) a ≡ k = last_on xs m k a e in
        record { most = omega arith; on = λ _. subst (λ (j : ℕ). member a (xs j) ≡ true) (sym q) e; none = λ l. absurd (omega arith) }
    go false e r =
        let q : last_of xs m (suc k) a ≡ last_of xs m k a = last_off xs m k a e in
        record {
          most = omega (arith, r.most, q);
          on = λ l. subst (λ (j : ℕ). member a (xs j) ≡ true) (sym q) (by_cases (dec_lt (last_of xs m k a) k) r.on (λ n. absurd (let z : last_of xs m k a ≡ m = r.none (omega arith) in omega (arith, z, q, l, h))));
          none = λ l. q ∙ r.none (omega (arith, l, q));
        }

module _ (n m : ℕ) (links owner : List ℕ) where
  marked-ringed : (a : ℕ) → MarkedAt n m links owner a → RingedAt n m links owner a
  marked-ringed a h =
      let r : Lasts (lists n links) m m a = lasts (lists n links) m m a (omega arith) in
      record {
        most = omega (arith, r.most, h.last);
        on = λ l. subst (λ (j : ℕ). member a (lists n links j) ≡ true) h.last (r.on (omega (arith, h.last, l)));
        off = h.off;
      }

  module _ (tells : (a i : ℕ) → a < n → i < m → member a (lists n links i) ≡ eqb (owner_of owner a) i) (a : ℕ) (ha : a < n) where
    last-is : (k : ℕ) → k ≤ m → (owner_of owner a < k → last_of (lists n links) m k a ≡ owner_of owner a) × (k ≤ owner_of owner a → last_of (lists n links) m k a ≡ m)
    unfolding last_of
    last-is zero h = ((λ l. absurd (omega arith)), (λ _. refl))
    last-is (suc k) h =
        let ih = last-is k (omega arith) in
        let t : member a (lists n links k) ≡ eqb (owner_of owner a) k = tells a k ha (omega arith) in
        by_eqb (owner_of owner a) k
        (λ e. ((λ l. last_on (lists n links) m k a (t ∙ eq-eqb (owner_of owner a) k e) ∙ sym e), (λ l. absurd (omega (arith, e, l)))))
        (λ ne. let q = last_off (lists n links) m k a (t ∙ ne_eqb (owner_of owner a) k ne) in
        ((λ l. q ∙ ih.0 (omega (arith, ne, l))), (λ l. q ∙ ih.1 (omega (arith, l)))))

    ringed-marked : RingedAt n m links owner a → MarkedAt n m links owner a
    ringed-marked r =
        record {
          last = by_cases (dec_lt (owner_of owner a) m) (λ l. (last-is m (omega arith)).0 l) (λ l. (last-is m (omega arith)).1 (omega arith) ∙ (let q : owner_of owner a ≤ m = r.most in omega arith));
          off = r.off;
        }

-- ---- the part of soundness

pub ringed-from : (links owner : List ℕ) → Below LISTS (λ i. round SLOTS LISTS links owner i ≡ true) → Below SLOTS (MarkedAt SLOTS LISTS links owner) → Ringed links owner
ringed-from links owner h k =
    let at : Below SLOTS (RingedAt SLOTS LISTS links owner) = λ a l. marked-ringed SLOTS LISTS links owner a (k a l) in
    record { rings = held_of SLOTS LISTS links owner h at; tells = tells-of SLOTS LISTS links owner h at; most = λ a l. (at a l).most }

module _ (links owner : List ℕ) (s : Ringed links owner) where
  pub rounds-of : Below LISTS (λ i. round SLOTS LISTS links owner i ≡ true)
  rounds-of = goes-round SLOTS LISTS links owner s.rings s.tells

  pub marks-of : Below SLOTS (MarkedAt SLOTS LISTS links owner)
  marks-of a ha = ringed-marked SLOTS LISTS links owner s.tells a ha (ringed-at SLOTS LISTS links owner s.rings s.tells s.most a ha)
