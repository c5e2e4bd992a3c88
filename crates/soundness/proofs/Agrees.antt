-- A state's record is sound exactly where document 01's test says so of what the rules see, and the record is written in the one way that
-- it can be. Assumes nothing but the lengths of two arrays, which their types fix.
use mathlib.Core.Path.{◌≡◌, refl, sym, ap, ◌∙◌, subst}
use mathlib.Core.Logic.{inl, inr, ⊎_elim, by_cases}
use mathlib.Core.Bool.{Bool, true, false}
use mathlib.Core.Option.{Option, none, some}
use mathlib.Core.List.{List, [], ◌∷◌}
use Prim.Native.Nat.{ℕ, zero, suc, ◌+◌, ◌≤◌, ◌<◌}
use native.Mathlib.Decide.{dec_lt}
use native.Mathlib.Omega.{arith}
use lib.ListN.{length, get_or}
use borrow.Author.Tests.{eq-eqb, eqb-true, lt-ltb, le-ltb, ltb-true}
use Rattle.rules.specs.Notation.{is_some}
use Rattle.rules.specs.Sizes.{base, BINDINGS, CELLS, LISTS, SCOPES, SLOTS}
use Rattle.rules.specs.AddressSets.{member}
use Rattle.rules.specs.Scopes.{Scope, Binding, is_for, bound_in}
use Rattle.rules.specs.Sound.{sound}
use Rattle.rules.specs.Tells.{Tells}
use Rattle.rules.proofs.Chains.{none-some}
use Rattle.rules.proofs.Sets.{member-same, Once}
use Rattle.rules.proofs.Sound as rule
use Rattle.rules.proofs.Tells.{decided, clash, tells_as}
use Rattle.rules.proofs.Tests.{tells-sound}
use Rattle.slots.specs.Halves.{occ}
use Rattle.links.proofs.Rings.{ring-once}
use Rattle.links.specs.Links.{next_in, prev_in}
use Rattle.scopes.specs.View.{list_of, index, only_if, bindings_of, view}
use Rattle.scopes.specs.Sound.{Sound, Slotted, Ringed, Owned, Rooted, Named, Each, BoundOnce, LeadsToRoot, root, up}
use Rattle.scopes.specs.declared.Scopes.{Scopes}
use Rattle.soundness.specs.Canonical.{Canonical, Good}
use Rattle.soundness.proofs.Climbs.{index-some, index-none, index_is, index-over, live_below, to-rule, of-rule, root-number, leads-live}
use Rattle.soundness.proofs.Places.{slots-rule, rule-slots}

-- ---- the parts of soundness

-- all but the last
abbrev pub Unnamed : Scopes → Type 0
Unnamed s = Slotted s.halves s.segments s.head × Ringed s.links s.owner × Owned s.halves s.owner s.live s.size × Rooted s.live s.dangled s.parent s.number s.top

pub unnamed-of : (s : Scopes) → Sound s → Unnamed s
unnamed-of s h = (h.slotted, h.ringed, h.owned, h.rooted)

pub sound-with : (s : Scopes) → Unnamed s → (r : Bool) → Tells r (Named s.bindings s.live s.count) → Tells r (Sound s)
sound-with s u r t = tells_as t (λ h. record { slotted = u.0; ringed = u.1; owned = u.2; rooted = u.3; named = h }) (λ h. h.named)

-- ---- lists of bindings, in both forms

every_of : (P Q : Binding → Type 0) → ((b : Binding) → P b → Q b) → (l : List Binding) → Each P l → rule.Every Q l
every_of P Q f [] h = rule.every-nil
every_of P Q f (b ∷ l) h = rule.every (f b h.0) (every_of P Q f l h.1)

of-every : (P Q : Binding → Type 0) → ((b : Binding) → Q b → P b) → (l : List Binding) → rule.Every Q l → Each P l
of-every P Q f [] h = tt
of-every P Q f (b ∷ l) (rule.every q h) = (f b q, of-every P Q f l h)

unbound : (i name : ℕ) (l : List Binding) → Each (λ x. is_for i name x ≡ false) l → bound_in i name l ≡ none
unfolding bound_in
unbound i name [] h = refl
unbound i name (b ∷ l) h = rw (h.0, bound_in) (unbound i name l h.1)

of-unbound : (i name : ℕ) (l : List Binding) → bound_in i name l ≡ none → Each (λ x. is_for i name x ≡ false) l
unfolding bound_in
of-unbound i name [] h = tt
of-unbound i name (b ∷ l) h = go (is_for i name b) refl (of-unbound i name l)
  where
    go : (x : Bool) → is_for i name b ≡ x → (bound_in i name l ≡ none → Each (λ y. is_for i name y ≡ false) l) → Each (λ y. is_for i name y ≡ false) (b ∷ l)
    go true e ih = let q : bound_in i name (b ∷ l) ≡ some b = rw (e, bound_in) in none-some (sym h ∙ q)
    go false e ih = (e, ih (rw (e, bound_in) at h))

binds-of : (l : List Binding) → BoundOnce l → rule.BindsOnce l
binds-of [] h = rule.binds-nil
binds-of (b ∷ l) h = rule.binds (unbound b.scope b.name l h.0) (binds-of l h.1)

of-binds : (l : List Binding) → rule.BindsOnce l → BoundOnce l
of-binds [] h = tt
of-binds (b ∷ l) (rule.binds n h) = (of-unbound b.scope b.name l n, of-binds l h)

few : (n m : ℕ) (l : List ℕ) → length l ≡ m → length (bindings_of l n) ≤ m
few zero m l e = omega arith
few (suc n) m [] e = omega arith
few (suc n) m (b ∷ l) e = omega (arith, few n (length l) l refl)

empty : (l : List ℕ) → ((a : ℕ) → member a l ≡ true → ⊥) → l ≡ []
empty [] h = refl
empty (a ∷ l) h = absurd (h a (member-same a l))

no_one : (a : ℕ) → member a [] ≡ false
unfolding member
no_one a = refl

live-is : (b : Bool) (k : Scope) → is_some (only_if b k) ≡ b
live-is true k = refl
live-is false k = refl

module _ (s : Scopes) (long : length s.live ≡ SCOPES) (room : length s.bindings ≡ BINDINGS) where
  abbrev seen : ℕ → Option Scope
  seen = (view s).live

  abbrev live : ℕ → Bool
  live i = get_or s.live i false

  abbrev owner : ℕ → ℕ
  owner a = get_or s.owner a 0

  is_live : (i : ℕ) → is_some (seen i) ≡ live i
  is_live i = live-is (live i) _

  list-live : (i : ℕ) → live i ≡ true → rule.lists_of seen i ≡ list_of s.links i
  list-live i l = rw l

  list-dead : (i : ℕ) → live i ≡ false → rule.lists_of seen i ≡ []
  list-dead i l = rw l

  -- ---- the lists: those of closed scopes are empty

  module _ (cells : Ringed s.links s.owner) (none : (i : ℕ) → i < SCOPES → live i ≡ false → list_of s.links i ≡ []) where
    same : (i : ℕ) → i < SCOPES → rule.lists_of seen i ≡ list_of s.links i
    same i h = decided (live i) (list-live i) (λ d. list-dead i d ∙ sym (none i h d))

    -- a member's owner
    owner-is : (i a : ℕ) → i < LISTS → member a (list_of s.links i) ≡ true → (a < SLOTS) × (owner a ≡ i)
    owner-is i a h p =
        let ha : a < SLOTS = (cells.rings.ring i h).addr a p in
        (ha, eqb-true (owner a) i (sym (cells.tells a i ha h) ∙ p))

    seen-owner : (i a : ℕ) → i < SCOPES → member a (rule.lists_of seen i) ≡ true → (a < SLOTS) × (owner a ≡ i)
    seen-owner i a h p = owner-is i a (omega arith) (ap (member a) (sym (same i h)) ∙ p)

    owner-has : (a : ℕ) → a < SLOTS → owner a < SCOPES → member a (rule.lists_of seen (owner a)) ≡ true
    owner-has a ha h = ap (member a) (same (owner a) h) ∙ cells.tells a (owner a) ha (omega arith) ∙ eq-eqb (owner a) (owner a) refl

    once : (i : ℕ) → i < LISTS → Once (list_of s.links i)
    once i h = ring-once SLOTS LISTS (next_in s.links) (prev_in CELLS s.links) (SLOTS + i) (list_of s.links i) (omega arith) (cells.rings.ring i h)

    owned-rule : Owned s.halves s.owner s.live s.size → rule.OwnedSound SLOTS SCOPES (occ s.halves) (rule.lists_of seen)
    owned-rule h =
        record {
          once = λ i l. rw (same i l) (once i (omega arith));
          within = λ i l a p. (seen-owner i a l p).0;
          taken = λ i a l p. let w = seen-owner i a l p in h.taken a w.0 ∙ lt-ltb (owner a) SCOPES (omega (arith, w.1, l));
          apart = λ i j a l k p q. sym (seen-owner i a l p).1 ∙ (seen-owner j a k q).1;
          owner = λ a l o. let b : owner a < SCOPES = ltb-true (owner a) SCOPES (sym (h.taken a l) ∙ o) in record { index = owner a; below = b; has = owner-has a l b };
        }

    rule-owned : rule.OwnedSound SLOTS SCOPES (occ s.halves) (rule.lists_of seen) → rule.SizeSound SLOTS SLOTS (occ s.halves) s.size → Owned s.halves s.owner s.live s.size
    rule-owned h z =
        record {
          taken = λ a l. decided (occ s.halves a)
              (λ o. let w = h.owner a l o in o ∙ sym (lt-ltb (owner a) SCOPES (omega (arith, (seen-owner w.index a w.below w.has).1, w.below))))
              (λ o. o ∙ sym (le-ltb (owner a) SCOPES (by_cases (dec_lt (owner a) SCOPES) (λ b. clash (h.taken (owner a) a b (owner-has a l b)) o) (λ b. omega arith))));
          alive = λ a l b. decided (live (owner a)) (λ e. e) (λ e. clash (owner-has a l b) (ap (member a) (list-dead (owner a) e) ∙ no_one a));
          above = λ a l b. z.above a l (h.taken (owner a) a b (owner-has a l b));
          most = z.fits;
        }

    dangling-rule : Owned s.halves s.owner s.live s.size → rule.DanglingSound SLOTS (occ s.halves) (list_of s.links SCOPES)
    dangling-rule h =
        record {
          once = once SCOPES (omega arith);
          within = λ a p. (owner-is SCOPES a (omega arith) p).0;
          clear = λ a p. let w = owner-is SCOPES a (omega arith) p in h.taken a w.0 ∙ le-ltb (owner a) SCOPES (omega (arith, w.1));
        }

  -- ---- from the record to the rules

  module _ (h : Sound s) where
    closed-list : (i : ℕ) → i < SCOPES → live i ≡ false → list_of s.links i ≡ []
    closed-list i l d =
        empty (list_of s.links i) (λ a p.
        let ha : a < SLOTS = (h.ringed.rings.ring i (omega arith)).addr a p in
        let e : owner a ≡ i = eqb-true (owner a) i (sym (h.ringed.tells a i ha (omega arith)) ∙ p) in
        clash (subst (λ (j : ℕ). live j ≡ true) e (h.owned.alive a ha (omega arith))) d)

    parent-most : (i : ℕ) → LeadsToRoot s.live s.parent i → get_or s.parent i 0 ≤ SCOPES
    parent-most i (root l q) = omega (arith, q)
    parent-most i (up n l r) = omega (arith, live_below s.live long (get_or s.parent i 0) (leads-live s.live s.parent (get_or s.parent i 0) r))

    pub is-canonical : Canonical s
    is-canonical =
        record {
          cells = h.ringed;
          closed = λ i l d. let z = h.rooted.dead i l d in record { unmarked = z.0; no-parent = z.1; no_number = z.2; no-list = closed-list i l d };
          parents = λ i l. decided (live i) (λ e. parent-most i (h.rooted.leads i e)) (λ e. omega (arith, (h.rooted.dead i l e).1));
          top = ⊎_elim (λ x. omega (arith, x.0)) (λ x. omega (arith, x.0)) h.rooted.topped;
          count = h.named.most;
          past = h.named.clear;
        }

    top-rule : rule.TopSound SCOPES seen (index s.top)
    top-rule =
        record {
          is_live = λ i q. let w = index_is s.top i q in
              subst (rule.IsLive SCOPES seen) w.0 (w.1, is_live s.top ∙ ⊎_elim (λ x. x.1) (λ x. absurd (omega (arith, x.0, w.1))) h.rooted.topped);
          no-live = λ q i l. is_live i ∙ ⊎_elim (λ x. absurd (omega (arith, x.0, index-over s.top q))) (λ x. x.1 i l) h.rooted.topped;
        }

    rule-sound : rule.Sound base (view s)
    unfolding base
    rule-sound =
        record {
          slots = slots-rule s.halves s.segments s.head h.slotted;
          top = top-rule;
          rooted = λ i l e. to-rule s.live s.dangled s.parent s.number (list_of s.links) long h.rooted.first i (h.rooted.leads i (sym (is_live i) ∙ e));
          owned = owned-rule h.ringed closed-list h.owned;
          dangling = dangling-rule h.ringed closed-list h.owned;
          bindings = record {
            once = binds-of (view s).bindings h.named.once;
            of_live = every_of (λ b. live b.scope ≡ true) (λ b. rule.IsLive SCOPES seen b.scope) (λ b e. (live_below s.live long b.scope e, is_live b.scope ∙ e)) (view s).bindings h.named.alive;
            few = few s.count BINDINGS s.bindings room;
          };
          size = record { above = λ a l o. h.owned.above a l (ltb-true (owner a) SCOPES (sym (h.owned.taken a l) ∙ o)); fits = h.owned.most };
        }

    pub passes : sound base (view s) ≡ true
    passes = (tells-sound base (view s)).shows rule-sound

  -- ---- and back

  of-rules : rule.Sound base (view s) → Canonical s → Sound s
  unfolding base
  of-rules h c =
      record {
        slotted = rule-slots s.halves s.segments s.head h.slots;
        ringed = c.cells;
        owned = rule-owned c.cells (λ i l d. (c.closed i l d).no-list) h.owned h.size;
        rooted = record {
          topped = by_cases (dec_lt s.top SCOPES)
              (λ l. inl (l, sym (is_live s.top) ∙ (h.top.is_live s.top (index-some s.top l)).1))
              (λ l. inr ((let m : s.top ≤ SCOPES = c.top in omega arith), λ i b. sym (is_live i) ∙ h.top.no-live (index-none s.top (omega arith)) i b));
          leads = λ i l. of-rule s.live s.dangled s.parent s.number (list_of s.links) (c.parents 0 (omega arith)) i (h.rooted i (live_below s.live long i l) (is_live i ∙ l));
          dead = λ i l d. let z = c.closed i l d in (z.unmarked, z.no-parent, z.no_number);
          first = decided (live 0)
              (λ l. root-number s.live s.dangled s.parent s.number (list_of s.links) (h.rooted 0 (omega arith) (is_live 0 ∙ l)))
              (λ d. (c.closed 0 (omega arith) d).no_number);
        };
        named = record {
          most = c.count;
          alive = of-every (λ b. live b.scope ≡ true) (λ b. rule.IsLive SCOPES seen b.scope) (λ b e. sym (is_live b.scope) ∙ e.1) (view s).bindings h.bindings.of_live;
          once = of-binds (view s).bindings h.bindings.once;
          clear = c.past;
        };
      }

  pub good-sound : Good s → Sound s
  good-sound x = of-rules ((tells-sound base (view s)).holds x.0) x.1

  -- what tells the record's soundness tells 01's test of the view, and that the record is canonical
  pub tells_both : (r : Bool) → Tells r (Sound s) → Tells r (Good s)
  tells_both r t = tells_as t (λ h. (passes h, is-canonical h)) good-sound
