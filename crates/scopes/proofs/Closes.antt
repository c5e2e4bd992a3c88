-- A scope is closed: its addresses go to the dangling list one by one, then the scope itself goes. Assumes nothing.
use Rattle.std.proofs.Common.{◌≡◌, ℕ, ◌+◌, ◌<◌, ◌≤◌, Bool, true, false, ◌≢◌, ◌⊎◌, List, [], ◌∷◌, length, get_or, set, sym, refl, ap, ◌∙◌, subst, inl, inr, arith, length-set, get_or-set_other, get_or-set_same, eq-eqb, ne_eqb, eqb-true}
use mathlib.Core.Logic.{by_cases}
use mathlib.Core.Option.{none}
use mathlib.Core.Option as maybe
use native.Mathlib.Decide.{ℕ_discrete}
use borrow.Author.Tests.{eqb-false}
use Rattle.rules.specs.Sizes.{BINDINGS, CELLS, HALVES, LINKS, LISTS, SCOPES, SLOTS}
use Rattle.rules.specs.Notation.{put}
use Rattle.rules.specs.AddressSets.{member, without, added, added_all}
use Rattle.rules.specs.Slots.{remove_all}
use Rattle.rules.specs.Scopes as rule
use Rattle.rules.proofs.Sets.{member-same}
use Rattle.rules.proofs.Tells.{clash}
use Rattle.slots.specs.Halves.{occ}
use Rattle.links.specs.Links.{Held, Ring, next_in, prev_in, leaves, gains}
use Rattle.std.specs.Prelude.{Option, Some, None}
use Rattle.links.specs.Follow.{first_of}
use Rattle.links.proofs.Walks.{without-first}
use Rattle.scopes.specs.View.{list_of, index, view, bindings_of, found_at}
use Rattle.scopes.specs.Sound.{Sound, LeadsToRoot, root, up, Each, BoundOnce, Sized}
use Rattle.scopes.specs.Leaves.{NoChild}
use Rattle.scopes.specs.Steps.{Whole}
use Rattle.scopes.specs.declared.Scopes.{Scopes}
use Rattle.scopes.proofs.Tables.{put-ext, put-again}
use Rattle.scopes.proofs.Finds.{in-range}
use Rattle.scopes.proofs.Marks.{parent_live}
use Rattle.scopes.proofs.Frees.{released, released-sized, removed, back-sound, back-live, back-lists}

-- ---- the first of a list

-- a is the first of list i
pub record Turn (t : Scopes) (i a : ℕ) : Type 0 where
  pub zs : List ℕ
  pub is : list_of t.links i ≡ a ∷ zs
  pub small : a < SLOTS
  pub owner : get_or t.owner a 0 ≡ i
  pub rest : without a (list_of t.links i) ≡ zs

-- what `links::first` answers of list i
abbrev pub Firsts : Scopes → ℕ → Option ℕ → Type 0
Firsts t i o = (xs : ℕ → List ℕ) → Held SLOTS LISTS t.links xs → o ≡ first_of (xs i)

module _ (t : Scopes) (h : Sound t) (i : ℕ) (hi : i < LISTS) where
  pub turn : (a : ℕ) → Firsts t i (Some a) → Turn t i a
  turn a e = go (list_of t.links i) refl (e (list_of t.links) h.ringed.rings) (h.ringed.rings.ring i hi)
    where
      go : (xs : List ℕ) → list_of t.links i ≡ xs → Some a ≡ first_of xs → Ring SLOTS (next_in t.links) (prev_in CELLS t.links) (SLOTS + i) xs → Turn t i a
      go [] q w r = cc
      go (z ∷ zs) q w r =
          let az : a ≡ z = cc in
          let is : list_of t.links i ≡ a ∷ zs = q ∙ ap (λ (x : ℕ). x ∷ zs) (sym az) in
          let small : a < SLOTS = omega (arith, r.addr z (member-same z zs)) in
          record {
            zs = zs;
            is = is;
            small = small;
            owner = eqb-true (get_or t.owner a 0) i (sym (h.ringed.tells a i small hi) ∙ ap (member a) is ∙ member-same a zs);
            rest = ap (without a) q ∙ ap (λ (x : ℕ). without x (z ∷ zs)) az ∙ without-first SLOTS (next_in t.links) (prev_in CELLS t.links) (SLOTS + i) z zs (omega arith) r;
          }

  pub ended : Firsts t i None → list_of t.links i ≡ []
  ended e = go (list_of t.links i) (e (list_of t.links) h.ringed.rings)
    where
      go : (xs : List ℕ) → None ≡ first_of xs → xs ≡ []
      go [] q = refl
      go (x ∷ xs) q = cc

-- ---- one address has gone: closing the scope then comes to the same

module _ (t : Scopes) (h : Sound t) (z : Sized t) (i a : ℕ) (hi : i < SCOPES) (u : Turn t i a) (halves links : List ℕ)
    (slot : occ halves ≡ put (occ t.halves) a false) (c : Held SLOTS LISTS links (gains SCOPES a (leaves a (list_of t.links)))) where
  abbrev then : Scopes
  then = released t a SCOPES halves links

  lists : (list_of links i ≡ without a (list_of t.links i)) × (list_of links SCOPES ≡ added a (list_of t.links SCOPES))
  lists = back-lists t h z a i u.small hi u.owner halves slot links c

  now-i : list_of links i ≡ u.zs
  now-i = lists.0 ∙ u.rest

  step-closes : rule.closed (found_at then i) (view then) ≡ rule.closed (found_at t i) (view t)
  unfolding rule.closed remove_all added_all
  step-closes =
      let s : remove_all (list_of links i) (view then).slots ≡ remove_all (list_of t.links i) (view t).slots =
      ap (λ (l : List ℕ). remove_all l (view then).slots) now-i
      ∙ ap (remove_all u.zs) (sym (removed t h z a i u.small hi u.owner halves slot))
      ∙ sym (ap (λ (l : List ℕ). remove_all l (view t).slots) u.is) in
      let d : added_all (list_of links i) (list_of links SCOPES) ≡ added_all (list_of t.links i) (list_of t.links SCOPES) =
      ap (λ (l : List ℕ). added_all l (list_of links SCOPES)) now-i
      ∙ ap (added_all u.zs) lists.1
      ∙ sym (ap (λ (l : List ℕ). added_all l (list_of t.links SCOPES)) u.is) in
      let l : put (view then).live i none ≡ put (view t).live i none =
      ap (λ (f : ℕ → maybe.Option rule.Scope). put f i none) (back-live t h z a i u.small hi u.owner halves slot links c) ∙ put-again (view t).live i _ none in
      λ v. record { slots = s v; live = l v; top = index (get_or t.parent i 0); counter = t.counter; bindings = rule.unbound i (view t).bindings; dangling = d v; size = t.size }

-- the loop: t has come from t₀
pub record Closing (i : ℕ) (t₀ t : Scopes) : Type 0 where
  pub sound : Sound t
  pub sized : Sized t
  pub live : get_or t.live i false ≡ true
  pub scopes : (t.live ≡ t₀.live) × (t.parent ≡ t₀.parent)
  pub closes : rule.closed (found_at t i) (view t) ≡ rule.closed (found_at t₀ i) (view t₀)

pub closing-turn : (i : ℕ) (t₀ t : Scopes) (a : ℕ) → i < SCOPES → Closing i t₀ t → Firsts t i (Some a) → Turn t i a
closing-turn i t₀ t a hi g = turn t g.sound i (omega (arith, hi)) a

module _ (i : ℕ) (t₀ t : Scopes) (a : ℕ) (hi : i < SCOPES) (g : Closing i t₀ t) (u : Turn t i a) (halves links : List ℕ) (lh : length halves ≡ HALVES) (ll : length links ≡ LINKS)
    (slot : occ halves ≡ put (occ t.halves) a false) (c : Held SLOTS LISTS links (gains SCOPES a (leaves a (list_of t.links)))) where
  closing-sound : Sound (released t a SCOPES halves links)
  closing-sound = back-sound t g.sound g.sized a i u.small hi u.owner halves slot links c

  pub closing-on : Closing i t₀ (released t a SCOPES halves links)
  closing-on =
      record {
        sound = closing-sound;
        sized = released-sized t g.sized a SCOPES halves links lh ll;
        live = g.live;
        scopes = g.scopes;
        closes = step-closes t g.sound g.sized i a hi u halves links slot c ∙ g.closes;
      }

  pub closing-less : length (list_of links i) < length (list_of t.links i)
  closing-less = rw (now-i t g.sound g.sized i a hi u halves links slot c, u.is) (omega arith)

-- ---- the scope goes

abbrev pub gone : Scopes → ℕ → List ℕ → ℕ → ℕ → Scopes
gone t i bindings count top =
    record t {
      live = set t.live i false;
      dangled = set t.dangled i false;
      parent = set t.parent i SCOPES;
      number = set t.number i 0;
      bindings = bindings;
      count = count;
      top = top;
    }

each_left : {P Q : rule.Binding → Type 0} (i : ℕ) → ((b : rule.Binding) → b.scope ≢ i → P b → Q b) → (l : List rule.Binding) → Each P l → Each Q (rule.unbound i l)
unfolding rule.unbound
each_left i f [] h = tt
each_left {Q = Q} i f (b ∷ l) h =
    by_cases (ℕ_discrete b.scope i)
    (λ e. rw (eq-eqb b.scope i e, rule.unbound) (each_left i f l h.1))
    (λ n. rw (ne_eqb b.scope i n, rule.unbound) (f b n h.0, each_left i f l h.1))

once-left : (i : ℕ) (l : List rule.Binding) → BoundOnce l → BoundOnce (rule.unbound i l)
unfolding rule.unbound
once-left i [] h = tt
once-left i (b ∷ l) h =
    by_cases (ℕ_discrete b.scope i)
    (λ e. rw (eq-eqb b.scope i e, rule.unbound) (once-left i l h.1))
    (λ n. rw (ne_eqb b.scope i n, rule.unbound) (each_left i (λ x _ p. p) l h.0, once-left i l h.1))

-- where root has no child, root alone is live
alone : (live : List Bool) (parent : List ℕ) → NoChild live parent 0 → {j : ℕ} → LeadsToRoot live parent j → j ≡ 0
alone live parent nc (root l q) = refl
alone live parent nc (up {i = j} n l r) = absurd (nc j l (alone live parent nc r))

module _ (live : List Bool) (parent : List ℕ) (i : ℕ) (nc : NoChild live parent i) where
  leads-off : {j : ℕ} → j ≢ i → LeadsToRoot live parent j → LeadsToRoot (set live i false) (set parent i SCOPES) j
  leads-off ne (root l q) = root (get_or-set_other live i 0 false false ne ∙ l) (get_or-set_other parent i 0 SCOPES 0 ne ∙ q)
  leads-off ne (up {i = j} n l r) =
      up n (get_or-set_other live i j false false ne ∙ l)
      (subst (λ (x : ℕ). LeadsToRoot (set live i false) (set parent i SCOPES) x) (sym (get_or-set_other parent i j SCOPES 0 ne)) (leads-off (nc j l) r))

module _ (t : Scopes) (h : Sound t) (z : Sized t) (i : ℕ) (hi : i < SCOPES) (li : get_or t.live i false ≡ true) (nc : NoChild t.live t.parent i) (empty : list_of t.links i ≡ [])
    (bindings : List ℕ) (count : ℕ) (en : bindings_of bindings count ≡ rule.unbound i (bindings_of t.bindings t.count)) (less : count ≤ t.count)
    (clear : (j : ℕ) → count ≤ j → get_or bindings j 0 ≡ 0) (top : ℕ) (et : top ≡ get_or t.parent i 0) where
  off : get_or (set t.live i false) i false ≡ false
  off = get_or-set_same t.live i false false (omega (arith, z.live))

  pub gone-is : view (gone t i bindings count top) ≡ rule.closed (found_at t i) (view t)
  unfolding rule.closed remove_all added_all
  gone-is =
      let l : (view (gone t i bindings count top)).live ≡ put (view t).live i none =
      put-ext (view t).live (view (gone t i bindings count top)).live i none (rw off)
      (λ j n. rw (get_or-set_other t.live i j false false n, get_or-set_other t.dangled i j false false n, get_or-set_other t.parent i j SCOPES 0 n, get_or-set_other t.number i j 0 0 n)) in
      let s : (view t).slots ≡ remove_all (list_of t.links i) (view t).slots = sym (ap (λ (x : List ℕ). remove_all x (view t).slots) empty) in
      let d : (view t).dangling ≡ added_all (list_of t.links i) (view t).dangling = sym (ap (λ (x : List ℕ). added_all x (view t).dangling) empty) in
      λ v. record { slots = s v; live = l v; top = index (et v); counter = t.counter; bindings = en v; dangling = d v; size = t.size }

  not-i : (a : ℕ) → a < SLOTS → get_or t.owner a 0 ≢ i
  unfolding member
  not-i a ha = eqb-false (get_or t.owner a 0) i (sym (h.ringed.tells a i ha (omega arith)) ∙ ap (member a) empty)

  still : (j : ℕ) → j ≢ i → get_or t.live j false ≡ true → get_or (set t.live i false) j false ≡ true
  still j n l = get_or-set_other t.live i j false false n ∙ l

  gone-sound : Sound (gone t i bindings count top)
  gone-sound =
      record {
        slotted = h.slotted;
        ringed = h.ringed;
        owned = record { taken = h.owned.taken; alive = λ a ha l. still _ (not-i a ha) (h.owned.alive a ha l); above = h.owned.above; most = h.owned.most };
        rooted = record {
          topped = rw et (topped i refl (h.rooted.leads i li));
          leads = λ j l. leads j l (ℕ_discrete j i);
          dead = λ j hj l. dead j hj l (ℕ_discrete j i);
          first = first (ℕ_discrete 0 i);
        };
        named = record {
          most = omega (arith, h.named.most);
          alive = rw en (each_left i (λ b n l. still b.scope n l) (bindings_of t.bindings t.count) h.named.alive);
          once = rw en (once-left i (bindings_of t.bindings t.count) h.named.once);
          clear = clear;
        };
      }
    where
      topped : (j : ℕ) → j ≡ i → LeadsToRoot t.live t.parent j
          → ((get_or t.parent i 0 < SCOPES) × (get_or (set t.live i false) (get_or t.parent i 0) false ≡ true)) ⊎ ((get_or t.parent i 0 ≡ SCOPES) × ((k : ℕ) → k < SCOPES → get_or (set t.live i false) k false ≡ false))
      topped j e (root l q) = inr (rw (← e) q, λ k hk. others k (get_or t.live k false) refl (ℕ_discrete k i))
        where
          others : (k : ℕ) (b : Bool) → get_or t.live k false ≡ b → Dec (k ≡ i) → get_or (set t.live i false) k false ≡ false
          others k b q (yes d) = rw d off
          others k true q (no d) = absurd (d (alone t.live t.parent (subst (NoChild t.live t.parent) (sym e) nc) (h.rooted.leads k q) ∙ e))
          others k false q (no d) = get_or-set_other t.live i k false false d ∙ q
      topped j e (up n l r) =
          let p : get_or t.live (get_or t.parent i 0) false ≡ true = parent_live t h i li (λ q. n (e ∙ q)) in
          inl (in-range t z.live _ p, still _ (nc i li) p)

      leads : (j : ℕ) → get_or (set t.live i false) j false ≡ true → Dec (j ≡ i) → LeadsToRoot (set t.live i false) (set t.parent i SCOPES) j
      leads j l (yes e) = clash (subst (λ (x : ℕ). get_or (set t.live i false) x false ≡ true) e l) off
      leads j l (no n) = leads-off t.live t.parent i nc n (h.rooted.leads j (sym (get_or-set_other t.live i j false false n) ∙ l))

      dead : (j : ℕ) → j < SCOPES → get_or (set t.live i false) j false ≡ false → Dec (j ≡ i) → (get_or (set t.dangled i false) j false ≡ false) × (get_or (set t.parent i SCOPES) j 0 ≡ SCOPES) × (get_or (set t.number i 0) j 0 ≡ 0)
      dead j hj l (yes e) = rw e (get_or-set_same t.dangled i false false (omega (arith, z.dangled)), get_or-set_same t.parent i SCOPES 0 (omega (arith, z.parent)), get_or-set_same t.number i 0 0 (omega (arith, z.number)))
      dead j hj l (no n) =
          rw (get_or-set_other t.dangled i j false false n, get_or-set_other t.parent i j SCOPES 0 n, get_or-set_other t.number i j 0 0 n) (h.rooted.dead j hj (sym (get_or-set_other t.live i j false false n) ∙ l))

      first : Dec (0 ≡ i) → get_or (set t.number i 0) 0 0 ≡ 0
      first (yes e) = rw (← e) (get_or-set_same t.number 0 0 0 (omega (arith, z.number)))
      first (no n) = get_or-set_other t.number i 0 0 0 n ∙ h.rooted.first

  pub gone_whole : length bindings ≡ BINDINGS → Whole (gone t i bindings count top)
  gone_whole lb =
      record {
        sound = gone-sound;
        sized = record {
          halves = z.halves;
          links = z.links;
          owner = z.owner;
          live = length-set t.live i false ∙ z.live;
          dangled = length-set t.dangled i false ∙ z.dangled;
          parent = length-set t.parent i SCOPES ∙ z.parent;
          number = length-set t.number i 0 ∙ z.number;
          bindings = lb;
        };
      }

-- ---- what the code reads fits

pub parent-fits : (t : Scopes) → Sound t → (i : ℕ) → get_or t.live i false ≡ true → length t.live ≡ SCOPES → get_or t.parent i 0 ≤ SCOPES
parent-fits t h i li z =
    by_cases (ℕ_discrete i 0)
    (λ e. let q : get_or t.parent i 0 ≡ SCOPES = go i e (h.rooted.leads i li) in omega arith)
    (λ n. let q : get_or t.parent i 0 < SCOPES = in-range t z _ (parent_live t h i li n) in omega arith)
  where
    go : (j : ℕ) → j ≡ 0 → LeadsToRoot t.live t.parent j → get_or t.parent j 0 ≡ SCOPES
    go _ e (root l q) = q
    go _ e (up n l r) = absurd (n e)
