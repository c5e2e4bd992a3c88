-- A scope is opened. Assumes nothing.
use Rattle.std.proofs.Common.{◌≡◌, ℕ, ◌+◌, ◌-◌, Err, ◌%◌, ◌<◌, Bool, true, false, not, ◌≢◌, List, [], ◌∷◌, length, get_or, set, sym, refl, ap, ◌∙◌, subst, inl, arith, length-set, get_or-set_other, get_or-set_same, lt-ltb, ne_eqb}
use mathlib.Core.Logic.{by_cases}
use mathlib.Core.Option.{none, some}
use native.Mathlib.Decide.{ℕ_discrete}
use borrow.Author.Tests.{not-true}
use Rattle.rules.specs.Notation.{given, refused, ◌>>=◌, refuse◌unless◌, is_some, put, first}
use Rattle.rules.specs.Refusals.{number_of}
use Rattle.rules.specs.declared.refusal.Refusal.{Refusal}
use Rattle.rules.specs.AddressSets.{member}
use Rattle.rules.specs.Sizes.{base, SCOPES, SLOTS, COUNTERS}
use Rattle.rules.specs.Scopes as rule
use Rattle.rules.proofs.Searches.{Least, first_found}
use Rattle.rules.proofs.Sets.{member-same}
use Rattle.rules.proofs.Tells.{clash}
use Rattle.scopes.specs.View.{list_of, index, bindings_of, view, told}
use Rattle.scopes.specs.Sound.{Sound, LeadsToRoot, root, up, Each, Sized}
use Rattle.scopes.specs.Steps.{Whole}
use Rattle.scopes.specs.Leaves.{is_free, Tops}
use Rattle.scopes.specs.declared.Scopes.{Scopes}
use Rattle.scopes.proofs.Tables.{put-ext}
use Rattle.scopes.proofs.Finds.{lives, Topped}

abbrev pub with_child : Scopes → ℕ → ℕ → Scopes
with_child s i n = record s { live = set s.live i true; parent = set s.parent i s.top; number = set s.number i s.counter; top = i; counter = n }

pub each_map : {P Q : rule.Binding → Type 0} → ((b : rule.Binding) → P b → Q b) → (l : List rule.Binding) → Each P l → Each Q l
each_map f [] h = tt
each_map f (b ∷ l) h = (f b h.0, each_map f l h.1)

no-members : (l : List ℕ) → ((a : ℕ) → member a l ≡ true → ⊥) → l ≡ []
no-members [] h = refl
no-members (x ∷ l) h = absurd (h x (member-same x l))

-- a scope that is not live owns nothing
pub owns_none : (s : Scopes) → Sound s → (i : ℕ) → i < SCOPES → get_or s.live i false ≡ false → list_of s.links i ≡ []
owns_none s h i hi d =
    no-members (list_of s.links i)
    (λ a m.
    let ha : a < SLOTS = (h.ringed.rings.ring i (omega arith)).addr a m in
    clash m (h.ringed.tells a i ha (omega arith) ∙ ne_eqb (get_or s.owner a 0) i (λ e. clash (h.owned.alive a ha (omega arith)) (rw e d))))

free-is : (s : Scopes) → ◌≡◌ {A = ℕ → Bool} (λ j. not (is_some ((view s).live j))) (is_free s.live)
free-is s = λ t j. not (lives s j t)

-- a flag that is set keeps the others
raised : (live : List Bool) (i j : ℕ) → i < length live → get_or live j false ≡ true → get_or (set live i true) j false ≡ true
raised live i j l h =
    by_cases (ℕ_discrete j i)
    (λ e. rw (e, get_or-set_same live i true false l))
    (λ n. get_or-set_other live i j true false n ∙ h)

-- a way to root over live scopes does not meet one that isn't
module _ (live : List Bool) (parent : List ℕ) (i p : ℕ) (d : get_or live i false ≡ false) where
  differs : (j : ℕ) → get_or live j false ≡ true → j ≢ i
  differs j l e = clash l (rw e d)

  leads-on : {j : ℕ} → LeadsToRoot live parent j → LeadsToRoot (set live i true) (set parent i p) j
  leads-on (root l q) = root (get_or-set_other live i 0 true false (differs 0 l) ∙ l) (get_or-set_other parent i 0 p 0 (differs 0 l) ∙ q)
  leads-on (up {i = j} n l r) =
      up n (get_or-set_other live i j true false (differs j l) ∙ l)
      (subst (λ (x : ℕ). LeadsToRoot (set live i true) (set parent i p) x) (sym (get_or-set_other parent i j p 0 (differs j l))) (leads-on r))

module _ (s : Scopes) where
  pub child-no-top : (e : Refusal) → Tops s (Err e) → record { next = view s; says = refused (number_of e) } ≡ told (λ i. i) (view s) (rule.open_child base (view s))
  unfolding rule.open_child ◌>>=◌
  child-no-top e t = rw (sym t.is)

  module _ (h : Sound s) (t : Topped s) where
    pub child-full : none ≡ first (is_free s.live) 1 (SCOPES - 1) → record { next = view s; says = refused 8 } ≡ told (λ i. i) (view s) (rule.open_child base (view s))
    unfolding rule.open_child ◌>>=◌ refuse◌unless◌ base
    child-full e =
        let q : first (λ j. not (is_some ((view s).live j))) 1 63 ≡ none = ap (λ (g : ℕ → Bool). first g 1 63) (free-is s) ∙ sym e in
        rw (t.is, q)

    module _ (i : ℕ) (e : some i ≡ first (is_free s.live) 1 (SCOPES - 1)) where
      f : Least (is_free s.live) 1 63 i
      f = first_found (is_free s.live) 1 63 i (sym e)

      pub below : i < SCOPES
      below = omega (arith, f.high)

      dead : get_or s.live i false ≡ false
      dead = not-true _ f.passes

      module _ (n : ℕ) (en : n ≡ (s.counter + 1) % COUNTERS) (z : Sized s) where
        new : (view (with_child s i n)).live ≡ put (view s).live i (some (rule.new_scope s.counter (index s.top)))
        new =
            put-ext _ _ i _
            (rw (get_or-set_same s.live i true false (omega (arith, below, z.live)), get_or-set_same s.parent i s.top 0 (omega (arith, below, z.parent)), get_or-set_same s.number i s.counter 0 (omega (arith, below, z.number)), owns_none s h i below dead, (h.rooted.dead i below dead).0))
            (λ j q. rw (get_or-set_other s.live i j true false q, get_or-set_other s.parent i j s.top 0 q, get_or-set_other s.number i j s.counter 0 q))

        pub child-rule : record { next = view (with_child s i n); says = given (record { index = i; number = s.counter }) } ≡ told (λ i. i) (view s) (rule.open_child base (view s))
        unfolding rule.open_child ◌>>=◌ refuse◌unless◌ base
        child-rule =
            let q : first (λ j. not (is_some ((view s).live j))) 1 63 ≡ some i = ap (λ (g : ℕ → Bool). first g 1 63) (free-is s) ∙ sym e in
            let x : index i ≡ some i = rw (lt-ltb i SCOPES below, index) in
            rw (t.is, q) (λ u. record {
              next = record { slots = (view s).slots; live = new u; top = x u; counter = en u; bindings = (view s).bindings; dangling = (view s).dangling; size = s.size };
              says = given (record { index = i; number = s.counter });
            })

        child-sound : Sound (with_child s i n)
        child-sound =
            record {
              slotted = h.slotted;
              ringed = h.ringed;
              owned = record { taken = h.owned.taken; alive = λ a ha l. raised s.live i _ (omega (arith, below, z.live)) (h.owned.alive a ha l); above = h.owned.above; most = h.owned.most };
              rooted = record {
                topped = inl (below, here);
                leads = λ j l. leads j l (ℕ_discrete j i);
                dead = λ j hj l. let q : j ≢ i = λ e. clash here (subst (λ (x : ℕ). get_or (set s.live i true) x false ≡ false) e l) in
                    rw (get_or-set_other s.parent i j s.top 0 q, get_or-set_other s.number i j s.counter 0 q) (h.rooted.dead j hj (sym (get_or-set_other s.live i j true false q) ∙ l));
                first = get_or-set_other s.number i 0 s.counter 0 (omega (arith, f.low)) ∙ h.rooted.first;
              };
              named = record {
                most = h.named.most;
                alive = each_map (λ b l. raised s.live i b.scope (omega (arith, below, z.live)) l) (bindings_of s.bindings s.count) h.named.alive;
                once = h.named.once;
                clear = h.named.clear;
              };
            }
          where
            here : get_or (set s.live i true) i false ≡ true
            here = get_or-set_same s.live i true false (omega (arith, below, z.live))

            leads : (j : ℕ) → get_or (set s.live i true) j false ≡ true → Dec (j ≡ i) → LeadsToRoot (set s.live i true) (set s.parent i s.top) j
            leads j l (yes e) =
                subst (λ (x : ℕ). LeadsToRoot (set s.live i true) (set s.parent i s.top) x) (sym e)
                (up (omega (arith, f.low)) here
                (subst (λ (x : ℕ). LeadsToRoot (set s.live i true) (set s.parent i s.top) x) (sym (get_or-set_same s.parent i s.top 0 (omega (arith, below, z.parent))))
                (leads-on s.live s.parent i s.top dead (h.rooted.leads s.top t.live))))
            leads j l (no q) = leads-on s.live s.parent i s.top dead (h.rooted.leads j (sym (get_or-set_other s.live i j true false q) ∙ l))

        pub child-whole : Whole (with_child s i n)
        child-whole =
            record {
              sound = child-sound;
              sized = record {
                halves = z.halves;
                links = z.links;
                owner = z.owner;
                live = length-set s.live i true ∙ z.live;
                dangled = z.dangled;
                parent = length-set s.parent i s.top ∙ z.parent;
                number = length-set s.number i s.counter ∙ z.number;
                bindings = z.bindings;
              };
            }
