-- A slot goes back: to the dangling list, or to none. Assumes nothing.
use Rattle.std.proofs.Common.{◌≡◌, ℕ, ◌*◌, ◌/◌, ◌<◌, ◌≤◌, Bool, true, false, ◌≢◌, List, length, get_or, set, sym, refl, ap, ◌∙◌, subst, arith, length-set, le-ltb, lt-ltb, eq-eqb, ne_eqb}
use mathlib.Core.Logic.{by_cases}
use mathlib.Core.Option.{some}
use native.Mathlib.Decide.{dec_lt}
use Rattle.rules.specs.Sizes.{HALVES, LINKS, LISTS, SCOPES, SLOTS}
use Rattle.rules.specs.Notation.{given, refused, ◌>>=◌, refuse◌unless◌, refuse◌when◌, put}
use Rattle.rules.specs.AddressSets.{member, added, without}
use Rattle.rules.specs.Slots.{remove}
use Rattle.rules.specs.Scopes as rule
use Rattle.rules.specs.Needs.{give_back}
use Rattle.rules.proofs.Tables.{put_same, put_other}
use Rattle.rules.proofs.Sets.{no_member, without-none}
use Rattle.rules.proofs.Tells.{clash}
use Rattle.slots.specs.Halves.{occ, slots_of}
use Rattle.links.specs.Links.{Held, On, leaves, gains}
use Rattle.links.proofs.Walks.{chains-lists}
use Rattle.links.proofs.Moves.{Tells, told-on, leaves-tells, places-tells}
use Rattle.scopes.specs.View.{list_of, index, view, scope_of, told_only}
use Rattle.scopes.specs.Sound.{Slotted, Ringed, Sound, Sized}
use Rattle.scopes.specs.Steps.{Becomes}
use Rattle.scopes.specs.declared.Scopes.{Scopes}
use Rattle.scopes.proofs.Finds.{no_top, Topped, in-range}
use Rattle.scopes.proofs.Becoming.{does}
use Rattle.scopes.proofs.Moves.{owners, ringed, owned, scopes-put}

-- the state s with slot a clear, and on list o (LISTS: on none)
abbrev pub released : Scopes → ℕ → ℕ → List ℕ → List ℕ → Scopes
released s a o halves links =
    record s { halves = halves; links = links; owner = set s.owner a o; head = a / 128 }

pub released-sized : (s : Scopes) → Sized s → (a o : ℕ) (halves links : List ℕ) → length halves ≡ HALVES → length links ≡ LINKS → Sized (released s a o halves links)
released-sized s z a o halves links lh ll =
    record { halves = lh; links = ll; owner = length-set s.owner a o ∙ z.owner; live = z.live; dangled = z.dangled; parent = z.parent; number = z.number; bindings = z.bindings }

-- a number that is no address is on no list
pub far : (links owner : List ℕ) (a i : ℕ) → Ringed links owner → SLOTS ≤ a → i < LISTS → member a (list_of links i) ≡ false
far links owner a i h l hi = no_member a (list_of links i) (λ m. omega (arith, (h.rings.ring i hi).addr a m))

module _ (s : Scopes) (dangles : Bool) (a : ℕ) where
  pub free-no-top : s.top ≡ SCOPES → record { next = view s; says = refused 12 } ≡ told_only (view s) (give_back dangles a (view s))
  unfolding give_back ◌>>=◌ refuse◌unless◌
  free-no-top e = rw (no_top s e)

  pub free-not-owned : Topped s → member a (list_of s.links s.top) ≡ false → record { next = view s; says = refused 12 } ≡ told_only (view s) (give_back dangles a (view s))
  unfolding give_back ◌>>=◌ refuse◌unless◌ refuse◌when◌
  free-not-owned t e = rw (t.is, e)

-- the slot a of scope k, which is a live one
module _ (s : Scopes) (h : Sound s) (z : Sized s) (a k : ℕ) (ha : a < SLOTS) (hk : k < SCOPES) (ek : get_or s.owner a 0 ≡ k) where
  pub lives : get_or s.live k false ≡ true
  lives = subst (λ (x : ℕ). get_or s.live x false ≡ true) ek (h.owned.alive a ha (omega arith))

  full : occ s.halves a ≡ true
  full = h.owned.taken a ha ∙ rw ek (lt-ltb k SCOPES hk)

  inside : a < 128 * s.segments
  inside = by_cases (dec_lt a (128 * s.segments)) (λ l. l) (λ n. clash full (h.slotted.none a (omega arith) ha))

  pub on : On LISTS (list_of s.links) a
  on = told-on SLOTS LISTS (owners s.owner) (list_of s.links) h.ringed.tells a ha (omega arith)

  pub owns : member a (list_of s.links k) ≡ true
  owns = h.ringed.tells a k ha (omega arith) ∙ eq-eqb (get_or s.owner a 0) k ek

  unowned : (j : ℕ) → j < LISTS → j ≢ k → without a (list_of s.links j) ≡ list_of s.links j
  unowned j hj n = without-none a (list_of s.links j) (h.ringed.tells a j ha hj ∙ ne_eqb (get_or s.owner a 0) j (λ e. n (sym e ∙ ek)))

  module _ (halves : List ℕ) (slot : occ halves ≡ put (occ s.halves) a false) where
    pub removed : remove a (view s).slots ≡ slots_of halves s.segments (a / 128)
    unfolding remove
    removed =
        rw (lt-ltb (a / 128) s.segments (omega (arith, inside)), remove)
        (λ t. record { occupied = sym slot t; segments = s.segments; head = a / 128 })

    slotted : Slotted halves s.segments (a / 128)
    slotted =
        record {
          most = h.slotted.most;
          front = omega arith;
          none = λ b lo hi. ap (λ (f : ℕ → Bool). f b) slot ∙ put_other (occ s.halves) a false b (omega (arith, inside)) ∙ h.slotted.none b lo hi;
        }

    -- the lists ys that are held then differ from the old ones at k, where a is gone, and at 64
    module _ (links : List ℕ) (o : ℕ) (lo : SCOPES ≤ o) (ho : o ≤ LISTS) (ys : ℕ → List ℕ) (c : Held SLOTS LISTS links ys) (t : Tells SLOTS LISTS (put (owners s.owner) a o) ys)
        (here : ys k ≡ without a (list_of s.links k)) (other : (j : ℕ) → j < SCOPES → j ≢ k → ys j ≡ list_of s.links j) where
      pub now : (j : ℕ) → j < LISTS → list_of links j ≡ ys j
      now j hj = chains-lists SLOTS LISTS links ys c j hj

      pub live-is : (view (released s a o halves links)).live ≡ put (view s).live k (some (rule.owned≔ (without a (list_of s.links k)) (scope_of s k)))
      live-is =
          scopes-put s.live s.dangled s.parent s.number (list_of s.links) (list_of links) k (without a (list_of s.links k)) lives (now k (omega arith) ∙ here)
          (λ j lj n. let hj : j < SCOPES = in-range s z.live j lj in now j (omega arith) ∙ other j hj n)

      pub sound : Sound (released s a o halves links)
      sound =
          record {
            slotted = slotted;
            ringed = ringed s.links s.owner links ys a o h.ringed ha z.owner ho c t;
            owned = owned s.halves s.owner s.live s.size halves a o false s.size h.owned ha z.owner slot (sym (le-ltb o SCOPES lo)) (λ q. absurd (omega arith)) (λ q. absurd (omega arith)) (omega arith) h.owned.most;
            rooted = h.rooted;
            named = h.named;
          }

      -- where k is the top
      rule-is : (dangles : Bool) → s.top ≡ k → Topped s → ys SCOPES ≡ elim dangles [ true ↦ added a (list_of s.links SCOPES) | false ↦ list_of s.links SCOPES ]
          → record { next = view (released s a o halves links); says = given tt } ≡ told_only (view s) (give_back dangles a (view s))
      unfolding give_back rule.set_scope ◌>>=◌ refuse◌unless◌ refuse◌when◌
      rule-is dangles et top e64 =
          let l : (view (released s a o halves links)).live ≡ put (view s).live s.top (some (rule.owned≔ (without a (list_of s.links s.top)) (scope_of s s.top))) =
          subst (λ (x : ℕ). (view (released s a o halves links)).live ≡ put (view s).live x (some (rule.owned≔ (without a (list_of s.links x)) (scope_of s x)))) (sym et) live-is in
          let d : list_of links SCOPES ≡ elim dangles [ true ↦ added a (list_of s.links SCOPES) | false ↦ list_of s.links SCOPES ] = now SCOPES (omega arith) ∙ e64 in
          let r : remove a (view s).slots ≡ slots_of halves s.segments (a / 128) = removed in
          let m : member a (list_of s.links s.top) ≡ true = ap (λ (x : ℕ). member a (list_of s.links x)) et ∙ owns in
          rw (top.is, m) (λ u. record {
            next = record { slots = sym r u; live = l u; top = index s.top; counter = s.counter; bindings = (view s).bindings; dangling = d u; size = s.size };
            says = given tt;
          })

    -- ---- to the dangling list

    module _ (links : List ℕ) (c : Held SLOTS LISTS links (gains SCOPES a (leaves a (list_of s.links)))) where
      told-there : Tells SLOTS LISTS (put (owners s.owner) a SCOPES) (gains SCOPES a (leaves a (list_of s.links)))
      told-there = places-tells SLOTS LISTS (owners s.owner) (list_of s.links) h.ringed.tells a ha SCOPES (omega arith)

      pub back-k : gains SCOPES a (leaves a (list_of s.links)) k ≡ without a (list_of s.links k)
      back-k = put_other (leaves a (list_of s.links)) SCOPES _ k (omega arith)

      pub back-64 : gains SCOPES a (leaves a (list_of s.links)) SCOPES ≡ added a (list_of s.links SCOPES)
      back-64 = put_same (leaves a (list_of s.links)) SCOPES _ ∙ ap (added a) (unowned SCOPES (omega arith) (omega arith))

      pub back-other : (j : ℕ) → j < SCOPES → j ≢ k → gains SCOPES a (leaves a (list_of s.links)) j ≡ list_of s.links j
      back-other j hj n = put_other (leaves a (list_of s.links)) SCOPES _ j (omega arith) ∙ unowned j (omega arith) n

      pub back-sound : Sound (released s a SCOPES halves links)
      back-sound = sound links SCOPES (omega arith) (omega arith) _ c told-there back-k back-other

      pub back-live : (view (released s a SCOPES halves links)).live ≡ put (view s).live k (some (rule.owned≔ (without a (list_of s.links k)) (scope_of s k)))
      back-live = live-is links SCOPES (omega arith) (omega arith) _ c told-there back-k back-other

      pub back-lists : (list_of links k ≡ without a (list_of s.links k)) × (list_of links SCOPES ≡ added a (list_of s.links SCOPES))
      back-lists = (
        now links SCOPES (omega arith) (omega arith) _ c told-there back-k back-other k (omega arith) ∙ back-k,
        now links SCOPES (omega arith) (omega arith) _ c told-there back-k back-other SCOPES (omega arith) ∙ back-64,
      )

      pub gives_back : length halves ≡ HALVES → length links ≡ LINKS → (dangles : Bool) → dangles ≡ true → s.top ≡ k → Topped s
          → Becomes s (released s a SCOPES halves links) (given tt) (λ c. told_only c (give_back dangles a c))
      gives_back lh ll dangles e et top =
          does s (released s a SCOPES halves links) tt (λ c. told_only c (give_back dangles a c))
          (rule-is links SCOPES (omega arith) (omega arith) _ c told-there back-k back-other dangles et top (back-64 ∙ rw e))
          (record { sound = back-sound; sized = released-sized s z a SCOPES halves links lh ll })

    -- ---- to none

    pub gives-quietly : (links : List ℕ) → Held SLOTS LISTS links (leaves a (list_of s.links)) → length halves ≡ HALVES → length links ≡ LINKS → (dangles : Bool) → dangles ≡ false → s.top ≡ k → Topped s
        → Becomes s (released s a LISTS halves links) (given tt) (λ c. told_only c (give_back dangles a c))
    gives-quietly links c lh ll dangles e et top =
        let t = leaves-tells SLOTS LISTS (owners s.owner) (list_of s.links) h.ringed.tells a ha LISTS (omega arith) in
        let other : (j : ℕ) → j < SCOPES → j ≢ k → leaves a (list_of s.links) j ≡ list_of s.links j = λ j hj n. unowned j (omega arith) n in
        does s (released s a LISTS halves links) tt (λ c. told_only c (give_back dangles a c))
        (rule-is links LISTS (omega arith) (omega arith) _ c t refl other dangles et top (unowned SCOPES (omega arith) (omega arith) ∙ rw e))
        (record { sound = sound links LISTS (omega arith) (omega arith) _ c t refl other; sized = released-sized s z a LISTS halves links lh ll })
