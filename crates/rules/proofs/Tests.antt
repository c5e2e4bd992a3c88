-- The tests of specs/Sound answer yes exactly where the records of Sound hold: one law for each part. Assumes nothing.
use mathlib.Core.Path.{◌≡◌, refl, sym, subst, ◌∙◌}
use mathlib.Core.Bool.{Bool, true, false, not}
use mathlib.Core.Option.{Option, none, some}
use mathlib.Core.List.{List, [], ◌∷◌}
use Prim.Native.Nat.{ℕ, ◌*◌, ◌/◌, ◌≤◌, ◌<◌}
use native.Mathlib.Omega.{arith}
use lib.ListN.{length}
use Rattle.rules.specs.Notation.{is_some, all_of}
use Rattle.rules.specs.Sizes.{Room}
use Rattle.rules.specs.Slots.{Slots}
use Rattle.rules.specs.AddressSets.{member, repeats_nothing}
use Rattle.rules.specs.Scopes.{Binding, Scopes, bound_in}
use Rattle.rules.specs.Sound.{one, sum_below, times, sound_slots, sound_top, sound_parents, on_lists, sound_owners, sound_dangling, binds_once, sound_bindings, sound_size, sound}
use Rattle.rules.specs.Tells.{Tells}
use Rattle.rules.proofs.Chains.{none-some}
use Rattle.rules.proofs.Sets.{member-same, member-tail, member-cons, Once, once-nil, once, Within}
use Rattle.rules.proofs.Sound.{Every, every-nil, every, SlotsSound, IsLive, TopSound, Rooted, OwnedSound, lists_of, DanglingSound, BindsOnce, binds-nil, binds, SizeSound, Sound}
use Rattle.rules.proofs.Tells.{decided, is_false, clash, tells_as, tells-and, tells-implies, tells-true, tells-not, tells-lt, tells-le, tells-eq, tells-below, tells-every}
use Rattle.rules.proofs.Counts.{times-member, times_none, times-once, once-times, sum-none, sum-only, sum-at, sum-single, sum-some}
use Rattle.rules.proofs.Climb.{tells-leads}

-- ---- lists

every-member : {P : ℕ → Type 0} (l : List ℕ) → Every P l → (a : ℕ) → member a l ≡ true → P a
unfolding member
every-member _ every-nil a m = clash m refl
every-member {P = P} _ (every {a = b} {l = l} p ps) a m = member-cons a b l m (λ e. subst P (sym e) p) (λ q. every-member l ps a q)

member-every : {P : ℕ → Type 0} (l : List ℕ) → ((a : ℕ) → member a l ≡ true → P a) → Every P l
member-every [] h = every-nil
member-every (b ∷ l) h = every (h b (member-same b l)) (member-every l (λ a m. h a (member-tail a b l m)))

tells-members : {f : ℕ → Bool} {P : ℕ → Type 0} (l : List ℕ) → ((a : ℕ) → Tells (f a) (P a)) → Tells (all_of f l) ((a : ℕ) → member a l ≡ true → P a)
tells-members l t = tells_as (tells-every l t) (every-member l) (member-every l)

tells-once : (l : List ℕ) → Tells (repeats_nothing l) (Once l)
unfolding repeats_nothing
tells-once [] = record { holds = λ _. once-nil; shows = λ _. refl }
tells-once (a ∷ l) = tells_as (tells-and (tells-not (member a l)) (tells-once l)) (λ h. once h.0 h.1) parts
  where
    parts : Once (a ∷ l) → (member a l ≡ false) × Once l
    parts (once n o) = (n, o)

tells_none : {A : Type 0} (o : Option A) → Tells (not (is_some o)) (o ≡ none)
tells_none none = record { holds = λ _. refl; shows = λ _. refl }
tells_none (some a) = record { holds = λ e. clash e refl; shows = λ e. none-some (sym e) }

tells-binds : (l : List Binding) → Tells (binds_once l) (BindsOnce l)
unfolding binds_once
tells-binds [] = record { holds = λ _. binds-nil; shows = λ _. refl }
tells-binds (b ∷ l) = tells_as (tells-and (tells_none (bound_in b.scope b.name l)) (tells-binds l)) (λ h. binds h.0 h.1) parts
  where
    parts : BindsOnce (b ∷ l) → (bound_in b.scope b.name l ≡ none) × BindsOnce l
    parts (binds n o) = (n, o)

-- ---- slots

pub tells-slots : (n : ℕ) (s : Slots) → Tells (sound_slots n s) (SlotsSound n s)
unfolding sound_slots
tells-slots n s =
    tells_as
    (tells-and (tells-and (tells-le s.segments n) (tells-lt s.head n)) (tells-below (128 * n) (λ a _. tells-implies (s.occupied a) (tells-lt (a / 128) s.segments))))
    (λ h. record { segments = h.0.0; head = h.0.1; low = λ a l o. omega (arith, h.1 a l o) })
    (λ r. ((r.segments, r.head), λ a l o. omega (arith, r.low a l o)))

module _ (room : Room) (c : Scopes) where
  -- ---- top, parents

  tells-top : Tells (sound_top room c) (TopSound room.scopes c.live c.top)
  unfolding sound_top
  tells-top = go c.top refl
    where
      go : (o : Option ℕ) → c.top ≡ o → Tells (sound_top room c) (TopSound room.scopes c.live c.top)
      go (some i) e =
          rw (e, sound_top)
          (tells_as (tells-and (tells-lt i room.scopes) (tells-true (is_some (c.live i))))
          (λ h. record { is_live = λ j q. subst (IsLive room.scopes c.live) (cc) h; no-live = λ q. none-some (sym q) })
          (λ r. r.is_live i refl))
      go none e =
          rw (e, sound_top)
          (tells_as (tells-below room.scopes (λ i _. tells-not (is_some (c.live i))))
          (λ h. record { is_live = λ j q. none-some q; no-live = λ q. h })
          (λ r. r.no-live refl))

  tells-parents : Tells (sound_parents room c) (Rooted room.scopes c.live)
  unfolding sound_parents
  tells-parents = tells-below room.scopes (λ i l. tells-implies (is_some (c.live i)) (tells-leads room c i l))

  -- ---- owners

  abbrev places : ℕ → ℕ → ℕ
  places a i = times a (lists_of c.live i)

  owned-holds : ((a : ℕ) → a < 128 * room.segments → sum_below (places a) room.scopes ≡ one (c.slots.occupied a))
      → ((i : ℕ) → i < room.scopes → Within (128 * room.segments) (lists_of c.live i))
      → OwnedSound (128 * room.segments) room.scopes c.slots.occupied (lists_of c.live)
  owned-holds count inside =
      let most : (a : ℕ) → a < 128 * room.segments → sum_below (places a) room.scopes ≤ 1
      = λ a l. decided (c.slots.occupied a) (λ e. omega (arith, rw e at (count a l))) (λ e. omega (arith, rw e at (count a l))) in
      record {
        once = λ i l. once-times (lists_of c.live i) (λ a.
            decided (member a (lists_of c.live i))
            (λ m. omega (arith, most a (inside i l a m), sum-at (places a) room.scopes i l))
            (λ m. omega (arith, times_none a (lists_of c.live i) m)));
        within = inside;
        taken = λ i a l m. decided (c.slots.occupied a) (λ e. e) (λ e. absurd (omega (arith, rw e at (count a (inside i l a m)), sum-at (places a) room.scopes i l, times-member a (lists_of c.live i) m)));
        apart = λ i j a l k m p. sum-single (places a) room.scopes i j (most a (inside i l a m)) l k (times-member a (lists_of c.live i) m) (times-member a (lists_of c.live j) p);
        owner = λ a l o.
            let p = sum-some (places a) room.scopes (omega (arith, rw o at (count a l))) in
            record {
              index = p.at;
              below = p.below;
              has = decided (member a (lists_of c.live p.at)) (λ e. e) (λ e. absurd (omega (arith, p.counts, times_none a (lists_of c.live p.at) e)));
            };
      }

  owned-shows : OwnedSound (128 * room.segments) room.scopes c.slots.occupied (lists_of c.live)
      → (a : ℕ) → a < 128 * room.segments → sum_below (places a) room.scopes ≡ one (c.slots.occupied a)
  owned-shows r a l = decided (c.slots.occupied a) at_one at_none
    where
      at_one : c.slots.occupied a ≡ true → sum_below (places a) room.scopes ≡ one (c.slots.occupied a)
      at_one e =
          let w = r.owner a l e in
          rw e
          (sum-only (places a) room.scopes w.index w.below
          (λ j k ne. times_none a (lists_of c.live j) (is_false _ (λ m. ne (r.apart j w.index a k w.below m w.has))))
          ∙ omega (arith, times-once a (r.once w.index w.below), times-member a (lists_of c.live w.index) w.has))

      at_none : c.slots.occupied a ≡ false → sum_below (places a) room.scopes ≡ one (c.slots.occupied a)
      at_none e = rw e (sum-none (places a) room.scopes (λ i k. times_none a (lists_of c.live i) (is_false _ (λ m. clash (r.taken i a k m) e))))

  tells-owners : Tells (sound_owners room c) (OwnedSound (128 * room.segments) room.scopes c.slots.occupied (lists_of c.live))
  unfolding sound_owners on_lists
  tells-owners =
      tells_as
      (tells-and
      (tells-below (128 * room.segments) (λ a _. tells-eq (sum_below (places a) room.scopes) (one (c.slots.occupied a))))
      (tells-below room.scopes (λ i _. tells-members (lists_of c.live i) (λ a. tells-lt a (128 * room.segments)))))
      (λ h. owned-holds h.0 h.1)
      (λ r. (owned-shows r, r.within))

  -- ---- the dangling list, bindings, size

  tells-dangling : Tells (sound_dangling room c) (DanglingSound (128 * room.segments) c.slots.occupied c.dangling)
  unfolding sound_dangling
  tells-dangling =
      tells_as
      (tells-and (tells-once c.dangling) (tells-members c.dangling (λ a. tells-and (tells-lt a (128 * room.segments)) (tells-not (c.slots.occupied a)))))
      (λ h. record { once = h.0; within = λ a m. (h.1 a m).0; clear = λ a m. (h.1 a m).1 })
      (λ r. (r.once, λ a m. (r.within a m, r.clear a m)))

  tells-size : Tells (sound_size room c) (SizeSound (128 * room.segments) room.size c.slots.occupied c.size)
  unfolding sound_size
  tells-size =
      tells_as
      (tells-and (tells-below (128 * room.segments) (λ a _. tells-implies (c.slots.occupied a) (tells-lt a c.size))) (tells-le c.size room.size))
      (λ h. record { above = h.0; fits = h.1 })
      (λ r. (r.above, r.fits))

  tells-names : Tells (sound_bindings room c) (BindsOnce c.bindings × Every (λ b. IsLive room.scopes c.live b.scope) c.bindings)
  unfolding sound_bindings
  tells-names =
      tells-and (tells-binds c.bindings) (tells-every c.bindings (λ b. tells-and (tells-lt b.scope room.scopes) (tells-true (is_some (c.live b.scope)))))

  -- ---- the whole

  pub tells-sound : Tells (sound room c) (Sound room c)
  unfolding sound
  tells-sound =
      tells_as
      (tells-and (tells-and (tells-and (tells-and (tells-and (tells-and (tells-and
      (tells-slots room.segments c.slots)
      tells-top)
      tells-parents)
      tells-owners)
      tells-dangling)
      tells-names)
      tells-size)
      (tells-le (length c.bindings) room.bindings))
      (λ h. record {
        slots = h.0.0.0.0.0.0.0;
        top = h.0.0.0.0.0.0.1;
        rooted = h.0.0.0.0.0.1;
        owned = h.0.0.0.0.1;
        dangling = h.0.0.0.1;
        bindings = record { once = h.0.0.1.0; of_live = h.0.0.1.1; few = h.1 };
        size = h.0.1;
      })
      (λ r. (((((((r.slots, r.top), r.rooted), r.owned), r.dangling), (r.bindings.once, r.bindings.of_live)), r.size), r.bindings.few))
