-- Slots for a scope, by any placement: alloc, alloc in s, and runs. Assumes nothing.
use Rattle.std.proofs.Common.{Ok, Err, sym, ◌≡◌, ℕ, zero, suc, ◌+◌, ◌*◌, max, true, ◌≢◌, refl, ap, ◌∙◌, arith}
use Rattle.std.specs.Prelude as code
use mathlib.Core.Logic.{by_cases}
use mathlib.Core.Option.{Option, none, some}
use native.Mathlib.Decide.{dec_lt}
use Rattle.rules.specs.Notation.{Answer, given, refused, ◌>>=◌, refuse◌unless◌}
use Rattle.rules.specs.Refusals.{number_of}
use Rattle.rules.specs.declared.refusal.Refusal.{Refusal}
use Rattle.rules.specs.Sizes.{base, SEGMENTS}
use Rattle.rules.specs.Slots.{Place, Placement, placing}
use Rattle.rules.specs.Sound.{sound_slots}
use Rattle.rules.specs.Scopes as rule
use Rattle.rules.proofs.Tells.{clash, is_false}
use Rattle.rules.proofs.Tests.{tells-slots}
use Rattle.rules.proofs.Editions.{InOrder}
use Rattle.slots.specs.Halves.{occ}
use Rattle.slots.specs.Spots.{Vacant, after, spot_says}
use Rattle.slots.specs.declared.Spot.{Spot}
use Rattle.slots.proofs.Going.{spot-in-order, spot-vacant}
use Rattle.scopes.specs.View.{view, found_at, Seen, told, replied}
use Rattle.scopes.specs.Sound.{Slotted, Sound}
use Rattle.scopes.specs.Steps.{Handed, is_refusal, Becomes}
use Rattle.scopes.specs.Leaves.{Tops}
use Rattle.scopes.specs.declared.Scopes.{Scopes}
use Rattle.scopes.proofs.Becoming.{does}

-- ---- the slots as the rules see them

pub slots-sound : (s : Scopes) → Slotted s.halves s.segments s.head → sound_slots base.segments (view s).slots ≡ true
unfolding base
slots-sound s h =
    (tells-slots SEGMENTS (view s).slots).shows
    (record {
      segments = h.most;
      head = h.front;
      low = λ b l o. by_cases (dec_lt b (128 * s.segments)) (λ x. x) (λ x. clash o (h.none b (omega arith) l));
    })

-- ---- n slots for scope k, which go where r says

module _ (s : Scopes) (k : ℕ) (p : Place) (n : ℕ) where
  pub alloc-full : none ≡ placing base.segments p n (view s).slots → record { next = view s; says = refused 7 } ≡ told (λ a. a) (view s) (rule.allocate (placing base.segments p) (found_at s k) n (view s))
  unfolding rule.allocate ◌>>=◌ refuse◌unless◌
  alloc-full e = rw (sym e)

  module _ (r : Spot) (g : spot_says n (view s).slots (code.Some r) ≡ placing base.segments p n (view s).slots) (h : Sound s) where
    -- every placement gives clear slots below the room, and leaves them in order
    pub alloc-vacant : Vacant (occ s.halves) r.address n
    unfolding base
    alloc-vacant = spot-vacant p n (view s).slots r (slots-sound s h.slotted) g

    then-in-order : InOrder SEGMENTS (after (view s).slots n r)
    unfolding base
    then-in-order = spot-in-order p n (view s).slots r (slots-sound s h.slotted) g

    module _ (t : Scopes) (size : ℕ) (es : size ≡ max s.size (r.address + n)) (x : Handed s k r.address n t (max s.size (r.address + n))) where
      abbrev then : Scopes
      then = record t { segments = r.segments; head = r.head; size = size }

      gives : record { next = view then; says = given r.address } ≡ told (λ a. a) (view s) (rule.allocate (placing base.segments p) (found_at s k) n (view s))
      unfolding rule.allocate rule.set_scope ◌>>=◌ refuse◌unless◌
      gives =
          rw (sym g)
          (λ u. record {
            next = record {
              slots = record { occupied = (x.is u).slots.occupied; segments = r.segments; head = r.head };
              live = (x.is u).live;
              top = (x.is u).top;
              counter = (x.is u).counter;
              bindings = (x.is u).bindings;
              dangling = (x.is u).dangling;
              size = es u;
            };
            says = given r.address;
          })

      -- the placement leaves slots in order
      slotted : Slotted t.halves r.segments r.head
      unfolding rule.set_scope
      slotted =
          record {
            most = then-in-order.segments;
            front = then-in-order.head (omega arith);
            none = λ b lo hi. ap (λ (c : rule.Scopes). c.slots.occupied b) x.is ∙ is_false _ (λ e. omega (arith, then-in-order.low b hi e));
          }

      pub alloc_gives : Becomes s then (given r.address) (λ c. told (λ a. a) c (rule.allocate (placing base.segments p) (found_at s k) n c))
      alloc_gives =
          let w = x.whole.sound in
          let z = x.whole.sized in
          does s then r.address (λ c. told (λ a. a) c (rule.allocate (placing base.segments p) (found_at s k) n c)) gives
          (record {
            sound = record {
              slotted = slotted;
              ringed = w.ringed;
              owned = record { taken = w.owned.taken; alive = w.owned.alive; above = λ a ha o. omega (arith, es, w.owned.above a ha o); most = omega (arith, es, w.owned.most) };
              rooted = w.rooted;
              named = w.named;
            };
            sized = record { halves = z.halves; links = z.links; owner = z.owner; live = z.live; dangled = z.dangled; parent = z.parent; number = z.number; bindings = z.bindings };
          })

-- ---- which scope it is for

module _ (place : Placement) (s : Scopes) where
  pub alloc-no-top : (e : Refusal) → Tops s (Err e) → record { next = view s; says = refused (number_of e) } ≡ told (λ a. a) (view s) (rule.alloc_top place (view s))
  unfolding rule.alloc_top ◌>>=◌
  alloc-no-top e t = rw (sym t.is)

  pub alloc-top : (i : ℕ) → Tops s (Ok i) → rule.allocate place (found_at s i) 1 (view s) ≡ rule.alloc_top place (view s)
  unfolding rule.alloc_top ◌>>=◌
  alloc-top i t = rw (sym t.is)

  pub alloc-in-none : (o : Option rule.Found) → none ≡ o → record { next = view s; says = refused 4 } ≡ told (λ a. a) (view s) (rule.alloc_in place o (view s))
  unfolding rule.alloc_in ◌>>=◌ refuse◌unless◌
  alloc-in-none o e = rw (sym e)

  pub alloc-in-is : (o : Option rule.Found) (i : ℕ) → some (found_at s i) ≡ o → rule.allocate place (found_at s i) 1 (view s) ≡ rule.alloc_in place o (view s)
  unfolding rule.alloc_in ◌>>=◌ refuse◌unless◌
  alloc-in-is o i e = rw (sym e)

  pub run-no-top : (n : ℕ) (e : Refusal) → Tops s (Err e) → record { next = view s; says = refused (number_of e) } ≡ told (λ a. a) (view s) (rule.alloc_run place n (view s))
  unfolding rule.alloc_run ◌>>=◌
  run-no-top zero e t = rw (sym t.is)
  run-no-top (suc m) e t = rw (sym t.is)

  pub run-empty : (i n : ℕ) → Tops s (Ok i) → n ≡ 0 → record { next = view s; says = given none } ≡ told (λ a. a) (view s) (rule.alloc_run place n (view s))
  unfolding rule.alloc_run ◌>>=◌
  run-empty i n t e = rw (e, sym t.is)

  -- what `allocate` tells of the first slot, it tells of the run
  run-told : (c : rule.Scopes) (r : Answer (ℕ × rule.Scopes)) (z : Seen ℕ) → z ≡ told (λ a. a) c r → record { next = z.next; says = replied some z.says } ≡ told (λ a. a) c (r >>= (λ x. given (some x.0, x.1)))
  unfolding ◌>>=◌
  run-told c (given x) z e = ap (λ (y : Seen ℕ). record { next = y.next; says = replied some y.says }) e
  run-told c (refused n) z e = ap (λ (y : Seen ℕ). record { next = y.next; says = replied some y.says }) e

  run-refusal : (x : Answer ℕ) → is_refusal (replied some x) ≡ is_refusal x
  run-refusal (given n) = refl
  run-refusal (refused n) = refl

  pub run_is : (i n : ℕ) → Tops s (Ok i) → n ≢ 0 → (t : Scopes) (x : Answer ℕ) → Becomes s t x (λ c. told (λ a. a) c (rule.allocate place (found_at s i) n c))
      → Becomes s t (replied some x) (λ c. told (λ a. a) c (rule.alloc_run place n c))
  unfolding rule.alloc_run ◌>>=◌
  run_is i zero p ne t x b = absurd (ne refl)
  run_is i (suc m) p ne t x b =
      record {
        is = rw (sym p.is) (run-told (view s) (rule.allocate place (found_at s i) (suc m) (view s)) (record { next = view t; says = x }) b.is);
        whole = b.whole;
        kept = λ q. b.kept (sym (run-refusal x) ∙ q);
      }
