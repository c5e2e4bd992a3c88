-- Every place is a fair placement, both editions and W-203's: on slots that are in order, and so on those that are sound. Assumes nothing.
use mathlib.Core.Path.{◌≡◌, refl, sym, ap, subst, ◌∙◌}
use mathlib.Core.Bool.{Bool, true, false, true≢false}
use mathlib.Core.Option.{Option, none, some}
use Prim.Native.Nat.{ℕ, zero, suc, ◌+◌, ◌*◌, ◌-◌, ◌/◌, ◌%◌, ◌≤◌, ◌<◌}
use native.Mathlib.Omega.{arith}
use lib.Dec.{eqb, ltb}
use borrow.Author.Tests.{eqb-true, eqb-false, ltb-false, not-true}
use Rattle.rules.specs.Notation.{put, past_last}
use Rattle.rules.specs.Sizes.{Room}
use Rattle.rules.specs.Slots.{Slots, Placed, Placement, fresh_slots, insert, insert_new, past_greatest, push_at, pushes, push_run, remove, edition1, lowest_of_all, take_at, insert_lowest, edition2, vacant, take_run, exactly, Place, by_head, lowest, exactly_at, placing}
use Rattle.rules.specs.Sound.{sound_slots}
use Rattle.rules.specs.Tells.{Tells}
use Rattle.rules.specs.Demand3.{Gives, Fair}
use Rattle.rules.proofs.Chains.{none-some}
use Rattle.rules.proofs.Tables.{by_eqb, put_same, put_other}
use Rattle.rules.proofs.Tells.{is_false, tells-and, tells-le, tells-below, tells-not}
use Rattle.rules.proofs.Sound.{SlotsSound}
use Rattle.rules.proofs.Tests.{tells-slots}
use Rattle.rules.proofs.Removing.{remove-segments, remove-head, remove-was}
use Rattle.rules.proofs.Searches.{first_found, past-within, past-above, past-last}
use Rattle.rules.proofs.Placing.{clear, from_segment, least_clear, insert_short, insert-short}

-- ---- slots in order

-- what soundness says of slots; H only where there is room, as the fresh ones have none
pub record InOrder (n : ℕ) (s : Slots) : Type 0 where
  pub segments : s.segments ≤ n
  pub head : 0 < n → s.head < n
  pub low : (a : ℕ) → a < 128 * n → s.occupied a ≡ true → a < 128 * s.segments

pub sound-in-order : (n : ℕ) (s : Slots) → SlotsSound n s → InOrder n s
sound-in-order n s o = record { segments = o.segments; head = λ _. o.head; low = o.low }

pub in-order-sound : (n : ℕ) (s : Slots) → 0 < n → InOrder n s → SlotsSound n s
in-order-sound n s pos o = record { segments = o.segments; head = o.head pos; low = o.low }

-- a slot of a table after `put`: the one put, or as it was
put-true : (f : ℕ → Bool) (a b : ℕ) (x : Bool) → put f a x b ≡ true → (a ≡ b → ⊥) → f b ≡ true
put-true f a b x p ne = sym (put_other f a x b ne) ∙ p

put-kept : (f : ℕ → Bool) (a b : ℕ) → f b ≡ true → put f a true b ≡ true
put-kept f a b p = by_eqb a b (λ e. subst (λ (c : ℕ). put f a true c ≡ true) e (put_same f a true)) (λ ne. put_other f a true b ne ∙ p)

module _ (n : ℕ) where
  fresh-in-order : InOrder n fresh_slots
  unfolding fresh_slots
  fresh-in-order = record { segments = omega arith; head = λ pos. pos; low = λ a h p. absurd (true≢false (sym p)) }

  removed-in-order : (a : ℕ) (s : Slots) → InOrder n s → InOrder n (remove a s)
  removed-in-order a s o = record {
    segments = rw (remove-segments a s) o.segments;
    head = λ pos. remove-head a s (λ h. h < n) (o.head pos) (λ q. omega (arith, o.segments));
    low = λ b l p. rw (remove-segments a s) (o.low b l (remove-was a s b p));
  }

  -- what a placement owes for m slots
  abbrev Owed : ℕ → Slots → Placed → Type 0
  Owed m s p = InOrder n p.next × Gives m s p × (p.address + m ≤ 128 * n)

  unfoldable Given : ℕ → Slots → Option Placed → Type 0
  Given m s o = (p : Placed) → o ≡ some p → Owed m s p

  given-some : (m : ℕ) (s : Slots) (p : Placed) → Owed m s p → Given m s (some p)
  unfolding Given
  given-some m s p h q e = subst (Owed m s) (cc) h

  given-none : (m : ℕ) (s : Slots) → Given m s none
  unfolding Given
  given-none m s q e = none-some e

  -- ---- insert

  -- one clear slot becomes occupied, and L takes it in
  one : (s : Slots) (a l h : ℕ) → InOrder n s → s.occupied a ≡ false → s.segments ≤ l → a < 128 * l → l ≤ n → h < n
      → Owed 1 s (record { address = a; next = record { occupied = put s.occupied a true; segments = l; head = h } })
  one s a l h o c up lo hi hd = (
    record {
      segments = hi;
      head = λ pos. hd;
      low = λ b r p. by_eqb a b (λ e. omega arith) (λ ne. omega (arith, o.low b r (put-true s.occupied a b true p ne)));
    },
    record {
      clear = λ i z. let e : a + i ≡ a = omega arith in rw e c;
      taken = λ i z. let e : a + i ≡ a = omega arith in rw e (put_same s.occupied a true);
      kept = λ b p. put-kept s.occupied a b p;
      only = λ b p q. by_eqb a b (λ e. (omega arith, omega arith)) (λ ne. absurd (true≢false (sym (put-true s.occupied a b true p ne) ∙ q)));
    },
    omega arith,
  )

  -- no slot from segment L on is occupied
  clear-on : (s : Slots) → InOrder n s → (a : ℕ) → 128 * s.segments ≤ a → a < 128 * n → s.occupied a ≡ false
  clear-on s o a h r = is_false (s.occupied a) (λ e. omega (arith, o.low a r e))

  new-fair : (s : Slots) → InOrder n s → Given 1 s (insert_new n s)
  unfolding insert_new
  new-fair s o = go (eqb s.segments n) refl
    where
      go : (x : Bool) → eqb s.segments n ≡ x → Given 1 s (insert_new n s)
      go true e = rw (e, insert_new) (given-none 1 s)
      go false e =
          let l : s.segments < n = omega (arith, o.segments, eqb-false s.segments n e) in
          rw (e, insert_new)
          (given-some 1 s _ (one s (128 * s.segments) (s.segments + 1) s.segments o (clear-on s o (128 * s.segments) (omega arith) (omega arith)) (omega arith) (omega arith) (omega arith) l))

  insert-fair : (s : Slots) → InOrder n s → Given 1 s (insert n s)
  unfolding insert_short least_clear
  insert-fair s o = rw insert-short (go (least_clear s) refl)
    where
      go : (r : Option ℕ) → least_clear s ≡ r → Given 1 s (insert_short n s)
      go (some a) e =
          let f = first_found (clear s) (128 * from_segment s) (128 * (s.segments - from_segment s)) a e in
          let l : a < 128 * s.segments = omega (arith, f.high) in
          rw (e, insert_short) (given-some 1 s _ (one s a s.segments (a / 128) o (not-true (s.occupied a) f.passes) (omega arith) l o.segments (omega (arith, o.segments))))
      go none e = rw (e, insert_short) (new-fair s o)

  -- ---- pushes

  -- everything occupied is below g, and g is in the segments or just past them
  record Pushable (g : ℕ) (s : Slots) : Type 0 where
    above : (b : ℕ) → b < 128 * n → s.occupied b ≡ true → b < g
    near : g ≤ 128 * s.segments
    segments : s.segments ≤ n
    head : 0 < n → s.head < n

  push-one : (g : ℕ) (s : Slots) → Pushable g s → g < 128 * n → Pushable (suc g) (push_at g s)
  unfolding push_at
  push-one g s h l = go (eqb (g % 128) 0) refl
    where
      above : (b : ℕ) → b < 128 * n → put s.occupied g true b ≡ true → b < suc g
      above b r p = by_eqb g b (λ e. omega arith) (λ ne. omega (arith, h.above b r (put-true s.occupied g b true p ne)))

      go : (x : Bool) → eqb (g % 128) 0 ≡ x → Pushable (suc g) (push_at g s)
      go true e = rw (e, push_at) (record { above = above; near = omega arith; segments = omega arith; head = h.head })
      go false e = rw (e, push_at) (record { above = above; near = omega (arith, h.near, eqb-false (g % 128) 0 e); segments = h.segments; head = h.head })

  pushes-pushable : (m g : ℕ) (s : Slots) → Pushable g s → g + m ≤ 128 * n → Pushable (g + m) (pushes g m s)
  unfolding pushes
  pushes-pushable zero g s h l = let e : g + 0 ≡ g = omega arith in rw e h
  pushes-pushable (suc m) g s h l =
      let e : g + suc m ≡ suc g + m = omega arith in
      rw e (pushes-pushable m (suc g) (push_at g s) (push-one g s h (omega arith)) (omega arith))

  pushes-kept : (m g : ℕ) (s : Slots) (b : ℕ) → s.occupied b ≡ true → (pushes g m s).occupied b ≡ true
  unfolding pushes push_at
  pushes-kept zero g s b p = p
  pushes-kept (suc m) g s b p = pushes-kept m (suc g) (push_at g s) b (put-kept s.occupied g b p)

  pushes-taken : (m g : ℕ) (s : Slots) (i : ℕ) → i < m → (pushes g m s).occupied (g + i) ≡ true
  unfolding pushes push_at
  pushes-taken zero g s i l = absurd (omega arith)
  pushes-taken (suc m) g s zero l = let e : g + 0 ≡ g = omega arith in rw e (pushes-kept m (suc g) (push_at g s) g (put_same s.occupied g true))
  pushes-taken (suc m) g s (suc i) l = let e : g + suc i ≡ suc g + i = omega arith in rw e (pushes-taken m (suc g) (push_at g s) i (omega arith))

  pushes-only : (m g : ℕ) (s : Slots) (b : ℕ) → (pushes g m s).occupied b ≡ true → s.occupied b ≡ false → (g ≤ b) × (b < g + m)
  unfolding pushes push_at
  pushes-only zero g s b p q = absurd (true≢false (sym p ∙ q))
  pushes-only (suc m) g s b p q =
      by_eqb g b
      (λ e. (omega arith, omega arith))
      (λ ne. let r = pushes-only m (suc g) (push_at g s) b p (put_other s.occupied g true b ne ∙ q) in (omega arith, omega arith))

  clear_above : (g : ℕ) (s : Slots) → Pushable g s → (b : ℕ) → g ≤ b → b < 128 * n → s.occupied b ≡ false
  clear_above g s h b l r = is_false (s.occupied b) (λ e. omega (arith, h.above b r e))

  past-pushable : (s : Slots) → InOrder n s → Pushable (past_greatest n s) s
  unfolding past_greatest
  past-pushable s o =
      record { above = λ b r p. past-above s.occupied (128 * n) b r p; near = near (past_last s.occupied (128 * n)) refl; segments = o.segments; head = o.head }
    where
      near : (g : ℕ) → past_last s.occupied (128 * n) ≡ g → past_last s.occupied (128 * n) ≤ 128 * s.segments
      near zero e = omega arith
      near (suc m) e = omega (arith, past-within s.occupied (128 * n), o.low m (omega (arith, past-within s.occupied (128 * n))) (past-last s.occupied (128 * n) m e))

  run-fair : (m : ℕ) (s : Slots) → InOrder n s → Given m s (push_run n m s)
  unfolding push_run
  run-fair m s o = go (ltb (128 * n) (past_greatest n s + m)) refl
    where
      go : (x : Bool) → ltb (128 * n) (past_greatest n s + m) ≡ x → Given m s (push_run n m s)
      go true e = rw (e, push_run) (given-none m s)
      go false e =
          let fits : past_greatest n s + m ≤ 128 * n = ltb-false (128 * n) (past_greatest n s + m) e in
          let h = past-pushable s o in
          let k = pushes-pushable m (past_greatest n s) s h fits in
          rw (e, push_run)
          (given-some m s _ (
            record { segments = k.segments; head = k.head; low = λ b r p. omega (arith, k.above b r p, k.near) },
            record {
              clear = λ i l. clear_above (past_greatest n s) s h (past_greatest n s + i) (omega arith) (omega arith);
              taken = λ i l. pushes-taken m (past_greatest n s) s i l;
              kept = λ b p. pushes-kept m (past_greatest n s) s b p;
              only = λ b p q. pushes-only m (past_greatest n s) s b p q;
            },
            fits,
          ))

  -- ---- the lowest clear slot of all

  lowest-fair : (s : Slots) → InOrder n s → Given 1 s (insert_lowest n s)
  unfolding insert_lowest lowest_of_all take_at
  lowest-fair s o = go (lowest_of_all n s) refl
    where
      go : (r : Option ℕ) → lowest_of_all n s ≡ r → Given 1 s (insert_lowest n s)
      go none e = rw (e, insert_lowest) (given-none 1 s)
      go (some a) e =
          let f = first_found _ _ _ a e in
          let l : a < 128 * n = omega (arith, f.high) in
          rw (e, insert_lowest) (given-some 1 s _ (one s a _ _ o (not-true (s.occupied a) f.passes) (omega arith) (omega arith) (omega (arith, o.segments)) (omega arith)))

  -- ---- one slot by an insert, a run by pushes

  by_one : (m : ℕ) (s : Slots) (o : Option Placed) → InOrder n s → Given 1 s o → Given m s (elim (eqb m 1) [ true ↦ o | false ↦ push_run n m s ])
  by_one m s o ok g = go (eqb m 1) refl
    where
      go : (x : Bool) → eqb m 1 ≡ x → Given m s (elim x [ true ↦ o | false ↦ push_run n m s ])
      go true e = rw (eqb-true m 1 e) g
      go false e = run-fair m s ok

  -- ---- exactly at an address

  take-in-order : (a : ℕ) (s : Slots) → a < 128 * n → InOrder n s → InOrder n (take_at a s)
  unfolding take_at
  take-in-order a s l o =
      record {
        segments = omega (arith, o.segments);
        head = λ pos. omega arith;
        low = λ b r p. by_eqb a b (λ e. omega arith) (λ ne. omega (arith, o.low b r (put-true s.occupied a b true p ne)));
      }

  takes-in-order : (m a : ℕ) (s : Slots) → a + m ≤ 128 * n → InOrder n s → InOrder n (take_run a m s)
  unfolding take_run
  takes-in-order zero a s l o = o
  takes-in-order (suc m) a s l o = takes-in-order m (suc a) (take_at a s) (omega arith) (take-in-order a s (omega arith) o)

  -- the same slots as m pushes from a on
  takes-occupied : (m a : ℕ) (s t : Slots) → s.occupied ≡ t.occupied → (take_run a m s).occupied ≡ (pushes a m t).occupied
  unfolding take_run pushes take_at push_at
  takes-occupied zero a s t e = e
  takes-occupied (suc m) a s t e = takes-occupied m (suc a) (take_at a s) (push_at a t) (ap (λ (f : ℕ → Bool). put f a true) e)

  takes-owed : (m a : ℕ) (s : Slots) → InOrder n s → a + m ≤ 128 * n → ((i : ℕ) → i < m → s.occupied (a + i) ≡ false) → Owed m s (record { address = a; next = take_run a m s })
  takes-owed m a s o l clear =
      let same : (take_run a m s).occupied ≡ (pushes a m s).occupied = takes-occupied m a s s refl in (
        takes-in-order m a s l o,
        record {
          clear = clear;
          taken = λ i h. rw same (pushes-taken m a s i h);
          kept = λ b p. rw same (pushes-kept m a s b p);
          only = λ b p q. pushes-only m a s b (ap (λ (f : ℕ → Bool). f b) (sym same) ∙ p) q;
        },
        l,
      )

  pub vacant-tells : (a m : ℕ) (s : Slots) → Tells (vacant n a m s) ((a + m ≤ 128 * n) × ((i : ℕ) → i < m → s.occupied (a + i) ≡ false))
  unfolding vacant
  vacant-tells a m s = tells-and (tells-le (a + m) (128 * n)) (tells-below m (λ i _. tells-not (s.occupied (a + i))))

  exactly-given : (a m : ℕ) (s : Slots) → InOrder n s → Given m s (exactly n a m s)
  unfolding exactly
  exactly-given a m s o = go (vacant n a m s) refl
    where
      go : (x : Bool) → vacant n a m s ≡ x → Given m s (exactly n a m s)
      go false e = rw (e, exactly) (given-none m s)
      go true e = let w = (vacant-tells a m s).holds e in rw (e, exactly) (given-some m s _ (takes-owed m a s o w.0 w.1))

  -- ---- every place

  placing-given : (p : Place) (m : ℕ) (s : Slots) → InOrder n s → Given m s (placing n p m s)
  unfolding placing edition1 edition2
  placing-given by_head m s o = by_one m s (insert n s) o (insert-fair s o)
  placing-given lowest m s o = by_one m s (insert_lowest n s) o (lowest-fair s o)
  placing-given (exactly_at a) m s o = exactly-given a m s o

pub placing-fair : (room : Room) (p : Place) → Fair room (placing room.segments p) (InOrder room.segments)
unfolding Given
placing-fair room p =
    record {
      at_first = fresh-in-order room.segments;
      removed = removed-in-order room.segments;
      placed = λ m s q e o. placing-given room.segments p m s o q e;
    }

-- a placement that is fair on some slots is fair on the same slots, said otherwise
pub fair-as : {room : Room} {place : Placement} {P Q : Slots → Type 0} → ((s : Slots) → P s → Q s) → ((s : Slots) → Q s → P s) → Fair room place P → Fair room place Q
fair-as there back f =
    record {
      at_first = there fresh_slots f.at_first;
      removed = λ a s o. there (remove a s) (f.removed a s (back s o));
      placed = λ m s p e o. let g = f.placed m s p e (back s o) in (there p.next g.0, g.1, g.2);
    }

-- on sound slots, as a record and as the test, where there is room at all
module _ (room : Room) (pos : 0 < room.segments) (p : Place) where
  pub placing-fair-sound : Fair room (placing room.segments p) (SlotsSound room.segments)
  placing-fair-sound = fair-as (λ s. in-order-sound room.segments s pos) (sound-in-order room.segments) (placing-fair room p)

  pub placing-fair-test : Fair room (placing room.segments p) (λ s. sound_slots room.segments s ≡ true)
  placing-fair-test = fair-as (λ s. (tells-slots room.segments s).shows) (λ s. (tells-slots room.segments s).holds) placing-fair-sound
