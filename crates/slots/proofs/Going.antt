-- Where the slots of an allocation go: what the code finds, as the rules say it. Assumes nothing.
use mathlib.Core.Path.{◌≡◌, refl, sym, ap, subst, ◌∙◌}
use mathlib.Core.Bool.{Bool, true, false}
use mathlib.Core.Logic.{by_cases}
use mathlib.Core.Option.{Option, none, some}
use Prim.Native.Nat.{ℕ, zero, suc, ◌+◌, ◌*◌, ◌-◌, ◌/◌, ◌%◌, min, max, ◌≤◌, ◌<◌}
use native.Mathlib.Decide.{dec_lt, ℕ_discrete}
use native.Mathlib.Omega.{arith}
use lib.Dec.{eqb, ltb}
use borrow.Author.Tests.{eq-eqb, ne_eqb, lt-ltb, le-ltb}
use Rattle.rules.specs.Notation.{given, put, past_last}
use Rattle.rules.specs.Sizes.{base, SEGMENTS, SLOTS}
use Rattle.rules.specs.Sound.{sound_slots}
use Rattle.rules.specs.Slots.{Slots, Placed, placed, past_greatest, push_at, pushes, push_run, edition1, lowest_of_all, take_at, insert_lowest, edition2, vacant, take_run, exactly, Place, by_head, lowest, placing}
use Rattle.rules.specs.Tells.{Tells}
use Rattle.rules.specs.Demand3.{Gives}
use Rattle.rules.proofs.Tells.{is_false, clash}
use Rattle.rules.proofs.Tests.{tells-slots}
use Rattle.rules.proofs.Editions.{InOrder, sound-in-order, vacant-tells, placing-fair}
use Rattle.std.specs.Prelude.{Some}
use Rattle.slots.specs.Halves.{clear_from, grown_to}
use Rattle.slots.specs.Spots.{Vacant, filled, taken_from, pushed_from, after, spot_says, taking, going_from}
use Rattle.slots.specs.Promises.{refusing, placed_or7}
use Rattle.slots.specs.declared.Spot.{Spot}
use Rattle.slots.proofs.Steps.{grown-new, grown-stays, insert-from}

-- ---- pushed one by one

-- L after n pushes from g on
abbrev pushed_l : ℕ → ℕ → ℕ → ℕ
pushed_l l g n = elim (ltb ((g + n - 1) % 128) n) [ true ↦ (g + n - 1) / 128 + 1 | false ↦ l ]

pub pushed-new : (l g n : ℕ) → (g + n - 1) % 128 < n → (g + n - 1) / 128 + 1 ≡ pushed_l l g n
pushed-new l g n h = rw (lt-ltb ((g + n - 1) % 128) n h, pushed_l)

pub pushed-stays : (l g n : ℕ) → n ≤ (g + n - 1) % 128 → l ≡ pushed_l l g n
pushed-stays l g n h = rw (le-ltb ((g + n - 1) % 128) n h, pushed_l)

pushed-one : (l g : ℕ) → grown_to l g ≡ pushed_l l g 1
pushed-one l g =
    by_cases (ℕ_discrete (g % 128) 0)
    (λ z. sym (grown-new l g z) ∙ omega arith ∙ pushed-new l g 1 (omega arith))
    (λ z. sym (grown-stays l g z) ∙ pushed-stays l g 1 (omega arith))

pushed_more : (l g m : ℕ) → pushed_l (grown_to l g) (suc g) (suc m) ≡ pushed_l l g (suc (suc m))
pushed_more l g m =
    by_cases (dec_lt ((suc g + suc m - 1) % 128) (suc m))
    (λ h. sym (pushed-new (grown_to l g) (suc g) (suc m) h) ∙ same ∙ pushed-new l g (suc (suc m)) (omega arith))
    (λ h. sym (pushed-stays (grown_to l g) (suc g) (suc m) (omega arith))
    ∙ by_cases (ℕ_discrete (g % 128) 0)
    (λ z. let e : g / 128 + 1 ≡ (g + suc (suc m) - 1) / 128 + 1 = omega arith in sym (grown-new l g z) ∙ e ∙ pushed-new l g (suc (suc m)) (omega arith))
    (λ z. sym (grown-stays l g z) ∙ pushed-stays l g (suc (suc m)) (omega arith)))
  where
    same : (suc g + suc m - 1) / 128 + 1 ≡ (g + suc (suc m) - 1) / 128 + 1
    same = omega arith

pushes-after : (n g : ℕ) (s : Slots) → pushes g (suc n) s ≡ after s (suc n) (pushed_from s.segments s.head g (suc n))
unfolding pushes push_at filled
pushes-after zero g s = λ u. record { occupied = put s.occupied g true; segments = pushed-one s.segments g u; head = s.head }
pushes-after (suc n) g s =
    pushes-after n (suc g) (push_at g s)
    ∙ (λ u. record { occupied = filled (suc g) (suc n) (put s.occupied g true); segments = pushed_more s.segments g n u; head = s.head })

module _ (s : Slots) (n g : ℕ) (e : g ≡ past_last s.occupied SLOTS) where
  run_none : SLOTS < g + n → push_run SEGMENTS n s ≡ none
  unfolding push_run past_greatest
  run_none l = rw (lt-ltb SLOTS (past_last s.occupied SLOTS + n) (omega arith), push_run)

  run_some : 0 < n → g + n ≤ SLOTS → push_run SEGMENTS n s ≡ placed g (after s n (pushed_from s.segments s.head g n))
  unfolding push_run past_greatest
  run_some pos l =
      rw (le-ltb SLOTS (past_last s.occupied SLOTS + n) (omega arith), push_run)
      (ap (λ (x : ℕ). placed x (pushes x n s)) (sym e) ∙ ap (placed g) (go n pos))
    where
      go : (m : ℕ) → 0 < m → pushes g m s ≡ after s m (pushed_from s.segments s.head g m)
      go zero z = absurd (omega arith)
      go (suc m) z = pushes-after m g s

-- ---- by the editions

pub goes-by-head : (s : Slots) (n m : ℕ) → sound_slots SEGMENTS s ≡ true → m ≡ min s.head s.segments → going_from m n s ≡ placing SEGMENTS by_head n s
unfolding placing edition1 going_from
goes-by-head s n m y e =
    by_cases (ℕ_discrete n 1)
    (λ z. rw (eq-eqb n 1 z, edition1, going_from) (sym (insert-from SEGMENTS s y m e)))
    (λ z. rw (ne_eqb n 1 z, edition1, going_from))

pub goes-lowest : (s : Slots) (n : ℕ) → going_from 0 n s ≡ placing SEGMENTS lowest n s
unfolding placing edition2 insert_lowest lowest_of_all going_from
goes-lowest s n = ap (λ (x : Option Placed). elim (eqb n 1) [ true ↦ x | false ↦ push_run SEGMENTS n s ]) (lowest-from (clear_from s.occupied 0 SLOTS))
  where
    lowest-from : (o : Option ℕ) → taking o s ≡ elim o [ none ↦ none | some a ↦ placed a (take_at a s) ]
    lowest-from none = refl
    lowest-from (some a) = refl

-- ---- exactly at an address

takes-after : (n a : ℕ) (s : Slots) → take_run a (suc n) s ≡ after s (suc n) (taken_from s.segments a (suc n))
unfolding take_run take_at filled
takes-after zero a s =
    let e : a ≡ a + 1 - 1 = omega arith in
    λ u. record { occupied = put s.occupied a true; segments = max s.segments (e u / 128 + 1); head = e u / 128 }
takes-after (suc n) a s =
    let l : max (max s.segments (a / 128 + 1)) ((suc a + suc n - 1) / 128 + 1) ≡ max s.segments ((a + suc (suc n) - 1) / 128 + 1) = omega arith in
    let h : (suc a + suc n - 1) / 128 ≡ (a + suc (suc n) - 1) / 128 = omega arith in
    takes-after n (suc a) (take_at a s) ∙ (λ u. record { occupied = filled (suc a) (suc n) (put s.occupied a true); segments = l u; head = h u })

-- one slot more is clear
pub clear-on : (f : ℕ → Bool) (a b : ℕ) → ((j : ℕ) → a ≤ j → j < b → f j ≡ false) → f b ≡ false → (j : ℕ) → a ≤ j → j < b + 1 → f j ≡ false
clear-on f a b all here j l h = by_cases (dec_lt j b) (all j l) (λ n. let e : b ≡ j = omega arith in subst (λ (x : ℕ). f x ≡ false) e here)

-- a slot of the n from a on
pub among : (f : ℕ → Bool) (a n : ℕ) → Vacant f a n → (b : ℕ) → a ≤ b → b < a + n → f b ≡ false
among f a n v b l h = let e : a + (b - a) ≡ b = omega arith in subst (λ (x : ℕ). f x ≡ false) e (v.1 (b - a) (omega arith))

module _ (s : Slots) (n a : ℕ) (b : Bool) (t : Tells b (Vacant s.occupied a n)) where
  tells-vacant : Tells (vacant SEGMENTS a n s) (Vacant s.occupied a n)
  tells-vacant = vacant-tells SEGMENTS a n s

  pub at-none : b ≡ false → none ≡ exactly SEGMENTS a n s
  unfolding exactly
  at-none e = rw (is_false (vacant SEGMENTS a n s) (λ y. clash (t.shows (tells-vacant.holds y)) e), exactly)

  pub at-some : (r : Spot) → 0 < n → b ≡ true → r ≡ taken_from s.segments a n → spot_says n s (Some r) ≡ exactly SEGMENTS a n s
  unfolding exactly
  at-some r pos e q = rw (tells-vacant.shows (t.holds e), q, exactly) (ap (placed a) (go n pos))
    where
      go : (m : ℕ) → 0 < m → after s m (taken_from s.segments a m) ≡ take_run a m s
      go zero z = absurd (omega arith)
      go (suc m) z = sym (takes-after m a s)

-- ---- what `from_on` returns

module _ (s : Slots) (n from : ℕ) where
  pub one-none : n ≡ 1 → none ≡ clear_from s.occupied (128 * from) (SLOTS - 128 * from) → none ≡ going_from from n s
  unfolding going_from
  one-none z e = rw (eq-eqb n 1 z, going_from, sym e)

  pub one-some : (r : Spot) (a : ℕ) → n ≡ 1 → some a ≡ clear_from s.occupied (128 * from) (SLOTS - 128 * from) → r ≡ taken_from s.segments a 1
      → spot_says n s (Some r) ≡ going_from from n s
  unfolding filled take_at going_from
  one-some r a z e q = rw (z, going_from, sym e, q) (λ u. placed a (record { occupied = put s.occupied a true; segments = max s.segments (same u / 128 + 1); head = same u / 128 }))
    where
      same : a + 1 - 1 ≡ a
      same = omega arith

  module _ (g : ℕ) (e : g ≡ past_last s.occupied SLOTS) (ne : n ≡ 1 → ⊥) where
    pub run-none : SLOTS < g + n → none ≡ going_from from n s
    unfolding going_from
    run-none l = rw (ne_eqb n 1 ne, going_from) (sym (run_none s n g e l))

    pub run-some : (r : Spot) → 0 < n → g + n ≤ SLOTS → r ≡ pushed_from s.segments s.head g n → spot_says n s (Some r) ≡ going_from from n s
    unfolding going_from
    run-some r pos l q = rw (ne_eqb n 1 ne, going_from, q) (sym (run_some s n g e pos l))

-- ---- where it goes, the slots are clear and below the room, and the state stays in order

module _ (p : Place) (n : ℕ) (s : Slots) (r : Spot) (y : sound_slots SEGMENTS s ≡ true) (g : spot_says n s (Some r) ≡ placing SEGMENTS p n s) where
  fair : InOrder SEGMENTS (after s n r) × Gives n s (record { address = r.address; next = after s n r }) × (r.address + n ≤ SLOTS)
  unfolding base
  fair = (placing-fair base p).placed n s _ (sym g) (sound-in-order SEGMENTS s ((tells-slots SEGMENTS s).holds y))

  pub spot-in-order : InOrder SEGMENTS (after s n r)
  spot-in-order = fair.0

  pub spot-vacant : Vacant s.occupied r.address n
  spot-vacant = (fair.2, fair.1.clear)

  pub spot-below : r.address + n ≤ SLOTS
  spot-below = fair.2

-- ---- one slot, as an answer

module _ (s : Slots) {o : Option Placed} where
  pub one-refused : none ≡ o → refusing 7 s ≡ placed_or7 s o
  one-refused e = ap (placed_or7 s) e

  pub one-placed : (r : Spot) {f : ℕ → Bool} → spot_says 1 s (Some r) ≡ o → f ≡ put s.occupied r.address true
      → record { next = record { occupied = f; segments = r.segments; head = r.head }; says = given r.address } ≡ placed_or7 s o
  unfolding filled
  one-placed r g e = (λ i. record { next = record { occupied = e i; segments = r.segments; head = r.head }; says = given r.address }) ∙ ap (placed_or7 s) g
