-- Runs of calls, turn by turn: soundness is kept, and what is left to do gives the same answer. Assumes nothing.
use Rattle.std.proofs.Common.{◌≡◌, ℕ, suc, ◌+◌, ◌-◌, ◌*◌, ◌/◌, ◌%◌, ◌^◌, ◌<◌, ◌≤◌, max, Bool, true, List, get_or, sym, refl, ap, ◌∙◌, subst, arith, eq-eqb, ne_eqb}
use mathlib.Core.Option.{Option, none, some}
use Rattle.rules.specs.Notation.{Answer, given, refused, put}
use Rattle.rules.specs.Sizes.{base, SEGMENTS, SLOTS}
use Rattle.rules.specs.Sound.{sound_slots}
use Rattle.rules.specs.Slots as rule
use Rattle.rules.proofs.Kept.{base-fair}
use Rattle.slots.specs.Halves.{occ, slots_of, clear_from}
use Rattle.slots.specs.Spots.{taking}
use Rattle.slots.specs.Promises.{SeenSlots, placed_or7, removal, checked}
use Rattle.slots.proofs.Steps.{checked-yes, insert-from}
use Rattle.bare.specs.Bare.{HALF, Called, numbered, place_number, remove_number, inserting, inserting_lowest, pushing, called, call_row, rows, address_given, inserts, half_full, summed}

-- ---- soundness

abbrev pub Sound : rule.Slots → Type 0
Sound s = sound_slots base.segments s ≡ true

pub fresh-sound : Sound rule.fresh_slots
fresh-sound = (base-fair rule.by_head).at_first

pub removed-sound : (a : ℕ) (s : rule.Slots) → Sound s → Sound (rule.remove a s)
removed-sound a s y = (base-fair rule.by_head).removed a s y

pub inserted-sound : (s : rule.Slots) → Sound s → Sound (inserting s).next
unfolding base rule.placing rule.edition1
inserted-sound s y = go (rule.insert SEGMENTS s) refl
  where
    go : (o : Option rule.Placed) → rule.insert SEGMENTS s ≡ o → Sound (placed_or7 s (rule.insert SEGMENTS s)).next
    go none e = rw e y
    go (some p) e = rw e ((base-fair rule.by_head).placed 1 s p e y).0

-- what an entry shows of sound slots
pub unchecked : {A : Type 0} (s : rule.Slots) (x y : SeenSlots A) → Sound s → x ≡ checked base.segments s y → x ≡ y
unchecked s x y h e = e ∙ sym (checked-yes base.segments s y (sym h))

-- ---- half full

pub inserts-turn : (i : ℕ) (s t : rule.Slots) → i < HALF → t ≡ (inserting s).next → inserts (HALF - i) s ≡ half_full → inserts (HALF - (i + 1)) t ≡ half_full
unfolding inserts
inserts-turn i s t l e h =
    let k : HALF - i ≡ suc (HALF - (i + 1)) = omega arith in
    ap (inserts (HALF - (i + 1))) e ∙ rw k at h

pub inserts-end : (i : ℕ) (s : rule.Slots) → HALF ≤ i → inserts (HALF - i) s ≡ half_full → s ≡ half_full
unfolding inserts
inserts-end i s l h = let k : HALF - i ≡ 0 = omega arith in rw k at h

-- ---- pairs

module _ (stride n : ℕ) where
  pub summed-turn : {r : ℕ} (i a : ℕ) (s t : rule.Slots) (sum b g : ℕ) → i < n → t ≡ (inserting (rule.remove a s)).next
      → b ≡ (a + stride) % HALF → g ≡ (sum + address_given (inserting (rule.remove a s)).says) % 2 ^ 64
      → summed stride (n - i) a s sum ≡ r → summed stride (n - (i + 1)) b t g ≡ r
  unfolding summed
  summed-turn i a s t sum b g l e p q h =
      let k : n - i ≡ suc (n - (i + 1)) = omega arith in
      (λ u. summed stride (n - (i + 1)) (p u) (e u) (q u)) ∙ rw k at h

  pub summed-end : {r : ℕ} (i a : ℕ) (s : rule.Slots) (sum : ℕ) → n ≤ i → summed stride (n - i) a s sum ≡ r → sum ≡ r
  unfolding summed
  summed-end i a s sum l h = let k : n - i ≡ 0 = omega arith in rw k at h

  pub summed-start : (s t : rule.Slots) → s ≡ t → summed stride (n - 0) 0 s 0 ≡ summed stride n 0 t 0
  summed-start s t e = let k : n - 0 ≡ n = omega arith in λ u. summed stride (k u) 0 (e u) 0

-- a pair by value: s before, t between, x what the insert shows
pub pair-shown : (a : ℕ) (s t : rule.Slots) (b : Answer Bool) (x : SeenSlots ℕ) → Sound s → record { next = t; says = b } ≡ checked base.segments s (removal a s)
    → x ≡ checked base.segments t (inserting t) → x ≡ inserting (rule.remove a s)
pair-shown a s t b x y p q =
    let e : t ≡ rule.remove a s = ap (λ (z : SeenSlots Bool). z.next) (unchecked s _ _ y p) in
    unchecked t x (inserting t) (subst Sound (sym e) (removed-sound a s y)) q ∙ ap inserting e

-- ---- rows

module _ (calls : List ℕ) (n : ℕ) where
  pub rows-turn : {r : List ℕ} (i : ℕ) (s : rule.Slots) (x : Called) (shown new : List ℕ) → i < n → x ≡ called (get_or calls i 0) s
      → new ≡ call_row shown i x → rows calls (n - i) i s shown ≡ r → rows calls (n - (i + 1)) (i + 1) x.next new ≡ r
  unfolding rows
  rows-turn i s x shown new l e f h =
      let k : n - i ≡ suc (n - (i + 1)) = omega arith in
      (λ u. rows calls (n - (i + 1)) (i + 1) (e u).next ((f ∙ ap (call_row shown i) e) u)) ∙ rw k at h

  pub rows_start : (s : rule.Slots) (shown : List ℕ) → s ≡ rule.fresh_slots → rows calls (n - 0) 0 s shown ≡ rows calls n 0 rule.fresh_slots shown
  rows_start s shown e = let k : n - 0 ≡ n = omega arith in λ u. rows calls (k u) 0 (e u) shown

  pub rows_end : {r : List ℕ} (i : ℕ) (s : rule.Slots) (shown : List ℕ) → n ≤ i → rows calls (n - i) i s shown ≡ r → shown ≡ r
  unfolding rows
  rows_end i s shown l h = let k : n - i ≡ 0 = omega arith in rw k at h

-- ---- an insert on lent halves: o is what is found from segment m = min(H, L) on

module _ (hs : List ℕ) (l h : ℕ) (y : Sound (slots_of hs l h)) (m : ℕ) (start : m ≡ rule.start_of (slots_of hs l h)) where
  pub put-none : none ≡ clear_from (occ hs) (128 * m) (SLOTS - 128 * m) → record { next = slots_of hs l h; says = refused 7 } ≡ inserting (slots_of hs l h)
  unfolding base
  put-none e =
      ap (λ (o : Option ℕ). placed_or7 (slots_of hs l h) (taking o (slots_of hs l h))) e
      ∙ ap (placed_or7 (slots_of hs l h)) (sym (insert-from SEGMENTS (slots_of hs l h) y m start))

  pub put-some : (a : ℕ) (new : List ℕ) → some a ≡ clear_from (occ hs) (128 * m) (SLOTS - 128 * m) → occ new ≡ put (occ hs) a true
      → record { next = slots_of new (max l (a / 128 + 1)) (a / 128); says = given a } ≡ inserting (slots_of hs l h)
  unfolding base rule.take_at
  put-some a new e p =
      (λ u. record { next = record { occupied = p u; segments = max l (a / 128 + 1); head = a / 128 }; says = given a })
      ∙ ap (λ (o : Option ℕ). placed_or7 (slots_of hs l h) (taking o (slots_of hs l h))) e
      ∙ ap (placed_or7 (slots_of hs l h)) (sym (insert-from SEGMENTS (slots_of hs l h) y m start))

-- a pair on the state lent: t between
pub inserted-of : (a : ℕ) (s t : rule.Slots) → t ≡ rule.remove a s → inserting t ≡ inserting (rule.remove a s)
inserted-of a s t e = ap inserting e

-- what a pair adds to the sum
pub pair-summed : (sum x : ℕ) (y z : SeenSlots ℕ) → x ≡ address_given y.says → y ≡ z → (sum + x) % 2 ^ 64 ≡ (sum + address_given z.says) % 2 ^ 64
pair-summed sum x y z h e = ap (λ (w : ℕ). (sum + w) % 2 ^ 64) (h ∙ ap (λ (w : SeenSlots ℕ). address_given w.says) e)

-- ---- one call, by number

module _ (c : ℕ) (s : rule.Slots) (r : Called) where
  pub call-insert : {x : SeenSlots ℕ} → c ≡ 65535 → r ≡ numbered place_number x → x ≡ checked base.segments s (inserting s) → r ≡ called c s
  unfolding called
  call-insert e p q = rw (eq-eqb c 65535 e, called) (p ∙ ap (numbered place_number) q)

  pub call-push : {x : SeenSlots ℕ} → c ≡ 65534 → r ≡ numbered place_number x → x ≡ checked base.segments s (pushing s) → r ≡ called c s
  unfolding called
  call-push e p q = let n : c ≡ 65535 → ⊥ = omega arith in rw (ne_eqb c 65535 n, eq-eqb c 65534 e, called) (p ∙ ap (numbered place_number) q)

  pub call-lowest : {x : SeenSlots ℕ} → c ≡ 65533 → r ≡ numbered place_number x → x ≡ checked base.segments s (inserting_lowest s) → r ≡ called c s
  unfolding called
  call-lowest e p q =
      let n : c ≡ 65535 → ⊥ = omega arith in
      let m : c ≡ 65534 → ⊥ = omega arith in
      rw (ne_eqb c 65535 n, ne_eqb c 65534 m, eq-eqb c 65533 e, called) (p ∙ ap (numbered place_number) q)

  pub call-remove : {x : SeenSlots Bool} → (c ≡ 65535 → ⊥) → (c ≡ 65534 → ⊥) → (c ≡ 65533 → ⊥) → r ≡ numbered remove_number x → x ≡ checked base.segments s (removal c s) → r ≡ called c s
  unfolding called
  call-remove n m o p q = rw (ne_eqb c 65535 n, ne_eqb c 65534 m, ne_eqb c 65533 o, called) (p ∙ ap (numbered remove_number) q)
