-- What the code finds, as the rules say it: the test of soundness by the slots from segment L on; insert, push and remove from an address.
-- `n` is the most segments there may be. Assumes nothing.
use mathlib.Core.Path.{◌≡◌, refl, sym, ap, ◌∙◌}
use mathlib.Core.Bool.{Bool, true, false}
use mathlib.Core.Logic.{by_cases}
use mathlib.Core.Option.{Option, none, some}
use Prim.Native.Nat.{ℕ, ◌+◌, ◌-◌, ◌*◌, ◌/◌, ◌%◌, ◌≤◌, ◌<◌, max}
use native.Mathlib.Decide.{dec_lt}
use native.Mathlib.Omega.{arith}
use borrow.Author.Tests.{eq-eqb, ne_eqb, lt-ltb, le-ltb}
use Rattle.rules.specs.Notation.{Answer, given, put, first, past_last}
use Rattle.rules.specs.Sound.{sound_slots}
use Rattle.rules.specs.Slots.{Slots, placed, start_of, insert_new, insert, take_at, past_greatest, push_at, push, removes, remove}
use Rattle.rules.specs.Tells.{Tells}
use Rattle.rules.proofs.Searches.{first_found, first_on, past-within}
use Rattle.rules.proofs.Placing.{clear, least_clear, insert_short, insert-short}
use Rattle.rules.proofs.Sound.{SlotsSound}
use Rattle.rules.proofs.Tables.{put-ext}
use Rattle.rules.proofs.Tells.{is_false, clash, tells_as}
use Rattle.rules.proofs.Tests.{tells-slots}
use Rattle.slots.specs.Halves.{clear_from, grown_to}
use Rattle.slots.specs.Promises.{SeenSlots, refusing, placed_or7, removal, checked}
use Rattle.slots.specs.Spots.{taking}
use Rattle.slots.proofs.Finds.{clear-is, full-is}

-- two tests that tell one fact are equal
told_same : {P : Type 0} (a b : Bool) → Tells a P → Tells b P → a ≡ b
told_same true b s t = sym (t.shows (s.holds refl))
told_same false b s t = sym (is_false b (λ e. clash (s.shows (t.holds e)) refl))

-- two calls show the same where their slots, L and answers are equal
shown : {A : Type 0} {f g : ℕ → Bool} {l k h : ℕ} {a : Answer A} → f ≡ g → l ≡ k
    → ◌≡◌ {A = SeenSlots A} (record { next = record { occupied = f; segments = l; head = h }; says = a }) (record { next = record { occupied = g; segments = k; head = h }; says = a })
shown {h = h} {a = a} p q = λ i. record { next = record { occupied = p i; segments = q i; head = h }; says = a }

-- L after a push at g
pub grown-new : (l g : ℕ) → g % 128 ≡ 0 → g / 128 + 1 ≡ grown_to l g
grown-new l g e = rw (eq-eqb (g % 128) 0 e, grown_to)

pub grown-stays : (l g : ℕ) → (g % 128 ≡ 0 → ⊥) → l ≡ grown_to l g
grown-stays l g e = rw (ne_eqb (g % 128) 0 e, grown_to)

module _ (n : ℕ) (s : Slots) where
  -- ---- soundness

  -- where L and H are within the room, a state is sound exactly if no slot from segment L on is occupied
  pub sound-test : (free : Bool) → s.segments ≤ n → s.head < n
      → Tells free ((a : ℕ) → 128 * s.segments ≤ a → a < 128 * n → s.occupied a ≡ false) → free ≡ sound_slots n s
  sound-test free l h t =
      told_same free (sound_slots n s)
      (tells_as t
      (λ all. record { segments = l; head = h; low = λ a x o. by_cases (dec_lt a (128 * s.segments)) (λ y. y) (λ y. clash o (all a (omega arith) x)) })
      (λ r a x y. is_false (s.occupied a) (λ o. absurd (omega (arith, r.low a y o)))))
      (tells-slots n s)

  pub sound-segments : sound_slots n s ≡ true → s.segments ≤ n
  sound-segments y = ((tells-slots n s).holds y).segments

  pub sound-head : sound_slots n s ≡ true → s.head < n
  sound-head y = ((tells-slots n s).holds y).head

  pub checked-yes : {A : Type 0} (x : SeenSlots A) → true ≡ sound_slots n s → x ≡ checked n s x
  unfolding checked
  checked-yes x y = rw (sym y, checked)

  pub checked-no : {A : Type 0} (x : SeenSlots A) → false ≡ sound_slots n s → refusing 29 s ≡ checked n s x
  unfolding checked
  checked-no x y = rw (sym y, checked)

  -- ---- insert: the least clear slot from segment m = min(H, L) on, below segment n

  module _ (y : sound_slots n s ≡ true) (m : ℕ) (start : m ≡ start_of s) where
    is-sound : SlotsSound n s
    is-sound = (tells-slots n s).holds y

    -- what was found below segment L, or what is found from there on
    abbrev onward : Option ℕ → Option ℕ
    onward o = elim o [ some a ↦ some a | none ↦ clear_from s.occupied (128 * s.segments) (128 * n - 128 * s.segments) ]

    search_on : clear_from s.occupied (128 * m) (128 * n - 128 * m) ≡ onward (least_clear s)
    unfolding least_clear
    search_on =
        let k : 128 * n - 128 * m ≡ (128 * n - 128 * s.segments) + 128 * (s.segments - m) = omega (arith, is-sound.segments) in
        ap (clear_from s.occupied (128 * m)) k
        ∙ first_on (clear s) (128 * m) (128 * (s.segments - m)) (128 * n - 128 * s.segments) (128 * s.segments) (omega arith)
        ∙ ap (λ (g : ℕ). onward (first (clear s) (128 * g) (128 * (s.segments - g)))) start

    new-clear : s.segments < n → clear_from s.occupied (128 * s.segments) (128 * n - 128 * s.segments) ≡ some (128 * s.segments)
    new-clear l =
        clear-is s.occupied (128 * s.segments) (128 * n - 128 * s.segments) (128 * s.segments) (record {
          low = omega arith;
          high = omega arith;
          before = λ j a b. absurd (omega arith);
          here = is_false _ (λ t. absurd (omega (arith, is-sound.low (128 * s.segments) (omega arith) t)));
        })

    no-room : s.segments ≡ n → clear_from s.occupied (128 * s.segments) (128 * n - 128 * s.segments) ≡ none
    no-room e = full-is s.occupied (128 * s.segments) (128 * n - 128 * s.segments) (λ j a b. absurd (omega arith))

    pub insert-from : insert n s ≡ taking (clear_from s.occupied (128 * m) (128 * n - 128 * m)) s
    unfolding insert_short insert_new take_at least_clear
    insert-from = insert-short n s ∙ go (least_clear s) refl ∙ ap (λ (o : Option ℕ). taking o s) (sym search_on)
      where
        below : (b : ℕ) → least_clear s ≡ some b → b < 128 * s.segments
        below b f = omega (arith, (first_found (clear s) (128 * start_of s) (128 * (s.segments - start_of s)) b f).high)

        go : (o : Option ℕ) → least_clear s ≡ o → insert_short n s ≡ taking (onward (least_clear s)) s
        go (some b) f =
            let l : s.segments ≡ max s.segments (b / 128 + 1) = omega (arith, below b f) in
            rw (f, insert_short) (λ u. placed b (record { occupied = put s.occupied b true; segments = l u; head = b / 128 }))
        go none f =
            by_cases (dec_lt s.segments n)
            (λ t.
            let l : s.segments + 1 ≡ max s.segments (128 * s.segments / 128 + 1) = omega arith in
            let d : s.segments ≡ 128 * s.segments / 128 = omega arith in
            rw (f, insert_short, ne_eqb s.segments n (omega arith), insert_new, new-clear t)
            (λ u. placed (128 * s.segments) (record { occupied = put s.occupied (128 * s.segments) true; segments = l u; head = d u })))
            (λ t. let e : s.segments ≡ n = omega (arith, is-sound.segments) in rw (f, insert_short, eq-eqb s.segments n e, insert_new, no-room e))

  -- ---- push: g is one past the greatest occupied slot

  module _ (g : ℕ) (e : g ≡ past_last s.occupied (128 * n)) where
    pub push-within : g ≤ 128 * n
    push-within = omega (arith, past-within s.occupied (128 * n))

    pub push-none : g ≡ 128 * n → push n s ≡ none
    unfolding push past_greatest
    push-none z = rw (eq-eqb (past_last s.occupied (128 * n)) (128 * n) (sym e ∙ z), push)

    pub push-some : (g ≡ 128 * n → ⊥) → push n s ≡ placed g (push_at g s)
    unfolding push past_greatest
    push-some z =
        rw (ne_eqb (past_last s.occupied (128 * n)) (128 * n) (λ q. z (e ∙ q)), push)
        (ap (λ (k : ℕ). placed k (push_at k s)) (sym e))

    pub push-refused : g ≡ 128 * n → refusing 7 s ≡ placed_or7 s (push n s)
    push-refused z = ap (placed_or7 s) (sym (push-none z))

    pub push-placed : {f : ℕ → Bool} {l : ℕ} → (g ≡ 128 * n → ⊥) → f ≡ put s.occupied g true → l ≡ grown_to s.segments g
        → record { next = record { occupied = f; segments = l; head = s.head }; says = given g } ≡ placed_or7 s (push n s)
    unfolding push_at
    push-placed z p q = shown p q ∙ ap (placed_or7 s) (sym (push-some z))

-- ---- remove

module _ (s : Slots) (a : ℕ) where
  -- below L the slot is clear afterwards and H is its segment, whatever it was; the answer tells what it was
  pub remove-within : {f : ℕ → Bool} (was : Bool) → a / 128 < s.segments → s.occupied a ≡ was → f ≡ put s.occupied a false
      → record { next = record { occupied = f; segments = s.segments; head = a / 128 }; says = given was } ≡ removal a s
  unfolding remove removes
  remove-within was h o p = shown p refl ∙ rw (lt-ltb (a / 128) s.segments h, o, removes, remove)

  -- a clear slot need not be cleared
  pub still-clear : s.occupied a ≡ false → s.occupied ≡ put s.occupied a false
  still-clear o = put-ext s.occupied a false s.occupied o (λ j _. refl)

  pub remove-past : s.segments ≤ a / 128 → record { next = s; says = given false } ≡ removal a s
  unfolding remove removes
  remove-past h = rw (le-ltb (a / 128) s.segments h, removes, remove)
