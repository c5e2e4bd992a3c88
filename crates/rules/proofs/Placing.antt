-- insert in the wording of "Slots" and in a short form: the least clear slot from segment min(H, L) up to segment L, or a new segment.
-- Assumes nothing.
use mathlib.Core.Path.{◌≡◌, refl, sym, ap, ◌∙◌}
use mathlib.Core.Bool.{Bool, true, not}
use mathlib.Core.Option.{Option, none, some}
use Prim.Native.Nat.{ℕ, zero, suc, ◌+◌, ◌*◌, ◌-◌, ◌/◌, min}
use native.Mathlib.Omega.{arith}
use Rattle.rules.specs.Notation.{put, first}
use Rattle.rules.specs.Slots.{Slots, Placed, placed, clear_in, has_clear, first_with_clear, insert_into, insert_new, insert}
use Rattle.rules.proofs.Searches.{first_found, first_on}

abbrev pub clear : Slots → ℕ → Bool
clear s a = not (s.occupied a)

abbrev pub from_segment : Slots → ℕ
from_segment s = min s.head s.segments

-- the least clear slot from segment min(H, L) up to segment L
unfoldable pub least_clear : Slots → Option ℕ
least_clear s = first (clear s) (128 * from_segment s) (128 * (s.segments - from_segment s))

-- slot a, in a segment below L
abbrev pub insert_slot : ℕ → Slots → Option Placed
insert_slot a s = placed a (record { occupied = put s.occupied a true; segments = s.segments; head = a / 128 })

unfoldable pub insert_short : ℕ → Slots → Option Placed
insert_short n s = elim (least_clear s) [ some a ↦ insert_slot a s | none ↦ insert_new n s ]

-- a search over k segments from g on, slot by slot or segment by segment
by-segments : (s : Slots) (k g : ℕ)
    → first (clear s) (128 * g) (128 * k) ≡ elim (first (has_clear s.occupied) g k) [ some h ↦ clear_in s.occupied h | none ↦ none ]
unfolding first clear_in
by-segments s zero g = refl
by-segments s (suc k) g = go (clear_in s.occupied g) refl (by-segments s k (suc g))
  where
    ahead : first (clear s) (128 * g) (128 * suc k) ≡ elim (clear_in s.occupied g) [ some a ↦ some a | none ↦ first (clear s) (128 * suc g) (128 * k) ]
    ahead =
        let e : 128 * suc k ≡ 128 * k + 128 = omega arith in
        ap (first (clear s) (128 * g)) e ∙ first_on (clear s) (128 * g) 128 (128 * k) (128 * suc g) (omega arith)

    go : (o : Option ℕ) → clear_in s.occupied g ≡ o
        → first (clear s) (128 * suc g) (128 * k) ≡ elim (first (has_clear s.occupied) (suc g) k) [ some h ↦ clear_in s.occupied h | none ↦ none ]
        → first (clear s) (128 * g) (128 * suc k) ≡ elim (first (has_clear s.occupied) g (suc k)) [ some h ↦ clear_in s.occupied h | none ↦ none ]
    go (some a) p ih = rw (ahead, p, first) (sym p)
    go none p ih = rw (ahead, p, first) ih

pub insert-short : (n : ℕ) (s : Slots) → insert n s ≡ insert_short n s
unfolding insert insert_short least_clear first_with_clear clear_in insert_into
insert-short n s = go (first_with_clear s) refl
  where
    in_one : (g : ℕ) (o : Option ℕ) → clear_in s.occupied g ≡ o → first_with_clear s ≡ some g → insert n s ≡ insert_short n s
    in_one g none p e = absurd (let q = (first_found (has_clear s.occupied) (from_segment s) (s.segments - from_segment s) g e).passes in let z : ◌≡◌ {A = ℕ} 0 1 = cc in omega arith)
    in_one g (some a) p e =
        let r = first_found (clear s) (128 * g) 128 a p in
        let d : a / 128 ≡ g = omega (arith, r.low, r.high) in
        let f : least_clear s ≡ some a = by-segments s (s.segments - from_segment s) (from_segment s) ∙ rw e p in
        rw (e, f, insert, insert_short) (rw (p, d))

    go : (o : Option ℕ) → first_with_clear s ≡ o → insert n s ≡ insert_short n s
    go (some g) e = in_one g (clear_in s.occupied g) refl e
    go none e =
        let f : least_clear s ≡ none = by-segments s (s.segments - from_segment s) (from_segment s) ∙ rw e in
        rw (e, f, insert, insert_short)
