-- The lines of a table, one at a time. Assumes nothing.
use mathlib.Core.Path.{◌≡◌, refl, sym, ap, ◌∙◌}
use mathlib.Core.List.{List, [], ◌∷◌, ◌++◌}
use Prim.Native.Nat.{ℕ, zero, suc, ◌+◌, ◌-◌, ◌≤◌, ◌<◌}
use native.Mathlib.Omega.{arith}
use lib.ListN.{length, set}
use lib.Seq.{get_or-set_same, get_or-set_other}
use Rattle.text.specs.Lines.{unpacked}
use Rattle.machine.specs.Entries.{entry_for, entry_in, entries_of}
use Rattle.machine.specs.declared.entries.Entry.{Entry}

-- what remains of n lines from line i on
abbrev pub left : List ℕ → ℕ → ℕ → List Entry
left t n i = entries_of t i (n - i)

pub record Took (t : List ℕ) (n i : ℕ) (x : Entry) : Type 0 where
  pub here : left t n i ≡ x ∷ left t n (i + 1)

pub took : (t : List ℕ) (n i : ℕ) (x : Entry) → i < n → x ≡ entry_in t i → Took t n i x
unfolding entries_of
took t n i x h q = let e : n - i ≡ suc (n - (i + 1)) = omega arith in record { here = rw (e, q) }

pub left-start : (t : List ℕ) (n : ℕ) → left t n 0 ≡ entries_of t 0 n
left-start t n = let e : n - 0 ≡ n = omega arith in rw e

pub left_end : (t : List ℕ) (n i : ℕ) → n ≤ i → left t n i ≡ []
unfolding entries_of
left_end t n i h = let e : n - i ≡ 0 = omega arith in rw e

-- ---- the lines before line i and those from it on

split_at : (t : List ℕ) (i a b : ℕ) → entries_of t i (a + b) ≡ entries_of t i a ++ entries_of t (i + a) b
unfolding entries_of
split_at t i zero b = let e : i + 0 ≡ i = omega arith in let f : 0 + b ≡ b = omega arith in rw (e, f)
split_at t i (suc a) b =
    let e : suc a + b ≡ suc (a + b) = omega arith in
    let f : i + suc a ≡ i + 1 + a = omega arith in
    rw (e, f, split_at t (i + 1) a b)

pub before-left : (t : List ℕ) (n i : ℕ) → i ≤ n → entries_of t 0 i ++ left t n i ≡ entries_of t 0 n
before-left t n i h =
    let e : i + (n - i) ≡ n = omega arith in
    let f : 0 + i ≡ i = omega arith in
    sym (split_at t 0 i (n - i) ∙ rw f) ∙ rw e

-- ---- one line is written

row_other : (t : List ℕ) (i c j : ℕ) → (j ≡ i → ⊥) → entry_in (set t i c) j ≡ entry_in t j
row_other t i c j h = ap (λ (x : ℕ). entry_for (unpacked x)) (get_or-set_other t i j c 0 h)

-- the lines from a on, none of which is line i
same_rows : (t : List ℕ) (i c a k : ℕ) → ((j : ℕ) → a ≤ j → j < a + k → j ≡ i → ⊥) → entries_of (set t i c) a k ≡ entries_of t a k
unfolding entries_of
same_rows t i c a zero h = refl
same_rows t i c a (suc k) h =
    rw (row_other t i c a (h a (omega arith) (omega arith)), same_rows t i c (a + 1) k (λ j p q. h j (omega (arith, p)) (omega (arith, q))))

pub left_after : (t : List ℕ) (n i c : ℕ) → left (set t i c) n (i + 1) ≡ left t n (i + 1)
left_after t n i c = same_rows t i c (i + 1) (n - (i + 1)) (λ j p q e. omega (arith, p, e))

pub before-after : (t : List ℕ) (i c : ℕ) → i < length t → entries_of (set t i c) 0 (i + 1) ≡ entries_of t 0 i ++ (entry_for (unpacked c) ∷ [])
unfolding entries_of
before-after t i c h =
    let f : 0 + i ≡ i = omega arith in
    split_at (set t i c) 0 i 1
    ∙ rw (f, same_rows t i c 0 i (λ j p q e. omega (arith, q, e)), get_or-set_same t i c 0 h)
