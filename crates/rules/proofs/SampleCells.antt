-- Samples in lent memory: its cells one after the other from the first on, as far as there is room; an odd last byte stays. Assumes nothing.
use mathlib.Core.Path.{◌≡◌, refl, sym, ap, ◌∙◌}
use mathlib.Core.List.{List, [], ◌∷◌, ◌++◌}
use Prim.Native.Nat.{ℕ, zero, suc, ◌+◌, ◌*◌, ◌/◌, ◌%◌, ◌≤◌, ◌<◌}
use native.Mathlib.Omega.{arith}
use lib.Dec.{ltb}
use lib.ListN.{length, set, take, drop}
use borrow.Author.Tests.{ltb-true, ltb-false}
use Rattle.rules.specs.Recordings.{kept_at}
use Rattle.rules.specs.Entries.{cells_of, odd_byte}
use Rattle.rules.proofs.Tells.{decided}

pub cells-length : (m : List ℕ) → length (cells_of m) ≡ length m / 2
unfolding cells_of
cells-length [] = refl
cells-length (h ∷ []) = refl
cells-length (h ∷ l ∷ m) = omega (arith, cells-length m)

-- ---- one sample

abbrev pair : List ℕ → ℕ → ℕ → List ℕ
pair m i v = set (set m (2 * i) (v / 256)) (2 * i + 1) (v % 256)

pair-on : (h l : ℕ) (m : List ℕ) (i v : ℕ) → pair (h ∷ l ∷ m) (suc i) v ≡ h ∷ l ∷ pair m i v
pair-on h l m i v =
    let e : 2 * suc i ≡ suc (suc (2 * i)) = omega arith in
    let f : suc (suc (2 * i)) + 1 ≡ suc (suc (2 * i + 1)) = omega arith in
    rw (e, f)

pair-cells : (m : List ℕ) (i v : ℕ) → i < length m / 2 → cells_of (pair m i v) ≡ set (cells_of m) i v
unfolding cells_of
pair-cells [] i v h = absurd (omega arith)
pair-cells (x ∷ []) i v h = absurd (omega arith)
pair-cells (x ∷ y ∷ m) zero v h =
    let e : v / 256 * 256 + v % 256 ≡ v = omega arith in
    ap (λ (w : ℕ). w ∷ cells_of m) e
pair-cells (x ∷ y ∷ m) (suc i) v h =
    ap cells_of (pair-on x y m i v) ∙ ap (λ (l : List ℕ). (x * 256 + y) ∷ l) (pair-cells m i v (omega arith))

pair-odd : (m : List ℕ) (i v : ℕ) → i < length m / 2 → odd_byte (pair m i v) ≡ odd_byte m
unfolding odd_byte
pair-odd [] i v h = absurd (omega arith)
pair-odd (x ∷ []) i v h = absurd (omega arith)
pair-odd (x ∷ y ∷ m) zero v h = refl
pair-odd (x ∷ y ∷ m) (suc i) v h = ap odd_byte (pair-on x y m i v) ∙ pair-odd m i v (omega arith)

set_past : (l : List ℕ) (i v : ℕ) → length l ≤ i → set l i v ≡ l
set_past [] i v h = refl
set_past (a ∷ l) zero v h = absurd (omega arith)
set_past (a ∷ l) (suc i) v h = ap (λ (t : List ℕ). a ∷ t) (set_past l i v (omega arith))

at_cells : (m : List ℕ) (i v : ℕ) → cells_of (kept_at m i v) ≡ set (cells_of m) i v
unfolding kept_at
at_cells m i v =
    decided (ltb i (length m / 2))
    (λ e. rw (e, kept_at) (pair-cells m i v (ltb-true i (length m / 2) e)))
    (λ e. rw (e, kept_at) (sym (set_past (cells_of m) i v (omega (arith, cells-length m, ltb-false i (length m / 2) e)))))

at-odd : (m : List ℕ) (i v : ℕ) → odd_byte (kept_at m i v) ≡ odd_byte m
unfolding kept_at
at-odd m i v =
    decided (ltb i (length m / 2)) (λ e. rw (e, kept_at) (pair-odd m i v (ltb-true i (length m / 2) e))) (λ e. rw (e, kept_at))

-- ---- samples from number i on

unfoldable pub kept_from : List ℕ → ℕ → List ℕ → List ℕ
kept_from m i [] = m
kept_from m i (v ∷ vs) = kept_from (kept_at m i v) (i + 1) vs

unfoldable set_from : List ℕ → ℕ → List ℕ → List ℕ
set_from cs i [] = cs
set_from cs i (v ∷ vs) = set_from (set cs i v) (i + 1) vs

from-cells : (vs m : List ℕ) (i : ℕ) → cells_of (kept_from m i vs) ≡ set_from (cells_of m) i vs
unfolding kept_from set_from
from-cells [] m i = refl
from-cells (v ∷ vs) m i = from-cells vs (kept_at m i v) (i + 1) ∙ ap (λ (cs : List ℕ). set_from cs (i + 1) vs) (at_cells m i v)

pub from-odd : (vs m : List ℕ) (i : ℕ) → odd_byte (kept_from m i vs) ≡ odd_byte m
unfolding kept_from
from-odd [] m i = refl
from-odd (v ∷ vs) m i = from-odd vs (kept_at m i v) (i + 1) ∙ at-odd m i v

none-set : (vs : List ℕ) (i : ℕ) → set_from [] i vs ≡ []
unfolding set_from
none-set [] i = refl
none-set (v ∷ vs) i = none-set vs (i + 1)

later-set : (vs cs : List ℕ) (c i : ℕ) → set_from (c ∷ cs) (i + 1) vs ≡ c ∷ set_from cs i vs
unfolding set_from
later-set [] cs c i = refl
later-set (v ∷ vs) cs c i =
    let e : set (c ∷ cs) (i + 1) v ≡ c ∷ set cs i v = rw one in
    ap (λ (l : List ℕ). set_from l (i + 1 + 1) vs) e ∙ later-set vs (set cs i v) c (i + 1)
  where
    one : i + 1 ≡ suc i
    one = omega arith

front-set : (cs vs : List ℕ) → set_from cs 0 vs ≡ take (length cs) vs ++ drop (length vs) cs
unfolding set_from
front-set [] [] = refl
front-set [] (v ∷ vs) = none-set vs 1
front-set (c ∷ cs) [] = refl
front-set (c ∷ cs) (v ∷ vs) = later-set vs cs v 0 ∙ ap (λ (l : List ℕ). v ∷ l) (front-set cs vs)

pub front-cells : (vs m : List ℕ) → cells_of (kept_from m 0 vs) ≡ take (length (cells_of m)) vs ++ drop (length vs) (cells_of m)
front-cells vs m = from-cells vs m 0 ∙ front-set (cells_of m) vs
