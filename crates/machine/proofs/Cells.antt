-- Cells as two bytes, high first, and an odd last byte. Assumes nothing.
use mathlib.Core.Path.{◌≡◌, refl, ap}
use mathlib.Core.List.{List, [], ◌∷◌, ◌++◌}
use Prim.Native.Nat.{ℕ, zero, suc, ◌+◌, ◌*◌, ◌/◌, ◌%◌, ◌≤◌, ◌<◌}
use native.Mathlib.Omega.{arith}
use lib.ListN.{length, get_or, set, drop, replicate}
use Rattle.rules.specs.Entries.{cells_of, odd_byte, bytes_of}
use Rattle.machine.specs.Work.{cell_at, zeroed}
use Rattle.machine.specs.Machine.{Bytes}

-- ---- cells as two bytes

pub bytes-set : (cs t : List ℕ) (a v : ℕ) → a < length cs → set (set (bytes_of cs ++ t) (2 * a) (v / 256)) (2 * a + 1) (v % 256) ≡ bytes_of (set cs a v) ++ t
unfolding bytes_of
bytes-set [] t a v h = absurd (omega arith)
bytes-set (c ∷ cs) t zero v h = refl
bytes-set (c ∷ cs) t (suc a) v h =
    let e : 2 * suc a ≡ suc (suc (2 * a)) = omega arith in
    let f : suc (suc (2 * a)) + 1 ≡ suc (suc (2 * a + 1)) = omega arith in
    rw (e, f, bytes-set cs t a v (omega arith))

pub bytes-at : (cs t : List ℕ) (a : ℕ) → a < length cs → cell_at (bytes_of cs ++ t) a ≡ get_or cs a 0
unfolding bytes_of
bytes-at [] t a h = absurd (omega arith)
bytes-at (c ∷ cs) t zero h = omega arith
bytes-at (c ∷ cs) t (suc a) h =
    let e : 2 * suc a ≡ suc (suc (2 * a)) = omega arith in
    let f : suc (suc (2 * a)) + 1 ≡ suc (suc (2 * a + 1)) = omega arith in
    rw (e, f) (bytes-at cs t a (omega arith))

-- ---- the bytes lent

pub cells-length : (bs : List ℕ) → length (cells_of bs) ≡ length bs / 2
unfolding cells_of
cells-length [] = refl
cells-length (h ∷ []) = refl
cells-length (h ∷ l ∷ bs) = omega (arith, cells-length bs)

whole : (bs : List ℕ) → Bytes bs → bs ≡ bytes_of (cells_of bs) ++ odd_byte bs
unfolding cells_of bytes_of odd_byte
whole [] b = refl
whole (h ∷ []) b = refl
whole (h ∷ l ∷ bs) b =
    let low : l < 256 = b 1 in
    let e : (h * 256 + l) / 256 ≡ h = omega arith in
    let f : (h * 256 + l) % 256 ≡ l = omega arith in
    rw (e, f) (ap (λ (x : List ℕ). h ∷ l ∷ x) (whole bs (λ k. b (suc (suc k)))))

pub zero-bytes : (size : ℕ) (bs : List ℕ) → Bytes bs → size ≤ length (cells_of bs) → zeroed size bs ≡ bytes_of (replicate size 0 ++ drop size (cells_of bs)) ++ odd_byte bs
unfolding cells_of bytes_of odd_byte
zero-bytes zero bs b h = whole bs b
zero-bytes (suc size) [] b h = absurd (omega arith)
zero-bytes (suc size) (x ∷ []) b h = absurd (omega arith)
zero-bytes (suc size) (x ∷ y ∷ bs) b h =
    let e : 2 * suc size ≡ suc (suc (2 * size)) = omega arith in
    rw e (ap (λ (l : List ℕ). 0 ∷ 0 ∷ l) (zero-bytes size bs (λ k. b (suc (suc k))) (omega arith)))

-- the cell at a place
pub cells_at : (bs : List ℕ) (a : ℕ) → a < length (cells_of bs) → cell_at bs a ≡ get_or (cells_of bs) a 0
unfolding cells_of
cells_at [] a h = absurd (omega arith)
cells_at (x ∷ []) a h = absurd (omega arith)
cells_at (x ∷ y ∷ bs) zero h = refl
cells_at (x ∷ y ∷ bs) (suc a) h =
    let e : 2 * suc a ≡ suc (suc (2 * a)) = omega arith in
    let f : suc (suc (2 * a)) + 1 ≡ suc (suc (2 * a + 1)) = omega arith in
    rw (e, f) (cells_at bs a (omega arith))
