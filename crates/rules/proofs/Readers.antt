-- A reader of recordings, byte by byte: what a byte does to it, that it stays one that some bytes leave, and its number read back.
-- Assumes nothing.
use mathlib.Core.Path.{◌≡◌, refl, sym, ap, subst, ◌∙◌}
use mathlib.Core.Bool.{true, false, ◌||◌}
use mathlib.Core.List.{List}
use Prim.Native.Nat.{ℕ, zero, suc, ◌+◌, ◌*◌, ◌/◌, ◌%◌, ◌≤◌, ◌<◌}
use native.Mathlib.Omega.{arith}
use lib.Dec.{eqb, ltb}
use borrow.Author.Tests.{eqb-true, eqb-false, ltb-true, ltb-false, lt-ltb, le-ltb, eq-eqb, ne_eqb}
use Rattle.rules.specs.Text.{value}
use Rattle.rules.specs.Recordings.{Reader, reader, fits_at, fits, digits, read_byte, kept_at, kept_by, limit, is_reader, reader_of, state_of}
use Rattle.rules.proofs.Tells.{decided, clash}

-- ---- columns

pub columns : (P : ℕ → Type 0) → P 0 → P 1 → P 2 → P 3 → P 4 → P 5 → P 6 → P 7 → (k : ℕ) → k ≤ 7 → P k
columns P a b c d e f g h zero l = a
columns P a b c d e f g h (suc zero) l = b
columns P a b c d e f g h (suc (suc zero)) l = c
columns P a b c d e f g h (suc (suc (suc zero))) l = d
columns P a b c d e f g h (suc (suc (suc (suc zero)))) l = e
columns P a b c d e f g h (suc (suc (suc (suc (suc zero))))) l = f
columns P a b c d e f g h (suc (suc (suc (suc (suc (suc zero)))))) l = g
columns P a b c d e f g h (suc (suc (suc (suc (suc (suc (suc zero))))))) l = h
columns P a b c d e f g h (suc (suc (suc (suc (suc (suc (suc (suc k)))))))) l = absurd (omega arith)

pub limit-none : (k : ℕ) → 8 ≤ k → limit k ≡ 0
unfolding limit
limit-none k h = rw (le-ltb k 3 (omega arith), le-ltb k 7 (omega arith), ne_eqb k 7 (λ e. omega arith), limit)

column_fits : (k v : ℕ) → v < limit k → k ≤ 7
column_fits k v h =
    decided (ltb k 8) (λ e. omega (arith, ltb-true k 8 e)) (λ e. absurd (omega (arith, h, limit-none k (ltb-false k 8 e))))

value-fits : (k v : ℕ) → v < limit k → v < 65536
unfolding limit
value-fits k v h =
    columns (λ (k : ℕ). v < limit k → v < 65536)
    (λ (h : v < 1). omega (arith, h))
    (λ (h : v < 1). omega (arith, h))
    (λ (h : v < 1). omega (arith, h))
    (λ (h : v < 16). omega (arith, h))
    (λ (h : v < 256). omega (arith, h))
    (λ (h : v < 4096). omega (arith, h))
    (λ (h : v < 65536). h)
    (λ (h : v < 1). omega (arith, h))
    k (column_fits k v h) h

digits-fit : (k v c : ℕ) → v < limit k → eqb k 6 ≡ false → fits_at k c ≡ true → digits k v c < limit (k + 1)
unfolding limit fits_at
digits-fit k v c h =
    columns (λ (k : ℕ). v < limit k → eqb k 6 ≡ false → fits_at k c ≡ true → digits k v c < limit (k + 1))
    (λ h a b. omega arith)
    (λ h a b. omega arith)
    (λ (h : v < 1) a b. let w = ltb-true (value c) 16 b in let q : v * 16 + value c < 16 = omega (arith, h, w) in q)
    (λ (h : v < 16) a b. let w = ltb-true (value c) 16 b in let q : v * 16 + value c < 256 = omega (arith, h, w) in q)
    (λ (h : v < 256) a b. let w = ltb-true (value c) 16 b in let q : v * 16 + value c < 4096 = omega (arith, h, w) in q)
    (λ (h : v < 4096) a b. let w = ltb-true (value c) 16 b in let q : v * 16 + value c < 65536 = omega (arith, h, w) in q)
    (λ h a b. clash refl a)
    (λ h a b. clash b refl)
    k (column_fits k v h) h

-- ---- a reader that some bytes leave

abbrev pub Sound : Reader → Type 0
Sound r = is_reader r ≡ true

pub record Facts (r : Reader) : Type 0 where
  pub below : r.value < limit r.column
  pub line-in : r.line ≤ 4294967295
  pub column-in : r.column ≤ 7
  pub value_in : r.value < 65536

pub facts : (r : Reader) → Sound r → Facts r
unfolding is_reader
facts r h =
    decided (ltb r.value (limit r.column))
    (λ a. let b = ltb-true r.value (limit r.column) a in
    record { below = b; line-in = line a; column-in = column_fits _ _ b; value_in = value-fits _ _ b })
    (λ a. clash (rw (a, is_reader) at h) refl)
  where
    line : ltb r.value (limit r.column) ≡ true → r.line ≤ 4294967295
    line a =
        decided (ltb r.line 4294967295) (λ l. omega (arith, ltb-true r.line 4294967295 l))
        (λ l. decided (eqb r.line 4294967295) (λ e. omega (arith, eqb-true r.line 4294967295 e))
        (λ e. clash (rw (a, l, e, is_reader) at h) refl))

-- within a line there is room for one more
sound-mid : (i k v : ℕ) → i < 4294967295 → v < limit k → Sound (reader i k v)
unfolding is_reader
sound-mid i k v l h = rw (lt-ltb v (limit k) h, lt-ltb i 4294967295 l, is_reader)

sound-at : (i k : ℕ) → i ≤ 4294967295 → 0 < limit k → (eqb k 0 || eqb k 7) ≡ true → Sound (reader i k 0)
unfolding is_reader
sound-at i k l h e =
    decided (ltb i 4294967295) (λ a. sound-mid i k 0 (ltb-true i 4294967295 a) h)
    (λ a. let q : i ≡ 4294967295 = omega (arith, ltb-false i 4294967295 a) in rw (lt-ltb 0 (limit k) h, a, eq-eqb i 4294967295 q, is_reader) e)

pub sound-new : (i : ℕ) → i ≤ 4294967295 → Sound (reader i 0 0)
unfolding limit
sound-new i l = sound-at i 0 l (omega arith) refl

pub sound-bad : (i : ℕ) → i ≤ 4294967295 → Sound (reader i 7 0)
unfolding limit
sound-bad i l = sound-at i 7 l (omega arith) refl

pub start-sound : Sound (reader_of 0)
unfolding is_reader limit
start-sound = refl

-- ---- the next reader and the lent memory, by what the byte is

record Fits (r : Reader) (c : ℕ) : Type 0 where
  early : r.line ≡ 4294967295 → ⊥
  wanted : fits_at r.column c ≡ true

fits-parts : (r : Reader) (c : ℕ) → fits r c ≡ true → Fits r c
fits-parts r c h =
    decided (eqb r.line 4294967295)
    (λ e. clash (rw (e, fits) at h) refl)
    (λ e. record { early = eqb-false r.line 4294967295 e; wanted = rw (e, fits) at h })

module _ (r : Reader) (c : ℕ) where
  pub byte-end : fits r c ≡ true → r.column ≡ 6 → read_byte r c ≡ reader (r.line + 1) 0 0
  unfolding read_byte
  byte-end a b = rw (a, eq-eqb r.column 6 b, read_byte)

  pub byte-on : fits r c ≡ true → (r.column ≡ 6 → ⊥) → read_byte r c ≡ reader r.line (r.column + 1) (digits r.column r.value c)
  unfolding read_byte
  byte-on a b = rw (a, ne_eqb r.column 6 b, read_byte)

  pub byte-bad : fits r c ≡ false → read_byte r c ≡ reader r.line 7 0
  unfolding read_byte
  byte-bad a = rw (a, read_byte)

  pub kept-end : fits r c ≡ true → r.column ≡ 6 → (m : List ℕ) → kept_by r c m ≡ kept_at m r.line r.value
  unfolding kept_by
  kept-end a b m = rw (a, eq-eqb r.column 6 b, kept_by)

  pub kept_on : fits r c ≡ true → (r.column ≡ 6 → ⊥) → (m : List ℕ) → kept_by r c m ≡ m
  unfolding kept_by
  kept_on a b m = rw (a, ne_eqb r.column 6 b, kept_by)

  pub kept-bad : fits r c ≡ false → (m : List ℕ) → kept_by r c m ≡ m
  unfolding kept_by
  kept-bad a m = rw (a, kept_by)

  pub sound-byte : Sound r → Sound (read_byte r c)
  sound-byte h =
      let f = facts r h in
      decided (fits r c)
      (λ a. let n : r.line < 4294967295 = omega (arith, f.line-in, (fits-parts r c a).early) in
      decided (eqb r.column 6)
      (λ b. subst Sound (sym (byte-end a (eqb-true r.column 6 b))) (sound-new (r.line + 1) (omega (arith, n))))
      (λ b. subst Sound (sym (byte-on a (eqb-false r.column 6 b)))
      (sound-mid r.line (r.column + 1) (digits r.column r.value c) n (digits-fit r.column r.value c f.below b (fits-parts r c a).wanted))))
      (λ a. subst Sound (sym (byte-bad a)) (sound-bad r.line f.line-in))

-- a malformed line stays as it is
bad-fits : (i c : ℕ) → fits (reader i 7 0) c ≡ false
unfolding fits_at
bad-fits i c = decided (eqb i 4294967295) (λ e. rw (e, fits)) (λ e. rw (e, fits))

pub bad-byte : (i c : ℕ) → read_byte (reader i 7 0) c ≡ reader i 7 0
bad-byte i c = byte-bad (reader i 7 0) c (bad-fits i c)

pub bad-keeps : (i c : ℕ) (m : List ℕ) → kept_by (reader i 7 0) c m ≡ m
bad-keeps i c = kept-bad (reader i 7 0) c (bad-fits i c)

-- ---- within a line that may be read

module _ (i : ℕ) (l : i < 4294967295) where
  pub fits_in : (k v c : ℕ) → fits_at k c ≡ true → fits (reader i k v) c ≡ true
  fits_in k v c e = let n : eqb i 4294967295 ≡ false = ne_eqb i 4294967295 (λ q. omega (arith, q)) in rw (n, fits) e

  pub byte-in : (k v c : ℕ) → fits_at k c ≡ true → eqb k 6 ≡ false → read_byte (reader i k v) c ≡ reader i (k + 1) (digits k v c)
  byte-in k v c e f = byte-on (reader i k v) c (fits_in k v c e) (eqb-false k 6 f)

  pub byte_last : (v : ℕ) → read_byte (reader i 6 v) 10 ≡ reader (i + 1) 0 0
  unfolding fits_at
  byte_last v = byte-end (reader i 6 v) 10 (fits_in 6 v 10 refl) refl

-- past the last one there is no column but the first and the malformed one
pub early : (r : Reader) → Sound r → (eqb r.column 0 || eqb r.column 7) ≡ false → r.line < 4294967295
unfolding is_reader
early r h e =
    decided (ltb r.line 4294967295) (ltb-true r.line 4294967295)
    (λ l. decided (ltb r.value (limit r.column))
    (λ a. decided (eqb r.line 4294967295) (λ q. clash (rw (a, l, q, e, is_reader) at h) refl) (λ q. clash (rw (a, l, q, is_reader) at h) refl))
    (λ a. clash (rw (a, is_reader) at h) refl))

-- ---- as one number

low : (k y : ℕ) → y < 0x100000000 → (k * 0x100000000 + y) % 0x100000000 ≡ y
low k y h = omega arith

high : (k y : ℕ) → y < 0x100000000 → (k * 0x100000000 + y) / 0x100000000 ≡ k
high k y h = omega arith

pub reads-back : (r : Reader) → Sound r → reader_of (state_of r) ≡ r
reads-back r h =
    let f = facts r h in
    let k : ℕ = r.column * 0x10000 + r.value in
    let e : state_of r ≡ k * 0x100000000 + r.line = omega arith in
    let l : r.line < 0x100000000 = omega (arith, f.line-in) in
    let d : state_of r / 0x100000000 ≡ k = ap (λ (n : ℕ). n / 0x100000000) e ∙ high k r.line l in
    let a : state_of r % 0x100000000 ≡ r.line = ap (λ (n : ℕ). n % 0x100000000) e ∙ low k r.line l in
    let v : k % 0x10000 ≡ r.value = omega (arith, f.value_in) in
    let w : k / 0x10000 ≡ r.column = omega (arith, f.value_in) in
    let b : state_of r / 0x1000000000000 ≡ r.column = omega (arith, d, w) in
    let c : state_of r / 0x100000000 % 0x10000 ≡ r.value = ap (λ (n : ℕ). n % 0x10000) d ∙ v in
    λ u. record { line = a u; column = b u; value = c u }

pub closes-back : (n : ℕ) → state_of (reader_of n) ≡ n
closes-back n =
    let q : ℕ = n / 0x100000000 in
    let a : n ≡ n / 0x100000000 * 0x100000000 + n % 0x100000000 = omega arith in
    let b : n / 0x1000000000000 ≡ n / 0x100000000 / 0x10000 = omega arith in
    let c : n / 0x100000000 ≡ n / 0x100000000 / 0x10000 * 0x10000 + n / 0x100000000 % 0x10000 = omega arith in
    omega (arith, a, b, c)
