-- A number is a reader's state exactly if some bytes leave it. Assumes nothing.
use mathlib.Core.Path.{◌≡◌, refl, sym, ap, subst, ◌∙◌}
use mathlib.Core.Bool.{true, false}
use mathlib.Core.List.{List, [], ◌∷◌, ◌++◌}
use Prim.Native.Nat.{ℕ, zero, suc, ◌+◌, ◌*◌, ◌/◌, ◌%◌, ◌≤◌, ◌<◌}
use native.Mathlib.Omega.{arith}
use lib.Dec.{eqb, ltb}
use borrow.Author.Tests.{lt-ltb}
use Rattle.rules.specs.Text.{digit, value}
use Rattle.rules.specs.Recordings.{Reader, reader, fits_at, fits, digits, read_byte, fed, limit, is_reader, is_state, reader_of, state_of}
use Rattle.rules.specs.Cuts.{OfSomeBytes}
use Rattle.rules.proofs.Tells.{decided, clash}
use Rattle.rules.proofs.Digits.{value-digit}
use Rattle.rules.proofs.Readers.{columns, Sound, facts, early, byte-in, byte_last, byte-bad, start-sound, reads-back, closes-back}
use Rattle.rules.proofs.Cuts.{fed-append, sound-fed}

-- ---- whole lines

unfoldable lines : ℕ → List ℕ
lines zero = []
lines (suc n) = 51 ∷ 48 ∷ 48 ∷ 48 ∷ 48 ∷ 48 ∷ 10 ∷ lines n

line-fed : (i : ℕ) (s : List ℕ) → i < 4294967295 → fed (reader i 0 0) (51 ∷ 48 ∷ 48 ∷ 48 ∷ 48 ∷ 48 ∷ 10 ∷ s) ≡ fed (reader (i + 1) 0 0) s
unfolding fed fits_at value
line-fed i s l =
    ap (λ (r : Reader). fed r (48 ∷ 48 ∷ 48 ∷ 48 ∷ 48 ∷ 10 ∷ s)) (byte-in i l 0 0 51 refl refl)
    ∙ ap (λ (r : Reader). fed r (48 ∷ 48 ∷ 48 ∷ 48 ∷ 10 ∷ s)) (byte-in i l 1 0 48 refl refl)
    ∙ ap (λ (r : Reader). fed r (48 ∷ 48 ∷ 48 ∷ 10 ∷ s)) (byte-in i l 2 0 48 refl refl)
    ∙ ap (λ (r : Reader). fed r (48 ∷ 48 ∷ 10 ∷ s)) (byte-in i l 3 0 48 refl refl)
    ∙ ap (λ (r : Reader). fed r (48 ∷ 10 ∷ s)) (byte-in i l 4 0 48 refl refl)
    ∙ ap (λ (r : Reader). fed r (10 ∷ s)) (byte-in i l 5 0 48 refl refl)
    ∙ ap (λ (r : Reader). fed r s) (byte_last i l 0)

lines-fed : (n i : ℕ) → i + n ≤ 4294967295 → fed (reader i 0 0) (lines n) ≡ reader (i + n) 0 0
unfolding lines fed
lines-fed zero i l = let e : i ≡ i + 0 = omega arith in ap (λ (j : ℕ). reader j 0 0) e
lines-fed (suc n) i l =
    let e : i + 1 + n ≡ i + suc n = omega arith in
    line-fed i (lines n) (omega arith) ∙ lines-fed n (i + 1) (omega arith) ∙ ap (λ (j : ℕ). reader j 0 0) e

-- ---- a line begun

record Begun (i k v : ℕ) : Type 0 where
  bytes : List ℕ
  leave : fed (reader i 0 0) bytes ≡ reader i k v

grown : {i k v : ℕ} → Begun i k v → (c k' v' : ℕ) → read_byte (reader i k v) c ≡ reader i k' v' → Begun i k' v'
unfolding fed
grown {i} {k} {v} b c k' v' e = record {
  bytes = b.bytes ++ (c ∷ []);
  leave = fed-append b.bytes (c ∷ []) (reader i 0 0) ∙ ap (λ (r : Reader). fed r (c ∷ [])) b.leave ∙ e;
}

none-begun : (i : ℕ) → Begun i 0 0
unfolding fed
none-begun i = record { bytes = []; leave = refl }

module _ (i : ℕ) (l : i < 4294967295) where
  one-begun : Begun i 1 0
  unfolding fits_at
  one-begun = grown (none-begun i) 51 1 0 (byte-in i l 0 0 51 refl refl)

  two-begun : Begun i 2 0
  unfolding fits_at
  two-begun = grown one-begun 48 2 0 (byte-in i l 1 0 48 refl refl)

  -- the digit x in column k, after others that make v
  digit-grown : {k v : ℕ} → Begun i k v → (x w : ℕ) → fits_at k (digit x) ≡ ltb (value (digit x)) 16 → eqb k 6 ≡ false → ltb k 2 ≡ false → x < 16 → v * 16 + x ≡ w → Begun i (k + 1) w
  digit-grown {k} {v} b x w e f g h q =
      let d = value-digit x h in
      let a : fits_at k (digit x) ≡ true = e ∙ ap (λ (y : ℕ). ltb y 16) d ∙ lt-ltb x 16 h in
      let n : digits k v (digit x) ≡ w = rw (g, digits) (ap (λ (y : ℕ). v * 16 + y) d ∙ q) in
      grown b (digit x) (k + 1) w (byte-in i l k v (digit x) a f ∙ ap (reader i (k + 1)) n)

  three-begun : (v : ℕ) → v < 16 → Begun i 3 v
  unfolding fits_at
  three-begun v h = digit-grown two-begun v v refl refl refl h (omega arith)

  four-begun : (v : ℕ) → v < 256 → Begun i 4 v
  unfolding fits_at
  four-begun v h = digit-grown (three-begun (v / 16) (omega arith)) (v % 16) v refl refl refl (omega arith) (omega arith)

  five-begun : (v : ℕ) → v < 4096 → Begun i 5 v
  unfolding fits_at
  five-begun v h = digit-grown (four-begun (v / 16) (omega arith)) (v % 16) v refl refl refl (omega arith) (omega arith)

  six-begun : (v : ℕ) → v < 65536 → Begun i 6 v
  unfolding fits_at
  six-begun v h = digit-grown (five-begun (v / 16) (omega arith)) (v % 16) v refl refl refl (omega arith) (omega arith)

-- no line begins with LF
bad-begun : (i : ℕ) → Begun i 7 0
unfolding fits_at
bad-begun i = grown (none-begun i) 10 7 0 (byte-bad (reader i 0 0) 10 (decided (eqb i 4294967295) (λ q. rw (q, fits)) (λ q. rw (q, fits))))

as-zero : {i k v : ℕ} → v < 1 → Begun i k 0 → Begun i k v
as-zero {i} {k} {v} h b = let e : 0 ≡ v = omega arith in subst (Begun i k) e b

begins : (i k v : ℕ) → Sound (reader i k v) → Begun i k v
unfolding limit
begins i k v h =
    columns (λ (k : ℕ). Sound (reader i k v) → Begun i k v)
    (λ h. as-zero (facts (reader i 0 v) h).below (none-begun i))
    (λ h. as-zero (facts (reader i 1 v) h).below (one-begun i (early (reader i 1 v) h refl)))
    (λ h. as-zero (facts (reader i 2 v) h).below (two-begun i (early (reader i 2 v) h refl)))
    (λ h. three-begun i (early (reader i 3 v) h refl) v (facts (reader i 3 v) h).below)
    (λ h. four-begun i (early (reader i 4 v) h refl) v (facts (reader i 4 v) h).below)
    (λ h. five-begun i (early (reader i 5 v) h refl) v (facts (reader i 5 v) h).below)
    (λ h. six-begun i (early (reader i 6 v) h refl) v (facts (reader i 6 v) h).below)
    (λ h. as-zero (facts (reader i 7 v) h).below (bad-begun i))
    k (facts (reader i k v) h).column-in h

-- ---- the state

left_by : (n : ℕ) → is_state n ≡ true → OfSomeBytes n
left_by n h =
    let r = reader_of n in
    let b = begins r.line r.column r.value h in
    let to : fed (reader_of 0) (lines r.line) ≡ reader r.line 0 0 = lines-fed r.line 0 (omega (arith, (facts r h).line-in)) ∙ ap (λ (j : ℕ). reader j 0 0) zero-plus in
    record {
      bytes = lines r.line ++ b.bytes;
      leave = λ _.
          ap state_of (fed-append (lines r.line) b.bytes (reader_of 0) ∙ ap (λ (t : Reader). fed t b.bytes) to ∙ b.leave)
          ∙ closes-back n;
      only = λ _ _. h;
    }
  where
    zero-plus : 0 + (reader_of n).line ≡ (reader_of n).line
    zero-plus = omega arith

leaves-state : (s : List ℕ) → is_state (state_of (fed (reader_of 0) s)) ≡ true
leaves-state s = let h = sound-fed s (reader_of 0) start-sound in ap is_reader (reads-back (fed (reader_of 0) s) h) ∙ h

pub of-some-bytes : (n : ℕ) → OfSomeBytes n
of-some-bytes n =
    decided (is_state n) (left_by n)
    (λ h. record { bytes = []; leave = λ e. clash e h; only = λ s e. ap is_state (sym e) ∙ leaves-state s })
