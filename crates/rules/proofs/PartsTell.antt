-- The parts of a recording together tell what it is. Assumes nothing.
use mathlib.Core.Path.{◌≡◌, refl, sym, ap, subst, ◌∙◌}
use mathlib.Core.Bool.{Bool, true, false}
use mathlib.Core.List.{List, [], ◌∷◌, ◌++◌}
use Prim.Native.Nat.{ℕ, zero, suc, ◌+◌, ◌/◌, ◌<◌}
use native.Mathlib.Omega.{arith}
use lib.Dec.{eqb}
use lib.ListN.{length, get_or, take, drop}
use borrow.Author.Tests.{eqb-true, eqb-false}
use Rattle.rules.specs.Recordings.{recorded, malformed, recording, Reader, reader, fits, read_byte, kept_by, fed, kept, ended, is_reader, is_state, reader_of, state_of}
use Rattle.rules.specs.Entries.{cells_of, odd_byte, PartRead}
use Rattle.rules.specs.Cuts.{Told, PartsTell}
use Rattle.rules.proofs.Tells.{decided}
use Rattle.rules.proofs.Readers.{Sound, facts, byte-end, byte-on, byte-bad, kept-end, kept_on, kept-bad, sound-byte, start-sound, reads-back}
use Rattle.rules.proofs.Cuts.{sound-fed, entry-sound}
use Rattle.rules.proofs.Recorded.{out, outs, out-end, out-on, out-bad, ended_with, recording-is}
use Rattle.rules.proofs.SampleCells.{cells-length, kept_from, from-odd, front-cells}

-- ---- by what a byte does: it ends a line's sample, or none

record Ends (r : Reader) (c : ℕ) : Type 0 where
  next : read_byte r c ≡ reader (r.line + 1) 0 0
  sample : (vs : List ℕ) → out r c vs ≡ r.value ∷ vs
  left : (m : List ℕ) → kept_by r c m ≡ kept_from m r.line (r.value ∷ [])

record Stays (r : Reader) (c : ℕ) : Type 0 where
  line : (read_byte r c).line ≡ r.line
  sample : (vs : List ℕ) → out r c vs ≡ vs
  left : (m : List ℕ) → kept_by r c m ≡ m

by_byte : {X : Type 0} (r : Reader) (c : ℕ) → (Ends r c → X) → (Stays r c → X) → X
unfolding kept_from
by_byte r c f g =
    decided (fits r c)
    (λ a. decided (eqb r.column 6)
    (λ b. let q = eqb-true r.column 6 b in f (record { next = byte-end r c a q; sample = out-end r c a q; left = kept-end r c a q }))
    (λ b. let q = eqb-false r.column 6 b in
    g (record { line = ap (λ (t : Reader). t.line) (byte-on r c a q); sample = out-on r c a q; left = kept_on r c a q })))
    (λ a. g (record { line = ap (λ (t : Reader). t.line) (byte-bad r c a); sample = out-bad r c a; left = kept-bad r c a }))

-- ---- as many lines as samples

line-byte : (r : Reader) (c : ℕ) (vs : List ℕ) → (read_byte r c).line + length vs ≡ r.line + length (out r c vs)
line-byte r c vs =
    by_byte r c
    (λ e.
    let x : (read_byte r c).line ≡ r.line + 1 = ap (λ (t : Reader). t.line) e.next in
    let y : length (out r c vs) ≡ suc (length vs) = ap length (e.sample vs) in
    omega (arith, x, y))
    (λ e. let y : length (out r c vs) ≡ length vs = ap length (e.sample vs) in omega (arith, e.line, y))

fed-line : (s : List ℕ) (r : Reader) → (fed r s).line ≡ r.line + length (outs r s)
unfolding fed outs
fed-line [] r = omega arith
fed-line (c ∷ s) r = fed-line s (read_byte r c) ∙ line-byte r c (outs (read_byte r c) s)

-- ---- samples fit

fit-first : (v : ℕ) (vs : List ℕ) → v < 65536 → ((j : ℕ) → get_or vs j 0 < 65536) → (j : ℕ) → get_or (v ∷ vs) j 0 < 65536
fit-first v vs h f zero = h
fit-first v vs h f (suc j) = f j

outs-fit : (s : List ℕ) (r : Reader) → Sound r → (j : ℕ) → get_or (outs r s) j 0 < 65536
unfolding outs
outs-fit [] r h j = omega arith
outs-fit (c ∷ s) r h j =
    let later = outs-fit s (read_byte r c) (sound-byte r c h) in
    by_byte r c
    (λ e. subst (λ (vs : List ℕ). get_or vs j 0 < 65536) (sym (e.sample (outs (read_byte r c) s))) (fit-first r.value (outs (read_byte r c) s) (facts r h).value_in later j))
    (λ e. subst (λ (vs : List ℕ). get_or vs j 0 < 65536) (sym (e.sample (outs (read_byte r c) s))) (later j))

-- ---- lent memory

kept_byte : (r : Reader) (c : ℕ) (vs m : List ℕ) → kept_from (kept_by r c m) (read_byte r c).line vs ≡ kept_from m r.line (out r c vs)
unfolding kept_from
kept_byte r c vs m =
    by_byte r c
    (λ e.
    ap (λ (t : Reader). kept_from (kept_by r c m) t.line vs) e.next
    ∙ ap (λ (x : List ℕ). kept_from x (r.line + 1) vs) (e.left m)
    ∙ sym (ap (kept_from m r.line) (e.sample vs)))
    (λ e.
    ap (λ (i : ℕ). kept_from (kept_by r c m) i vs) e.line
    ∙ ap (λ (x : List ℕ). kept_from x r.line vs) (e.left m)
    ∙ sym (ap (kept_from m r.line) (e.sample vs)))

kept_from_lem : (s : List ℕ) (r : Reader) (m : List ℕ) → kept r s m ≡ kept_from m r.line (outs r s)
unfolding kept outs kept_from
kept_from_lem [] r m = refl
kept_from_lem (c ∷ s) r m = kept_from_lem s (read_byte r c) (kept_by r c m) ∙ kept_byte r c (outs (read_byte r c) s) m

-- ---- from the start

ended-with : (r : Reader) (vs : List ℕ) → r.line ≡ length vs → ended_with vs r ≡ ended r vs
ended-with r vs e = ap (λ (n : ℕ). elim (eqb r.column 0) [ true ↦ recorded n vs | false ↦ malformed r.line ]) (sym e)

start-line : (s : List ℕ) → (fed (reader_of 0) s).line ≡ length (outs (reader_of 0) s)
start-line s = let z : 0 + length (outs (reader_of 0) s) ≡ length (outs (reader_of 0) s) = omega arith in fed-line s (reader_of 0) ∙ z

by_bytes : (s m : List ℕ) → Told s m (fed (reader_of 0) s) (kept (reader_of 0) s m)
by_bytes s m = record {
  samples = outs (reader_of 0) s;
  told = recording-is s ∙ ended-with (fed (reader_of 0) s) (outs (reader_of 0) s) (start-line s);
  counted = start-line s;
  fit = outs-fit s (reader_of 0) start-sound;
  cells = ap cells_of (kept_from_lem s (reader_of 0) m) ∙ front-cells (outs (reader_of 0) s) m;
  odd = ap odd_byte (kept_from_lem s (reader_of 0) m) ∙ from-odd (outs (reader_of 0) s) m 0;
}

pub parts-tell : (s m : List ℕ) → PartsTell s m
parts-tell s m =
    let f = fed (reader_of 0) s in
    let h = sound-fed s (reader_of 0) start-sound in
    let back : reader_of (state_of f) ≡ f = reads-back f h in
    let entry = sym (entry-sound 0 m s start-sound) in
    record {
      by_bytes = by_bytes s m;
      by-entry = subst (λ (x : PartRead). Told s m (reader_of x.answer) x.samples) entry (subst (λ (r : Reader). Told s m r (kept (reader_of 0) s m)) (sym back) (by_bytes s m));
      state = subst (λ (x : PartRead). is_state x.answer ≡ true) entry (ap is_reader back ∙ h);
    }

-- ---- by what the recording is

front_at : (n : ℕ) (vs cs : List ℕ) (j : ℕ) → j < n → j < length vs → get_or (take n vs ++ cs) j 0 ≡ get_or vs j 0
front_at zero vs cs j h l = absurd (omega arith)
front_at (suc n) [] cs j h l = absurd (omega arith)
front_at (suc n) (v ∷ vs) cs zero h l = refl
front_at (suc n) (v ∷ vs) cs (suc j) h l = front_at n vs cs j (omega arith) (omega arith)

module _ {s m : List ℕ} {r : Reader} {left : List ℕ} (t : Told s m r left) where
  -- read to its end: the reader stands at the line after it, and the samples are its own
  pub whole-told : (n : ℕ) (vs : List ℕ) → recording s ≡ recorded n vs → (r.column ≡ 0) × (r.line ≡ n) × (n ≡ length vs) × (t.samples ≡ vs)
  whole-told n vs h = go (eqb r.column 0) refl (sym t.told ∙ h)
    where
      go : (b : Bool) → eqb r.column 0 ≡ b → elim b [ true ↦ recorded r.line t.samples | false ↦ malformed r.line ] ≡ recorded n vs
          → (r.column ≡ 0) × (r.line ≡ n) × (n ≡ length vs) × (t.samples ≡ vs)
      go true e q =
          let a : r.line ≡ n = cc in
          let b : t.samples ≡ vs = cc in
          (eqb-true r.column 0 e, a, sym a ∙ t.counted ∙ ap length b, b)
      go false e q = absurd (let z : ◌≡◌ {A = ℕ} 0 1 = cc in omega arith)

  -- malformed: the reader is at that line
  pub broken-told : (j : ℕ) → recording s ≡ malformed j → (r.column ≡ 0 → ⊥) × (r.line ≡ j)
  broken-told j h = go (eqb r.column 0) refl (sym t.told ∙ h)
    where
      go : (b : Bool) → eqb r.column 0 ≡ b → elim b [ true ↦ recorded r.line t.samples | false ↦ malformed r.line ] ≡ malformed j
          → (r.column ≡ 0 → ⊥) × (r.line ≡ j)
      go true e q = absurd (let z : ◌≡◌ {A = ℕ} 0 1 = cc in omega arith)
      go false e q = let a : r.line ≡ j = cc in (eqb-false r.column 0 e, a)

  -- the cells, one by one
  pub cell-told : (j : ℕ) → j < r.line → j < length m / 2 → get_or (cells_of left) j 0 ≡ get_or t.samples j 0
  cell-told j l h =
      ap (λ (cs : List ℕ). get_or cs j 0) t.cells
      ∙ front_at (length (cells_of m)) t.samples (drop (length t.samples) (cells_of m)) j (omega (arith, cells-length m)) (omega (arith, t.counted))
