-- The reader, fed a whole recording, ends with the rules' reading of it. Assumes nothing.
use mathlib.Core.Path.{◌≡◌, refl, sym, ap, subst, ◌∙◌}
use mathlib.Core.Bool.{Bool, true, false, ◌&&◌}
use mathlib.Core.Option.{none, some}
use mathlib.Core.List.{List, [], ◌∷◌, ◌++◌}
use Prim.Native.Nat.{ℕ, suc, ◌+◌, ◌*◌, ◌<◌}
use native.Mathlib.Omega.{arith}
use lib.Dec.{eqb, ltb}
use lib.ListN.{length}
use borrow.Author.Tests.{eqb-true, eqb-false, ltb-true, ltb-false, eq-eqb, ne_eqb}
use Rattle.rules.specs.Text.{value, Split, split, line_of}
use Rattle.rules.specs.Recordings.{sample_table, recording_lines, Recording, recorded, malformed, sample_before, recording_from, recording, Reader, reader, fits_at, fits, digits, read_byte, fed}
use Rattle.rules.proofs.Tells.{decided, clash}
use Rattle.rules.proofs.Readers.{byte-end, byte-on, byte-bad}
use Rattle.rules.proofs.Cuts.{bad-fed}
use Rattle.rules.proofs.SampleLines.{line, NoLf, split-lf, split-torn, first-line, digit-no-lf, other-opcode, sample-line, long-line, bad-first, bad-second, bad-third, bad-fourth, one_byte, empty-line, none-30, one-digit, two_digits, three-digits, either_end}

-- ---- the samples that bytes end

-- the one that a byte ends, before others
unfoldable pub out : Reader → ℕ → List ℕ → List ℕ
out r c vs = elim (fits r c && eqb r.column 6) [ true ↦ r.value ∷ vs | false ↦ vs ]

unfoldable pub outs : Reader → List ℕ → List ℕ
outs r [] = []
outs r (c ∷ s) = out r c (outs (read_byte r c) s)

module _ (r : Reader) (c : ℕ) where
  pub out-end : fits r c ≡ true → r.column ≡ 6 → (vs : List ℕ) → out r c vs ≡ r.value ∷ vs
  unfolding out
  out-end a b vs = rw (a, eq-eqb r.column 6 b, out)

  pub out-on : fits r c ≡ true → (r.column ≡ 6 → ⊥) → (vs : List ℕ) → out r c vs ≡ vs
  unfolding out
  out-on a b vs = rw (a, ne_eqb r.column 6 b, out)

  pub out-bad : fits r c ≡ false → (vs : List ℕ) → out r c vs ≡ vs
  unfolding out
  out-bad a vs = rw (a, out)

-- ---- what the reader ends with

abbrev pub ended_with : List ℕ → Reader → Recording
ended_with vs r = elim (eqb r.column 0) [ true ↦ recorded (length vs) vs | false ↦ malformed r.line ]

abbrev pub whole : Reader → List ℕ → Recording
whole r s = ended_with (outs r s) (fed r s)

ended-on : (v : ℕ) (vs : List ℕ) (r : Reader) (i : ℕ) → ended_with (v ∷ vs) r ≡ sample_before i (some v) (ended_with vs r)
ended-on v vs r i = decided (eqb r.column 0) (λ e. rw (e, ended_with)) (λ e. rw (e, ended_with))

module _ (r : Reader) (c : ℕ) (s : List ℕ) where
  whole-on : fits r c ≡ true → (r.column ≡ 6 → ⊥) → whole r (c ∷ s) ≡ whole (reader r.line (r.column + 1) (digits r.column r.value c)) s
  unfolding fed outs
  whole-on a b =
      ap (λ (vs : List ℕ). ended_with vs (fed (read_byte r c) s)) (out-on r c a b (outs (read_byte r c) s))
      ∙ ap (λ (t : Reader). whole t s) (byte-on r c a b)

  whole-end : fits r c ≡ true → r.column ≡ 6 → whole r (c ∷ s) ≡ sample_before r.line (some r.value) (whole (reader (r.line + 1) 0 0) s)
  unfolding fed outs
  whole-end a b =
      ap (λ (vs : List ℕ). ended_with vs (fed (read_byte r c) s)) (out-end r c a b (outs (read_byte r c) s))
      ∙ ap (λ (t : Reader). ended_with (r.value ∷ outs t s) (fed t s)) (byte-end r c a b)
      ∙ ended-on r.value (outs (reader (r.line + 1) 0 0) s) (fed (reader (r.line + 1) 0 0) s) r.line

  whole-bad : fits r c ≡ false → whole r (c ∷ s) ≡ malformed r.line
  unfolding fed
  whole-bad a = ap (ended_with (outs r (c ∷ s))) (ap (λ (t : Reader). fed t s) (byte-bad r c a) ∙ bad-fed s r.line)

-- ---- what a line has of it so far: k bytes, whose digits make v

data Partial : ℕ → ℕ → List ℕ → Type 0 where
  p0 : Partial 0 0 []
  p1 : Partial 1 0 (51 ∷ [])
  p2 : Partial 2 0 (51 ∷ 48 ∷ [])
  p3 : {v a : ℕ} → ltb (value a) 16 ≡ true → v ≡ value a → Partial 3 v (51 ∷ 48 ∷ a ∷ [])
  p4 : {v a b : ℕ} → ltb (value a) 16 ≡ true → ltb (value b) 16 ≡ true → v ≡ value a * 16 + value b → Partial 4 v (51 ∷ 48 ∷ a ∷ b ∷ [])
  p5 : {v a b c : ℕ} → ltb (value a) 16 ≡ true → ltb (value b) 16 ≡ true → ltb (value c) 16 ≡ true → v ≡ value a * 256 + value b * 16 + value c
      → Partial 5 v (51 ∷ 48 ∷ a ∷ b ∷ c ∷ [])
  p6 : {v a b c d : ℕ} → ltb (value a) 16 ≡ true → ltb (value b) 16 ≡ true → ltb (value c) 16 ≡ true → ltb (value d) 16 ≡ true
      → v ≡ value a * 4096 + value b * 256 + value c * 16 + value d → Partial 6 v (51 ∷ 48 ∷ a ∷ b ∷ c ∷ d ∷ [])

no-lf : {k v : ℕ} {t : List ℕ} → Partial k v t → NoLf t
unfolding NoLf
no-lf p0 = tt
no-lf p1 = (refl, tt)
no-lf p2 = (refl, (refl, tt))
no-lf (p3 {a = a} x e) = (refl, (refl, (digit-no-lf a x, tt)))
no-lf (p4 {a = a} {b = b} x y e) = (refl, (refl, (digit-no-lf a x, (digit-no-lf b y, tt))))
no-lf (p5 {a = a} {b = b} {c = c} x y z e) = (refl, (refl, (digit-no-lf a x, (digit-no-lf b y, (digit-no-lf c z, tt)))))
no-lf (p6 {a = a} {b = b} {c = c} {d = d} x y z w e) = (refl, (refl, (digit-no-lf a x, (digit-no-lf b y, (digit-no-lf c z, (digit-no-lf d w, tt))))))

-- another byte than the one that may stand there: the line is malformed however it goes on
goes-wrong : {k v : ℕ} {t : List ℕ} → Partial k v t → (c : ℕ) (u : List ℕ) → fits_at k c ≡ false → line_of sample_table (line (t ++ c ∷ u) true) ≡ none
unfolding fits_at
goes-wrong p0 c [] h = one_byte c
goes-wrong p0 c (y ∷ u) h = other-opcode c y u (λ e f. eqb-false c 51 h e)
goes-wrong p1 c u h = other-opcode 51 c u (λ e f. eqb-false c 48 h f)
goes-wrong p2 c u h = bad-first c u h
goes-wrong (p3 {a = a} x e) c u h = bad-second a c u h
goes-wrong (p4 {a = a} {b = b} x y e) c u h = bad-third a b c u h
goes-wrong (p5 {a = a} {b = b} {c = d} x y z e) c u h = bad-fourth a b d c u h
goes-wrong (p6 {a = a} {b = b} {c = d} {d = f} x y z w e) c u h = long-line a b d f c u

ends-early : {k v : ℕ} {t : List ℕ} → Partial k v t → fits_at k 10 ≡ false → line_of sample_table (line t true) ≡ none
unfolding fits_at
ends-early p0 h = empty-line
ends-early p1 h = one_byte 51
ends-early p2 h = none-30
ends-early (p3 {a = a} x e) h = one-digit a
ends-early (p4 {a = a} {b = b} x y e) h = two_digits a b
ends-early (p5 {a = a} {b = b} {c = c} x y z e) h = three-digits a b c
ends-early (p6 x y z w e) h = clash refl h

-- ---- the rules' side

bad-line : (i : ℕ) (l : Split) (ls : List Split) → line_of sample_table l ≡ none → recording_from i (l ∷ ls) ≡ malformed i
unfolding recording_from
bad-line i l ls e = decided (eqb i recording_lines) (λ a. rw (a, recording_from)) (λ a. rw (a, e, recording_from))

good-line : (i v : ℕ) (l : Split) (ls : List Split) → i < 4294967295 → line_of sample_table l ≡ some v → recording_from i (l ∷ ls) ≡ sample_before i (some v) (recording_from (suc i) ls)
unfolding recording_from
good-line i v l ls h e =
    let a : eqb i recording_lines ≡ false = ne_eqb i 4294967295 (λ q. omega (arith, q)) in
    rw (a, e, recording_from)

late-line : (l : Split) (ls : List Split) → recording_from 4294967295 (l ∷ ls) ≡ malformed 4294967295
unfolding recording_from
late-line l ls = refl

wrong : {k v : ℕ} {t : List ℕ} → Partial k v t → (i c : ℕ) (s : List ℕ) → fits_at k c ≡ false → recording_from i (split (t ++ c ∷ s)) ≡ malformed i
wrong {k} {v} {t} p i c s h =
    decided (eqb c 10)
    (λ e.
    let q = eqb-true c 10 e in
    ap (λ (x : ℕ). recording_from i (split (t ++ x ∷ s))) q
    ∙ ap (recording_from i) (split-lf t s (no-lf p))
    ∙ bad-line i (line t true) (split s) (ends-early p (subst (λ (x : ℕ). fits_at k x ≡ false) q h)))
    (λ e.
    let f = first-line t c s (no-lf p) e in
    ap (recording_from i) f.is
    ∙ bad-line i (line (t ++ c ∷ f.more) f.ended) f.rest (either_end (t ++ c ∷ f.more) f.ended (goes-wrong p c f.more h)))

torn-line : (i c : ℕ) (t : List ℕ) → NoLf (c ∷ t) → recording_from i (split (c ∷ t)) ≡ malformed i
unfolding line_of
torn-line i c t n = ap (recording_from i) (split-torn c t n) ∙ bad-line i (line (c ∷ t) false) [] refl

torn : {k v : ℕ} {t : List ℕ} → Partial k v t → (i : ℕ) → recording_from i (split (t ++ [])) ≡ ended_with [] (reader i k v)
unfolding recording_from split
torn p0 i = refl
torn p1 i = torn-line i _ _ (no-lf p1)
torn p2 i = torn-line i _ _ (no-lf p2)
torn (p3 x e) i = torn-line i _ _ (no-lf (p3 x e))
torn (p4 x y e) i = torn-line i _ _ (no-lf (p4 x y e))
torn (p5 x y z e) i = torn-line i _ _ (no-lf (p5 x y z e))
torn (p6 x y z w e) i = torn-line i _ _ (no-lf (p6 x y z w e))

-- line 4,294,967,295
late : (s : List ℕ) → recording_from 4294967295 (split s) ≡ whole (reader 4294967295 0 0) s
unfolding recording_from split fed outs NoLf
late [] = refl
late (c ∷ s) =
    decided (eqb c 10)
    (λ e. ap (λ (x : ℕ). recording_from 4294967295 (split (x ∷ s))) (eqb-true c 10 e) ∙ late-line (line [] true) (split s))
    (λ e. let f = first-line [] c s tt e in ap (recording_from 4294967295) f.is ∙ late-line (line ([] ++ c ∷ f.more) f.ended) f.rest)
    ∙ sym (whole-bad (reader 4294967295 0 0) c s refl)

-- ---- all bytes

fits-at : (i k v c : ℕ) → i < 4294967295 → (b : Bool) → fits_at k c ≡ b → fits (reader i k v) c ≡ b
fits-at i k v c h b e = let n : eqb i 4294967295 ≡ false = ne_eqb i 4294967295 (λ q. omega (arith, q)) in rw (n, fits) e

abbrev Reads : List ℕ → Type 0
Reads s = (i k v : ℕ) (t : List ℕ) → i < 4294967295 → Partial k v t → recording_from i (split (t ++ s)) ≡ whole (reader i k v) s

one : (i : ℕ) → suc i ≡ i + 1
one i = omega arith

on : (s : List ℕ) → Reads s → (c i k v : ℕ) (t : List ℕ) → i < 4294967295 → Partial k v t → fits_at k c ≡ true → recording_from i (split (t ++ c ∷ s)) ≡ whole (reader i k v) (c ∷ s)
unfolding fits_at
on s ih c i _ _ _ l p0 h =
    let e = eqb-true c 51 h in
    ap (λ (x : ℕ). recording_from i (split (x ∷ s))) e
    ∙ ih i 1 0 (51 ∷ []) l p1
    ∙ sym (whole-on (reader i 0 0) c s (fits-at i 0 0 c l true h) (λ q. omega (arith, q)))
on s ih c i _ _ _ l p1 h =
    let e = eqb-true c 48 h in
    ap (λ (x : ℕ). recording_from i (split (51 ∷ x ∷ s))) e
    ∙ ih i 2 0 (51 ∷ 48 ∷ []) l p2
    ∙ sym (whole-on (reader i 1 0) c s (fits-at i 1 0 c l true h) (λ q. omega (arith, q)))
on s ih c i _ _ _ l p2 h =
    ih i 3 (0 * 16 + value c) (51 ∷ 48 ∷ c ∷ []) l (p3 h (omega arith))
    ∙ sym (whole-on (reader i 2 0) c s (fits-at i 2 0 c l true h) (λ q. omega (arith, q)))
on s ih c i _ v _ l (p3 {a = a} x e) h =
    ih i 4 (v * 16 + value c) (51 ∷ 48 ∷ a ∷ c ∷ []) l (p4 x h (omega (arith, e)))
    ∙ sym (whole-on (reader i 3 v) c s (fits-at i 3 v c l true h) (λ q. omega (arith, q)))
on s ih c i _ v _ l (p4 {a = a} {b = b} x y e) h =
    ih i 5 (v * 16 + value c) (51 ∷ 48 ∷ a ∷ b ∷ c ∷ []) l (p5 x y h (omega (arith, e)))
    ∙ sym (whole-on (reader i 4 v) c s (fits-at i 4 v c l true h) (λ q. omega (arith, q)))
on s ih c i _ v _ l (p5 {a = a} {b = b} {c = d} x y z e) h =
    ih i 6 (v * 16 + value c) (51 ∷ 48 ∷ a ∷ b ∷ d ∷ c ∷ []) l (p6 x y z h (omega (arith, e)))
    ∙ sym (whole-on (reader i 5 v) c s (fits-at i 5 v c l true h) (λ q. omega (arith, q)))
on s ih c i _ v t l (p6 {a = a} {b = b} {c = d} {d = f} x y z w e) h =
    ap (λ (x : ℕ). recording_from i (split (t ++ x ∷ s))) (eqb-true c 10 h)
    ∙ ap (recording_from i) (split-lf t s (no-lf (p6 x y z w e)))
    ∙ good-line i v (line t true) (split s) l (sample-line a b d f x y z w ∙ ap some (sym e))
    ∙ ap (sample_before i (some v)) (next (ltb (suc i) 4294967295) refl)
    ∙ ap (λ (j : ℕ). sample_before i (some v) (whole (reader j 0 0) s)) (one i)
    ∙ sym (whole-end (reader i 6 v) c s (fits-at i 6 v c l true h) refl)
  where
    next : (b : Bool) → ltb (suc i) 4294967295 ≡ b → recording_from (suc i) (split s) ≡ whole (reader (suc i) 0 0) s
    next true q = ih (suc i) 0 0 [] (ltb-true (suc i) 4294967295 q) p0
    next false q =
        let m : suc i ≡ 4294967295 = omega (arith, ltb-false (suc i) 4294967295 q, l) in
        subst (λ (j : ℕ). recording_from j (split s) ≡ whole (reader j 0 0) s) (sym m) (late s)

reads : (s : List ℕ) → Reads s
unfolding fed outs
reads [] i k v t l p = torn p i
reads (c ∷ s) i k v t l p =
    decided (fits_at k c)
    (on s (reads s) c i k v t l p)
    (λ h. wrong p i c s h ∙ sym (whole-bad (reader i k v) c s (fits-at i k v c l false h)))

pub recording-is : (s : List ℕ) → recording s ≡ whole (reader 0 0 0) s
unfolding recording
recording-is s = reads s 0 0 0 [] (omega arith) p0
