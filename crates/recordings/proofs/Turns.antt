-- The bytes of a part from a place on: one byte, or a whole line at once. Assumes nothing.
use mathlib.Core.Path.{◌≡◌, refl, sym, ap, subst, ◌∙◌}
use mathlib.Core.Bool.{true, false}
use mathlib.Core.List.{List, ◌∷◌}
use Prim.Native.Nat.{ℕ, ◌+◌, ◌*◌, ◌≤◌, ◌<◌}
use native.Mathlib.Omega.{arith}
use native.Mathlib.Numerals.{add-one}
use lib.Dec.{eqb, ltb}
use lib.ListN.{length, get_or, drop, drop_of_length-le}
use lib.Seq.{drop-cons}
use borrow.Author.Tests.{eqb-false, lt-ltb}
use Rattle.rules.specs.Text.{value}
use Rattle.rules.specs.Recordings.{Reader, reader, fits_at, digits, read_byte, kept_at, kept_by, fed, kept, limit}
use Rattle.rules.proofs.Readers.{Sound, facts, kept-end, kept_on, fits_in, byte-in, byte_last, sound-byte}
use Rattle.rules.proofs.Cuts.{bad-fed, bad-kept}
use Rattle.text.specs.Lines.{FourDigits}
use Rattle.recordings.specs.Reading.{WholeLine, Same, Turned}

-- ---- the same

pub same_here : (r : Reader) (s m : List ℕ) → Same r s m r s m
same_here r s m = record { fed-same = refl; kept_same = refl }

pub same_then : {r n u : Reader} {s m t m' w m'' : List ℕ} → Same r s m n t m' → Same n t m' u w m'' → Same r s m u w m''
same_then a b = record { fed-same = a.fed-same ∙ b.fed-same; kept_same = a.kept_same ∙ b.kept_same }

same_byte : (r : Reader) (c : ℕ) (s m : List ℕ) → Same r (c ∷ s) m (read_byte r c) s (kept_by r c m)
unfolding fed kept
same_byte r c s m = record { fed-same = refl; kept_same = refl }

as_byte : (r : Reader) (c : ℕ) (s m : List ℕ) (n : Reader) (m' : List ℕ) → read_byte r c ≡ n → kept_by r c m ≡ m' → Same r (c ∷ s) m n s m'
as_byte r c s m n m' e f =
    subst (λ (x : Reader). Same r (c ∷ s) m x s m') e (subst (λ (x : List ℕ). Same r (c ∷ s) m (read_byte r c) s x) f (same_byte r c s m))

-- ---- a whole line, by its bytes

module _ (i : ℕ) (l : i < 4294967295) where
  on : (k v c : ℕ) (s m : List ℕ) → fits_at k c ≡ true → eqb k 6 ≡ false → Same (reader i k v) (c ∷ s) m (reader i (k + 1) (digits k v c)) s m
  on k v c s m e f =
      as_byte (reader i k v) c s m _ _ (byte-in i l k v c e f) (kept_on (reader i k v) c (fits_in i l k v c e) (eqb-false k 6 f) m)

  line-end : (v : ℕ) (s m : List ℕ) → Same (reader i 6 v) (10 ∷ s) m (reader (i + 1) 0 0) s (kept_at m i v)
  unfolding fits_at
  line-end v s m =
      as_byte (reader i 6 v) 10 s m _ _ (byte_last i l v) (kept-end (reader i 6 v) 10 (fits_in i l 6 v 10 refl) refl m)

  digit-on : (k v c : ℕ) (s m : List ℕ) → fits_at k c ≡ ltb (value c) 16 → eqb k 6 ≡ false → value c < 16 → Same (reader i k v) (c ∷ s) m (reader i (k + 1) (digits k v c)) s m
  digit-on k v c s m e f h = on k v c s m (e ∙ lt-ltb (value c) 16 h) f

  line_on : (w a b c d v : ℕ) (s m : List ℕ) → FourDigits a b c d v → Same (reader i 0 w) (51 ∷ 48 ∷ a ∷ b ∷ c ∷ d ∷ 10 ∷ s) m (reader (i + 1) 0 0) s (kept_at m i v)
  unfolding fits_at
  line_on w a b c d v s m h =
      let u : ℕ = (((0 * 16 + value a) * 16 + value b) * 16 + value c) * 16 + value d in
      let e : (((0 * 16 + value a) * 16 + value b) * 16 + value c) * 16 + value d ≡ v = omega (arith, h.number) in
      same_then (on 0 w 51 _ m refl refl)
      (same_then (on 1 0 48 _ m refl refl)
      (same_then (digit-on 2 0 a _ m refl refl h.first)
      (same_then (digit-on 3 _ b _ m refl refl h.second)
      (same_then (digit-on 4 _ c _ m refl refl h.third)
      (same_then (digit-on 5 _ d _ m refl refl h.fourth)
      (subst (λ (x : ℕ). Same (reader i 6 u) (10 ∷ s) m (reader (i + 1) 0 0) s (kept_at m i x)) e (line-end u s m)))))))

-- ---- from place p on

here : (part : List ℕ) (p q : ℕ) → q ≡ p + 1 → p < length part → drop p part ≡ get_or part p 0 ∷ drop q part
here part p q e l = rw add-one (drop-cons part p 0 l) ∙ ap (λ (x : ℕ). get_or part p 0 ∷ drop x part) (sym e)

pub byte-turn : (part : List ℕ) (p : ℕ) (r : Reader) (m : List ℕ) (n : Reader) (m' : List ℕ) → p < length part → Sound r
    → n ≡ read_byte r (get_or part p 0) → m' ≡ kept_by r (get_or part p 0) m → Turned part p r m n (p + 1) m'
byte-turn part p r m n m' l h e f = record {
  forward = omega arith;
  within = omega arith;
  sound = subst Sound (sym e) (sound-byte r (get_or part p 0) h);
  same = subst (λ (s : List ℕ). Same r s m n (drop (p + 1) part) m') (sym (here part p (p + 1) refl l)) (as_byte r (get_or part p 0) (drop (p + 1) part) m n m' (sym e) (sym f));
}

seven : (part : List ℕ) (p v : ℕ) → p + 7 ≤ length part → WholeLine part p v
    → drop p part ≡ 51 ∷ 48 ∷ get_or part (p + 2) 0 ∷ get_or part (p + 3) 0 ∷ get_or part (p + 4) 0 ∷ get_or part (p + 5) 0 ∷ 10 ∷ drop (p + 7) part
seven part p v l w =
    here part p (p + 1) refl (omega arith)
    ∙ ap (λ (s : List ℕ). get_or part p 0 ∷ s) (here part (p + 1) (p + 2) (omega arith) (omega arith))
    ∙ ap (λ (s : List ℕ). get_or part p 0 ∷ get_or part (p + 1) 0 ∷ s) (here part (p + 2) (p + 3) (omega arith) (omega arith))
    ∙ ap (λ (x : ℕ). x ∷ get_or part (p + 1) 0 ∷ get_or part (p + 2) 0 ∷ drop (p + 3) part) w.three
    ∙ ap (λ (x : ℕ). 51 ∷ x ∷ get_or part (p + 2) 0 ∷ drop (p + 3) part) w.naught
    ∙ ap (λ (s : List ℕ). 51 ∷ 48 ∷ get_or part (p + 2) 0 ∷ s) rest
  where
    last : drop (p + 6) part ≡ 10 ∷ drop (p + 7) part
    last = here part (p + 6) (p + 7) (omega arith) (omega arith) ∙ ap (λ (x : ℕ). x ∷ drop (p + 7) part) w.lf

    rest : drop (p + 3) part ≡ get_or part (p + 3) 0 ∷ get_or part (p + 4) 0 ∷ get_or part (p + 5) 0 ∷ 10 ∷ drop (p + 7) part
    rest =
        here part (p + 3) (p + 4) (omega arith) (omega arith)
        ∙ ap (λ (s : List ℕ). get_or part (p + 3) 0 ∷ s) (here part (p + 4) (p + 5) (omega arith) (omega arith))
        ∙ ap (λ (s : List ℕ). get_or part (p + 3) 0 ∷ get_or part (p + 4) 0 ∷ s) (here part (p + 5) (p + 6) (omega arith) (omega arith))
        ∙ ap (λ (s : List ℕ). get_or part (p + 3) 0 ∷ get_or part (p + 4) 0 ∷ get_or part (p + 5) 0 ∷ s) last

pub line_same : (part : List ℕ) (p i v : ℕ) (m : List ℕ) → i < 4294967295 → p + 7 ≤ length part → WholeLine part p v
    → Same (reader i 0 0) (drop p part) m (reader (i + 1) 0 0) (drop (p + 7) part) (kept_at m i v)
line_same part p i v m l w h =
    subst (λ (s : List ℕ). Same (reader i 0 0) s m (reader (i + 1) 0 0) (drop (p + 7) part) (kept_at m i v)) (sym (seven part p v w h))
    (line_on i l 0 _ _ _ _ v (drop (p + 7) part) m h.sample)

-- a malformed line stays as it is: the rest is passed over
pub bad-turn : (part : List ℕ) (p : ℕ) (r : Reader) (m : List ℕ) → p < length part → Sound r → r.column ≡ 7 → Turned part p r m r (length part) m
unfolding fed kept limit
bad-turn part p r m l h e = record { forward = l; within = omega arith; sound = h; same = subst Stays (sym is) stays }
  where
    below : r.value < limit 7
    below = subst (λ (k : ℕ). r.value < limit k) e (facts r h).below

    none : r.value ≡ 0
    none = let b : r.value < 1 = below in omega (arith, b)

    is : r ≡ reader r.line 7 0
    is = λ u. record { line = r.line; column = e u; value = none u }

    Stays : Reader → Type 0
    Stays n = Same n (drop p part) m n (drop (length part) part) m

    stays : Stays (reader r.line 7 0)
    stays = record {
      fed-same = bad-fed (drop p part) r.line ∙ sym (bad-fed (drop (length part) part) r.line);
      kept_same = bad-kept (drop p part) r.line m ∙ sym (bad-kept (drop (length part) part) r.line m);
    }

-- ---- at the end

module _ (r n : Reader) (part m m' : List ℕ) (p : ℕ) (h : Same r part m n (drop p part) m') (l : length part ≤ p) where
  pub end-fed : n ≡ fed r part
  unfolding fed
  end-fed = sym (h.fed-same ∙ ap (fed n) (drop_of_length-le part {i = p} l))

  pub end_kept : m' ≡ kept r part m
  unfolding kept
  end_kept = sym (h.kept_same ∙ ap (λ (s : List ℕ). kept n s m') (drop_of_length-le part {i = p} l))
