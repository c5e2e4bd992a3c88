-- `words` and `raw` of a text whose length and digits are known. Assumes nothing.
use mathlib.Core.Path.{◌≡◌, refl, sym, ap, ◌∙◌}
use mathlib.Core.Bool.{Bool, true, false}
use mathlib.Core.Option.{Option, none, some}
use mathlib.Core.List.{List, [], ◌∷◌}
use Prim.Native.Nat.{ℕ, zero, suc, ◌+◌, ◌*◌, ◌/◌, ◌%◌, ◌≤◌, ◌<◌, ◌-◌}
use native.Mathlib.Omega.{arith}
use lib.Dec.{ltb}
use lib.ListN.{length, get_or, drop, length-drop, get_or-eq_default}
use lib.Seq.{get_or-drop}
use borrow.Author.Tests.{ltb-true, lt-ltb}
use Rattle.rules.specs.Text.{value, word, words, both, raw}
use Rattle.text.specs.Lines.{word_at}

tf : true ≡ false → ⊥
tf e = let z : ◌≡◌ {A = ℕ} 0 1 = cc in omega arith

unfoldable pub all_hex : List ℕ → Bool
all_hex [] = true
all_hex (c ∷ l) = elim (ltb (value c) 16) [ true ↦ all_hex l | false ↦ false ]

-- all digits of the first, and of the rest
pub hex-head : (c : ℕ) (l : List ℕ) → all_hex (c ∷ l) ≡ true → value c < 16
unfolding all_hex
hex-head c l e = go (ltb (value c) 16) refl
  where
    go : (b : Bool) → ltb (value c) 16 ≡ b → value c < 16
    go true p = ltb-true _ _ p
    go false p = absurd (tf (sym (rw (p, all_hex) at e)))

pub hex-tail : (c : ℕ) (l : List ℕ) → all_hex (c ∷ l) ≡ true → all_hex l ≡ true
unfolding all_hex
hex-tail c l e = rw (lt-ltb _ _ (hex-head c l e), all_hex) at e

pub hex-at : (l : List ℕ) → all_hex l ≡ true → (k : ℕ) → k < length l → value (get_or l k 0) < 16
hex-at [] h k b = absurd (omega arith)
hex-at (c ∷ l) h zero b = hex-head c l h
hex-at (c ∷ l) h (suc k) b = hex-at l (hex-tail c l h) k (omega arith)

pub hex-all : (l : List ℕ) → ((k : ℕ) → k < length l → value (get_or l k 0) < 16) → all_hex l ≡ true
unfolding all_hex
hex-all [] h = refl
hex-all (c ∷ l) h = rw (lt-ltb _ _ (h 0 (omega arith)), all_hex, hex-all l (λ k b. h (suc k) (omega arith)))

then-none : (o : Option ℕ) → both o none ≡ none
then-none none = refl
then-none (some n) = refl

unfoldable pub chunks : List ℕ → List ℕ
chunks [] = []
chunks (a ∷ []) = []
chunks (a ∷ b ∷ []) = []
chunks (a ∷ b ∷ c ∷ []) = []
chunks (a ∷ b ∷ c ∷ d ∷ l) = (value a * 4096 + value b * 256 + value c * 16 + value d) ∷ chunks l

pub words-odd : (l : List ℕ) → (length l % 4 ≡ 0 → ⊥) → words l ≡ none
unfolding words
words-odd [] h = absurd (h refl)
words-odd (a ∷ []) h = refl
words-odd (a ∷ b ∷ []) h = refl
words-odd (a ∷ b ∷ c ∷ []) h = refl
words-odd (a ∷ b ∷ c ∷ d ∷ l) h = ap (both (word a b c d)) (words-odd l (λ e. h (omega arith))) ∙ then-none (word a b c d)

pub words-ok : (l : List ℕ) → all_hex l ≡ true → length l % 4 ≡ 0 → words l ≡ some (chunks l)
unfolding words chunks word
words-ok [] h m = refl
words-ok (a ∷ []) h m = absurd (omega arith)
words-ok (a ∷ b ∷ []) h m = absurd (omega arith)
words-ok (a ∷ b ∷ c ∷ []) h m = absurd (omega arith)
words-ok (a ∷ b ∷ c ∷ d ∷ l) h m =
    let h1 = hex-tail a (b ∷ c ∷ d ∷ l) h in
    let h2 = hex-tail b (c ∷ d ∷ l) h1 in
    let h3 = hex-tail c (d ∷ l) h2 in
    rw (
      lt-ltb _ _ (hex-head a (b ∷ c ∷ d ∷ l) h),
      lt-ltb _ _ (hex-head b (c ∷ d ∷ l) h1),
      lt-ltb _ _ (hex-head c (d ∷ l) h2),
      lt-ltb _ _ (hex-head d l h3),
      word,
      words-ok l (hex-tail d l h3) (omega arith),
    )

pub words-bad : (l : List ℕ) → all_hex l ≡ false → words l ≡ none
unfolding words all_hex word
words-bad [] h = absurd (tf h)
words-bad (a ∷ []) h = refl
words-bad (a ∷ b ∷ []) h = refl
words-bad (a ∷ b ∷ c ∷ []) h = refl
words-bad (a ∷ b ∷ c ∷ d ∷ l) h = go (ltb (value a) 16) (ltb (value b) 16) (ltb (value c) 16) (ltb (value d) 16) refl refl refl refl (λ e. words-bad l e)
  where
    go : (w x y z : Bool) → ltb (value a) 16 ≡ w → ltb (value b) 16 ≡ x → ltb (value c) 16 ≡ y → ltb (value d) 16 ≡ z → (all_hex l ≡ false → words l ≡ none)
        → both (word a b c d) (words l) ≡ none
    go true true true true p q r t ih = ap (both (word a b c d)) (ih (rw (p, q, r, t, all_hex) at h)) ∙ then-none (word a b c d)
    go true true true false p q r t ih = rw (p, q, r, t, word)
    go true true false z p q r t ih = rw (p, q, r, word)
    go true false y z p q r t ih = rw (p, q, word)
    go false x y z p q r t ih = rw (p, word)

pub chunks-length : (l : List ℕ) → length l % 4 ≡ 0 → length (chunks l) ≡ length l / 4
unfolding chunks
chunks-length [] m = refl
chunks-length (a ∷ []) m = absurd (omega arith)
chunks-length (a ∷ b ∷ []) m = absurd (omega arith)
chunks-length (a ∷ b ∷ c ∷ []) m = absurd (omega arith)
chunks-length (a ∷ b ∷ c ∷ d ∷ l) m = omega (arith, chunks-length l (omega arith))

-- ---- a whole line

pub raw-short : (t : List ℕ) → length t < 2 → raw t ≡ none
unfolding raw
raw-short [] h = refl
raw-short (a ∷ []) h = refl
raw-short (a ∷ b ∷ l) h = absurd (omega arith)

pub raw-odd : (t : List ℕ) → 2 ≤ length t → ((length t - 2) % 4 ≡ 0 → ⊥) → raw t ≡ none
unfolding raw
raw-odd [] k h = refl
raw-odd (a ∷ []) k h = refl
raw-odd (a ∷ b ∷ l) k h = go (word 48 48 a b) refl
  where
    go : (o : Option ℕ) → word 48 48 a b ≡ o → raw (a ∷ b ∷ l) ≡ none
    go none e = rw (e, raw)
    go (some n) e = rw (e, raw, words-odd l (λ q. h (omega arith)))

zeros : value 48 ≡ 0
unfolding value
zeros = refl

byte : (a b : ℕ) → value a < 16 → value b < 16 → word 48 48 a b ≡ some (value a * 16 + value b)
unfolding word
byte a b h k =
    rw (zeros, lt-ltb (value a) 16 h, lt-ltb (value b) 16 k, word) (ap some (omega (arith, zeros)))

pub raw-bad : (t : List ℕ) → all_hex t ≡ false → raw t ≡ none
unfolding raw all_hex word value
raw-bad [] h = refl
raw-bad (a ∷ []) h = refl
raw-bad (a ∷ b ∷ l) h = go (ltb (value a) 16) (ltb (value b) 16) refl refl
  where
    on : (o : Option ℕ) → word 48 48 a b ≡ o → words l ≡ none → raw (a ∷ b ∷ l) ≡ none
    on none e q = rw (e, raw)
    on (some n) e q = rw (e, raw, q)

    no : word 48 48 a b ≡ none → raw (a ∷ b ∷ l) ≡ none
    no e = rw (e, raw)

    go : (x y : Bool) → ltb (value a) 16 ≡ x → ltb (value b) 16 ≡ y → raw (a ∷ b ∷ l) ≡ none
    go true true p q = on (word 48 48 a b) refl (words-bad l (rw (p, q, all_hex) at h))
    go true false p q = no (rw (p, q, word))
    go false y p q = no (rw (p, word))

-- the first two operands, 0 where there are fewer
first_chunk : (l : List ℕ) → 4 ≤ length l → get_or (chunks l) 0 0 ≡ word_at l 0
unfolding chunks
first_chunk [] h = absurd (omega arith)
first_chunk (a ∷ []) h = absurd (omega arith)
first_chunk (a ∷ b ∷ []) h = absurd (omega arith)
first_chunk (a ∷ b ∷ c ∷ []) h = absurd (omega arith)
first_chunk (a ∷ b ∷ c ∷ d ∷ l) h = refl

second-chunk : (l : List ℕ) → 8 ≤ length l → get_or (chunks l) 1 0 ≡ word_at l 4
unfolding chunks
second-chunk [] h = absurd (omega arith)
second-chunk (a ∷ []) h = absurd (omega arith)
second-chunk (a ∷ b ∷ []) h = absurd (omega arith)
second-chunk (a ∷ b ∷ c ∷ []) h = absurd (omega arith)
second-chunk (a ∷ b ∷ c ∷ d ∷ l) h = first_chunk l (omega arith)

-- the raw line of digits
abbrev pub code_at : List ℕ → ℕ
code_at t = value (get_or t 0 0) * 16 + value (get_or t 1 0)

abbrev pub operand_at : List ℕ → ℕ → ℕ
operand_at t j = get_or (chunks (drop 2 t)) j 0

pub raw-whole : (t : List ℕ) → 2 ≤ length t → all_hex t ≡ true → (length t - 2) % 4 ≡ 0 → raw t ≡ some (record { opcode = code_at t; operands = chunks (drop 2 t) })
unfolding raw
raw-whole [] k h m = absurd (omega arith)
raw-whole (a ∷ []) k h m = absurd (omega arith)
raw-whole (a ∷ b ∷ l) k h m =
    let h1 = hex-tail a (b ∷ l) h in
    let eb = byte a b (hex-head a (b ∷ l) h) (hex-head b l h1) in
    let ew = words-ok l (hex-tail b l h1) (omega arith) in
    rw (eb, ew, raw)

pub operands-count : (t : List ℕ) → (length t - 2) % 4 ≡ 0 → length (chunks (drop 2 t)) ≡ (length t - 2) / 4
operands-count t m = omega (arith, length-drop 2 t, chunks-length (drop 2 t) (omega (arith, length-drop 2 t)))

-- an operand that the line hasn't
pub operand-none : (t : List ℕ) (j : ℕ) → (length t - 2) % 4 ≡ 0 → (length t - 2) / 4 ≤ j → operand_at t j ≡ 0
operand-none t j m h = get_or-eq_default (chunks (drop 2 t)) 0 {n = j} (omega (arith, operands-count t m))

pub operand-first : (t : List ℕ) → 6 ≤ length t → operand_at t 0 ≡ word_at t 2
operand-first t h = simp get_or-drop at (first_chunk (drop 2 t) (omega (arith, length-drop 2 t)))

pub operand-second : (t : List ℕ) → 10 ≤ length t → operand_at t 1 ≡ word_at t 6
operand-second t h = simp get_or-drop at (second-chunk (drop 2 t) (omega (arith, length-drop 2 t)))
