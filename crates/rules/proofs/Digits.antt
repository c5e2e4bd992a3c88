-- Numbers written in digits read back, and whatever is read fits its digits. Assumes nothing.
use mathlib.Core.Path.{◌≡◌, refl, ap, subst}
use mathlib.Core.Bool.{Bool, true, false}
use mathlib.Core.Option.{Option, none, some}
use mathlib.Core.List.{List, [], ◌∷◌, ◌++◌}
use Prim.Native.Nat.{ℕ, ◌+◌, ◌*◌, ◌/◌, ◌%◌, ◌<◌}
use native.Mathlib.Omega.{arith}
use lib.Dec.{eqb, ltb}
use borrow.Author.Tests.{eqb-true, ltb-true, lt-ltb}
use Rattle.rules.specs.Notation.{all_below}
use Rattle.rules.specs.Text.{digit, value, word, words, hex2, hex4, hexes, both, Raw, raw}
use Rattle.rules.proofs.Chains.{none-some}
use Rattle.rules.proofs.Tells.{tells-true, tells-below}

-- ---- written

pub value-digit : (n : ℕ) → n < 16 → value (digit n) ≡ n
unfolding value digit all_below
value-digit n h = eqb-true (value (digit n)) n ((tells-below {f = λ k. eqb (value (digit k)) k} 16 (λ k _. tells-true _)).holds refl n h)

word-digits : (n : ℕ) → n < 65536 → word (digit (n / 4096)) (digit (n / 256 % 16)) (digit (n / 16 % 16)) (digit (n % 16)) ≡ some n
unfolding word
word-digits n h =
    let a = value-digit (n / 4096) (omega arith) in
    let b = value-digit (n / 256 % 16) (omega arith) in
    let c = value-digit (n / 16 % 16) (omega arith) in
    let d = value-digit (n % 16) (omega arith) in
    rw (a, b, c, d, lt-ltb (n / 4096) 16 (omega arith), lt-ltb (n / 256 % 16) 16 (omega arith), lt-ltb (n / 16 % 16) 16 (omega arith), lt-ltb (n % 16) 16 (omega arith), word)
    (ap some (omega arith))

opcode-digits : (o : ℕ) → o < 256 → word 48 48 (digit (o / 16)) (digit (o % 16)) ≡ some o
unfolding digit
opcode-digits o h =
    let a : o / 4096 ≡ 0 = omega arith in
    let b : o / 256 % 16 ≡ 0 = omega arith in
    let c : o / 16 % 16 ≡ o / 16 = omega arith in
    rw (a, b, c) at (word-digits o (omega arith))

-- operands that fit four digits each
pub data Fit : List ℕ → Type 0 where
  fit-nil : Fit []
  fit : {a : ℕ} {l : List ℕ} → a < 65536 → Fit l → Fit (a ∷ l)

words-hexes : {l : List ℕ} → Fit l → words (hexes l) ≡ some l
unfolding words hexes hex4
words-hexes fit-nil = refl
words-hexes (fit {a = a} {l = l} h f) = rw (word-digits a h, words-hexes f)

pub raw-line : (o : ℕ) (l : List ℕ) → o < 256 → Fit l → raw (hex2 o ++ hexes l) ≡ some (record { opcode = o; operands = l })
unfolding raw hex2
raw-line o l h f = rw (opcode-digits o h, words-hexes f, raw)

-- ---- read

word_fits : (a b c d n : ℕ) → word a b c d ≡ some n → n < 65536
unfolding word
word_fits a b c d n e = go (ltb (value a) 16) (ltb (value b) 16) (ltb (value c) 16) (ltb (value d) 16) refl refl refl refl
  where
    go : (w x y z : Bool) → ltb (value a) 16 ≡ w → ltb (value b) 16 ≡ x → ltb (value c) 16 ≡ y → ltb (value d) 16 ≡ z → n < 65536
    go true true true true p q r t =
        let m : some (value a * 4096 + value b * 256 + value c * 16 + value d) ≡ some n = rw (p, q, r, t, word) at e in
        let m' : value a * 4096 + value b * 256 + value c * 16 + value d ≡ n = cc in
        omega (arith, ltb-true (value a) 16 p, ltb-true (value b) 16 q, ltb-true (value c) 16 r, ltb-true (value d) 16 t)
    go true true true false p q r t = none-some (rw (p, q, r, t, word) at e)
    go true true false z p q r t = none-some (rw (p, q, r, word) at e)
    go true false y z p q r t = none-some (rw (p, q, word) at e)
    go false x y z p q r t = none-some (rw (p, word) at e)

words-fit : (t l : List ℕ) → words t ≡ some l → Fit l
unfolding words
words-fit [] l e = let q : [] ≡ l = cc in subst Fit q fit-nil
words-fit (a ∷ []) l e = none-some e
words-fit (a ∷ b ∷ []) l e = none-some e
words-fit (a ∷ b ∷ c ∷ []) l e = none-some e
words-fit (a ∷ b ∷ c ∷ d ∷ t) l e = go (word a b c d) refl (words t) (λ m x. words-fit t m x) e
  where
    go : (w : Option ℕ) → word a b c d ≡ w → (o : Option (List ℕ)) → ((m : List ℕ) → o ≡ some m → Fit m) → both w o ≡ some l → Fit l
    go none p o ih x = none-some x
    go (some n) p none ih x = none-some x
    go (some n) p (some m) ih x = let q : n ∷ m ≡ l = cc in subst Fit q (fit (word_fits a b c d n p) (ih m refl))

pub raw-fits : (t : List ℕ) (r : Raw) → raw t ≡ some r → Fit r.operands
unfolding raw
raw-fits [] r e = none-some e
raw-fits (a ∷ []) r e = none-some e
raw-fits (a ∷ b ∷ t) r e = go (word 48 48 a b) refl (words t) refl
  where
    go : (w : Option ℕ) → word 48 48 a b ≡ w → (o : Option (List ℕ)) → words t ≡ o → Fit r.operands
    go none p o q = none-some (rw (p, raw) at e)
    go (some n) p none q = none-some (rw (p, q, raw) at e)
    go (some n) p (some m) q =
        let x : some (record { opcode = n; operands = m }) ≡ some r = rw (p, q, raw) at e in
        let y : record { opcode = n; operands = m } ≡ r = cc in
        subst (λ (z : Raw). Fit z.operands) y (words-fit t m q)
