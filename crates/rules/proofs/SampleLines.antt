-- A line of a recording by the rules: which one is a sample; and where a line that begins wrong ends is no matter. Assumes nothing.
use mathlib.Core.Path.{◌≡◌, refl, sym, ap, ◌∙◌}
use mathlib.Core.Bool.{Bool, true, false, ◌&&◌}
use mathlib.Core.Option.{Option, none, some}
use mathlib.Core.List.{List, [], ◌∷◌, ◌++◌}
use Prim.Native.Nat.{ℕ, ◌+◌, ◌*◌, ◌-◌, ◌<◌}
use native.Mathlib.Omega.{arith}
use lib.Dec.{eqb, ltb, leb}
use borrow.Author.Tests.{ltb-true, leb-true, ne_eqb}
use Rattle.rules.specs.Text.{value, word, words, both, raw, with1, Split, split, rowed, line_of}
use Rattle.rules.specs.Recordings.{sample_table}
use Rattle.rules.proofs.Chains.{none-some}
use Rattle.rules.proofs.Tells.{decided, clash}

abbrev pub line : List ℕ → Bool → Split
line t e = record { text = t; ended = e }

-- ---- text without LF

unfoldable pub NoLf : List ℕ → Type 0
NoLf [] = Unit {0}
NoLf (c ∷ t) = (eqb c 10 ≡ false) × NoLf t

pub split-lf : (t u : List ℕ) → NoLf t → split (t ++ 10 ∷ u) ≡ line t true ∷ split u
unfolding split NoLf
split-lf [] u n = refl
split-lf (c ∷ t) u n = rw (n.0, split-lf t u n.1, split)

pub split-torn : (c : ℕ) (t : List ℕ) → NoLf (c ∷ t) → split (c ∷ t) ≡ line (c ∷ t) false ∷ []
unfolding split NoLf
split-torn c [] n = rw (n.0, split)
split-torn c (d ∷ t) n = rw (n.0, split-torn d t n.1, split)

pub record First (t : List ℕ) (c : ℕ) (s : List ℕ) : Type 0 where
  pub more : List ℕ
  pub ended : Bool
  pub rest : List Split
  pub is : split (t ++ c ∷ s) ≡ line (t ++ c ∷ more) ended ∷ rest

onto-some : (c : ℕ) (s : List ℕ) → eqb c 10 ≡ false → (ls : List Split) → split s ≡ ls → First [] c s
unfolding split
onto-some c s e [] q = record { more = []; ended = false; rest = []; is = rw (e, q, split) }
onto-some c s e (l ∷ ls) q = record { more = l.text; ended = l.ended; rest = ls; is = rw (e, q, split) }

pub first-line : (t : List ℕ) (c : ℕ) (s : List ℕ) → NoLf t → eqb c 10 ≡ false → First t c s
unfolding split NoLf
first-line [] c s n e = onto-some c s e (split s) refl
first-line (d ∷ t) c s n e =
    let f = first-line t c s n.1 e in
    record { more = f.more; ended = f.ended; rest = f.rest; is = rw (n.0, f.is, split) }

-- ---- digits

-- below ten it is one of `0` to `9`
value_low : (x v : ℕ) → value x ≡ v → v < 10 → x ≡ 48 + v
unfolding value
value_low x v e h = go (leb 48 x) (leb x 57) (leb 97 x) (leb x 102) refl refl refl refl
  where
    other : 16 ≡ v → x ≡ 48 + v
    other q = absurd (omega (arith, q))

    letter : (a b : Bool) → leb 97 x ≡ a → elim (a && b) [ true ↦ x - 87 | false ↦ 16 ] ≡ v → x ≡ 48 + v
    letter true true p q = absurd (omega (arith, leb-true 97 x p, q))
    letter true false p q = other q
    letter false b p q = other q

    go : (a b c d : Bool) → leb 48 x ≡ a → leb x 57 ≡ b → leb 97 x ≡ c → leb x 102 ≡ d → x ≡ 48 + v
    go true true c d p q r t =
        let f : x - 48 ≡ v = rw (p, q, value) at e in
        omega (arith, leb-true 48 x p)
    go true false c d p q r t = letter c d r (rw (p, q, r, t, value) at e)
    go false b c d p q r t = letter c d r (rw (p, r, t, value) at e)

pub digit-no-lf : (x : ℕ) → ltb (value x) 16 ≡ true → eqb x 10 ≡ false
unfolding value
digit-no-lf x h = ne_eqb x 10 (λ e. clash h (ap (λ (y : ℕ). ltb (value y) 16) e))

module _ (a b c d : ℕ) where
  word_good : ltb (value a) 16 ≡ true → ltb (value b) 16 ≡ true → ltb (value c) 16 ≡ true → ltb (value d) 16 ≡ true
      → word a b c d ≡ some (value a * 4096 + value b * 256 + value c * 16 + value d)
  unfolding word
  word_good p q r t = rw (p, q, r, t, word)

  word-bad1 : ltb (value a) 16 ≡ false → word a b c d ≡ none
  unfolding word
  word-bad1 p = rw (p, word)

  word-bad2 : ltb (value b) 16 ≡ false → word a b c d ≡ none
  unfolding word
  word-bad2 q = decided (ltb (value a) 16) (λ p. rw (p, q, word)) word-bad1

  word-bad3 : ltb (value c) 16 ≡ false → word a b c d ≡ none
  unfolding word
  word-bad3 r = decided (ltb (value a) 16) (λ p. decided (ltb (value b) 16) (λ q. rw (p, q, r, word)) word-bad2) word-bad1

  word-bad4 : ltb (value d) 16 ≡ false → word a b c d ≡ none
  unfolding word
  word-bad4 t =
      decided (ltb (value a) 16) (λ p. decided (ltb (value b) 16) (λ q. decided (ltb (value c) 16) (λ r. rw (p, q, r, t, word)) word-bad3) word-bad2) word-bad1

-- ---- the opcode

record Coded (x y o : ℕ) : Type 0 where
  is : o ≡ value x * 16 + value y
  high : value x < 16
  low : value y < 16

coded : (x y o : ℕ) → word 48 48 x y ≡ some o → Coded x y o
unfolding value
coded x y o h =
    decided (ltb (value x) 16)
    (λ p. decided (ltb (value y) 16)
    (λ q.
    let g : some (value 48 * 4096 + value 48 * 256 + value x * 16 + value y) ≡ some o = sym (word_good 48 48 x y refl refl p q) ∙ h in
    let e : value 48 * 4096 + value 48 * 256 + value x * 16 + value y ≡ o = cc in
    let z : value 48 ≡ 0 = refl in
    record { is = omega (arith, e, z); high = ltb-true (value x) 16 p; low = ltb-true (value y) 16 q })
    (λ q. none-some (sym (word-bad4 48 48 x y q) ∙ h)))
    (λ p. none-some (sym (word-bad3 48 48 x y p) ∙ h))

not-30 : (x y o : ℕ) → word 48 48 x y ≡ some o → (x ≡ 51 → y ≡ 48 → ⊥) → eqb 0x30 o ≡ false
not-30 x y o h n =
    let f = coded x y o h in
    ne_eqb 0x30 o (λ e. n (value_low x 3 (omega (arith, e, f.is, f.high, f.low)) (omega arith)) (value_low y 0 (omega (arith, e, f.is, f.high, f.low)) (omega arith)))

pub other-opcode : (x y : ℕ) (l : List ℕ) → (x ≡ 51 → y ≡ 48 → ⊥) → line_of sample_table (line (x ∷ y ∷ l) true) ≡ none
unfolding line_of raw rowed sample_table
other-opcode x y l n = go (word 48 48 x y) refl (words l) refl
  where
    go : (w : Option ℕ) → word 48 48 x y ≡ w → (o : Option (List ℕ)) → words l ≡ o → line_of sample_table (line (x ∷ y ∷ l) true) ≡ none
    go none p o q = rw (p, line_of, raw)
    go (some k) p none q = rw (p, q, line_of, raw)
    go (some k) p (some ns) q = rw (p, q, not-30 x y k p n, line_of, raw, rowed, sample_table)

-- ---- what follows `30`

abbrev sampled : Option (List ℕ) → Option ℕ
sampled none = none
sampled (some ns) = with1 (λ n. n) ns

after-30 : (l : List ℕ) → line_of sample_table (line (51 ∷ 48 ∷ l) true) ≡ sampled (words l)
unfolding line_of raw rowed sample_table word value
after-30 l = go (words l) refl
  where
    go : (o : Option (List ℕ)) → words l ≡ o → line_of sample_table (line (51 ∷ 48 ∷ l) true) ≡ sampled o
    go none q = rw (q, line_of, raw)
    go (some ns) q = rw (q, line_of, raw, rowed, sample_table)

both-none : (w : Option ℕ) → sampled (both w none) ≡ none
both-none none = refl
both-none (some n) = refl

none_both : (w : Option ℕ) (o : Option (List ℕ)) → w ≡ none → sampled (both w o) ≡ none
none_both w o e = ap (λ (x : Option ℕ). sampled (both x o)) e

both-both : (w x : Option ℕ) (o : Option (List ℕ)) → sampled (both w (both x o)) ≡ none
both-both none x o = refl
both-both (some n) none o = refl
both-both (some n) (some m) none = refl
both-both (some n) (some m) (some l) = refl

module _ (a b c d : ℕ) where
  pub sample-line : ltb (value a) 16 ≡ true → ltb (value b) 16 ≡ true → ltb (value c) 16 ≡ true → ltb (value d) 16 ≡ true
      → line_of sample_table (line (51 ∷ 48 ∷ a ∷ b ∷ c ∷ d ∷ []) true) ≡ some (value a * 4096 + value b * 256 + value c * 16 + value d)
  unfolding words
  sample-line p q r t = after-30 (a ∷ b ∷ c ∷ d ∷ []) ∙ ap (λ (w : Option ℕ). sampled (both w (some []))) (word_good a b c d p q r t)

  pub long-line : (x : ℕ) (u : List ℕ) → line_of sample_table (line (51 ∷ 48 ∷ a ∷ b ∷ c ∷ d ∷ x ∷ u) true) ≡ none
  unfolding words
  long-line x [] = after-30 _ ∙ both-none (word a b c d)
  long-line x (y ∷ []) = after-30 _ ∙ both-none (word a b c d)
  long-line x (y ∷ z ∷ []) = after-30 _ ∙ both-none (word a b c d)
  long-line x (y ∷ z ∷ w ∷ u) = after-30 _ ∙ both-both (word a b c d) (word x y z w) (words u)

-- a byte that is no digit

pub bad-first : (a : ℕ) (u : List ℕ) → ltb (value a) 16 ≡ false → line_of sample_table (line (51 ∷ 48 ∷ a ∷ u) true) ≡ none
unfolding words
bad-first a [] e = after-30 _
bad-first a (b ∷ []) e = after-30 _
bad-first a (b ∷ c ∷ []) e = after-30 _
bad-first a (b ∷ c ∷ d ∷ u) e = after-30 _ ∙ none_both (word a b c d) (words u) (word-bad1 a b c d e)

pub bad-second : (a b : ℕ) (u : List ℕ) → ltb (value b) 16 ≡ false → line_of sample_table (line (51 ∷ 48 ∷ a ∷ b ∷ u) true) ≡ none
unfolding words
bad-second a b [] e = after-30 _
bad-second a b (c ∷ []) e = after-30 _
bad-second a b (c ∷ d ∷ u) e = after-30 _ ∙ none_both (word a b c d) (words u) (word-bad2 a b c d e)

pub bad-third : (a b c : ℕ) (u : List ℕ) → ltb (value c) 16 ≡ false → line_of sample_table (line (51 ∷ 48 ∷ a ∷ b ∷ c ∷ u) true) ≡ none
unfolding words
bad-third a b c [] e = after-30 _
bad-third a b c (d ∷ u) e = after-30 _ ∙ none_both (word a b c d) (words u) (word-bad3 a b c d e)

pub bad-fourth : (a b c d : ℕ) (u : List ℕ) → ltb (value d) 16 ≡ false → line_of sample_table (line (51 ∷ 48 ∷ a ∷ b ∷ c ∷ d ∷ u) true) ≡ none
unfolding words
bad-fourth a b c d u e = after-30 _ ∙ none_both (word a b c d) (words u) (word-bad4 a b c d e)

-- too short

pub one_byte : (a : ℕ) → line_of sample_table (line (a ∷ []) true) ≡ none
unfolding line_of raw
one_byte a = refl

pub empty-line : line_of sample_table (line [] true) ≡ none
unfolding line_of raw
empty-line = refl

pub none-30 : line_of sample_table (line (51 ∷ 48 ∷ []) true) ≡ none
unfolding words
none-30 = after-30 []

pub one-digit : (a : ℕ) → line_of sample_table (line (51 ∷ 48 ∷ a ∷ []) true) ≡ none
unfolding words
one-digit a = after-30 (a ∷ [])

pub two_digits : (a b : ℕ) → line_of sample_table (line (51 ∷ 48 ∷ a ∷ b ∷ []) true) ≡ none
unfolding words
two_digits a b = after-30 (a ∷ b ∷ [])

pub three-digits : (a b c : ℕ) → line_of sample_table (line (51 ∷ 48 ∷ a ∷ b ∷ c ∷ []) true) ≡ none
unfolding words
three-digits a b c = after-30 (a ∷ b ∷ c ∷ [])

pub either_end : (t : List ℕ) (e : Bool) → line_of sample_table (line t true) ≡ none → line_of sample_table (line t e) ≡ none
unfolding line_of
either_end t true h = h
either_end t false h = refl
