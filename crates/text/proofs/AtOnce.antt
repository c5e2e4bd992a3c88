-- The digits of a whole line that were read four at a time: two, six or ten. Assumes nothing.
use mathlib.Core.Path.{◌≡◌, sym, ap, subst, ◌∙◌}
use mathlib.Core.List.{List}
use Prim.Native.Nat.{ℕ, ◌+◌, ◌*◌, ◌/◌, ◌%◌, ◌≤◌, ◌<◌}
use native.Mathlib.Omega.{arith}
use lib.ListN.{length, get_or}
use Rattle.rules.specs.Text.{value}
use Rattle.rules.proofs.Tables.{by_eqb}
use Rattle.text.specs.Lines.{number_of, Packed, FourDigits, WordMakes, DigitsFrom, Joined}
use Rattle.text.specs.declared.lines.Digits.{Digits}
use Rattle.text.proofs.Numbers.{value_at, code, number-two, number-six, number-ten}

-- ---- words

-- the first two bytes, with two digits 0 before them; the last two bytes of one word, and the first two of the next
abbrev opcode_in : ℕ → ℕ
opcode_in w = w % 0x10000 * 0x10000 + 0x3030

abbrev between : ℕ → ℕ → ℕ
between w v = w / 0x10000 + v % 0x10000 * 0x10000

module _ (a b c d w : ℕ) (p : Packed a b c d w) where
  opcode-word : Packed 48 48 a b (opcode_in w)
  opcode-word = record { byte-1 = omega arith; byte-2 = omega arith; byte-3 = p.byte-1; byte-4 = p.byte-2; makes = omega (arith, p.makes, p.byte-1, p.byte-2) }

  third-byte : w / 0x10000 % 0x100 ≡ 10 → c ≡ 10
  third-byte h = omega (arith, p.makes, p.byte-1, p.byte-2, p.byte-3)

word-between : (a b c d e f g h w v : ℕ) → Packed a b c d w → Packed e f g h v → Packed c d e f (between w v)
word-between a b c d e f g h w v p q = record {
  byte-1 = p.byte-3;
  byte-2 = p.byte-4;
  byte-3 = q.byte-1;
  byte-4 = q.byte-2;
  makes = omega (arith, p.makes, p.byte-1, p.byte-2, q.makes, q.byte-1, q.byte-2);
}

module _ (s : List ℕ) (p : ℕ) where
  -- ---- digit by digit

  -- the first n bytes are digits
  abbrev Hex : ℕ → Type 0
  Hex n = (k : ℕ) → p ≤ k → k < p + n → value (get_or s k 0) < 16

  none : Hex 0
  none k l m = absurd (omega (arith, l, m))

  one_more_lem : (n : ℕ) → Hex n → value_at s p n < 16 → Hex (n + 1)
  one_more_lem n h d k l m = by_eqb k (p + n) (λ e. subst (λ (x : ℕ). value (get_or s x 0) < 16) (sym e) d) (λ e. h k l (omega (arith, m, e)))

  -- ---- the line

  lf-stops : (c : ℕ) → c ≡ 10 → 16 ≤ value c
  unfolding value
  lf-stops c e = let q : value c ≡ 16 = ap value e in omega (arith, q)

  -- n digits, then LF
  whole : (n : ℕ) (d : Digits) → d.end ≡ p + n → p + n ≤ length s → Hex n → get_or s (p + n) 0 ≡ 10 → d.number ≡ number_of s p n → d.number < 0x10000000000 → DigitsFrom s p d
  whole n d e within h lf q below = record {
    from = omega (arith, e);
    to = omega (arith, e);
    all = subst (λ (x : ℕ). (k : ℕ) → p ≤ k → k < x → value (get_or s k 0) < 16) (sym e) h;
    stop = λ _. lf-stops (get_or s d.end 0) (ap (λ (x : ℕ). get_or s x 0) e ∙ lf);
    number_is = q ∙ ap (number_of s p) (omega (arith, e));
    below = below;
  }

  here : get_or s (p + 0) 0 ≡ get_or s p 0
  here = ap (λ (x : ℕ). get_or s x 0) (omega arith)

  -- the words of the first eleven bytes, and what the digits in them make
  module _ (room : p + 11 ≤ length s)
      (front : ℕ) (pf : Packed (get_or s p 0) (get_or s (p + 1) 0) (get_or s (p + 2) 0) (get_or s (p + 3) 0) front) (o : ℕ) (ho : WordMakes (opcode_in front) o) where
    op : FourDigits 48 48 (get_or s p 0) (get_or s (p + 1) 0) o
    op = ho 48 48 (get_or s p 0) (get_or s (p + 1) 0) (opcode-word _ _ _ _ front pf)

    coded : o ≡ code s p
    unfolding value
    coded = omega (arith, op.number, ap value here)

    two : Hex 2
    two = one_more_lem 1 (one_more_lem 0 none (subst (λ (x : ℕ). value x < 16) (sym here) op.third)) op.fourth

    -- an opcode has two digits
    pub opcode-below : o < 0x100
    unfolding value
    opcode-below = omega (arith, op.number, op.third, op.fourth)

    pub two_digits : (d : Digits) → Joined (p + 2) o 0 0 d → front / 0x10000 % 0x100 ≡ 10 → DigitsFrom s p d
    two_digits d j lf =
        whole 2 d j.ends (omega arith) two (third-byte _ _ _ _ front pf lf) (j.makes ∙ omega (arith, coded, number-two s p)) (omega (arith, j.makes, opcode-below))

    module _ (back : ℕ) (pb : Packed (get_or s (p + 4) 0) (get_or s (p + 5) 0) (get_or s (p + 6) 0) (get_or s (p + 7) 0) back) (a : ℕ) (ha : WordMakes (between front back) a) where
      fa : FourDigits (get_or s (p + 2) 0) (get_or s (p + 3) 0) (get_or s (p + 4) 0) (get_or s (p + 5) 0) a
      fa = ha _ _ _ _ (word-between _ _ _ _ _ _ _ _ front back pf pb)

      six : Hex 6
      six = one_more_lem 5 (one_more_lem 4 (one_more_lem 3 (one_more_lem 2 two fa.first) fa.second) fa.third) fa.fourth

      pub six-digits : (d : Digits) → Joined (p + 6) o a 0 d → back / 0x10000 % 0x100 ≡ 10 → DigitsFrom s p d
      six-digits d j lf =
          whole 6 d j.ends (omega arith) six (third-byte _ _ _ _ back pb lf) (j.makes ∙ omega (arith, coded, fa.number, number-six s p)) (omega (arith, j.makes, opcode-below, fa))

      module _ (last : ℕ) (pl : Packed (get_or s (p + 8) 0) (get_or s (p + 9) 0) (get_or s (p + 10) 0) 0 last) (b : ℕ) (hb : WordMakes (between back last) b) where
        pub ten-digits : (d : Digits) → Joined (p + 10) o a b d → last / 0x10000 ≡ 10 → DigitsFrom s p d
        ten-digits d j lf =
            let g = hb _ _ _ _ (word-between _ _ _ _ _ _ _ _ back last pb pl) in
            let ten = one_more_lem 9 (one_more_lem 8 (one_more_lem 7 (one_more_lem 6 six g.first) g.second) g.third) g.fourth in
            let e : get_or s (p + 10) 0 ≡ 10 = omega (arith, pl.makes, pl.byte-1, pl.byte-2) in
            whole 10 d j.ends (omega arith) ten e (j.makes ∙ omega (arith, coded, fa.number, g.number, number-ten s p)) (omega (arith, j.makes, opcode-below, fa, g))
