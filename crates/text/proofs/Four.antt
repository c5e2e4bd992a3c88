-- Four bytes as one number, and four values as one: if the digits of the values are the bytes, these are the values of the bytes,
-- however they were found. Assumes nothing.
use mathlib.Core.Path.{◌≡◌, refl, sym, ap, ap₂, subst, ◌∙◌}
use Prim.Native.Nat.{ℕ, ◌+◌, ◌*◌, ◌/◌, ◌%◌, ◌^◌, ◌≤◌, ◌<◌}
use native.Mathlib.Omega.{arith}
use lib.Bits.{bit_and, and_block, and_mask, and_le_r}
use Rattle.rules.specs.Notation.{all_below}
use Rattle.rules.specs.Text.{value}
use Rattle.text.specs.Lines.{Packed, FourDigits}
use Rattle.text.proofs.Computed.{same_at}

abbrev packed : ℕ → ℕ → ℕ → ℕ → ℕ
packed a b c d = a + b * 256 + c * 65536 + d * 16777216

-- ---- one byte: the digit of a value

abbrev written : ℕ → ℕ
written n = n + 48 + (n + 6) / 16 % 2 * 39

value_written : (n : ℕ) → n < 16 → value (written n) ≡ n
unfolding value all_below
value_written n h = same_at (λ n. value (written n)) (λ n. n) 16 refl n h

written_in : (n : ℕ) → n < 16 → written n < 256
written_in n h = omega arith

-- ---- the bytes of a number

module _ (a b c d : ℕ) (ha : a < 256) (hb : b < 256) (hc : c < 256) (hd : d < 256) where
  byte-1 : packed a b c d % 256 ≡ a
  byte-1 = omega arith

  byte-2 : packed a b c d / 256 % 256 ≡ b
  byte-2 = omega arith

  byte-3 : packed a b c d / 65536 % 256 ≡ c
  byte-3 = omega arith

  byte-4 : packed a b c d / 16777216 ≡ d
  byte-4 = omega arith

packed-same : (a b c d x y z w : ℕ) → a ≡ x → b ≡ y → c ≡ z → d ≡ w → packed a b c d ≡ packed x y z w
packed-same a b c d x y z w e f g h = omega (arith, e, f, g, h)

-- ---- a mask that is the same for all four bytes

four-and : (m a b c d : ℕ) → m < 256 → a < 256 → b < 256 → c < 256
    → bit_and (((d * 256 + c) * 256 + b) * 256 + a) (((m * 256 + m) * 256 + m) * 256 + m) ≡ ((bit_and d m * 256 + bit_and c m) * 256 + bit_and b m) * 256 + bit_and a m
four-and m a b c d hm ha hb hc =
    and_block 8 ((d * 256 + c) * 256 + b) ((m * 256 + m) * 256 + m) a m ha hm
    ∙ ap (λ (x : ℕ). x * 256 + bit_and a m)
    (and_block 8 (d * 256 + c) (m * 256 + m) b m hb hm ∙ ap (λ (x : ℕ). x * 256 + bit_and b m) (and_block 8 d m c m hc hm))

nested : (y : ℕ) → ((y / 16777216 * 256 + y / 65536 % 256) * 256 + y / 256 % 256) * 256 + y % 256 ≡ y
nested y = omega arith

as-packed : (a b c d x y z w : ℕ) → x ≡ a → y ≡ b → z ≡ c → w ≡ d → ((w * 256 + z) * 256 + y) * 256 + x ≡ packed a b c d
as-packed a b c d x y z w e f g h = omega (arith, e, f, g, h)

and-15 : (y : ℕ) → bit_and y 0x0f0f0f0f ≡ packed (y % 256 % 16) (y / 256 % 256 % 16) (y / 65536 % 256 % 16) (y / 16777216 % 16)
and-15 y =
    ap (λ (x : ℕ). bit_and x 0x0f0f0f0f) (sym (nested y))
    ∙ four-and 15 (y % 256) (y / 256 % 256) (y / 65536 % 256) (y / 16777216) (omega arith) (omega arith) (omega arith) (omega arith)
    ∙ as-packed _ _ _ _ _ _ _ _ (and_mask (y % 256) 4) (and_mask (y / 256 % 256) 4) (and_mask (y / 65536 % 256) 4) (and_mask (y / 16777216) 4)

and-1 : (y : ℕ) → bit_and y 0x01010101 ≡ packed (y % 256 % 2) (y / 256 % 256 % 2) (y / 65536 % 256 % 2) (y / 16777216 % 2)
and-1 y =
    ap (λ (x : ℕ). bit_and x 0x01010101) (sym (nested y))
    ∙ four-and 1 (y % 256) (y / 256 % 256) (y / 65536 % 256) (y / 16777216) (omega arith) (omega arith) (omega arith) (omega arith)
    ∙ as-packed _ _ _ _ _ _ _ _ (and_mask (y % 256) 1) (and_mask (y / 256 % 256) 1) (and_mask (y / 65536 % 256) 1) (and_mask (y / 16777216) 1)

-- ---- as the code has them: the values before they are masked, which are letters, the bytes of the values, the pairs that make the number

abbrev pub mixed : ℕ → ℕ
mixed w = w + bit_and (w / 2 ^ 6) 0x01010101 * 9

abbrev pub letters_of : ℕ → ℕ
letters_of n = bit_and ((n + 0x06060606) / 2 ^ 4) 0x01010101

abbrev pub bytes_of : ℕ → ℕ
bytes_of n = n + 0x30303030 + letters_of n * 39

abbrev pub pairs_of : ℕ → ℕ
pairs_of n = n * 16 + n / 256

abbrev pub number_of : ℕ → ℕ
number_of n = pairs_of n % 256 * 256 + pairs_of n / 65536 % 256

linear : (a b c d x y z w : ℕ) → packed a b c d + 0x30303030 + packed x y z w * 39 ≡ packed (a + 48 + x * 39) (b + 48 + y * 39) (c + 48 + z * 39) (d + 48 + w * 39)
linear a b c d x y z w = omega arith

spread : (a b c d : ℕ) → (a * 16 + b) * 256 + (c * 16 + d) ≡ a * 4096 + b * 256 + c * 16 + d
spread a b c d = omega arith

module _ (a b c d : ℕ) (ha : a < 16) (hb : b < 16) (hc : c < 16) (hd : d < 16) where
  letters-are : letters_of (packed a b c d) ≡ packed ((a + 6) / 16 % 2) ((b + 6) / 16 % 2) ((c + 6) / 16 % 2) ((d + 6) / 16 % 2)
  letters-are = and-1 ((packed a b c d + 0x06060606) / 16) ∙ packed-same _ _ _ _ _ _ _ _ (omega arith) (omega arith) (omega arith) (omega arith)

  bytes-are : bytes_of (packed a b c d) ≡ packed (written a) (written b) (written c) (written d)
  bytes-are = ap (λ (l : ℕ). packed a b c d + 0x30303030 + l * 39) letters-are ∙ linear _ _ _ _ _ _ _ _

  pairs-are : pairs_of (packed a b c d) ≡ packed (a * 16 + b) (b * 16 + c) (c * 16 + d) (d * 16)
  pairs-are = let q : packed a b c d / 256 ≡ b + c * 256 + d * 65536 = omega arith in omega (arith, q)

  number_is : number_of (packed a b c d) ≡ a * 4096 + b * 256 + c * 16 + d
  number_is =
      ap₂ (λ (x z : ℕ). x * 256 + z)
      (ap (λ (x : ℕ). x % 256) pairs-are ∙ byte-1 (a * 16 + b) (b * 16 + c) (c * 16 + d) (d * 16) (omega arith) (omega arith) (omega arith) (omega arith))
      (ap (λ (x : ℕ). x / 65536 % 256) pairs-are ∙ byte-3 (a * 16 + b) (b * 16 + c) (c * 16 + d) (d * 16) (omega arith) (omega arith) (omega arith) (omega arith))
      ∙ spread a b c d

sum_same : (a b c d x y z w : ℕ) → x ≡ a → y ≡ b → z ≡ c → w ≡ d → a * 4096 + b * 256 + c * 16 + d ≡ x * 4096 + y * 256 + z * 16 + w
sum_same a b c d x y z w e f g h = omega (arith, e, f, g, h)

-- bytes that are the digits of the values
module _ (n m k l : ℕ) (hn : n < 16) (hm : m < 16) (hk : k < 16) (hl : l < 16)
    (a b c d : ℕ) (ha : a < 256) (hb : b < 256) (hc : c < 256) (hd : d < 256)
    (e : bytes_of (packed n m k l) ≡ packed a b c d) where
  again : packed (written n) (written m) (written k) (written l) ≡ packed a b c d
  again = sym (bytes-are n m k l hn hm hk hl) ∙ e

  value_of : (c n : ℕ) → n < 16 → written n ≡ c → value c ≡ n
  value_of c n h q = ap value (sym q) ∙ value_written n h

  first-is : value a ≡ n
  first-is =
      value_of a n hn
      (sym (byte-1 (written n) (written m) (written k) (written l) (written_in n hn) (written_in m hm) (written_in k hk) (written_in l hl))
      ∙ ap (λ (x : ℕ). x % 256) again ∙ byte-1 a b c d ha hb hc hd)

  second_is : value b ≡ m
  second_is =
      value_of b m hm
      (sym (byte-2 (written n) (written m) (written k) (written l) (written_in n hn) (written_in m hm) (written_in k hk) (written_in l hl))
      ∙ ap (λ (x : ℕ). x / 256 % 256) again ∙ byte-2 a b c d ha hb hc hd)

  third-is : value c ≡ k
  third-is =
      value_of c k hk
      (sym (byte-3 (written n) (written m) (written k) (written l) (written_in n hn) (written_in m hm) (written_in k hk) (written_in l hl))
      ∙ ap (λ (x : ℕ). x / 65536 % 256) again ∙ byte-3 a b c d ha hb hc hd)

  fourth-is : value d ≡ l
  fourth-is =
      value_of d l hl
      (sym (byte-4 (written n) (written m) (written k) (written l) (written_in n hn) (written_in m hm) (written_in k hk) (written_in l hl))
      ∙ ap (λ (x : ℕ). x / 16777216) again ∙ byte-4 a b c d ha hb hc hd)

  four-digits : FourDigits a b c d (number_of (packed n m k l))
  four-digits = record {
    first = subst (λ (x : ℕ). x < 16) (sym first-is) hn;
    second = subst (λ (x : ℕ). x < 16) (sym second_is) hm;
    third = subst (λ (x : ℕ). x < 16) (sym third-is) hk;
    fourth = subst (λ (x : ℕ). x < 16) (sym fourth-is) hl;
    number = number_is n m k l hn hm hk hl ∙ sum_same n m k l _ _ _ _ first-is second_is third-is fourth-is;
  }

-- whatever is masked, its digits are the bytes of a word or they are not
pub digits_of : (y w a b c d : ℕ) → Packed a b c d w → bytes_of (bit_and y 0x0f0f0f0f) ≡ w → FourDigits a b c d (number_of (bit_and y 0x0f0f0f0f))
digits_of y w a b c d p e =
    subst (λ (m : ℕ). FourDigits a b c d (number_of m)) (sym (and-15 y))
    (four-digits (y % 256 % 16) (y / 256 % 256 % 16) (y / 65536 % 256 % 16) (y / 16777216 % 16) (omega arith) (omega arith) (omega arith) (omega arith)
    a b c d p.byte-1 p.byte-2 p.byte-3 p.byte-4 (ap bytes_of (sym (and-15 y)) ∙ e ∙ p.makes))

pub values-in : (y : ℕ) → bit_and y 0x0f0f0f0f ≤ 0x0f0f0f0f
values-in y = and_le_r y 0x0f0f0f0f

pub letters-in : (y : ℕ) → bit_and y 0x01010101 ≤ 0x01010101
letters-in y = and_le_r y 0x01010101
