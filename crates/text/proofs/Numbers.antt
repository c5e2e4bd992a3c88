-- The number of a line's digits holds its opcode and its first two operands. Assumes nothing.
use mathlib.Core.Path.{◌≡◌, refl, sym, ap, subst, ◌∙◌}
use mathlib.Core.Bool.{Bool, true, false}
use mathlib.Core.List.{List}
use Prim.Native.Nat.{ℕ, zero, suc, ◌+◌, ◌*◌, ◌/◌, ◌%◌, ◌^◌, ◌≤◌, ◌<◌, ◌-◌}
use native.Mathlib.Omega.{arith}
use lib.Dec.{ltb, eqb}
use lib.ListN.{length, get_or, take}
use lib.Seq.{get_or-drop, get_or-take, slice, length-slice}
use borrow.Author.Tests.{lt-ltb, le-ltb, eq-eqb, ltb-true, ltb-false, eqb-true, eqb-false}
use Rattle.rules.specs.Text.{value}
use Rattle.rules.proofs.Tables.{by_eqb}
use Rattle.rules.specs.Notation.{all_below}
use Rattle.text.proofs.Computed.{at, same_at}
use Rattle.text.specs.Shapes.{pick, shape_of, fit, frame, read_as}
use Rattle.text.specs.Lines.{word_at, weight, number_of, reading_by, unpacked, reading_of, ended}
use Rattle.std.specs.declared.option.Option.TheVariants.{Some, None}
use Rattle.text.specs.declared.lines.TextKind.{TextKind}
use Rattle.text.proofs.Words.{all_hex, hex-at, hex-all, code_at, operand_at, raw-short, raw-odd, raw-bad, raw-whole, operands-count, operand-none, operand-first, operand-second}
use Rattle.text.proofs.Rows.{reading-raw, reading-none}

-- ---- one digit more

times : (v w : ℕ) → v < 16 → v * w ≤ 15 * w
times v zero h = omega arith
times v (suc w) h = omega (arith, times v w h)

-- the number stays below that of ten digits
record Below (n w : ℕ) : Type 0 where
  now : n < 0x10000000000
  next : n + 16 * w ≤ 0x10000000000

below_on : (n w v : ℕ) → Below n w → v < 16 → Below (n + v * w) (w / 16)
below_on n w v b h = record { now = omega (arith, b.now, b.next, times v w h); next = omega (arith, b.now, b.next, times v w h) }

-- what digit k counts for, and the shift before it
weighs : (k : ℕ) → k < 10 → weight k ≡ 2 ^ (36 - 4 * k)
unfolding weight all_below
weighs k h = same_at weight (λ k. 2 ^ (36 - 4 * k)) 10 refl k h

shifts : (k : ℕ) → k < 10 → 2 ^ (40 - 4 * k) ≡ 16 * 2 ^ (36 - 4 * k)
unfolding all_below
shifts k h = same_at (λ k. 2 ^ (40 - 4 * k)) (λ k. 16 * 2 ^ (36 - 4 * k)) 10 refl k h

spread : (n v w : ℕ) → (n * 16 + v) * w ≡ n * (16 * w) + v * w
spread n v zero = omega arith
spread n v (suc w) = omega (arith, spread n v w)

at_least : (n w : ℕ) → 0 < w → n ≤ n * w
at_least n zero h = absurd (omega arith)
at_least n (suc w) h = omega arith

shift-some : (k : ℕ) → k ≤ 10 → 0 < 2 ^ (40 - 4 * k)
unfolding all_below
shift-some k h = ltb-true 0 (2 ^ (40 - 4 * k)) (at (λ k. ltb 0 (2 ^ (40 - 4 * k))) 11 refl k (omega arith))

-- n is the number of k digits; the number of the line is n with zeros after it
pub record Shifted (s : List ℕ) (p k n : ℕ) : Type 0 where
  pub few : k ≤ 10
  pub is : n * 2 ^ (40 - 4 * k) ≡ number_of s p k
  room : Below (number_of s p k) (weight k)

pub shifted_start : (s : List ℕ) (p : ℕ) → Shifted s p (p - p) 0
unfolding number_of weight
shifted_start s p = let q : p - p ≡ 0 = omega arith in rw q (record { few = omega arith; is = refl; room = record { now = omega arith; next = omega arith } })

pub shifted-below : (s : List ℕ) (p k n : ℕ) → Shifted s p k n → number_of s p k < 0x10000000000
shifted-below s p k n h = h.room.now

-- as a number of 64 bits
pub shifted-out : (s : List ℕ) (p k n : ℕ) → Shifted s p k n → n * 2 ^ (40 - 4 * k) % 18446744073709551616 ≡ number_of s p k
shifted-out s p k n h = ap (λ (x : ℕ). x % 18446744073709551616) h.is ∙ omega (arith, h.room.now)

pub shifted-small : (s : List ℕ) (p k n : ℕ) → Shifted s p k n → n < 0x10000000000
shifted-small s p k n h = omega (arith, at_least n (2 ^ (40 - 4 * k)) (shift-some k h.few), h.is, h.room.now)

pub shifted-on : (s : List ℕ) (p e n v : ℕ) → p ≤ e → e < p + 10 → Shifted s p (e - p) n → v ≡ value (get_or s e 0) → v < 16 → Shifted s p (e + 1 - p) (n * 16 + v)
unfolding number_of weight
shifted-on s p e n v h l g ev vs =
    let k : ℕ = e - p in
    let q : e + 1 - p ≡ suc k = omega arith in
    let r : p + k ≡ e = omega arith in
    let t : 40 - 4 * suc k ≡ 36 - 4 * k = omega arith in
    let sum : number_of s p (suc k) ≡ number_of s p k + v * weight k = rw (r, ev) in
    let w : ℕ = 2 ^ (36 - 4 * k) in
    let ww : weight k ≡ w = weighs k (omega (arith, l)) in
    let ws : 2 ^ (40 - 4 * k) ≡ 16 * w = shifts k (omega (arith, l)) in
    let old : n * (16 * w) ≡ number_of s p k = ap (λ (x : ℕ). n * x) (sym ws) ∙ g.is in
    rw q
    (record {
      few = omega (arith, l);
      is = ap (λ (x : ℕ). (n * 16 + v) * 2 ^ x) t ∙ spread n v w ∙ ap (λ (x : ℕ). x + v * w) old ∙ ap (λ (x : ℕ). number_of s p k + v * x) (sym ww) ∙ sym sum;
      room = subst (λ (x : ℕ). Below x (weight k / 16)) (sym sum) (below_on (number_of s p k) (weight k) v g.room vs);
    })

-- past the tenth digit nothing counts
ten-more : (j : ℕ) → 10 + suc j ≡ suc (10 + j)
ten-more j = omega arith

weight-none : (j : ℕ) → weight (10 + j) ≡ 0
unfolding weight
weight-none zero = refl
weight-none (suc j) = ap weight (ten-more j) ∙ ap (λ (w : ℕ). w / 16) (weight-none j)

number_more : (t : List ℕ) (p j : ℕ) → number_of t p (10 + j) ≡ number_of t p 10
unfolding number_of
number_more t p zero = refl
number_more t p (suc j) = ap (number_of t p) (ten-more j) ∙ rw (weight-none j) (omega (arith, number_more t p j))

pub number-rest : (s : List ℕ) (p e f : ℕ) → p ≤ e → e ≤ f → (e < f → e ≡ p + 10) → number_of s p (f - p) ≡ number_of s p (e - p)
number-rest s p e f h l full =
    by_eqb e f (λ q. ap (λ (x : ℕ). number_of s p (x - p)) (sym q))
    (λ n.
    let t : e ≡ p + 10 = full (omega (arith, l, n)) in
    let a : f - p ≡ 10 + (f - e) = omega (arith, t, l) in
    let b : e - p ≡ 10 = omega (arith, t) in
    ap (number_of s p) a ∙ number_more s p (f - e) ∙ ap (number_of s p) (sym b))

-- ---- all digits of a line

abbrev pub of_parts : ℕ → ℕ → ℕ → ℕ
of_parts o a b = o * 0x100000000 + a * 0x10000 + b

-- from p on: an opcode, and two operands
module _ (s : List ℕ) (p : ℕ) where
  abbrev pub value_at : ℕ → ℕ
  value_at k = value (get_or s (p + k) 0)

  abbrev pub code : ℕ
  code = value_at 0 * 16 + value_at 1

  abbrev pub first : ℕ
  first = value_at 2 * 4096 + value_at 3 * 256 + value_at 4 * 16 + value_at 5

  abbrev pub second : ℕ
  second = value_at 6 * 4096 + value_at 7 * 256 + value_at 8 * 16 + value_at 9

  pub number-two : number_of s p 2 ≡ of_parts code 0 0
  unfolding number_of weight
  number-two = omega arith

  pub number-six : number_of s p 6 ≡ of_parts code first 0
  unfolding number_of weight
  number-six = omega arith

  pub number-ten : number_of s p 10 ≡ of_parts code first second
  unfolding number_of weight
  number-ten = omega arith

word_below : (t : List ℕ) → all_hex t ≡ true → (j : ℕ) → j + 4 ≤ length t → word_at t j < 65536
word_below t h j b =
    omega (arith, hex-at t h j (omega arith), hex-at t h (j + 1) (omega arith), hex-at t h (j + 2) (omega arith), hex-at t h (j + 3) (omega arith))

pub record Parts (t : List ℕ) (n : ℕ) : Type 0 where
  pub sum : n ≡ of_parts (code_at t) (operand_at t 0) (operand_at t 1)
  pub first : operand_at t 0 < 65536
  pub second : operand_at t 1 < 65536

parts-two : (t : List ℕ) → length t ≡ 2 → Parts t (number_of t 0 (length t))
parts-two t q =
    let a = operand-none t 0 (omega arith) (omega arith) in
    let b = operand-none t 1 (omega arith) (omega arith) in
    record { sum = rw (q, a, b) (number-two t 0); first = omega (arith, a); second = omega (arith, b) }

parts-six : (t : List ℕ) → all_hex t ≡ true → length t ≡ 6 → Parts t (number_of t 0 (length t))
parts-six t h q =
    let a = operand-first t (omega arith) in
    let b = operand-none t 1 (omega arith) (omega arith) in
    record { sum = rw (q, a, b) (number-six t 0); first = omega (arith, a, word_below t h 2 (omega arith)); second = omega (arith, b) }

parts_more : (t : List ℕ) → all_hex t ≡ true → 10 ≤ length t → Parts t (number_of t 0 (length t))
parts_more t h q =
    let a = operand-first t (omega arith) in
    let b = operand-second t q in
    let n : length t ≡ 10 + (length t - 10) = omega arith in
    record {
      sum = ap (number_of t 0) n ∙ number_more t 0 (length t - 10) ∙ rw (a, b) (number-ten t 0);
      first = omega (arith, a, word_below t h 2 (omega arith));
      second = omega (arith, b, word_below t h 6 (omega arith));
    }

pub parts : (t : List ℕ) → 2 ≤ length t → all_hex t ≡ true → (length t - 2) % 4 ≡ 0 → Parts t (number_of t 0 (length t))
parts t k h m = by_eqb (length t) 2 (parts-two t) (λ a. by_eqb (length t) 6 (parts-six t h) (λ b. parts_more t h (omega (arith, a, b))))

-- a line of digits reads as its number says
whole : (which : TextKind) (t : List ℕ) (n : ℕ) → 2 ≤ length t → all_hex t ≡ true → (length t - 2) % 4 ≡ 0 → Parts t n
    → read_as (shape_of which (n / 0x100000000)) (n / 0x100000000) ((length t - 2) / 4) (n / 0x10000 % 0x10000) (n % 0x10000) ≡ reading_of which (ended t)
whole which t n k h m u =
    let o : n / 0x100000000 ≡ code_at t = omega (arith, u.sum, u.first, u.second) in
    let a : n / 0x10000 % 0x10000 ≡ operand_at t 0 = omega (arith, u.sum, u.first, u.second) in
    let b : n % 0x10000 ≡ operand_at t 1 = omega (arith, u.sum, u.first, u.second) in
    rw (o, a, b, ← operands-count t m) (sym (reading-raw which t _ (raw-whole t k h m)))

digits-read : (which : TextKind) (t : List ℕ) → all_hex t ≡ true → reading_by which (length t) (number_of t 0 (length t)) ≡ reading_of which (ended t)
digits-read which t h = go (ltb (length t) 2) refl (eqb ((length t - 2) % 4) 0) refl
  where
    go : (x : Bool) → ltb (length t) 2 ≡ x → (y : Bool) → eqb ((length t - 2) % 4) 0 ≡ y → reading_by which (length t) (number_of t 0 (length t)) ≡ reading_of which (ended t)
    go true p y q = rw p (sym (reading-none which t (raw-short t (ltb-true _ _ p))))
    go false p false q = rw (p, q) (sym (reading-none which t (raw-odd t (ltb-false _ _ p) (eqb-false _ _ q))))
    go false p true q = rw (p, q) (whole which t _ (ltb-false _ _ p) h (eqb-true _ _ q) (parts t (ltb-false _ _ p) h (eqb-true _ _ q)))

-- ---- by positions of the text

module _ (s : List ℕ) (p e : ℕ) (pe : p ≤ e) (es : e ≤ length s) where
  slice_at : (j m : ℕ) → m ≡ p + j → m < e → get_or (slice p e s) j 0 ≡ get_or s m 0
  slice_at j m q h = get_or-drop p (take e s) j 0 ∙ ap (λ (n : ℕ). get_or (take e s) n 0) (sym q) ∙ get_or-take e s m 0 h

  pub hex-in : ((k : ℕ) → p ≤ k → k < e → value (get_or s k 0) < 16) → all_hex (slice p e s) ≡ true
  hex-in f =
      hex-all (slice p e s)
      (λ k b. subst (λ (x : ℕ). value x < 16) (sym (slice_at k (p + k) refl (omega (arith, b, length-slice p e s es)))) (f (p + k) (omega arith) (omega (arith, b, length-slice p e s es))))

  pub number-slice : (k : ℕ) → p + k ≤ e → number_of s p k ≡ number_of (slice p e s) 0 k
  unfolding number_of
  number-slice zero h = refl
  number-slice (suc k) h = rw (number-slice k (omega arith), slice_at (0 + k) (p + k) (omega arith) (omega arith))

  pub line_reads : (which : TextKind) → ((k : ℕ) → p ≤ k → k < e → value (get_or s k 0) < 16) → reading_by which (e - p) (number_of s p (e - p)) ≡ reading_of which (ended (slice p e s))
  line_reads which f =
      let l : length (slice p e s) ≡ e - p = length-slice p e s es in
      rw (number-slice (e - p) (omega arith), ← l) (digits-read which (slice p e s) (hex-in f))

  -- a byte that is no digit
  pub line-bad : (which : TextKind) (k : ℕ) → p ≤ k → k < e → 16 ≤ value (get_or s k 0) → None ≡ reading_of which (ended (slice p e s))
  line-bad which k a b v = sym (reading-none which (slice p e s) (raw-bad (slice p e s) (go (all_hex (slice p e s)) refl)))
    where
      go : (x : Bool) → all_hex (slice p e s) ≡ x → all_hex (slice p e s) ≡ false
      go false q = q
      go true q =
          let h : value (get_or (slice p e s) (k - p) 0) < 16 = hex-at (slice p e s) q (k - p) (omega (arith, length-slice p e s es)) in
          let w : get_or (slice p e s) (k - p) 0 ≡ get_or s k 0 = slice_at (k - p) k (omega arith) b in
          absurd (omega (arith, v, subst (λ (x : ℕ). value x < 16) w h))

-- ---- the number of n digits: whether they have the shape decides

pub by_shape : (which : TextKind) (n x : ℕ) → 2 ≤ n → (n - 2) % 4 ≡ 0 → x < 0x10000000000 → (d : ℕ) → d ≡ shape_of which (x / 0x100000000 % 0x100)
    → (b : Bool) → b ≡ fit d ((n - 2) / 4) (x / 0x10000 % 0x10000) → pick b (Some (unpacked x)) None ≡ reading_by which n x
by_shape which n x h m below d ed b e = rw (le-ltb n 2 h, eq-eqb ((n - 2) % 4) 0 m) (at_opcode (x / 0x100000000 % 0x100) (omega (arith, below)) ed)
  where
    at_opcode : (o : ℕ) → o ≡ x / 0x100000000 → d ≡ shape_of which o
        → pick b (Some (frame o (x / 0x10000 % 0x10000) (x % 0x10000))) None ≡ read_as (shape_of which (x / 0x100000000)) (x / 0x100000000) ((n - 2) / 4) (x / 0x10000 % 0x10000) (x % 0x10000)
    at_opcode o q u = rw (← q, ← u, ← e)
