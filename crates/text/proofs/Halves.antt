-- An answer of one number in its two halves, which can't be mistaken for each other: below 2^32 it counts the bytes that were written;
-- otherwise it is a refusal's number and a line. Assumes nothing.
use mathlib.Core.Path.{◌≡◌}
use Prim.Native.Nat.{ℕ, ◌/◌, ◌%◌, ◌≤◌, ◌<◌}
use native.Mathlib.Omega.{arith}
use Rattle.rules.specs.Entries.{refusal_answer, REFUSAL}

-- with so many bytes lent, of which an answer takes at most so many, a greatest number, and so many lines; `stays`: lent memory is as it was
pub data Halves (lent most greatest lines : ℕ) (stays : Type 0) (answer : ℕ) : Type 0 where
  count : answer / REFUSAL ≡ 0 → answer ≤ lent → answer ≤ most → Halves lent most greatest lines stays answer
  number : (n i : ℕ) → answer / REFUSAL ≡ n → answer % REFUSAL ≡ i → 1 ≤ n → n ≤ greatest → i ≤ lines → stays → Halves lent most greatest lines stays answer

module _ (lent most greatest lines : ℕ) (stays : Type 0) where
  pub by_count : (n : ℕ) → most < REFUSAL → n ≤ lent → n ≤ most → Halves lent most greatest lines stays n
  by_count n h a b = count (omega arith) a b

  pub by_number_lem : (n i : ℕ) → lines < REFUSAL → 1 ≤ n → n ≤ greatest → i ≤ lines → stays → Halves lent most greatest lines stays (refusal_answer n i)
  by_number_lem n i h a b c s = number n i (omega arith) (omega arith) a b c s
