-- What an answer of the code tells that is a value or a refusal at a line. Assumes nothing.
use Rattle.std.specs.Prelude.{ℕ, Result, Ok, Err}
use Rattle.rules.specs.Refusals.{number_of}
use Rattle.rules.specs.Entries.{refusal_answer}
use Rattle.text.specs.declared.refusal.RefusedAt.{RefusedAt}

-- a value, or the number and the line of a refusal
pub data Checked (A : Type 0) : Type 0 where
  good : A → Checked A
  bad : (number line : ℕ) → Checked A

abbrev pub checked_of : {A : Type 0} → Result A RefusedAt → Checked A
checked_of (Ok a) = good a
checked_of (Err e) = bad (number_of e.refusal) e.line

-- as one number: the refusal's in the high 32 bits, the line in the low 32
abbrev pub answer_of : RefusedAt → ℕ
answer_of e = refusal_answer (number_of e.refusal) e.line
