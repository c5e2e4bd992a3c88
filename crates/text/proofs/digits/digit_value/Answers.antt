-- `digit_value` meets its contract. Assumes nothing.
use Rattle.text.proofs.Values.{value_low, value_mid, value-high, no_digit, digit-by-halves}
use Rattle.text.proofs.digits.digit_value.Goals.{then-c-lt48-via-then-c-lt48, then-c-lt48-via-else-c-lt48+then-c-gt102, then-c-lt48-via-else-c-lt48+else-c-gt102+then-c-lt97}
use Rattle.text.proofs.digits.digit_value.Goals as goal

pub returns-then-c-lt48 : goal.returns-then-c-lt48
returns-then-c-lt48 c = elim c.then-c-lt48.branch [
  | then-c-lt48-via-then-c-lt48 w ↦ no_digit _ (value_low _ w.if-c-lt48.true)
  | then-c-lt48-via-else-c-lt48+then-c-gt102 w ↦ no_digit _ (value-high _ w.if-c-gt102.true)
  | then-c-lt48-via-else-c-lt48+else-c-gt102+then-c-lt97 w ↦ no_digit _ (value_mid _ w.if-c-lt97.true.0 w.if-c-lt97.true.1)
]

pub returns : goal.returns
returns c = rw c.from-w.ensures (digit-by-halves _ c.if-c-lt48.false c.if-c-gt102.false c.if-c-lt97.either)
