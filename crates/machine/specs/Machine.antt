-- The form of the promise of `run`, over the rules' own `run_entry`: the answer and the lent memory at exit are these. Assumes nothing.
use Rattle.std.specs.Prelude.{◌≡◌, List, ℕ, ◌<◌, get_or}
use Rattle.rules.specs.Entries.{refusal_answer, Running}

pub record LeavesFrame (l : Running) (answer : ℕ) (cells out : List ℕ) : Type 0 where
  pub answered : answer ≡ l.answer
  pub cells_left : cells ≡ l.cells
  pub out-left : out ≡ l.out

abbrev pub refusal : (n i : ℕ) (cells out : List ℕ) → Running
refusal n i cells out = record { answer = refusal_answer n i; cells = cells; out = out }

-- what a slice of bytes holds
abbrev pub Bytes : List ℕ → Type 0
Bytes bs = (k : ℕ) → get_or bs k 0 < 256
