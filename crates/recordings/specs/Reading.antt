-- What the code's reader stands for, the promise of read_recording, and what a whole line, a run of them and a turn of the loop are. Assumes nothing.
use Rattle.std.specs.Prelude.{◌≡◌, true, ◌&&◌, not, Option, Some, None, List, ℕ, ◌+◌, ◌-◌, ◌*◌, ◌≤◌, ◌<◌, length, get_or, drop, eqb}
use Rattle.rules.specs.Recordings.{Reader, reader, is_reader, fits_at, digits, fed, kept}
use Rattle.text.specs.Shapes.{pick}
use Rattle.rules.specs.Entries.{PartRead}
use Rattle.text.specs.Lines.{FourDigits}
use Rattle.recordings.specs.declared.states.Reader as code

-- the reader of the rules
abbrev pub seen : code.Reader → Reader
seen r = reader r.line r.column r.value

-- the number that a line's digits make with the byte c in column k, if c may stand there and is no LF
abbrev pub digits_with : ℕ → ℕ → ℕ → Option ℕ
digits_with k v c = pick (fits_at k c && not (eqb k 6)) (Some (digits k v c)) None

-- the promise: the answer and the lent samples at exit are these
pub record LeavesSamples (l : PartRead) (answer : ℕ) (samples : List ℕ) : Type 0 where
  pub answered : answer ≡ l.answer
  pub samples-left : samples ≡ l.samples

-- ---- a whole line

-- `30`, four digits, LF from p on
pub record WholeLine (part : List ℕ) (p v : ℕ) : Type 0 where
  pub three : get_or part p 0 ≡ 51
  pub naught : get_or part (p + 1) 0 ≡ 48
  pub sample : FourDigits (get_or part (p + 2) 0) (get_or part (p + 3) 0) (get_or part (p + 4) 0) (get_or part (p + 5) 0) v
  pub lf : get_or part (p + 6) 0 ≡ 10

-- ---- some bytes of a part

-- what the bytes s do to a reader and to lent memory, the bytes t do to these
pub record Same (r : Reader) (s memory : List ℕ) (n : Reader) (t left : List ℕ) : Type 0 where
  pub fed-same : fed r s ≡ fed n t
  pub kept_same : kept r s memory ≡ kept n t left

-- whole lines are read from p on, each of seven bytes, up to the given line
pub record LinesRead (part : List ℕ) (p : ℕ) (r : Reader) (memory : List ℕ) (line : ℕ) (left : List ℕ) : Type 0 where
  pub onward : r.line ≤ line
  pub within : p + 7 * (line - r.line) ≤ length part
  pub sound : is_reader (reader line r.column r.value) ≡ true
  pub same : Same r (drop p part) memory (reader line r.column r.value) (drop (p + 7 * (line - r.line)) part) left

-- the bytes from p up to next are read
pub record Turned (part : List ℕ) (p : ℕ) (r : Reader) (memory : List ℕ) (n : Reader) (next : ℕ) (left : List ℕ) : Type 0 where
  pub forward : p < next
  pub within : next ≤ length part
  pub sound : is_reader n ≡ true
  pub same : Same r (drop p part) memory n (drop next part) left
