-- A script and a list that are read, and what the steps say of them. Assumes nothing.
use Rattle.std.specs.Prelude.{◌≡◌, Bool, ◌&&◌, List, [], ℕ, length, drop, Result, Ok, Err}
use Rattle.rules.specs.Sizes.{base}
use Rattle.rules.specs.Frames.{Frame, Line, start, Outcome, before}
use Rattle.rules.specs.Text.{Script, frames, unread, title, read_script, listed, read_list}
use Rattle.rules.specs.Entries.{translated}
use Rattle.rules.specs.Suppliers.{shown_steps, is_accepted, agrees_with}
use Rattle.std.specs.Int.{from_bool}
use Rattle.text.specs.Table.{Rows}
use Rattle.text.specs.Refused.{answer_of}
use Rattle.text.specs.declared.refusal.RefusedAt.{RefusedAt}

-- the script's lines are read: behind the title they are these frames
pub record Read (script : List ℕ) : Type 0 where
  pub all : List Frame
  pub reads : (read_script base script).script ≡ frames all

abbrev pub frames_of : Script → List Frame
frames_of (frames fs) = fs
frames_of (unread n i) = []

-- the list's lines and its size, and the rows of its lines
pub record TheList (list rows : List ℕ) (size : ℕ) : Type 0 where
  pub all : List Line
  pub reads : read_list base list ≡ listed all size
  pub many : length rows ≡ length all
  pub rows_are : Rows list rows (length rows)

-- what the script comes to over the addresses of these lines
unfoldable pub over_lines : List ℕ → List Line → Outcome
over_lines script ls =
    let above : List Line = title (read_script base script).place in
    before above (shown_steps base (length above) start (frames_of (read_script base script).script) (drop (length above) ls))

pub record SaysShown (script list rows : List ℕ) (size : ℕ) (r : Bool) : Type 0 where
  pub says : (l : TheList list rows size) → r ≡ agrees_with l.all size (over_lines script l.all)

pub record SaysBoth (script list rows : List ℕ) (size : ℕ) (r : Bool) : Type 0 where
  pub says : (l : TheList list rows size) → r ≡ (is_accepted (translated base script) && agrees_with l.all size (over_lines script l.all))

-- yes or no, or a refusal, as one number
abbrev pub answered : Result Bool RefusedAt → ℕ
answered (Ok b) = from_bool b
answered (Err e) = answer_of e
