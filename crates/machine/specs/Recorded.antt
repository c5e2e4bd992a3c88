-- What a run with a recording answers and leaves, over the entries of a list: a refusal after the other, and then the work. The promise of
-- `run_recorded` is over the rules' own `recorded_entry`. Assumes nothing.
use Rattle.std.specs.Prelude.{◌≡◌, Bool, true, List, ◌++◌, ℕ, ◌*◌, ◌/◌, ◌-◌, length, take, drop, eqb, ltb, Result, Ok, Err}
use Rattle.std.specs.Borrow.{MutBor}
use denote.Triple.Both.{Both}
use Rattle.rules.specs.Sizes.{Room}
use Rattle.rules.specs.Entries.{refusal_answer, bytes4, over_front, RecordedRunning}
use Rattle.text.specs.Shapes.{pick}
use Rattle.text.specs.Whole.{listing}
use Rattle.text.specs.Refused.{Checked, good, bad, answer_of}
use Rattle.text.specs.declared.refusal.RefusedAt.{RefusedAt}
use Rattle.text.specs.declared.whole.Listing.{Listing}
use Rattle.machine.specs.Entries.{entries}
use Rattle.machine.specs.Survey.{survey_of, lacking_of}
use Rattle.machine.specs.Work.{filled_from, obey_cells, obey_text, zeroed}
use Rattle.machine.specs.declared.entries.Entry.{Entry}
use Rattle.machine.specs.declared.survey.Asked.{Asked}

-- ---- the form of the promise

pub record LeavesAll (l : RecordedRunning) (answer : ℕ) (cells out left : List ℕ) : Type 0 where
  pub answered : answer ≡ l.answer
  pub cells_left : cells ≡ l.cells
  pub out-left : out ≡ l.out
  pub left-left : left ≡ l.left

-- how many bytes were written, or a refusal, as one number
abbrev pub answered : Result ℕ RefusedAt → ℕ
answered (Ok n) = n
answered (Err e) = answer_of e

abbrev LentBytes : Type 0
LentBytes = Both (MutBor (List ℕ)) (MutBor (List ℕ))

-- f says what is left of the lent cells, output and number left over, as they came in
abbrev pub LeftBy : (List ℕ → List ℕ → List ℕ → RecordedRunning) → ℕ → (cells out left : LentBytes) → Type 0
LeftBy f answer cells out left =
    LeavesAll (f cells.entry.now out.entry.now left.entry.now) answer cells.exit.now out.exit.now left.exit.now

-- ---- by the entries of a list

abbrev pub refusal : (n i : ℕ) (cells out left : List ℕ) → RecordedRunning
refusal n i cells out left = record { answer = refusal_answer n i; cells = cells; out = out; left = left }

-- 17: fewer cells than the size, or lent memory too short for the answer, the samples or their number
abbrev pub lacks_of : (cells out samples left size loads takes : ℕ) → Bool
lacks_of c o m l size loads takes = pick (ltb (c / 2) size) true (pick (ltb (o / 7) loads) true (pick (ltb (m / 2) takes) true (ltb l 4)))

unfoldable pub enough_left : List ℕ → (size loads takes recorded : ℕ) → List Entry → (cells out left : List ℕ) → RecordedRunning
enough_left samples size loads takes recorded es cells out left =
    pick (lacks_of (length cells) (length out) (length samples) (length left) size loads takes) (refusal 17 0 cells out left)
    (record {
      answer = 7 * loads;
      cells = obey_cells (zeroed size cells) (filled_from samples 0 es);
      out = obey_text (zeroed size cells) (filled_from samples 0 es) ++ drop (7 * loads) out;
      left = over_front (bytes4 (recorded - takes)) left;
    })

-- 24, where the recording ended in another column than 0; 23
unfoldable pub whole_left : List ℕ → (size loads takes column recorded : ℕ) → List Entry → (cells out left : List ℕ) → RecordedRunning
whole_left samples size loads takes column recorded es cells out left =
    pick (eqb column 0)
    (pick (ltb recorded takes) (refusal 23 (lacking_of 0 recorded es) cells out left) (enough_left samples size loads takes recorded es cells out left))
    (refusal 24 recorded cells out left)

-- 20
abbrev pub surveyed_left : List ℕ → (size column recorded : ℕ) → List Entry → Checked Asked → (cells out left : List ℕ) → RecordedRunning
surveyed_left samples size column recorded es (bad n i) cells out left = refusal n i cells out left
surveyed_left samples size column recorded es (good a) cells out left = whole_left samples size a.loads a.takes column recorded es cells out left

abbrev pub survey_left : List ℕ → (size column recorded : ℕ) → List Entry → (cells out left : List ℕ) → RecordedRunning
survey_left samples size column recorded es = surveyed_left samples size column recorded es (survey_of size 0 0 0 es)

-- 1, 2; n lines stand before the size line
abbrev pub listed_left : List ℕ → (column recorded : ℕ) → List Entry → Checked Listing → (cells out left : List ℕ) → RecordedRunning
listed_left samples column recorded es (bad m i) cells out left = refusal m i cells out left
listed_left samples column recorded es (good l) cells out left = survey_left samples l.size column recorded (take l.lines es) cells out left

unfoldable pub list_left : Room → List ℕ → List ℕ → (column recorded : ℕ) → (cells out left : List ℕ) → RecordedRunning
list_left room list samples column recorded = listed_left samples column recorded (entries list) (listing room list)
