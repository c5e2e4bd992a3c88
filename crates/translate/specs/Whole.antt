-- What the loop over the frames writes on its page, and what `translate` leaves. Assumes nothing.
use Rattle.std.specs.Prelude.{◌≡◌, ◌⊎◌, List, [], ◌∷◌, ◌++◌, ℕ, suc, ◌+◌, ◌*◌, ◌/◌, ◌%◌, ◌≤◌, ◌<◌, length, get_or, take, ltb, Result, Ok, Err}
use Rattle.rules.specs.Sizes.{base, LINES, PAGE}
use Rattle.rules.specs.declared.refusal.Refusal.TheVariants.{MemoryTooShort}
use Rattle.rules.specs.Refusals.{number_of}
use Rattle.rules.specs.Frames as rules
use Rattle.rules.specs.Frames.{State, start, Line, step, Outcome, accepted, refused_at, before, onward}
use Rattle.rules.specs.Slots.{Place, exactly_at, placing}
use Rattle.rules.specs.Text.{line_text, list_text, Script, frames, unread, title, read_script}
use Rattle.rules.specs.Entries.{Translation}
use Rattle.slots.specs.Spots.{place_of}
use Rattle.scopes.specs.Steps.{LentArray}
use Rattle.text.specs.Refused.{Checked, good, bad, answer_of}
use Rattle.text.specs.Shapes.{pick}
use Rattle.text.specs.Titles.{place_by, Titles}
use Rattle.text.specs.Writing.{over}
use Rattle.text.specs.declared.refusal.RefusedAt.{RefusedAt}
use Rattle.translate.specs.declared.whole.Guide.{Guide}
use Rattle.translate.specs.declared.whole.Guide.TheVariants as guide
use Rattle.translate.specs.declared.whole.Listed.{Listed}

-- ---- the promise: the answer and the lent list at exit are these

pub record LeavesList (l : Translation) (answer : ℕ) (list : List ℕ) : Type 0 where
  pub answered : answer ≡ l.answer
  pub list_left : list ≡ l.list

-- how many bytes the list takes, or a refusal, as one number
abbrev pub told : Result ℕ RefusedAt → ℕ
told (Ok n) = n
told (Err e) = answer_of e

-- 17, which is of no line
abbrev pub too_long : RefusedAt
too_long = record { refusal = MemoryTooShort; line = 0 }

-- .. or, on a page of so many bytes, 17 is answered because it is shorter than PAGE
pub data LeavesOn (page : ℕ) (l : Translation) (r : Result ℕ RefusedAt) (list : List ℕ) : Type 0 where
  leaves : LeavesList l (told r) list → LeavesOn page l r list
  too_short : page < PAGE → r ≡ Err too_long → LeavesOn page l r list

-- ---- one frame

unfoldable pub lines_text : List Line → List ℕ
lines_text [] = []
lines_text (l ∷ ls) = line_text l ++ lines_text ls

-- the text t stands in the lent page from w on, and all else is as it was
abbrev pub Puts : LentArray ℕ → ℕ → List ℕ → Type 0
Puts page w t = page.exit.now ≡ over page.entry.now w t

-- ---- where slots go, line by line

-- the first number of row i, where there is one
abbrev pub shown_at : List ℕ → ℕ → Place
shown_at rows i = exactly_at (pick (ltb i (length rows)) (get_or rows i 0 / 0x10000 % 0x10000) 0xffff)

abbrev pub guide_at : Guide → ℕ → Place
guide_at (guide.Everywhere p) i = place_of p
guide_at (guide.Shown rows) i = shown_at rows.now i

-- the frames from line i on, each line's slots going by the line
unfoldable pub steps_at : (ℕ → Place) → ℕ → State → List rules.Frame → Outcome
steps_at by i s [] = accepted [] s.scopes.size
steps_at by i s (f ∷ fs) = onward i (step base (placing base.segments (by i)) s f) (λ t. steps_at by (suc i) t fs)

-- the lines from line i on: where one of them can't be read, nothing else counts
abbrev pub walk_from : (ℕ → Place) → ℕ → State → Script → Outcome
walk_from by i s (frames fs) = steps_at by i s fs
walk_from by i s (unread n j) = refused_at n j

-- a script that has n title lines: its title, and what stands behind it
unfoldable pub walked : (ℕ → Place) → ℕ → List ℕ → Outcome
walked by n script = before (title (place_by n)) (walk_from by n start (read_script base script).script)

-- a step is refused by n at line i: "Text: the first line with 1 or 2, before any step", by what the lines behind it come to
abbrev pub stopped_at : ℕ → ℕ → Checked ℕ → Checked ℕ
stopped_at n i (good m) = bad n i
stopped_at n i (bad m j) = bad m j

-- ---- the page

-- no list of so many frames and handles has more bytes: 11 for each frame, 4 for each handle, 7 for the size line
abbrev pub longest_of : ℕ → ℕ → ℕ
longest_of many handed = 11 * many + 4 * handed + 7

-- the list stands at the start of the page
pub record Lists (o : Outcome) (l : Listed) (page : List ℕ) : Type 0 where
  pub lines : List Line
  pub is : o ≡ accepted lines l.size
  pub many : l.bytes ≡ length (list_text lines l.size)
  pub within : l.bytes ≤ length page
  pub text : take l.bytes page ≡ list_text lines l.size

-- a refusal is told
abbrev pub Refuses : Outcome → RefusedAt → Type 0
Refuses o e = (o ≡ refused_at (number_of e.refusal) e.line) × (e.line ≤ LINES)

-- the one or the other
abbrev pub Ends : Outcome → Result Listed RefusedAt → List ℕ → Type 0
Ends o (Ok l) page = Lists o l page
Ends o (Err e) page = Refuses o e

-- .. or 17 is told, on a page that is shorter than PAGE
abbrev pub EndsOn : Outcome → Result Listed RefusedAt → List ℕ → Type 0
EndsOn o (Ok l) page = Lists o l page
EndsOn o (Err e) page = Refuses o e ⊎ ((length page < PAGE) × (e ≡ too_long))

-- the script, with n title lines, as the guide walks it
abbrev pub EndsWalk : Guide → (script : List ℕ) → ℕ → Result Listed RefusedAt → (page : List ℕ) → Type 0
EndsWalk by script n r page = EndsOn (walked (guide_at by) n script) r page

-- .. by the rows, with the title lines that it has
abbrev pub EndsShown : (rows script : List ℕ) → Result Listed RefusedAt → (page : List ℕ) → Type 0
EndsShown rows script r page = (n : ℕ) × Titles script n × Ends (walked (shown_at rows) n script) r page
