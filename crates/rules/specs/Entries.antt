-- Document 01, "Script frames" and "Numbers given back", and W-205 and W-211 of document 02: what translate, run, read_recording and run_recorded
-- answer and what they leave in lent memory, for all bytes; and what the two programs print. Assumes nothing.
use Rattle.std.specs.Prelude.{true, false, ◌&&◌, ◌||◌, List, [], ◌∷◌, ◌++◌, ℕ, ◌+◌, ◌*◌, ◌/◌, ◌%◌, ◌-◌, length, replicate, drop, eqb, leb, ltb}
use Rattle.std.proofs.Math.Option.{none, some}
use Rattle.rules.specs.Notation.{provided◌then◌else◌}
use Rattle.rules.specs.Sizes.{Room}
use Rattle.rules.specs.Slots.{Place, placing}
use Rattle.rules.specs.Frames.{Line, start, Outcome, accepted, refused_at, before, steps}
use Rattle.rules.specs.Meaning.{Ran, obey, high, list_takes, lacking}
use Rattle.rules.specs.Text.{hex2, hex4, Script, frames, unread, title, read_script, list_text, Listed, listed, unlisted, read_list}
use Rattle.rules.specs.Recordings.{Recording, recorded, malformed, reader_of, state_of, is_state, fed, kept, ended}

-- ---- translate: "Text: the first line with 1 or 2, before any step", then the steps

-- the frames behind a title, whose allocations go as it says
unfoldable pub outcome : Room → Place → Script → Outcome
outcome room p (frames fs) = before (title p) (steps room (placing room.segments p) (length (title p)) start fs)
outcome room p (unread n i) = refused_at n i

unfoldable pub translated : Room → List ℕ → Outcome
translated room script = outcome room (read_script room script).place (read_script room script).script

-- ---- run: "20 after 1 and 2"; W-205: 24 and 23, "both after 20 .."; then 17

-- it ran, with so many samples left over; or a refusal
pub data RunOutcome : Type 0 where
  ran : Ran → ℕ → RunOutcome
  stopped : ℕ → ℕ → RunOutcome

-- "24 for the first malformed recording line, wherever it stands; otherwise 23 when there are too few samples". 17: "fewer cells than the
-- size", or fewer samples kept than the list takes. "zeroes cells 0 to size − 1 .. Cells above stay."
abbrev pub run_sampled : List ℕ → ℕ → List Line → Recording → RunOutcome
run_sampled cells size ls (malformed j) = stopped 24 j
run_sampled cells size ls (recorded n vs) =
    elim (lacking 0 n ls) [
      | some i ↦ stopped 23 i
      | none ↦ elim (ltb (length cells) size || ltb (length vs) (list_takes ls)) [
        | true ↦ stopped 17 0
        | false ↦ ran (obey (replicate size 0 ++ drop size cells) vs ls) (n - list_takes ls)
      ]
    ]

unfoldable pub run_listed : List ℕ → Recording → Listed → RunOutcome
run_listed cells r (unlisted n i) = stopped n i
run_listed cells r (listed ls size) = elim (high size 0 ls) [ some i ↦ stopped 20 i | none ↦ run_sampled cells size ls r ]

-- "The frame machine takes a recording beside the list."
unfoldable pub recorded_on : Room → List ℕ → Recording → List ℕ → RunOutcome
recorded_on room cells r list = run_listed cells r (read_list room list)

-- without one it is as with an empty one
unfoldable pub ran_on : Room → List ℕ → List ℕ → RunOutcome
ran_on room cells list = recorded_on room cells (recorded 0 []) list

-- "writes `a0` and the value for each load"
unfoldable pub load_text : ℕ → List ℕ
load_text v = hex2 0xa0 ++ (hex4 v ++ (10 ∷ []))

unfoldable pub loads_text : List ℕ → List ℕ
loads_text [] = []
loads_text (v ∷ vs) = load_text v ++ loads_text vs

-- ---- lent memory

-- an answer from here on is a refusal: its number in the high 32 bits, its line in the low 32
abbrev pub REFUSAL : ℕ
REFUSAL = 4294967296

abbrev pub refusal_answer : ℕ → ℕ → ℕ
refusal_answer n i = n * REFUSAL + i

-- text over the beginning of lent memory
abbrev pub over_front : List ℕ → List ℕ → List ℕ
over_front text out = text ++ drop (length text) out

-- what translate answers, and the lent list as it leaves it
pub record Translation : Type 0 where
  pub answer : ℕ
  pub list : List ℕ

-- 17: "lent memory too short for the answer", line 0
unfoldable pub list_left : Outcome → List ℕ → Translation
list_left (refused_at n i) list = record { answer = refusal_answer n i; list = list }
list_left (accepted ls size) list =
    provided (leb (length (list_text ls size)) (length list))
    then record { answer = length (list_text ls size); list = over_front (list_text ls size) list }
    else record { answer = refusal_answer 17 0; list = list }

unfoldable pub translate_entry : Room → List ℕ → List ℕ → Translation
translate_entry room script list = list_left (translated room script) list

-- "a cell is two bytes there, high first"; an odd last byte is no cell
unfoldable pub cells_of : List ℕ → List ℕ
cells_of [] = []
cells_of (h ∷ []) = []
cells_of (h ∷ l ∷ bytes) = (h * 256 + l) ∷ cells_of bytes

unfoldable pub odd_byte : List ℕ → List ℕ
odd_byte [] = []
odd_byte (b ∷ []) = b ∷ []
odd_byte (h ∷ l ∷ bytes) = odd_byte bytes

unfoldable pub bytes_of : List ℕ → List ℕ
bytes_of [] = []
bytes_of (v ∷ cells) = v / 256 ∷ v % 256 ∷ bytes_of cells

-- what run answers, and the lent cells and output as it leaves them
pub record Running : Type 0 where
  pub answer : ℕ
  pub cells : List ℕ
  pub out : List ℕ

unfoldable pub run_left : RunOutcome → List ℕ → List ℕ → Running
run_left (stopped n i) cells out = record { answer = refusal_answer n i; cells = cells; out = out }
run_left (ran r left) cells out =
    provided (leb (length (loads_text r.loaded)) (length out))
    then record { answer = length (loads_text r.loaded); cells = bytes_of r.cells ++ odd_byte cells; out = over_front (loads_text r.loaded) out }
    else record { answer = refusal_answer 17 0; cells = cells; out = out }

unfoldable pub run_entry : Room → List ℕ → List ℕ → List ℕ → Running
run_entry room list cells out = run_left (ran_on room (cells_of cells) list) cells out

-- ---- W-205: "Recordings are read in parts of any length", and a run with one

-- what read_recording answers, and the lent samples as it leaves them
pub record PartRead : Type 0 where
  pub answer : ℕ
  pub samples : List ℕ

-- 29: no reader's state
unfoldable pub read_entry : ℕ → List ℕ → List ℕ → PartRead
read_entry state samples part =
    provided (is_state state)
    then record { answer = state_of (fed (reader_of state) part); samples = kept (reader_of state) part samples }
    else record { answer = refusal_answer 29 0; samples = samples }

-- what run_recorded answers, and the lent cells, output and number left over as it leaves them
pub record RecordedRunning : Type 0 where
  pub answer : ℕ
  pub cells : List ℕ
  pub out : List ℕ
  pub left : List ℕ

-- four bytes, high first
abbrev pub bytes4 : ℕ → List ℕ
bytes4 n = n / 16777216 ∷ n / 65536 % 256 ∷ n / 256 % 256 ∷ n % 256 ∷ []

-- "The number of samples left over is reported. .. On a refusal no cell changes and nothing is printed."
unfoldable pub recorded_left : RunOutcome → List ℕ → List ℕ → List ℕ → RecordedRunning
recorded_left (stopped n i) cells out left = record { answer = refusal_answer n i; cells = cells; out = out; left = left }
recorded_left (ran r n) cells out left =
    provided (leb (length (loads_text r.loaded)) (length out) && leb 4 (length left))
    then record {
      answer = length (loads_text r.loaded);
      cells = bytes_of r.cells ++ odd_byte cells;
      out = over_front (loads_text r.loaded) out;
      left = over_front (bytes4 n) left;
    }
    else record { answer = refusal_answer 17 0; cells = cells; out = out; left = left }

-- 29 first; then the list is run with what the reader's state and the kept samples tell of the recording
unfoldable pub recorded_entry : Room → List ℕ → ℕ → List ℕ → List ℕ → List ℕ → List ℕ → RecordedRunning
recorded_entry room list state samples cells out left =
    provided (is_state state)
    then recorded_left (recorded_on room (cells_of cells) (ended (reader_of state) (cells_of samples)) list) cells out left
    else record { answer = refusal_answer 29 0; cells = cells; out = out; left = left }

-- ---- the programs

-- "our programs then print `ee`, the number in two hex digits, the line in four"
unfoldable pub ee_text : ℕ → ℕ → List ℕ
ee_text n i = hex2 0xee ++ (hex2 n ++ (hex4 i ++ (10 ∷ [])))

unfoldable pub outcome_text : Outcome → List ℕ
outcome_text (accepted ls size) = list_text ls size
outcome_text (refused_at n i) = ee_text n i

unfoldable pub run_text : RunOutcome → List ℕ
run_text (ran r left) = loads_text r.loaded
run_text (stopped n i) = ee_text n i

-- "a program refuses longer input by 17, whatever it holds"
unfoldable pub unless_longer : Room → List ℕ → List ℕ → List ℕ
unless_longer room input printed = provided (ltb room.text (length input)) then ee_text 17 0 else printed

unfoldable pub translator_prints : Room → List ℕ → List ℕ
translator_prints room input = unless_longer room input (outcome_text (translated room input))

-- the program lends as many cells as a list may ask for
unfoldable pub runner_prints : Room → List ℕ → List ℕ
runner_prints room input = unless_longer room input (run_text (ran_on room (replicate room.size 0) input))

abbrev pub hex8 : ℕ → List ℕ
hex8 n = hex4 (n / 65536) ++ hex4 (n % 65536)

-- W-205: "24 shows the recording's line, in eight digits"
unfoldable pub malformed_text : ℕ → List ℕ
malformed_text i = hex2 0xee ++ (hex2 24 ++ (hex8 i ++ (10 ∷ [])))

-- a last line: `a1` and the number of samples left over
unfoldable pub left_text : ℕ → List ℕ
left_text n = hex2 0xa1 ++ (hex8 n ++ (10 ∷ []))

unfoldable pub recorded_text : RunOutcome → List ℕ
recorded_text (ran r left) = loads_text r.loaded ++ left_text left
recorded_text (stopped n i) = elim (eqb n 24) [ true ↦ malformed_text i | false ↦ ee_text n i ]

-- the program with a recording, once it is read to this state and these samples are kept
unfoldable pub recorded_prints : Room → List ℕ → ℕ → List ℕ → List ℕ
recorded_prints room input state samples =
    unless_longer room input
    (provided (is_state state)
    then recorded_text (recorded_on room (replicate room.size 0) (ended (reader_of state) (cells_of samples)) input)
    else ee_text 29 0)
