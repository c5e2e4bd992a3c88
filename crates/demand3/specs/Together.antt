-- What translate and run answer together, on lent cells and out, for all bytes. The list between them isn't seen: what is printed is what the
-- script means. Assumes nothing.
use Rattle.std.specs.Prelude.{◌&&◌, List, [], ℕ, ◌*◌, length, replicate, leb}
use Rattle.std.proofs.Math.Option.{none, some}
use Rattle.rules.specs.Notation.{provided◌then◌else◌}
use Rattle.rules.specs.Sizes.{base}
use Rattle.rules.specs.Frames.{Line, Outcome, accepted, refused_at}
use Rattle.rules.specs.Meaning.{obey, lacking}
use Rattle.rules.specs.Entries.{translated, over_front, loads_text, bytes_of, Running}
use Rattle.machine.specs.Machine.{refusal}
use Rattle.demand3.specs.Promises.{means}

-- the bytes of a zeroed frame of exactly the size, after the lines
abbrev pub frame_after : List Line → ℕ → List ℕ
frame_after ls size = bytes_of (obey (replicate size 0) [] ls).cells

-- the text of the values over the front of out, 7 bytes a load, and the frame over the front of the cells
abbrev pub worked : List Line → ℕ → List ℕ → List ℕ → List ℕ → Running
worked ls size values cells out =
    record { answer = 7 * length values; cells = over_front (frame_after ls size) cells; out = over_front (loads_text values) out }

-- translate's refusal with its number and line; else 23, where the script has a frame 14, since there is no recording; else 17, "lent memory
-- too short for the answer, or fewer cells than the size"; else the work
unfoldable pub together_on : Outcome → List ℕ → List ℕ → List ℕ → Running
together_on (refused_at n i) values cells out = refusal n i cells out
together_on (accepted ls size) values cells out =
    elim (lacking 0 0 ls) [
      | some i ↦ refusal 23 i cells out
      | none ↦ provided (leb (2 * size) (length cells) && leb (7 * length values) (length out)) then worked ls size values cells out else refusal 17 0 cells out
    ]

unfoldable pub together : List ℕ → List ℕ → List ℕ → Running
together script cells out = together_on (translated base script) (means script []) cells out
