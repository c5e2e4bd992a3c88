-- Request W-205 of document 02, "Recorded counters through a script": what the bytes of a recording are, and how they are read in parts.
-- Assumes nothing.
use Rattle.std.specs.Prelude.{Bool, true, false, ◌&&◌, ◌||◌, List, [], ◌∷◌, ℕ, suc, ◌+◌, ◌*◌, ◌/◌, ◌%◌, ◌-◌, ◌^◌, length, set, eqb, ltb}
use Rattle.std.proofs.Math.Option.{Option, none, some}
use Rattle.rules.specs.Text.{value, Split, split, Row, row, with1, line_of}

-- ---- a recording

-- "one frame a line, `30` and a 16-bit counter, LF"
unfoldable pub sample_table : List (Row ℕ)
sample_table = row 0x30 (with1 (λ n. n)) ∷ []

-- "A recording has at most 4,294,967,295 lines"
abbrev pub recording_lines : ℕ
recording_lines = 4294967295

-- how many samples it has, and those of them that are kept, from the first on; or the first malformed line
pub data Recording : Type 0 where
  recorded : ℕ → List ℕ → Recording
  malformed : ℕ → Recording

abbrev pub sample_before : ℕ → Option ℕ → Recording → Recording
sample_before i none rest = malformed i
sample_before i (some v) (recorded n vs) = recorded (suc n) (v ∷ vs)
sample_before i (some v) (malformed j) = malformed j

-- "one more counts as malformed": from line i on
unfoldable pub recording_from : ℕ → List Split → Recording
recording_from i [] = recorded 0 []
recording_from i (l ∷ ls) =
    elim (eqb i recording_lines) [ true ↦ malformed i | false ↦ sample_before i (line_of sample_table l) (recording_from (suc i) ls) ]

-- all samples are kept
unfoldable pub recording : List ℕ → Recording
recording s = recording_from 0 (split s)

-- ---- "read in parts of any length, and where they are cut changes nothing"

-- What is known between two bytes: the line that is read, how many of its bytes were read, and the number that its digits make so far.
-- In column 7 the line is malformed, and it stays the line that is read.
pub record Reader : Type 0 where
  pub line : ℕ
  pub column : ℕ
  pub value : ℕ

abbrev pub reader : ℕ → ℕ → ℕ → Reader
reader i k v = record { line = i; column = k; value = v }

-- `30`, four digits, LF: whether the byte c may stand in column k
unfoldable pub fits_at : ℕ → ℕ → Bool
fits_at k c =
    elim (eqb k 0) [
      | true ↦ eqb c 51
      | false ↦ elim (eqb k 1) [
        | true ↦ eqb c 48
        | false ↦ elim (eqb k 6) [ true ↦ eqb c 10 | false ↦ ltb k 6 && ltb (value c) 16 ]
      ]
    ]

-- whether it may come next
abbrev pub fits : Reader → ℕ → Bool
fits r c = elim (eqb r.line recording_lines) [ true ↦ false | false ↦ fits_at r.column c ]

-- the number that a line's digits make, with the byte c in column k; `30` is not one of them
abbrev pub digits : ℕ → ℕ → ℕ → ℕ
digits k v c = elim (ltb k 2) [ true ↦ 0 | false ↦ v * 16 + value c ]

unfoldable pub read_byte : Reader → ℕ → Reader
read_byte r c =
    elim (fits r c) [
      | true ↦ elim (eqb r.column 6) [
        | true ↦ reader (r.line + 1) 0 0
        | false ↦ reader r.line (r.column + 1) (digits r.column r.value c)
      ]
      | false ↦ reader r.line 7 0
    ]

-- sample i in lent memory, as far as there is room; as 01's cell it is "two bytes there, high first"
unfoldable pub kept_at : List ℕ → ℕ → ℕ → List ℕ
kept_at memory i v = elim (ltb i (length memory / 2)) [ true ↦ set (set memory (2 * i) (v / 256)) (2 * i + 1) (v % 256) | false ↦ memory ]

-- lent memory after the byte: a line's LF ends a sample
unfoldable pub kept_by : Reader → ℕ → List ℕ → List ℕ
kept_by r c memory = elim (fits r c && eqb r.column 6) [ true ↦ kept_at memory r.line r.value | false ↦ memory ]

-- the bytes of a part
unfoldable pub fed : Reader → List ℕ → Reader
fed r [] = r
fed r (c ∷ part) = fed (read_byte r c) part

unfoldable pub kept : Reader → List ℕ → List ℕ → List ℕ
kept r [] memory = memory
kept r (c ∷ part) memory = kept (read_byte r c) part (kept_by r c memory)

-- At the end: as many samples as lines, of which these were kept; a line that was begun and not ended is malformed.
abbrev pub ended : Reader → List ℕ → Recording
ended r vs = elim (eqb r.column 0) [ true ↦ recorded r.line vs | false ↦ malformed r.line ]

-- ---- a reader as one number: 0 at the start

abbrev pub reader_of : ℕ → Reader
reader_of n = reader (n % 0x100000000) (n / 0x1000000000000) (n / 0x100000000 % 0x10000)

abbrev pub state_of : Reader → ℕ
state_of r = r.column * 0x1000000000000 + r.value * 0x100000000 + r.line

-- in column k the digits so far make a number below this
unfoldable pub limit : ℕ → ℕ
limit k =
    elim (ltb k 3) [
      | true ↦ 1
      | false ↦ elim (ltb k 7) [ true ↦ 16 ^ (k - 2) | false ↦ elim (eqb k 7) [ true ↦ 1 | false ↦ 0 ] ]
    ]

-- whether some bytes leave it; past the last line there is no column but the first and the malformed one
unfoldable pub is_reader : Reader → Bool
is_reader r =
    ltb r.value (limit r.column)
    && (ltb r.line recording_lines || (eqb r.line recording_lines && (eqb r.column 0 || eqb r.column 7)))

abbrev pub is_state : ℕ → Bool
is_state n = is_reader (reader_of n)
