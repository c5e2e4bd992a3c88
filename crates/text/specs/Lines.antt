-- What the reader answers for a line of a script or of a list, over the rules' own definitions. Assumes nothing.
use Rattle.std.specs.Prelude as std
use Rattle.std.specs.Prelude.{◌≡◌, Bool, true, false, List, [], ◌∷◌, ℕ, zero, suc, ◌+◌, ◌*◌, ◌/◌, ◌%◌, ◌-◌, ◌≤◌, ◌<◌, length, get_or, take, drop, eqb, ltb, Some, None}
use Rattle.std.proofs.Math.Option.{Option, none, some}
use Rattle.rules.specs.Frames as rules
use Rattle.rules.specs.Frames.{child, pop, dangle, restore, pop_last, alloc, alloc_in, linear, define, get, take_from, free, free_quietly, forget, drain, constant, next_sample, write, read, read_name, new_defer, new_assigned, new_ignore, alloc_need, output_need, drop_need, Line, stores, loads, shows}
use Rattle.rules.specs.Text.{value, Split, split, rowed, line_of, frame_table, line_table, size_table, opcode_of, operands_of}
use Rattle.text.specs.declared.lines.Frame.{Frame}
use Rattle.text.specs.declared.lines.TextKind.{TextKind}
use Rattle.text.specs.declared.lines.TextKind.TheVariants as kind
use Rattle.text.specs.declared.lines.TakenLine.{TakenLine}
use Rattle.text.specs.declared.lines.Digits.{Digits}
use Rattle.text.specs.Shapes.{pick, frame, Reading, shape_of, read_as}

-- ---- positions of a text

-- e is where the line that starts at p ends: its LF, or the end of the text
pub record Ends (s : List ℕ) (p e : ℕ) : Type 0 where
  pub from : p ≤ e
  pub to : e ≤ length s
  pub none_before : (k : ℕ) → p ≤ k → k < e → get_or s k 0 ≡ 10 → ⊥
  pub last : e < length s → get_or s e 0 ≡ 10

-- q is where the line after the one that holds e begins: one past its LF, or the end of the text
pub record NextLine (s : List ℕ) (e q : ℕ) : Type 0 where
  pub end : ℕ
  pub ends : Ends s e end
  pub is : q ≡ pick (eqb end (length s)) end (end + 1)

-- ---- digits

-- the value of a byte, if it is a digit
abbrev pub digit_in : ℕ → std.Option ℕ
digit_in c = pick (ltb (value c) 16) (Some (value c)) None

-- the number of four digits at p
abbrev pub word_at : List ℕ → ℕ → ℕ
word_at s p = value (get_or s p 0) * 4096 + value (get_or s (p + 1) 0) * 256 + value (get_or s (p + 2) 0) * 16 + value (get_or s (p + 3) 0)

-- four bytes as one number, the first one lowest
pub record Packed (a b c d w : ℕ) : Type 0 where
  pub byte-1 : a < 256
  pub byte-2 : b < 256
  pub byte-3 : c < 256
  pub byte-4 : d < 256
  pub makes : w ≡ a + b * 256 + c * 65536 + d * 16777216

-- four digits, and the number that they make
pub record FourDigits (a b c d v : ℕ) : Type 0 where
  pub first : value a < 16
  pub second : value b < 16
  pub third : value c < 16
  pub fourth : value d < 16
  pub number : v ≡ value a * 4096 + value b * 256 + value c * 16 + value d

-- v is the number that the bytes of the word w make as digits
abbrev pub WordMakes : ℕ → ℕ → Type 0
WordMakes w v = (a b c d : ℕ) → Packed a b c d w → FourDigits a b c d v

-- what digit k of ten counts for; 0 past them
unfoldable pub weight : ℕ → ℕ
weight zero = 0x1000000000
weight (suc k) = weight k / 16

-- the number that the first ten of k digits from p on make, with zeros after them where there are fewer
unfoldable pub number_of : List ℕ → ℕ → ℕ → ℕ
number_of s p zero = 0
number_of s p (suc k) = number_of s p k + value (get_or s (p + k) 0) * weight k

-- e is where the digits from p on end
pub record DigitsEnd (s : List ℕ) (p e : ℕ) : Type 0 where
  pub from : p ≤ e
  pub to : e ≤ length s
  pub all : (k : ℕ) → p ≤ k → k < e → value (get_or s k 0) < 16
  pub stop : e < length s → 16 ≤ value (get_or s e 0)

pub record DigitsFrom (s : List ℕ) (p : ℕ) (d : Digits) : Type 0 where
  pub from : p ≤ d.end
  pub to : d.end ≤ length s
  pub all : (k : ℕ) → p ≤ k → k < d.end → value (get_or s k 0) < 16
  pub stop : d.end < length s → 16 ≤ value (get_or s d.end 0)
  pub number_is : d.number ≡ number_of s p (d.end - p)
  pub below : d.number < 0x10000000000

-- the digits up to end are an opcode's and those of two operands, 0 where there is none
pub record Joined (end opcode a b : ℕ) (d : Digits) : Type 0 where
  pub ends : d.end ≡ end
  pub makes : d.number ≡ opcode * 0x100000000 + a * 0x10000 + b

-- what a line of n digits that make the number comes to
abbrev pub reading_by : TextKind → ℕ → ℕ → Reading
reading_by k n number =
    pick (ltb n 2) None
    (pick (eqb ((n - 2) % 4) 0)
    (read_as (shape_of k (number / 0x100000000)) (number / 0x100000000) ((n - 2) / 4) (number / 0x10000 % 0x10000) (number % 0x10000))
    None)

abbrev pub ended : List ℕ → Split
ended t = record { text = t; ended = true }

-- ---- scripts

-- a frame of the rules, as a record of its opcode and two operands
abbrev pub code_of : rules.Frame → Frame
code_of child = frame 0x01 0 0
code_of (pop s) = frame 0x02 s 0
code_of (dangle s) = frame 0x03 s 0
code_of (restore s) = frame 0x04 s 0
code_of pop_last = frame 0x05 0 0
code_of alloc = frame 0x06 0 0
code_of (alloc_in s) = frame 0x07 s 0
code_of (linear n) = frame 0x08 n 0
code_of (define name h) = frame 0x09 name h
code_of (get name) = frame 0x0a name 0
code_of (take_from name) = frame 0x0b name 0
code_of (free h) = frame 0x0c h 0
code_of (free_quietly h) = frame 0x0d h 0
code_of (forget h) = frame 0x0e h 0
code_of drain = frame 0x0f 0 0
code_of (write h (constant v)) = frame 0x10 h v
code_of (write h next_sample) = frame 0x14 h 0
code_of (read h) = frame 0x11 h 0
code_of (read_name name) = frame 0x12 name 0
code_of (new_defer s) = frame 0x20 s 0
code_of (new_assigned h) = frame 0x21 h 0
code_of new_ignore = frame 0x22 0 0
code_of (alloc_need n) = frame 0x23 n 0
code_of (output_need n) = frame 0x24 n 0
code_of (drop_need n) = frame 0x25 n 0

-- the rules' frame of a record
unfoldable pub frame_of : Frame → Option rules.Frame
frame_of f = rowed frame_table (record { opcode = f.opcode; operands = take (shape_of kind.Script f.opcode - 1) (f.a ∷ f.b ∷ []) })

abbrev pub framed : Option rules.Frame → Reading
framed none = None
framed (some f) = Some (code_of f)

unfoldable pub frame_reading : Split → Reading
frame_reading l = framed (line_of frame_table l)

-- ---- lists

abbrev pub lined : Option Line → Reading
lined none = None
lined (some l) = Some (frame (opcode_of l) (get_or (operands_of l) 0 0) (get_or (operands_of l) 1 0))

abbrev pub sized_or : Option ℕ → Reading → Reading
sized_or none other = other
sized_or (some n) other = Some (frame 0x90 n 0)

unfoldable pub line_reading : Split → Reading
line_reading l = sized_or (line_of size_table l) (lined (line_of line_table l))

abbrev pub reading_of : TextKind → Split → Reading
reading_of kind.Script = frame_reading
reading_of kind.List = line_reading

-- ---- a line as one number

-- its opcode, then its two operands
abbrev pub unpacked : ℕ → Frame
unpacked code = frame (code / 0x100000000 % 0x100) (code / 0x10000 % 0x10000) (code % 0x10000)

-- ---- a line that was taken at p, by the reading f, and where the next begins

abbrev pub width : Split → ℕ
width l = elim l.ended [ true ↦ length l.text + 1 | false ↦ length l.text ]

pub record Took (f : Split → Reading) (s : List ℕ) (p : ℕ) (r : TakenLine) : Type 0 where
  pub line : Split
  pub here : split (drop p s) ≡ line ∷ split (drop r.next s)
  pub as_read : r.frame ≡ f line
  pub place : r.next ≡ p + width line
  pub forward : p < r.next
  pub within : r.next ≤ length s
