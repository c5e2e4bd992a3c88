-- Document 01, "Sizes", as W-206 of document 02 raises them, and the needs of W-201. Assumes nothing.
use Rattle.std.specs.Prelude.{ℕ, ◌+◌, ◌*◌}

-- The room: every rule takes these numbers from here.
pub record Room : Type 0 where
  -- segments of 128 slots
  pub segments : ℕ
  -- live scopes, root included
  pub scopes : ℕ
  -- live bindings over all scopes
  pub bindings : ℕ
  -- handles of a script
  pub handles : ℕ
  -- needs of a script
  pub needs : ℕ
  -- frame lines of a script or a list
  pub lines : ℕ
  -- the greatest size that a list may give
  pub size : ℕ
  -- bytes that a program reads
  pub text : ℕ

-- The sizes by name. Each is a constant of the same name in the code, src/lib.rt: a size is changed in these two places.
-- "1,024 slots, addresses 0..1023, in 8 segments of 128."; W-206: "Raise slots to 4,096 in 32 segments"
abbrev pub SEGMENTS : ℕ
SEGMENTS = 32

abbrev pub SLOTS : ℕ
SLOTS = 128 * SEGMENTS

-- 64-bit numbers that hold a bit for each slot
abbrev pub HALVES : ℕ
HALVES = 2 * SEGMENTS

-- "64 live scopes, root included."
abbrev pub SCOPES : ℕ
SCOPES = 64

-- lists of addresses: what each scope owns, and behind these, at SCOPES, the dangling list
abbrev pub LISTS : ℕ
LISTS = SCOPES + 1

abbrev pub DANGLING : ℕ
DANGLING = SCOPES

-- numbers that a scope can get: "is 32 bits wide, and goes from 4,294,967,295 back to 0"
abbrev pub COUNTERS : ℕ
COUNTERS = 4294967296

-- link cells of one direction: each address, then the end of each list
abbrev pub CELLS : ℕ
CELLS = SLOTS + LISTS

-- link cells of both directions
abbrev pub LINKS : ℕ
LINKS = 2 * CELLS

-- "256 live bindings over all scopes."
abbrev pub BINDINGS : ℕ
BINDINGS = 256

-- "Scripts: 2,048 frames, 2,048 handles."
abbrev pub LINES : ℕ
LINES = 2048

-- W-206: "handles to 8,192"
abbrev pub HANDLES : ℕ
HANDLES = 8192

-- "Names and values are 16 bits.": each is below this, for an operand has four digits (Text)
abbrev pub WORD : ℕ
WORD = 65536

-- W-201: "Needs .. at most 64 in a script."
abbrev pub NEEDS : ℕ
NEEDS = 64

-- "Text buffers: 32,768 bytes; a program refuses longer input by 17, whatever it holds."; W-206: "text buffers become 57,344 bytes"
abbrev pub TEXT : ℕ
TEXT = 57344

-- one byte more: what a program has room for, so that an input that fills it is a longer one
abbrev pub LONGER : ℕ
LONGER = TEXT + 1

-- the page that a list is written on before it is handed out
abbrev pub PAGE : ℕ
PAGE = TEXT

-- no list of an accepted script has more bytes: 11 for each frame, 4 for each handle, 7 for the size line
abbrev pub LONGEST_LIST : ℕ
LONGEST_LIST = 11 * LINES + 4 * HANDLES + 7

-- our room: 01's, with the needs of W-201 and what W-206 raises; of the size: "The size line may go up to 4,096."
unfoldable pub base : Room
base = record { segments = SEGMENTS; scopes = SCOPES; bindings = BINDINGS; handles = HANDLES; needs = NEEDS; lines = LINES; size = SLOTS; text = TEXT }
