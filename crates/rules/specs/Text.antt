-- Document 01, "Script frames" and "Numbers given back", 1 and 2, and the title of W-211: scripts and lists as bytes. Assumes nothing.
use Rattle.std.specs.Prelude.{Bool, true, false, ◌&&◌, List, [], ◌∷◌, ◌++◌, ℕ, suc, ◌+◌, ◌*◌, ◌-◌, ◌/◌, ◌%◌, length, eqb, ltb, leb}
use Rattle.std.proofs.Math.Option.{Option, none, some}
use Rattle.rules.specs.Sizes.{Room}
use Rattle.rules.specs.Slots.{Place, by_head, lowest, exactly_at}
use Rattle.rules.specs.Frames.{Frame, child, pop, dangle, restore, pop_last, alloc, alloc_in, linear, define, get, take_from, free, free_quietly, forget, drain, constant, next_sample, write, read, read_name, new_defer, new_assigned, new_ignore, alloc_need, output_need, drop_need, Line, stores, loads, shows}

-- ---- "lowercase hex"

unfoldable pub digit : ℕ → ℕ
digit n = elim (ltb n 10) [ true ↦ 48 + n | false ↦ 87 + n ]

unfoldable pub hex2 : ℕ → List ℕ
hex2 n = digit (n / 16) ∷ digit (n % 16) ∷ []

unfoldable pub hex4 : ℕ → List ℕ
hex4 n = digit (n / 4096) ∷ digit (n / 256 % 16) ∷ digit (n / 16 % 16) ∷ digit (n % 16) ∷ []

-- the value of a digit; 16 where it is none
unfoldable pub value : ℕ → ℕ
value c =
    elim (leb 48 c && leb c 57) [
      | true ↦ c - 48
      | false ↦ elim (leb 97 c && leb c 102) [ true ↦ c - 87 | false ↦ 16 ]
    ]

unfoldable pub word : ℕ → ℕ → ℕ → ℕ → Option ℕ
word a b c d =
    elim (ltb (value a) 16 && ltb (value b) 16 && ltb (value c) 16 && ltb (value d) 16) [
      | true ↦ some (value a * 4096 + value b * 256 + value c * 16 + value d)
      | false ↦ none
    ]

abbrev pub both : Option ℕ → Option (List ℕ) → Option (List ℕ)
both none l = none
both (some n) none = none
both (some n) (some l) = some (n ∷ l)

-- "operands of four"
unfoldable pub words : List ℕ → Option (List ℕ)
words [] = some []
words (a ∷ []) = none
words (a ∷ b ∷ []) = none
words (a ∷ b ∷ c ∷ []) = none
words (a ∷ b ∷ c ∷ d ∷ l) = both (word a b c d) (words l)

-- "An opcode of two digits, then operands of four"
pub record Raw : Type 0 where
  pub opcode : ℕ
  pub operands : List ℕ

unfoldable pub raw : List ℕ → Option Raw
raw [] = none
raw (a ∷ []) = none
raw (a ∷ b ∷ l) =
    elim (word 48 48 a b) [
      | none ↦ none
      | some o ↦ elim (words l) [ none ↦ none | some ns ↦ some (record { opcode = o; operands = ns }) ]
    ]

-- ---- "One frame a line .. each ended by LF"

-- a line, and whether LF ends it
pub record Split : Type 0 where
  pub text : List ℕ
  pub ended : Bool

abbrev pub onto : ℕ → List Split → List Split
onto c [] = record { text = c ∷ []; ended = false } ∷ []
onto c (l ∷ ls) = record { text = c ∷ l.text; ended = l.ended } ∷ ls

unfoldable pub split : List ℕ → List Split
split [] = []
split (c ∷ cs) = elim (eqb c 10) [ true ↦ record { text = []; ended = true } ∷ split cs | false ↦ onto c (split cs) ]

-- ---- tables of opcodes

-- what an opcode's operands make, if they are right
pub record Row (A : Type 0) : Type 0 where
  pub opcode : ℕ
  pub made : List ℕ → Option A

abbrev pub row : {A : Type 0} → ℕ → (List ℕ → Option A) → Row A
row o m = record { opcode = o; made = m }

unfoldable pub rowed : {A : Type 0} → List (Row A) → Raw → Option A
rowed [] r = none
rowed (w ∷ ws) r = elim (eqb w.opcode r.opcode) [ true ↦ w.made r.operands | false ↦ rowed ws r ]

-- what a whole line makes; none is "malformed"
unfoldable pub line_of : {A : Type 0} → List (Row A) → Split → Option A
line_of t l = elim l.ended [ false ↦ none | true ↦ elim (raw l.text) [ none ↦ none | some r ↦ rowed t r ] ]

abbrev pub with0 : {A : Type 0} → A → List ℕ → Option A
with0 f [] = some f
with0 f (a ∷ l) = none

abbrev pub with1 : {A : Type 0} → (ℕ → A) → List ℕ → Option A
with1 f [] = none
with1 f (a ∷ []) = some (f a)
with1 f (a ∷ b ∷ l) = none

abbrev pub with2 : {A : Type 0} → (ℕ → ℕ → A) → List ℕ → Option A
with2 f [] = none
with2 f (a ∷ []) = none
with2 f (a ∷ b ∷ []) = some (f a b)
with2 f (a ∷ b ∷ c ∷ l) = none

-- ---- scripts

-- "01 child; 02 pop s; .. 12 read name"; W-205: "frame 14 handle"; W-201: "20 defer s, 21 assigned handle, 22 ignore, 23 allocate need, 24 output of need, 25 free need"
unfoldable pub frame_table : List (Row Frame)
frame_table =
    row 0x01 (with0 child)
    ∷ row 0x02 (with1 pop)
    ∷ row 0x03 (with1 dangle)
    ∷ row 0x04 (with1 restore)
    ∷ row 0x05 (with0 pop_last)
    ∷ row 0x06 (with0 alloc)
    ∷ row 0x07 (with1 alloc_in)
    ∷ row 0x08 (with1 linear)
    ∷ row 0x09 (with2 define)
    ∷ row 0x0a (with1 get)
    ∷ row 0x0b (with1 take_from)
    ∷ row 0x0c (with1 free)
    ∷ row 0x0d (with1 free_quietly)
    ∷ row 0x0e (with1 forget)
    ∷ row 0x0f (with0 drain)
    ∷ row 0x10 (with2 (λ h v. write h (constant v)))
    ∷ row 0x11 (with1 read)
    ∷ row 0x12 (with1 read_name)
    ∷ row 0x14 (with1 (λ h. write h next_sample))
    ∷ row 0x20 (with1 new_defer)
    ∷ row 0x21 (with1 new_assigned)
    ∷ row 0x22 (with0 new_ignore)
    ∷ row 0x23 (with1 alloc_need)
    ∷ row 0x24 (with1 output_need)
    ∷ row 0x25 (with1 drop_need)
    ∷ []

-- all frames, or the first line with 1 or 2
pub data Script : Type 0 where
  frames : List Frame → Script
  unread : ℕ → ℕ → Script

abbrev pub frame_before : ℕ → Option Frame → Script → Script
frame_before i none rest = unread 1 i
frame_before i (some f) (frames fs) = frames (f ∷ fs)
frame_before i (some f) (unread n j) = unread n j

-- "the first line with 1 or 2, before any step; line 2,048 gives 2 whatever it holds": from line i on
unfoldable pub script_from : Room → ℕ → List Split → Script
script_from room i [] = frames []
script_from room i (l ∷ ls) =
    elim (eqb i room.lines) [ true ↦ unread 2 i | false ↦ frame_before i (line_of frame_table l) (script_from room (suc i) ls) ]

-- ---- W-211: the title, before the frames

abbrev pub edition_two : List ℕ → Option Place
edition_two [] = none
edition_two (n ∷ []) = elim (eqb n 2) [ true ↦ some lowest | false ↦ none ]
edition_two (n ∷ m ∷ l) = none

-- "A script whose first line is `f00002` follows edition 2"; no other line is a title
unfoldable pub title_table : List (Row Place)
title_table = row 0xf0 edition_two ∷ []

-- where allocations go, and the lines behind the title
pub record Titled : Type 0 where
  pub place : Place
  pub rest : List Split

-- "Scripts without it keep edition 1 ..". "`f0` with another number or on a later line is 1", since no frame and no other line of a list has that
-- opcode.
unfoldable pub titled : List Split → Titled
titled [] = record { place = by_head; rest = [] }
titled (l ∷ ls) =
    elim (line_of title_table l) [
      | some p ↦ record { place = p; rest = ls }
      | none ↦ record { place = by_head; rest = l ∷ ls }
    ]

-- "That line counts as a frame and its list line repeats it." No title is of W-203's placement: no script names it.
abbrev pub title : Place → List Line
title by_head = []
title lowest = shows 0xf0 (2 ∷ []) ∷ []
title (exactly_at a) = []

-- where a script's allocations go, and its frames behind the title
pub record Read : Type 0 where
  pub place : Place
  pub script : Script

unfoldable pub read_script : Room → List ℕ → Read
read_script room bytes =
    let t : Titled = titled (split bytes) in
    record { place = t.place; script = script_from room (length (title t.place)) t.rest }

-- ---- lists, written

unfoldable pub hexes : List ℕ → List ℕ
hexes [] = []
hexes (a ∷ l) = hex4 a ++ hexes l

abbrev pub opcode_of : Line → ℕ
opcode_of (stores a (constant v)) = 0x10
opcode_of (stores a next_sample) = 0x14
opcode_of (loads o a) = o
opcode_of (shows o l) = o

abbrev pub operands_of : Line → List ℕ
operands_of (stores a (constant v)) = a ∷ v ∷ []
operands_of (stores a next_sample) = a ∷ []
operands_of (loads o a) = a ∷ []
operands_of (shows o l) = l

unfoldable pub line_text : Line → List ℕ
line_text l = hex2 (opcode_of l) ++ (hexes (operands_of l) ++ (10 ∷ []))

-- "The list has one line a frame, then `90` and the size."
unfoldable pub list_text : List Line → ℕ → List ℕ
list_text [] size = line_text (shows 0x90 (size ∷ []))
list_text (l ∷ ls) size = line_text l ++ list_text ls size

-- ---- lists, read

-- "0f a count and the addresses"
abbrev pub counted : ℕ → List ℕ → Option Line
counted o [] = none
counted o (n ∷ l) = elim (eqb (length l) n) [ true ↦ some (shows o (n ∷ l)) | false ↦ none ]

abbrev pub bare : ℕ → List ℕ → Option Line
bare o = with0 (shows o [])

abbrev pub adding : ℕ → List ℕ → Option Line
adding o = with1 (λ a. shows o (a ∷ []))

unfoldable pub line_table : List (Row Line)
line_table =
    row 0x01 (adding 0x01)
    ∷ row 0x02 (bare 0x02)
    ∷ row 0x03 (bare 0x03)
    ∷ row 0x04 (bare 0x04)
    ∷ row 0x05 (bare 0x05)
    ∷ row 0x06 (adding 0x06)
    ∷ row 0x07 (adding 0x07)
    ∷ row 0x08 (adding 0x08)
    ∷ row 0x09 (bare 0x09)
    ∷ row 0x0a (adding 0x0a)
    ∷ row 0x0b (adding 0x0b)
    ∷ row 0x0c (bare 0x0c)
    ∷ row 0x0d (bare 0x0d)
    ∷ row 0x0e (bare 0x0e)
    ∷ row 0x0f (counted 0x0f)
    ∷ row 0x10 (with2 (λ a v. stores a (constant v)))
    ∷ row 0x11 (with1 (loads 0x11))
    ∷ row 0x12 (with1 (loads 0x12))
    ∷ row 0x14 (with1 (λ a. stores a next_sample))
    ∷ row 0x20 (adding 0x20)
    ∷ row 0x21 (adding 0x21)
    ∷ row 0x22 (adding 0x22)
    ∷ row 0x23 (adding 0x23)
    ∷ row 0x24 (adding 0x24)
    ∷ row 0x25 (bare 0x25)
    ∷ []

-- "`90`, four digits and LF"
unfoldable pub size_table : List (Row ℕ)
size_table = row 0x90 (with1 (λ n. n)) ∷ []

-- a list's lines and its size, or the first line with 1 or 2
pub data Listed : Type 0 where
  listed : List Line → ℕ → Listed
  unlisted : ℕ → ℕ → Listed

abbrev pub line_before : ℕ → Option Line → Listed → Listed
line_before i none rest = unlisted 1 i
line_before i (some l) (listed ls size) = listed (l ∷ ls) size
line_before i (some l) (unlisted n j) = unlisted n j

-- 1: "size line missing, early or over 1,024"; W-206: "The size line may go up to 4,096": the size line n stands at line i, before the lines ls
abbrev pub size_at : Room → ℕ → ℕ → List Split → Listed
size_at room i n [] = elim (leb n room.size) [ true ↦ listed [] n | false ↦ unlisted 1 i ]
size_at room i n (l ∷ ls) = unlisted 1 i

abbrev pub size_or : Room → ℕ → Option ℕ → List Split → Listed → Listed
size_or room i (some n) ls other = size_at room i n ls
size_or room i none ls other = other

-- "line 2,048 gives 2 whatever it holds, unless in a list it is `90`, four digits and LF; a missing size line is met one past the end"
unfoldable pub list_from : Room → ℕ → List Split → Listed
list_from room i [] = unlisted 1 i
list_from room i (l ∷ ls) =
    size_or room i (line_of size_table l) ls
    (elim (eqb i room.lines) [ true ↦ unlisted 2 i | false ↦ line_before i (line_of line_table l) (list_from room (suc i) ls) ])

abbrev pub under_title : List Line → Listed → Listed
under_title above (listed ls size) = listed (above ++ ls) size
under_title above (unlisted n i) = unlisted n i

-- W-211: a list has its script's title as its first line, or none
unfoldable pub read_list : Room → List ℕ → Listed
read_list room bytes =
    let t : Titled = titled (split bytes) in
    under_title (title t.place) (list_from room (length (title t.place)) t.rest)
