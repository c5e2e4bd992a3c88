-- What the check of a whole text answers, over the rules' own readings. Assumes nothing.
use Rattle.std.specs.Prelude.{Bool, List, ℕ, ◌+◌, length, drop, eqb, leb, Some, None}
use Rattle.rules.specs.Sizes.{Room}
use Rattle.rules.specs.Text.{split, Script, frames, unread, script_from, title, read_script, Listed, listed, unlisted, read_list}
use Rattle.text.specs.declared.whole.Listing.{Listing}
use Rattle.text.specs.Shapes.{pick, Reading}
use Rattle.text.specs.Refused.{Checked, good, bad}

-- a script that is read: how many frames it has after those before line i
abbrev pub of_script : ℕ → Script → Checked ℕ
of_script i (frames fs) = good (i + length fs)
of_script i (unread n j) = bad n j

-- a size, and how many lines stand before the size line
abbrev pub sized : ℕ → ℕ → Listing
sized size n = record { size = size; lines = n }

-- a list that is read: its size, and how many lines it has after those before line i
abbrev pub of_listed : ℕ → Listed → Checked Listing
of_listed i (listed ls size) = good (sized size (i + length ls))
of_listed i (unlisted n j) = bad n j

-- what the lines of s from p on come to, of which the first is line i
abbrev pub script_left : Room → List ℕ → ℕ → ℕ → Checked ℕ
script_left room s p i = of_script i (script_from room i (split (drop p s)))

-- a script's title, if it has one, is line 0
unfoldable pub script_checked : Room → List ℕ → Checked ℕ
script_checked room s = of_script (length (title (read_script room s).place)) (read_script room s).script

-- a list's title is one of its lines
unfoldable pub listing : Room → List ℕ → Checked Listing
listing room s = of_listed 0 (read_list room s)

-- ---- line i of a list: 2, 1, its size, or the rest

abbrev pub size_listing : Room → ℕ → Bool → ℕ → Checked Listing
size_listing room n last i = pick last (pick (leb n room.size) (good (sized n i)) (bad 1 i)) (bad 1 i)

abbrev pub line_then : Room → ℕ → Bool → Reading → Checked Listing → Checked Listing
line_then room i last None rest = pick (eqb i room.lines) (bad 2 i) (bad 1 i)
line_then room i last (Some f) rest = pick (eqb f.opcode 0x90) (size_listing room f.a last i) (pick (eqb i room.lines) (bad 2 i) rest)
