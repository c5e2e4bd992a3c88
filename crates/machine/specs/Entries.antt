-- What a line of a list asks of the machine. Assumes nothing.
use Rattle.std.specs.Prelude.{Bool, false, List, [], ◌∷◌, map, ℕ, zero, suc, ◌+◌, get_or, eqb, leb, Some, None}
use Rattle.text.specs.Shapes.{pick, Reading}
use Rattle.text.specs.Lines.{unpacked}
use Rattle.text.specs.Table.{readings}
use Rattle.text.specs.declared.lines.Frame.{Frame}
use Rattle.machine.specs.declared.entries.Entry.{Entry}
use Rattle.machine.specs.declared.entries.Entry.TheVariants.{Skip, Store, Sample, Load}

abbrev pub entry_for : Frame → Entry
entry_for f =
    pick (eqb f.opcode 0x10) (Store f.a f.b)
    (pick (eqb f.opcode 0x11) (Load f.a) (pick (eqb f.opcode 0x12) (Load f.a) (pick (eqb f.opcode 0x14) (Sample f.a) Skip)))

abbrev pub entry_of : Reading → Entry
entry_of None = Skip
entry_of (Some f) = entry_for f

-- the entries of a list; its title is the first, if it has one, and the size line is the last
unfoldable pub entries : List ℕ → List Entry
entries s = map entry_of (readings s)

-- ---- in a table of lines

abbrev pub entry_in : List ℕ → ℕ → Entry
entry_in t i = entry_for (unpacked (get_or t i 0))

-- n lines, from line i on
unfoldable pub entries_of : List ℕ → ℕ → ℕ → List Entry
entries_of t i zero = []
entries_of t i (suc n) = entry_in t i ∷ entries_of t (i + 1) n

-- ---- its loads, its samples, its address

abbrev pub loads_of : Entry → ℕ
loads_of Skip = 0
loads_of (Store a v) = 0
loads_of (Sample a) = 0
loads_of (Load a) = 1

abbrev pub takes_of : Entry → ℕ
takes_of Skip = 0
takes_of (Store a v) = 0
takes_of (Sample a) = 1
takes_of (Load a) = 0

abbrev pub over_of : ℕ → Entry → Bool
over_of size Skip = false
over_of size (Store a v) = leb size a
over_of size (Sample a) = leb size a
over_of size (Load a) = leb size a
