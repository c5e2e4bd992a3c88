-- What the machine does with the entries of a list, over cells of two bytes, high first. Assumes nothing.
use Rattle.std.specs.Prelude.{List, [], ◌∷◌, ◌++◌, ℕ, ◌+◌, ◌*◌, ◌/◌, ◌%◌, ◌<◌, get_or, set, drop, replicate}
use Rattle.rules.specs.Entries.{load_text}
use Rattle.machine.specs.Entries.{loads_of, takes_of}
use Rattle.machine.specs.declared.entries.Entry.{Entry}
use Rattle.machine.specs.declared.entries.Entry.TheVariants.{Skip, Store, Sample, Load}

abbrev pub cell_at : List ℕ → ℕ → ℕ
cell_at cells a = get_or cells (2 * a) 0 * 256 + get_or cells (2 * a + 1) 0

abbrev pub zeroed : ℕ → List ℕ → List ℕ
zeroed size cells = replicate (2 * size) 0 ++ drop (2 * size) cells

-- ---- samples: 14 is 10 but for where the value comes from

abbrev pub fill_of : Entry → ℕ → Entry
fill_of Skip v = Skip
fill_of (Store a u) v = Store a u
fill_of (Sample a) v = Store a v
fill_of (Load a) v = Load a

-- the entries with the samples of lent memory, from number j on
unfoldable pub filled_from : List ℕ → ℕ → List Entry → List Entry
filled_from m j [] = []
filled_from m j (x ∷ es) = fill_of x (cell_at m j) ∷ filled_from m (j + takes_of x) es

unfoldable pub takes_in : List Entry → ℕ
takes_in [] = 0
takes_in (x ∷ es) = takes_of x + takes_in es

-- ---- an entry that is filled is obeyed

abbrev pub stored_of : Entry → List ℕ → List ℕ
stored_of Skip cells = cells
stored_of (Store a v) cells = set (set cells (2 * a) (v / 256)) (2 * a + 1) (v % 256)
stored_of (Sample a) cells = cells
stored_of (Load a) cells = cells

abbrev pub printed_of : Entry → List ℕ → List ℕ
printed_of Skip cells = []
printed_of (Store a v) cells = []
printed_of (Sample a) cells = []
printed_of (Load a) cells = load_text (cell_at cells a)

unfoldable pub obey_cells : List ℕ → List Entry → List ℕ
obey_cells cells [] = cells
obey_cells cells (x ∷ es) = obey_cells (stored_of x cells) es

unfoldable pub obey_text : List ℕ → List Entry → List ℕ
obey_text cells [] = []
obey_text cells (x ∷ es) = printed_of x cells ++ obey_text (stored_of x cells) es

unfoldable pub loads_in : List Entry → ℕ
loads_in [] = 0
loads_in (x ∷ es) = loads_of x + loads_in es

-- what the entries print over the front of `out`, which is as it was behind that
abbrev pub printed_over : List ℕ → List Entry → List ℕ → List ℕ
printed_over cells es out = obey_text cells es ++ drop (7 * loads_in es) out

-- an entry's address is within so many bytes of cells
abbrev pub Reach : ℕ → Entry → Type 0
Reach m Skip = Unit {0}
Reach m (Store a v) = 2 * a + 1 < m
Reach m (Sample a) = 2 * a + 1 < m
Reach m (Load a) = 2 * a + 1 < m

unfoldable pub Reaches : ℕ → List Entry → Type 0
Reaches m [] = Unit {0}
Reaches m (x ∷ es) = Reach m x × Reaches m es
