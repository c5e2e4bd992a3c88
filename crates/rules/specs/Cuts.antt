-- Request W-205 of document 02: "Recordings are read in parts of any length, and where they are cut changes nothing." Three statements
-- over the definitions of Recordings and Entries, each shown for all bytes in crates/rules/proofs. Assumes nothing.
use Rattle.std.specs.Prelude.{◌≡◌, true, List, ◌++◌, ℕ, ◌<◌, length, get_or, take, drop}
use Rattle.rules.specs.Recordings.{recording, Reader, reader_of, state_of, is_state, fed, kept, ended}
use Rattle.rules.specs.Entries.{cells_of, odd_byte, PartRead, read_entry}

-- a part after what was read
abbrev pub read_on : PartRead → List ℕ → PartRead
read_on before part = read_entry before.answer before.samples part

-- Where it is cut changes nothing, whatever the state; a refused one stays refused.
abbrev pub WhereCut : Type 0
WhereCut = (state : ℕ) (samples p q : List ℕ) → read_entry state samples (p ++ q) ≡ read_on (read_entry state samples p) q

-- A reader and lent memory tell what the bytes are: they end as the recording does, with as many samples as lines before a malformed
-- one, and the cells are these samples, as far as there is room, and then the cells from before.
pub record Told (s memory : List ℕ) (r : Reader) (left : List ℕ) : Type 0 where
  pub samples : List ℕ
  pub told : recording s ≡ ended r samples
  pub counted : r.line ≡ length samples
  pub fit : (j : ℕ) → get_or samples j 0 < 65536
  pub cells : cells_of left ≡ take (length (cells_of memory)) samples ++ drop (length samples) (cells_of memory)
  pub odd : odd_byte left ≡ odd_byte memory

-- The parts together are the recording; so is what the entry answers and leaves.
pub record PartsTell (s memory : List ℕ) : Type 0 where
  pub by_bytes : Told s memory (fed (reader_of 0) s) (kept (reader_of 0) s memory)
  pub by-entry : Told s memory (reader_of (read_entry 0 memory s).answer) (read_entry 0 memory s).samples
  pub state : is_state (read_entry 0 memory s).answer ≡ true

-- A number is a reader's state exactly if some bytes leave it.
pub record OfSomeBytes (state : ℕ) : Type 0 where
  pub bytes : List ℕ
  pub leave : is_state state ≡ true → state_of (fed (reader_of 0) bytes) ≡ state
  pub only : (s : List ℕ) → state_of (fed (reader_of 0) s) ≡ state → is_state state ≡ true
