-- What is printed, at the start of lent memory. Assumes nothing.
use Rattle.std.specs.Prelude.{◌≡◌, true, false, List, ℕ, ◌+◌, ◌*◌, ◌/◌, ◌%◌, ◌≤◌, ◌<◌, eqb, length, replicate}
use Rattle.rules.specs.Sizes.{Room}
use Rattle.rules.specs.Recordings.{recording}
use Rattle.rules.specs.Entries.{recorded_on, over_front, ee_text, unless_longer, malformed_text, left_text, recorded_text, REFUSAL}
use Rattle.text.specs.Writing.{over}
use Rattle.machine.specs.Work.{cell_at}

-- n bytes are the text, over the beginning of out; what lies past them stays
pub record Prints (text out : List ℕ) (n : ℕ) (out' : List ℕ) : Type 0 where
  pub count : n ≡ length text
  pub bytes : out' ≡ over_front text out

-- the halves of an answer fit the digits of an `ee` line
pub record Halved (answer : ℕ) : Type 0 where
  pub number : answer / REFUSAL ≤ 255
  pub line : answer % REFUSAL ≤ 65535

-- an answer below 2^32 counts what stands in out; another is printed as its number and its line
pub record Shown (answer : ℕ) (out : List ℕ) (n : ℕ) (out' : List ℕ) : Type 0 where
  pub counts : answer < REFUSAL → (n ≡ answer) × (out' ≡ out)
  pub refuses : REFUSAL ≤ answer → Prints (ee_text (answer / REFUSAL) (answer % REFUSAL)) out n out'

-- a refusal of run_recorded, of which 24 shows a line of the recording
abbrev pub stopped_text : ℕ → ℕ → List ℕ
stopped_text n i = elim (eqb n 24) [ true ↦ malformed_text i | false ↦ ee_text n i ]

-- the same of run_recorded, whose 24 has a line of the recording
pub record HalvedBeside (answer : ℕ) : Type 0 where
  pub number : answer / REFUSAL ≤ 255
  pub line : (answer / REFUSAL ≡ 24 → ⊥) → answer % REFUSAL ≤ 65535

-- four bytes, high first, as a number
abbrev pub number4 : List ℕ → ℕ
number4 bs = cell_at bs 0 * 65536 + cell_at bs 1

-- the line of the number left over stands behind what was written
pub record Behind (left out : List ℕ) (written n : ℕ) (out' : List ℕ) : Type 0 where
  pub count : n ≡ written + 11
  pub bytes : out' ≡ over out written (left_text (number4 left))

-- what the running program prints beside a recording of the bytes s
unfoldable pub beside_prints : Room → List ℕ → List ℕ → List ℕ
beside_prints room list s = unless_longer room list (recorded_text (recorded_on room (replicate room.size 0) (recording s) list))
