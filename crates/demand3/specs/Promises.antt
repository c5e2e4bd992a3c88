-- Demand 3 over the code: "Any accepted script, translated and run on a zeroed frame of exactly the reported size, prints what the script means ..; no
-- load or store falls outside the frame", stated over the promises of translate and run as their contracts have them; and with a recording
-- (W-205), over those of read_recording and run_recorded; and of a list from elsewhere (W-203), over that of agrees. Assumes nothing.
use Rattle.std.specs.Prelude.{◌≡◌, List, [], ◌∷◌, ◌++◌, ℕ, ◌*◌, ◌-◌, ◌≤◌, ◌<◌, length, take, drop}
use Rattle.std.proofs.Math.Option.{none}
use Rattle.rules.specs.Sizes.{base}
use Rattle.rules.specs.Frames.{Line, shows}
use Rattle.rules.specs.Meaning.{high}
use Rattle.rules.specs.Text.{line_text, listed, read_list}
use Rattle.rules.specs.Recordings.{recording, recorded}
use Rattle.rules.specs.Entries.{over_front, loads_text, translate_entry, cells_of, odd_byte, run_entry, read_entry, recorded_entry, bytes4, REFUSAL}
use Rattle.rules.specs.Demand3.{script_meaning, script_takes}
use Rattle.rules.specs.Suppliers.{verdict, verdict_answer}
use Rattle.translate.specs.Whole as translate
use Rattle.machine.specs.Machine as machine
use Rattle.machine.specs.Recorded.{LeavesAll}
use Rattle.recordings.specs.Reading as recordings

-- ---- the promises

-- translate may answer r and leave list', where it was lent list
abbrev pub TranslatePromise : List ℕ → List ℕ → ℕ → List ℕ → Type 0
TranslatePromise script list r list' = translate.LeavesList (translate_entry base script list) r list'

-- run may answer a and leave cells' and out', where it was lent cells and out
abbrev pub RunPromise : List ℕ → List ℕ → List ℕ → ℕ → List ℕ → List ℕ → Type 0
RunPromise list cells out a cells' out' = machine.LeavesFrame (run_entry base list cells out) a cells' out'

-- run_recorded may answer a and leave cells', out' and left'
abbrev pub RecordedPromise : List ℕ → ℕ → List ℕ → List ℕ → List ℕ → List ℕ → ℕ → List ℕ → List ℕ → List ℕ → Type 0
RecordedPromise list state samples cells out left a cells' out' left' = LeavesAll (recorded_entry base list state samples cells out left) a cells' out' left'

-- read_recording may lead from a state and lent samples, part after part, to these
pub data Fed : List (List ℕ) → ℕ → List ℕ → ℕ → List ℕ → Type 0 where
  all : {state : ℕ} {samples : List ℕ} → Fed [] state samples state samples
  part : {p : List ℕ} {ps : List (List ℕ)} {state state' state'' : ℕ} {samples samples' samples'' : List ℕ}
      → recordings.LeavesSamples (read_entry state samples p) state' samples' → Fed ps state' samples' state'' samples'' → Fed (p ∷ ps) state samples state'' samples''

-- the parts together
unfoldable pub joined : List (List ℕ) → List ℕ
joined [] = []
joined (p ∷ ps) = p ++ joined ps

-- a refusal has its number, 1 or more, in the high 32 bits
abbrev pub Accepts : ℕ → Type 0
Accepts r = r < REFUSAL

-- ---- what is wanted

-- "what the script means if each allocation had a box of its own", with these samples; and how many it takes
abbrev pub means : List ℕ → List ℕ → List ℕ
means script vs = script_meaning base script vs

abbrev pub takes : List ℕ → ℕ
takes script = script_takes base script

-- "the reported size": the list's last line is `90` and the size
pub record Reports (list : List ℕ) (size : ℕ) : Type 0 where
  pub before : List ℕ
  pub last : list ≡ before ++ line_text (shows 0x90 (size ∷ []))

-- "no load or store falls outside the frame": each address of the list's 10, 11, 12 and 14 is below the size
pub record Inside (list : List ℕ) (size : ℕ) : Type 0 where
  pub lines : List Line
  pub read : read_list base list ≡ listed lines size
  pub below : high size 0 lines ≡ none

-- "prints what the script means", 7 bytes a load; what is lent beyond it stays
pub record PrintsMeaning (script vs out : List ℕ) (a : ℕ) (out' : List ℕ) : Type 0 where
  pub count : a ≡ 7 * length (means script vs)
  pub text : out' ≡ over_front (loads_text (means script vs)) out

-- the cells from the size on stay, and an odd last byte
pub record Above (size : ℕ) (cells cells' : List ℕ) : Type 0 where
  pub same : drop size (cells_of cells') ≡ drop size (cells_of cells)
  pub odd : odd_byte cells' ≡ odd_byte cells

-- ---- the statement

-- of a list for the script, be it translate's or one that agrees answers by 1: whatever run's promise admits
pub record Shows (script list : List ℕ) : Type 0 where
  pub size : ℕ
  pub reported : Reports list size
  pub only : (n : ℕ) → Reports list n → n ≡ size
  pub inside : Inside list size
  -- without a recording, where the script takes no sample: on a frame of exactly the reported size, and on a larger one
  pub exact : takes script ≡ 0 → (cells out : List ℕ) → length cells ≡ 2 * size → 7 * length (means script []) ≤ length out
      → (a : ℕ) (cells' out' : List ℕ) → RunPromise list cells out a cells' out' → PrintsMeaning script [] out a out'
  pub larger : takes script ≡ 0 → (cells out : List ℕ) → 2 * size ≤ length cells → 7 * length (means script []) ≤ length out
      → (a : ℕ) (cells' out' : List ℕ) → RunPromise list cells out a cells' out' → PrintsMeaning script [] out a out' × Above size cells cells'
  -- with any recording of samples enough, read in any parts into memory for as many as the script takes: "The number of samples left over
  -- is reported."
  pub beside : (parts : List (List ℕ)) (memory : List ℕ) (state : ℕ) (samples : List ℕ) → Fed parts 0 memory state samples
      → (n : ℕ) (vs : List ℕ) → recording (joined parts) ≡ recorded n vs → takes script ≤ n → 2 * takes script ≤ length memory
      → (cells out left : List ℕ) → 2 * size ≤ length cells → 7 * length (means script vs) ≤ length out → 4 ≤ length left
      → (a : ℕ) (cells' out' left' : List ℕ) → RecordedPromise list state samples cells out left a cells' out' left'
      → PrintsMeaning script vs out a out' × Above size cells cells' × (left' ≡ over_front (bytes4 (n - takes script)) left)

-- for every script that translate accepts, whatever its promise admits: the list is as many bytes as the answer counts
unfoldable pub Demand3Code : Type 0
Demand3Code = (script list : List ℕ) (r : ℕ) (list' : List ℕ) → TranslatePromise script list r list' → Accepts r → Shows script (take r list')

-- ---- W-203: "What it says yes to prints, when run, what the script means."

-- agrees may answer r
abbrev pub AgreesPromise : List ℕ → List ℕ → ℕ → Type 0
AgreesPromise script list r = r ≡ verdict_answer (verdict base script list)

-- of every list that is answered by 1, as of one that translate left
unfoldable pub AgreedCode : Type 0
AgreedCode = (script list : List ℕ) (r : ℕ) → AgreesPromise script list r → r ≡ 1 → Shows script list
