-- What was read of a recording: some bytes, whose state and samples are these. Which bytes, no contract can say. And what is printed beside it.
-- Assumes nothing.
use Rattle.std.specs.Prelude.{◌≡◌, List, [], ◌⊎◌, ℕ, ◌*◌, length, Option, Some, None}
use Rattle.rules.specs.Sizes.{base, LINES}
use Rattle.rules.specs.Entries.{read_entry, recorded_prints}
use Rattle.input.specs.declared.Input.{Input}
use Rattle.answers.specs.Prints.{Prints, beside_prints}
use Rattle.programs.specs.Printed.{ReadOf}

pub record OfBytes (state : ℕ) (samples samples' : List ℕ) : Type 0 where
  pub bytes : List ℕ
  pub leaves-state : state ≡ (read_entry 0 samples bytes).answer
  pub leaves-samples : samples' ≡ (read_entry 0 samples bytes).samples

-- the state that the bytes of a recording leave, unless a read failed
abbrev pub ReadBy : Option ℕ → List ℕ → List ℕ → Type 0
ReadBy (Some n) samples samples' = OfBytes n samples samples'
ReadBy None samples samples' = Unit {0}

-- what is printed for a list, once a recording is read to this state and these samples are kept
abbrev pub with_samples : ℕ → List ℕ → List ℕ → List ℕ
with_samples state samples list = recorded_prints base list state samples

-- Whichever list it is, and whichever bytes the recording had, read into room for as many samples as the longest list takes, what is printed is what the
-- rules have printed for them; and nothing where a read failed.
pub record AnswersBeside (read : Option Input) (list : List ℕ) (recording : Option ℕ) (samples out : List ℕ) (r : ℕ) (out' : List ℕ) : Type 0 where
  pub prints : (l : List ℕ) → ReadOf read list l → (state : ℕ) → recording ≡ Some state → (room : List ℕ) → length room ≡ 2 * LINES
      → (o : OfBytes state room samples) → Prints (beside_prints base l o.bytes) out r out'
  pub fails : (read ≡ None) ⊎ (recording ≡ None) → Prints [] out r out'
