-- The bytes of a recording that were read, and what is printed for them. Assumes nothing.
use mathlib.Core.Path.{◌≡◌, refl, ap, ◌∙◌}
use mathlib.Core.List.{List, [], ◌++◌}
use mathlib.Core.Logic.{◌⊎◌, inl, inr}
use Prim.Native.Nat.{ℕ, ◌*◌, ◌≤◌}
use native.Mathlib.Omega.{arith}
use lib.ListN.{length}
use Rattle.rules.specs.Sizes.{base, LINES}
use Rattle.rules.specs.Entries.{read_entry, recorded_prints}
use Rattle.recordings.specs.Reading.{LeavesSamples}
use Rattle.recordings.proofs.ReadOn.{read_none, read-on}
use Rattle.input.specs.declared.Input.{Input}
use Rattle.answers.specs.Prints.{Prints, beside_prints}
use Rattle.answers.proofs.Printed.{prints-one, prints-as}
use Rattle.answers.proofs.Told.{told-prints}
use Rattle.answers.proofs.Beside.{beside-longer}
use Rattle.std.specs.declared.option.Option.{Option}
use Rattle.std.specs.declared.option.Option.TheVariants.{Some, None}
use Rattle.programs.specs.Printed.{Answers}
use Rattle.programs.specs.Recorded.{OfBytes, ReadBy, with_samples, AnswersBeside}
use Rattle.programs.proofs.HandedOn.{RefusesLonger, answers_one}

pub of_none : (samples : List ℕ) → OfBytes 0 samples samples
of_none samples = let r = read_none samples in record { bytes = []; leaves-state = r.0; leaves-samples = r.1 }

pub of-more : (samples : List ℕ) (state : ℕ) (samples' : List ℕ) → OfBytes state samples samples' → (p : List ℕ) (state'' : ℕ) (samples'' : List ℕ) → LeavesSamples (read_entry state samples' p) state'' samples'' → OfBytes state'' samples samples''
of-more samples state samples' h p state'' samples'' l =
    let r = read-on samples h.bytes state samples' (h.leaves-state, h.leaves-samples) p state'' samples'' l in
    record { bytes = h.bytes ++ p; leaves-state = r.0; leaves-samples = r.1 }

-- with room for LINES samples, what is printed is what the rules have the program print beside the recording of those bytes
printed-beside : (list : List ℕ) (state : ℕ) (memory samples : List ℕ) → 2 * LINES ≤ length memory → (o : OfBytes state memory samples) → recorded_prints base list state samples ≡ beside_prints base list o.bytes
printed-beside list state memory samples h o =
    ap (λ (n : ℕ). recorded_prints base list n samples) o.leaves-state
    ∙ ap (λ (m : List ℕ). recorded_prints base list (read_entry 0 memory o.bytes).answer m) o.leaves-samples
    ∙ told-prints list o.bytes memory h

-- ---- what is printed beside a recording

pub list-longer-beside : (state : ℕ) (samples : List ℕ) → RefusesLonger (with_samples state samples)
list-longer-beside state samples list h = beside-longer list state samples h

module _ (read : Option Input) (list : List ℕ) (recording : Option ℕ) (samples out : List ℕ) (r : ℕ) (out' : List ℕ) where
  pub answers-beside : (n : ℕ) → recording ≡ Some n → Answers (with_samples n samples) read list out r out' → AnswersBeside read list recording samples out r out'
  answers-beside n e p = record {
    prints = λ l o state q room h b. let s : n ≡ state = cc in prints-as (ap (λ (m : ℕ). with_samples m samples l) s ∙ printed-beside l state room samples (omega arith) b) (p.prints l o);
    fails = go;
  }
    where
      go : (read ≡ None) ⊎ (recording ≡ None) → Prints [] out r out'
      go (inl q) = p.fails q
      go (inr q) = cc

  pub beside_none : recording ≡ None → Prints [] out r out' → AnswersBeside read list recording samples out r out'
  beside_none e p = record { prints = λ l o state q. cc; fails = λ q. p }

-- any two results that the promise admits are equal, for a recording that left this state and these samples, or one that could not be read
module _ (list samples out : List ℕ) (r : ℕ) (out' : List ℕ) (m : ℕ) (out'' : List ℕ) where
  beside : (read : Option Input) (state : ℕ) (room : List ℕ) → length room ≡ 2 * LINES → (o : OfBytes state room samples) → {n : ℕ} {out''' : List ℕ} → AnswersBeside read list (Some state) samples out n out'''
      → Answers (λ l. beside_prints base l o.bytes) read list out n out'''
  beside read state room h o a = record { prints = λ l q. a.prints l q state refl room h o; fails = λ e. a.fails (inl e) }

  pub beside-one : (read : Option Input) (recording : Option ℕ) (room : List ℕ) → length room ≡ 2 * LINES → ReadBy recording room samples
      → AnswersBeside read list recording samples out r out' → AnswersBeside read list recording samples out m out'' → (r ≡ m) × (out' ≡ out'')
  beside-one read (Some n) room h o a b = answers_one _ list out r out' m out'' read (beside read n room h o a) (beside read n room h o b)
  beside-one read None room h o a b = prints-one (a.fails (inr refl)) (b.fails (inr refl))
