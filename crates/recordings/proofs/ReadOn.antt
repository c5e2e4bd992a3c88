-- Part after part, from the start: the state and the samples are those of the parts together. Assumes nothing.
use mathlib.Core.Path.{◌≡◌, refl, sym, ap, ◌∙◌}
use mathlib.Core.List.{List, [], ◌++◌}
use Prim.Native.Nat.{ℕ}
use Rattle.rules.specs.Notation.{provided◌then◌else◌}
use Rattle.rules.specs.Recordings.{limit, is_reader, fed, kept}
use Rattle.rules.specs.Entries.{PartRead, read_entry}
use Rattle.rules.proofs.Cuts.{where-cut}
use Rattle.recordings.specs.Reading.{LeavesSamples}

-- the bytes s lead from the start and lent memory to this state and these samples
abbrev pub Read : List ℕ → List ℕ → ℕ → List ℕ → Type 0
Read memory s state samples = (state ≡ (read_entry 0 memory s).answer) × (samples ≡ (read_entry 0 memory s).samples)

pub read_none : (memory : List ℕ) → Read memory [] 0 memory
unfolding read_entry provided◌then◌else◌ is_reader limit fed kept
read_none memory = (refl, refl)

pub read-on : (memory s : List ℕ) (state : ℕ) (samples : List ℕ) → Read memory s state samples → (p : List ℕ) (state' : ℕ) (samples' : List ℕ) → LeavesSamples (read_entry state samples p) state' samples' → Read memory (s ++ p) state' samples'
read-on memory s state samples h p state' samples' l =
    let e : read_entry state samples p ≡ read_entry 0 memory (s ++ p)
    = ap (λ (k : ℕ). read_entry k samples p) h.0 ∙ ap (λ (m : List ℕ). read_entry (read_entry 0 memory s).answer m p) h.1 ∙ sym (where-cut 0 memory s p) in
    (l.answered ∙ ap (λ (x : PartRead). x.answer) e, l.samples-left ∙ ap (λ (x : PartRead). x.samples) e)
