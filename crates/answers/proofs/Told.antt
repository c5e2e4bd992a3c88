-- What is printed for the state and the samples that some bytes leave is what is printed for the recording that they are. Assumes nothing.
use mathlib.Core.Path.{◌≡◌, ap}
use mathlib.Core.List.{List, [], ◌∷◌}
use Prim.Native.Nat.{ℕ, ◌*◌, ◌≤◌}
use native.Mathlib.Omega.{arith}
use lib.ListN.{length, replicate}
use Rattle.rules.specs.Notation.{provided◌then◌else◌}
use Rattle.rules.specs.Sizes.{base, LINES}
use Rattle.rules.specs.Frames.{constant, next_sample, Line, stores, loads, shows}
use Rattle.rules.specs.Meaning.{list_takes}
use Rattle.rules.specs.Text.{Listed, listed, unlisted, read_list}
use Rattle.rules.specs.Entries.{RunOutcome, recorded_on, read_entry, unless_longer, recorded_text, recorded_prints}
use Rattle.rules.proofs.SampleCells.{cells-length}
use Rattle.rules.proofs.PartsTell.{parts-tell}
use Rattle.rules.proofs.RunTold.{runs-as-told}
use Rattle.text.proofs.Bounds.{ListIn, read-list-in}
use Rattle.answers.specs.Prints.{beside_prints}

takes-most : (ls : List Line) → list_takes ls ≤ length ls
unfolding list_takes
takes-most [] = omega arith
takes-most (stores a (constant v) ∷ ls) = let h = takes-most ls in omega arith
takes-most (stores a next_sample ∷ ls) = let h = takes-most ls in omega arith
takes-most (loads o a ∷ ls) = let h = takes-most ls in omega arith
takes-most (shows o l ∷ ls) = let h = takes-most ls in omega arith

-- a list takes no more samples than it may have lines
takes-few : (list : List ℕ) (ls : List Line) (size : ℕ) → read_list base list ≡ listed ls size → list_takes ls ≤ LINES
unfolding base
takes-few list ls size e = go (read_list base list) (read-list-in base (omega arith) list) e
  where
    go : (l : Listed) → ListIn base 0 l → l ≡ listed ls size → list_takes ls ≤ LINES
    go (unlisted n i) h q = absurd (let z : ◌≡◌ {A = ℕ} 0 1 = cc in omega arith)
    go (listed ms k) h q = let s : ms ≡ ls = cc in omega (arith, h.0, takes-most ls, ap length s)

pub told-prints : (list s memory : List ℕ) → 2 * LINES ≤ length memory → recorded_prints base list (read_entry 0 memory s).answer (read_entry 0 memory s).samples ≡ beside_prints base list s
unfolding recorded_prints beside_prints recorded_on provided◌then◌else◌
told-prints list s memory h =
    let t = parts-tell s memory in
    rw (t.state, provided◌then◌else◌)
    (ap (λ (o : RunOutcome). unless_longer base list (recorded_text o))
    (runs-as-told (replicate base.size 0) s memory _ _ t.by-entry (read_list base list) (λ ls size e. omega (arith, takes-few list ls size e, cells-length memory))))
