-- Demand 3 with a recording: whatever the parts, run_recorded prints the meaning with the recording's samples. Assumes nothing.
use mathlib.Core.Path.{◌≡◌, sym, ap, ◌∙◌}
use mathlib.Core.Bool.{Bool, true, false}
use mathlib.Core.List.{List, [], ◌++◌, append_assoc, append-nil}
use Prim.Native.Nat.{ℕ, ◌*◌, ◌-◌, ◌≤◌}
use native.Mathlib.Omega.{arith}
use lib.Dec.{eqb}
use lib.ListN.{length, drop}
use borrow.Author.Tests.{le-leb}
use Rattle.rules.specs.Notation.{provided◌then◌else◌}
use Rattle.rules.specs.Sizes.{base}
use Rattle.rules.specs.Frames.{Line}
use Rattle.rules.specs.Meaning.{Ran, list_takes}
use Rattle.rules.specs.Text.{list_text, listed, read_list}
use Rattle.rules.specs.Recordings.{Recording, recorded, malformed, recording, Reader, reader_of, ended}
use Rattle.rules.specs.Entries.{over_front, loads_text, cells_of, odd_byte, bytes_of, RunOutcome, ran, recorded_on, read_entry, RecordedRunning, recorded_left, recorded_entry, bytes4}
use Rattle.rules.proofs.Bytes.{Held}
use Rattle.rules.proofs.PartsTell.{parts-tell}
use Rattle.rules.proofs.RunTold.{runs-as-told}
use Rattle.recordings.proofs.ReadOn.{Read, read_none, read-on}
use Rattle.rules.proofs.SampleCells.{cells-length}
use Rattle.demand3.specs.Promises.{RecordedPromise, Fed, all, part, joined, means, takes, PrintsMeaning, Above}
use Rattle.demand3.proofs.Frame.{text-length, cells-back, odd-back}
use Rattle.demand3.proofs.Ran.{reads, as_many, worked, ran_on_lem, loaded, above}

-- ---- what a run that went through leaves

module _ (script : List ℕ) (ls : List Line) (size : ℕ) (ok : Held base script ls size)
    (n : ℕ) (vs : List ℕ) (many : takes script ≤ n) (enough : takes script ≤ length vs) (cells : List ℕ) (f : size ≤ length (cells_of cells)) where
  abbrev x : Ran
  x = worked script ls size ok n vs many enough (cells_of cells) f

  pub prints-by : (out : List ℕ) (a : ℕ) (out' : List ℕ) → a ≡ 7 * length x.loaded → out' ≡ over_front (loads_text x.loaded) out → PrintsMeaning script vs out a out'
  prints-by out a out' e q =
      let m = loaded script ls size ok n vs many enough (cells_of cells) f in
      record { count = e ∙ ap (λ (v : List ℕ). 7 * length v) m; text = q ∙ ap (λ (v : List ℕ). over_front (loads_text v) out) m }

  pub above-by : (cells' : List ℕ) → cells' ≡ bytes_of x.cells ++ odd_byte cells → Above size cells cells'
  above-by cells' w =
      record {
        same = ap (λ (b : List ℕ). drop size (cells_of b)) w ∙ ap (drop size) (cells-back x.cells cells) ∙ above script ls size ok n vs many enough (cells_of cells) f;
        odd = ap odd_byte w ∙ odd-back x.cells cells;
      }

-- with room for the answer and the number
left-beside : (x : Ran) (n : ℕ) (cells out left : List ℕ) → 7 * length x.loaded ≤ length out → 4 ≤ length left
    → recorded_left (ran x n) cells out left
    ≡ record { answer = 7 * length x.loaded; cells = bytes_of x.cells ++ odd_byte cells; out = over_front (loads_text x.loaded) out; left = over_front (bytes4 n) left }
unfolding recorded_left provided◌then◌else◌
left-beside x n cells out left h k =
    let l = text-length x.loaded in
    rw (le-leb (length (loads_text x.loaded)) (length out) (omega arith), le-leb 4 (length left) k, provided◌then◌else◌)
    (ap (λ (m : ℕ). record { answer = m; cells = bytes_of x.cells ++ odd_byte cells; out = over_front (loads_text x.loaded) out; left = over_front (bytes4 n) left }) l)

-- ---- the parts of a recording

fed-on : {ps : List (List ℕ)} {state state' : ℕ} {samples samples' : List ℕ} (memory s : List ℕ) → Fed ps state samples state' samples' → Read memory s state samples → Read memory (s ++ joined ps) state' samples'
unfolding joined
fed-on memory s all h = let e : s ≡ s ++ [] = sym (append-nil s) in (h.0 ∙ ap (λ (t : List ℕ). (read_entry 0 memory t).answer) e, h.1 ∙ ap (λ (t : List ℕ). (read_entry 0 memory t).samples) e)
fed-on memory s (part {p = p} {ps = ps} {state = n} {samples = m} l more) h =
    let next = fed-on memory (s ++ p) more (read-on memory s n m h p _ _ l) in
    let e : (s ++ p) ++ joined ps ≡ s ++ (p ++ joined ps) = append_assoc s p (joined ps) in
    (next.0 ∙ ap (λ (t : List ℕ). (read_entry 0 memory t).answer) e, next.1 ∙ ap (λ (t : List ℕ). (read_entry 0 memory t).samples) e)

-- a recording that is not malformed has as many samples as lines
as-many-lines : (r : Reader) (vs ws : List ℕ) (n : ℕ) → ended r vs ≡ recorded n ws → r.line ≡ length vs → n ≡ length ws
as-many-lines r vs ws n e h = go (eqb r.column 0) e
  where
    go : (b : Bool) → ◌≡◌ {A = Recording} (elim b [ true ↦ recorded r.line vs | false ↦ malformed r.line ]) (recorded n ws) → n ≡ length ws
    go true q = let a : r.line ≡ n = cc in let b : vs ≡ ws = cc in sym a ∙ h ∙ ap length b
    go false q = absurd (let z : ◌≡◌ {A = ℕ} 0 1 = cc in omega arith)

-- ---- with the recording

module _ (script : List ℕ) (ls : List Line) (size : ℕ) (ok : Held base script ls size) where
  room_for : (memory : List ℕ) → 2 * takes script ≤ length memory → (ms : List Line) (k : ℕ) → read_list base (list_text ls size) ≡ listed ms k → list_takes ms ≤ length (cells_of memory)
  room_for memory h ms k e =
      let b = reads script ls size ok in
      let same : ls ≡ ms = cc in
      omega (arith, ap list_takes same, as_many script ls size ok, cells-length memory)

  -- run_recorded, after these parts, is the run with the recording
  told-run : (memory s : List ℕ) → 2 * takes script ≤ length memory → (cells out left : List ℕ)
      → recorded_entry base (list_text ls size) (read_entry 0 memory s).answer (read_entry 0 memory s).samples cells out left
      ≡ recorded_left (recorded_on base (cells_of cells) (recording s) (list_text ls size)) cells out left
  unfolding recorded_entry recorded_on provided◌then◌else◌
  told-run memory s h cells out left =
      let t = parts-tell s memory in
      rw (t.state, provided◌then◌else◌)
      (ap (λ (o : RunOutcome). recorded_left o cells out left) (runs-as-told (cells_of cells) s memory _ _ t.by-entry (read_list base (list_text ls size)) (room_for memory h)))

  pub beside : (parts : List (List ℕ)) (memory : List ℕ) (state : ℕ) (samples : List ℕ) → Fed parts 0 memory state samples
      → (n : ℕ) (vs : List ℕ) → recording (joined parts) ≡ recorded n vs → takes script ≤ n → 2 * takes script ≤ length memory
      → (cells out left : List ℕ) → 2 * size ≤ length cells → 7 * length (means script vs) ≤ length out → 4 ≤ length left
      → (a : ℕ) (cells' out' left' : List ℕ) → RecordedPromise (list_text ls size) state samples cells out left a cells' out' left'
      → PrintsMeaning script vs out a out' × Above size cells cells' × (left' ≡ over_front (bytes4 (n - takes script)) left)
  beside parts memory state samples went n vs is many room cells out left h k l a cells' out' left' run =
      let s : List ℕ = joined parts in
      let read = fed-on memory [] went (read_none memory) in
      let t = (parts-tell s memory).by-entry in
      let counts : n ≡ length vs = as-many-lines (reader_of (read_entry 0 memory s).answer) t.samples vs n (sym t.told ∙ is) t.counted in
      let kept : takes script ≤ length vs = omega arith in
      let f : size ≤ length (cells_of cells) = omega (arith, cells-length cells) in
      let x : Ran = worked script ls size ok n vs many kept (cells_of cells) f in
      let m : x.loaded ≡ means script vs = loaded script ls size ok n vs many kept (cells_of cells) f in
      let e =
      ap (λ (p : ℕ). recorded_entry base (list_text ls size) p samples cells out left) read.0
      ∙ ap (λ (p : List ℕ). recorded_entry base (list_text ls size) (read_entry 0 memory s).answer p cells out left) read.1
      ∙ told-run memory s room cells out left
      ∙ ap (λ (r : Recording). recorded_left (recorded_on base (cells_of cells) r (list_text ls size)) cells out left) is
      ∙ ap (λ (o : RunOutcome). recorded_left o cells out left) (ran_on_lem script ls size ok n vs many kept (cells_of cells) f)
      ∙ left-beside x (n - takes script) cells out left (rw m k) l in (
        prints-by script ls size ok n vs many kept cells f out a out' (run.answered ∙ ap (λ (y : RecordedRunning). y.answer) e) (run.out-left ∙ ap (λ (y : RecordedRunning). y.out) e),
        above-by script ls size ok n vs many kept cells f cells' (run.cells_left ∙ ap (λ (y : RecordedRunning). y.cells) e),
        run.left-left ∙ ap (λ (y : RecordedRunning). y.left) e,
      )
