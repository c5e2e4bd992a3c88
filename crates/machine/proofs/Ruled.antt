-- `run_recorded` is the rules' run of the list with what a reader's state and the kept samples tell of a recording; and `run` is the rules' run
-- with no recording. Assumes nothing.
use mathlib.Core.Path.{◌≡◌, refl, sym, ap, subst, ◌∙◌}
use mathlib.Core.Bool.{Bool, true, false, not, ◌||◌, true≢false}
use mathlib.Core.Option.{Option, none, some}
use mathlib.Core.List.{List, [], ◌∷◌, ◌++◌}
use Prim.Native.Nat.{ℕ, ◌+◌, ◌*◌, ◌/◌, ◌-◌, ◌≤◌}
use native.Mathlib.Omega.{arith}
use native.Mathlib.Nat.{zero-add}
use lib.Dec.{eqb, ltb, leb}
use lib.ListN.{length, take, drop, replicate, length-append, length-replicate}
use borrow.Author.Tests.{lt-ltb, le-ltb, ltb-true, ltb-false, lt-leb, le-leb}
use Rattle.rules.specs.Notation.{provided◌then◌else◌}
use Rattle.rules.specs.Sizes.{Room}
use Rattle.rules.specs.Frames.{Line}
use Rattle.rules.specs.Meaning.{obey, high, list_takes, lacking}
use Rattle.rules.specs.Text.{Listed, listed, unlisted, read_list}
use Rattle.rules.specs.Recordings.{Recording, recorded, malformed, limit, is_reader, reader_of, is_state}
use Rattle.rules.specs.Entries.{RunOutcome, ran, stopped, run_sampled, run_listed, recorded_on, ran_on, loads_text, refusal_answer, cells_of, odd_byte, run_left, run_entry, recorded_left, recorded_entry, RecordedRunning}
use Rattle.rules.proofs.Tells.{decided}
use Rattle.rules.proofs.Taking.{enough}
use Rattle.text.specs.Whole.{of_listed, listing}
use Rattle.machine.specs.Machine.{LeavesFrame, Bytes}
use Rattle.machine.specs.Entries.{entries}
use Rattle.machine.specs.Recorded.{LeavesAll, enough_left, whole_left, surveyed_left, listed_left, list_left}
use Rattle.machine.specs.declared.entries.Entry.{Entry}
use Rattle.machine.specs.declared.survey.Asked.{Asked}
use Rattle.text.specs.Refused.{Checked}
use Rattle.machine.proofs.Pairs.{Lined, pairs-read, lines-only}
use Rattle.machine.proofs.Cells.{cells-length, zero-bytes}
use Rattle.machine.proofs.Lefts.{stops}
use Rattle.machine.proofs.Link.{lines_loads, of_high, surveys, lacks-at, obeyed-cells, obeyed-text, text-length}

module _ (m cells out left : List ℕ) (ok : Bytes cells) where
  abbrev left_of : RunOutcome → RecordedRunning
  left_of o = recorded_left o cells out left

  -- ---- 17, and the work

  abbrev cz : ℕ → List ℕ
  cz size = replicate size 0 ++ drop size (cells_of cells)

  worked : (es : List Entry) (ls : List Line) (size n k rec : ℕ) → Lined es ls → high size 0 ls ≡ none → n ≡ lines_loads ls → k ≡ list_takes ls
      → enough_left m size n k rec es cells out left
      ≡ left_of (elim (ltb (length (cells_of cells)) size || ltb (length (cells_of m)) (list_takes ls)) [ true ↦ stopped 17 0 | false ↦ ran (obey (cz size) (cells_of m) ls) (rec - list_takes ls) ])
  unfolding enough_left recorded_left provided◌then◌else◌
  worked es ls size n k rec p lo en ek =
      decided (ltb (length (cells_of cells)) size)
      (λ a. rw (a, lt-ltb (length cells / 2) size (omega (arith, ltb-true (length (cells_of cells)) size a, cells-length cells)), enough_left))
      (λ a.
      let f = ltb-false (length (cells_of cells)) size a in
      let ca = le-ltb (length cells / 2) size (omega (arith, f, cells-length cells)) in
      let len : length (loads_text (obey (cz size) (cells_of m) ls).loaded) ≡ 7 * n = text-length ls (cz size) (cells_of m) ∙ omega (arith, en) in
      decided (ltb (length (cells_of m)) (list_takes ls))
      (λ d.
      let cd = lt-ltb (length m / 2) k (omega (arith, ltb-true (length (cells_of m)) (list_takes ls) d, cells-length m, ek)) in
      decided (ltb (length out / 7) n) (λ b. rw (a, d, ca, b, enough_left)) (λ b. rw (a, d, ca, b, cd, enough_left)))
      (λ d.
      let cd = le-ltb (length m / 2) k (omega (arith, ltb-false (length (cells_of m)) (list_takes ls) d, cells-length m, ek)) in
      decided (ltb (length out / 7) n)
      (λ b.
      let g : leb (length (loads_text (obey (cz size) (cells_of m) ls).loaded)) (length out) ≡ false = lt-leb (length (loads_text (obey (cz size) (cells_of m) ls).loaded)) (length out) (omega (arith, ltb-true (length out / 7) n b, len)) in
      rw (a, d, ca, b, g, enough_left))
      (λ b.
      let g : leb (length (loads_text (obey (cz size) (cells_of m) ls).loaded)) (length out) ≡ true = le-leb (length (loads_text (obey (cz size) (cells_of m) ls).loaded)) (length out) (omega (arith, ltb-false (length out / 7) n b, len)) in
      decided (ltb (length left) 4)
      (λ s. rw (a, d, ca, b, cd, s, g, lt-leb 4 (length left) (ltb-true (length left) 4 s), enough_left))
      (λ s.
      let fc : size ≤ length (cz size) = omega (arith, f, length-append (replicate size 0) (drop size (cells_of cells)), length-replicate {A = ℕ} size 0) in
      let few : 0 + list_takes ls ≤ length (cells_of m) = omega (arith, ltb-false (length (cells_of m)) (list_takes ls) d) in
      rw (
        a,
        d,
        ca,
        b,
        cd,
        s,
        g,
        le-leb 4 (length left) (ltb-false (length left) 4 s),
        enough_left,
        ek,
        zero-bytes size cells ok f,
        obeyed-cells m p size 0 0 lo few (cz size) (odd_byte cells) fc,
        obeyed-text m p size 0 0 lo few (cz size) (odd_byte cells) fc,
        len,
      )))))

  -- ---- 24 and 23

  abbrev told : (column rec : ℕ) → Recording
  told column rec = elim (eqb column 0) [ true ↦ recorded rec (cells_of m) | false ↦ malformed rec ]

  sampled : (es : List Entry) (ls : List Line) (size n k column rec : ℕ) → Lined es ls → high size 0 ls ≡ none → n ≡ lines_loads ls → k ≡ list_takes ls
      → whole_left m size n k column rec es cells out left ≡ left_of (run_sampled (cells_of cells) size ls (told column rec))
  unfolding whole_left recorded_left
  sampled es ls size n k column rec p lo en ek =
      decided (eqb column 0)
      (λ a.
      decided (ltb rec k)
      (λ b.
      let e : lacking 0 rec ls ≡ some _ = lacks-at p 0 rec (omega (arith, ltb-true rec k b, ek)) in
      rw (a, b, e, whole_left, run_sampled))
      (λ b.
      let e : lacking 0 rec ls ≡ none = enough ls 0 rec (omega (arith, ltb-false rec k b, ek)) in
      rw (a, b, e, whole_left, run_sampled) (worked es ls size n k rec p lo en ek)))
      (λ a. rw (a, whole_left, run_sampled))

  -- ---- 20

  surveyed : (es : List Entry) (ls : List Line) (size column rec : ℕ) → Lined es ls → (h : Option ℕ) → high size 0 ls ≡ h
      → surveyed_left m size column rec es (of_high h (0 + lines_loads ls) (0 + list_takes ls)) cells out left ≡ left_of (run_listed (cells_of cells) (told column rec) (listed ls size))
  unfolding run_listed recorded_left
  surveyed es ls size column rec p (some i) e = rw (e, run_listed)
  surveyed es ls size column rec p none e = rw (e, run_listed) (sampled es ls size (0 + lines_loads ls) (0 + list_takes ls) column rec p e (omega arith) (omega arith))

  -- ---- 1 and 2

  pub listed-is : (room : Room) (list : List ℕ) (column rec : ℕ) → list_left room list m column rec cells out left ≡ left_of (recorded_on room (cells_of cells) (told column rec) list)
  unfolding list_left listing entries recorded_on run_listed recorded_left
  listed-is room list column rec = go (read_list room list) refl
    where
      go : (l : Listed) → read_list room list ≡ l → listed_left m column rec (entries list) (of_listed 0 l) cells out left ≡ left_of (run_listed (cells_of cells) (told column rec) l)
      go (unlisted n i) e = refl
      go (listed ls size) e =
          let es : List Entry = take (length ls) (entries list) in
          let p : Lined es ls = lines-only (pairs-read room list size ls e) in
          rw zero-add
          (ap (λ (v : Checked Asked). surveyed_left m size column rec es v cells out left) (surveys p size 0 0 0) ∙ surveyed es ls size column rec p (high size 0 ls) refl)

-- ---- 29, and all of it

pub not_taken : (b : Bool) → not b ≡ true → b ≡ false
not_taken true e = absurd (true≢false (sym e))
not_taken false e = refl

pub not_left : (b : Bool) → not b ≡ false → b ≡ true
not_left true e = refl
not_left false e = absurd (true≢false e)

module _ (room : Room) (list : List ℕ) (state : ℕ) (samples cells out left : List ℕ) where
  pub entry_other : is_state state ≡ false → (r : ℕ) → r ≡ refusal_answer 29 0 → LeavesAll (recorded_entry room list state samples cells out left) r cells out left
  unfolding recorded_entry provided◌then◌else◌
  entry_other h r e = rw (h, recorded_entry) (stops cells out left 29 0 r e)

  pub entry_read : Bytes cells → is_state state ≡ true → (column rec : ℕ) → column ≡ (reader_of state).column → rec ≡ (reader_of state).line → (r : ℕ) (cells' out' left' : List ℕ)
      → LeavesAll (list_left room list samples column rec cells out left) r cells' out' left' → LeavesAll (recorded_entry room list state samples cells out left) r cells' out' left'
  unfolding recorded_entry provided◌then◌else◌
  entry_read ok h column rec ec er r cells' out' left' l =
      rw (h, recorded_entry, ← ec, ← er) (subst (λ (x : RecordedRunning). LeavesAll x r cells' out' left') (listed-is samples cells out left ok room list column rec) l)

-- ---- no recording

-- with lent memory for the number left over, that number is all that `run_recorded` leaves besides
same_left : (o : RunOutcome) (cells out left : List ℕ) → 4 ≤ length left → (r : ℕ) (cells' out' left' : List ℕ) → LeavesAll (recorded_left o cells out left) r cells' out' left' → LeavesFrame (run_left o cells out) r cells' out'
unfolding run_left recorded_left provided◌then◌else◌
same_left (stopped n i) cells out left h r cells' out' left' l = record { answered = l.answered; cells_left = l.cells_left; out-left = l.out-left }
same_left (ran x n) cells out left h r cells' out' left' l = go (leb (length (loads_text x.loaded)) (length out)) refl
  where
    four : leb 4 (length left) ≡ true
    four = le-leb 4 (length left) h

    go : (b : Bool) → leb (length (loads_text x.loaded)) (length out) ≡ b → LeavesFrame (run_left (ran x n) cells out) r cells' out'
    go true e = let k = rw (e, four) at l in rw (e, run_left) (record { answered = k.answered; cells_left = k.cells_left; out-left = k.out-left })
    go false e = let k = rw e at l in rw (e, run_left) (record { answered = k.answered; cells_left = k.cells_left; out-left = k.out-left })

-- no list that needs no sample looks at those that are kept: with none recorded the kept ones make no difference
module _ (cells : List ℕ) (m : List ℕ) where
  none_kept : (l : Listed) → length m ≤ 1 → run_listed cells (recorded 0 (cells_of m)) l ≡ run_listed cells (recorded 0 []) l
  unfolding cells_of
  none_kept l h = go m h
    where
      go : (y : List ℕ) → length y ≤ 1 → run_listed cells (recorded 0 (cells_of y)) l ≡ run_listed cells (recorded 0 []) l
      go [] k = refl
      go (b ∷ []) k = refl
      go (b ∷ d ∷ bs) k = absurd (omega arith)

pub run_none : (room : Room) (list m cells out left : List ℕ) → length m ≤ 1 → 4 ≤ length left → (r : ℕ) (cells' out' left' : List ℕ)
    → LeavesAll (recorded_entry room list 0 m cells out left) r cells' out' left' → LeavesFrame (run_entry room list cells out) r cells' out'
unfolding run_entry ran_on recorded_on recorded_entry provided◌then◌else◌ is_reader limit
run_none room list m cells out left hm h r cells' out' left' l =
    same_left (run_listed (cells_of cells) (recorded 0 []) (read_list room list)) cells out left h r cells' out' left'
    (subst (λ (o : RunOutcome). LeavesAll (recorded_left o cells out left) r cells' out' left') (none_kept (cells_of cells) m (read_list room list) hm) l)
