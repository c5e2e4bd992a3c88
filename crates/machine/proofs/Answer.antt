-- The answers of `run` and `run_recorded`: what a promise admits is one result; and the two halves of an answer can't be mistaken for each other:
-- below 2^32 it counts bytes, and otherwise it is a number and a line. Assumes nothing.
use mathlib.Core.Path.{◌≡◌, refl, sym, ◌∙◌}
use mathlib.Core.Bool.{Bool, true, false, ◌||◌}
use mathlib.Core.Option.{Option, none, some}
use mathlib.Core.List.{List, [], ◌∷◌, ◌++◌}
use Prim.Native.Nat.{ℕ, zero, suc, ◌+◌, ◌*◌, ◌-◌, ◌≤◌, ◌<◌}
use native.Mathlib.Omega.{arith}
use lib.Dec.{eqb, leb, ltb}
use lib.ListN.{length, drop, replicate}
use borrow.Author.Tests.{leb-true}
use Rattle.rules.specs.Notation.{provided◌then◌else◌}
use Rattle.rules.specs.Sizes.{Room, base, LINES}
use Rattle.rules.specs.Frames.{constant, next_sample, Line, stores, loads, shows}
use Rattle.rules.specs.Meaning.{Ran, obey, high, list_takes, lacking}
use Rattle.rules.specs.Text.{Listed, listed, unlisted, read_list}
use Rattle.rules.specs.Recordings.{Recording, recorded, malformed, reader_of, is_state}
use Rattle.rules.specs.Entries.{RunOutcome, ran, stopped, run_sampled, run_listed, recorded_on, ran_on, loads_text, cells_of, Running, run_left, run_entry, RecordedRunning, recorded_left, recorded_entry}
use Rattle.rules.proofs.Tells.{decided}
use Rattle.text.proofs.Bounds.{ListIn, read-list-in}
use Rattle.text.proofs.Halves.{Halves, by_count, by_number_lem}
use Rattle.machine.specs.Machine.{LeavesFrame}
use Rattle.machine.proofs.Link.{text-most}

-- any two results that the promise admits are equal
pub leaves-one : {l : Running} {r r' : ℕ} {cells cells' out out' : List ℕ} → LeavesFrame l r cells out → LeavesFrame l r' cells' out' → (r ≡ r') × (cells ≡ cells') × (out ≡ out')
leaves-one a b = (a.answered ∙ sym b.answered, a.cells_left ∙ sym b.cells_left, a.out-left ∙ sym b.out-left)

-- ---- what a run comes to, in a room of so many lines

pub data Comes (most : ℕ) : RunOutcome → Type 0 where
  to_end : {r : Ran} {left : ℕ} → length (loads_text r.loaded) ≤ 7 * most → Comes most (ran r left)
  to-stop : (n i : ℕ) → 1 ≤ n → n ≤ 23 → i ≤ most → Comes most (stopped n i)

-- with a recording whose malformed line is j, if it has one
pub data ComesWith (most j : ℕ) : RunOutcome → Type 0 where
  as-whole : {o : RunOutcome} → Comes most o → ComesWith most j o
  as-torn : ComesWith most j (stopped 24 j)

found : (b : Bool) (i j k m : ℕ) (y : Option ℕ) → ◌≡◌ {A = Option ℕ} (elim b [ true ↦ y | false ↦ some i ]) (some j) → (y ≡ some j → j < suc i + m) → k ≡ suc m → j < i + k
found true i j k m y e ih q = omega (arith, ih e, q)
found false i j k m y e ih q = let s : i ≡ j = cc in omega arith

high-below : (ls : List Line) (size i j : ℕ) → high size i ls ≡ some j → j < i + length ls
unfolding high
high-below [] size i j e = absurd (let z : ◌≡◌ {A = ℕ} 0 1 = cc in omega arith)
high-below (shows o l ∷ ls) size i j e = omega (arith, high-below ls size (suc i) j e)
high-below (stores a x ∷ ls) size i j e = found (ltb a size) i j _ (length ls) _ e (λ q. high-below ls size (suc i) j q) refl
high-below (loads o a ∷ ls) size i j e = found (ltb a size) i j _ (length ls) _ e (λ q. high-below ls size (suc i) j q) refl

lacking-below : (ls : List Line) (i n j : ℕ) → lacking i n ls ≡ some j → j < i + length ls
unfolding lacking
lacking-below [] i n j e = absurd (let z : ◌≡◌ {A = ℕ} 0 1 = cc in omega arith)
lacking-below (stores a (constant v) ∷ ls) i n j e = omega (arith, lacking-below ls (suc i) n j e)
lacking-below (stores a next_sample ∷ ls) i zero j e = let q : i ≡ j = cc in omega arith
lacking-below (stores a next_sample ∷ ls) i (suc n) j e = omega (arith, lacking-below ls (suc i) n j e)
lacking-below (loads o a ∷ ls) i n j e = omega (arith, lacking-below ls (suc i) n j e)
lacking-below (shows o l ∷ ls) i n j e = omega (arith, lacking-below ls (suc i) n j e)

module _ (room : Room) (one : 1 ≤ room.lines) (cells : List ℕ) where
  -- no line of the recording is malformed
  whole : (ls : List Line) (size n : ℕ) (vs : List ℕ) → 0 + length ls ≤ room.lines → Comes room.lines (run_sampled cells size ls (recorded n vs))
  whole ls size n vs h = go (lacking 0 n ls) refl
    where
      on : (b : Bool) → Comes room.lines (elim b [ true ↦ stopped 17 0 | false ↦ ran (obey (replicate size 0 ++ drop size cells) vs ls) (n - list_takes ls) ])
      on true = to-stop 17 0 (omega arith) (omega arith) (omega arith)
      on false = to_end {r = obey (replicate size 0 ++ drop size cells) vs ls} (omega (arith, text-most ls (replicate size 0 ++ drop size cells) vs))

      go : (o : Option ℕ) → lacking 0 n ls ≡ o → Comes room.lines (run_sampled cells size ls (recorded n vs))
      go (some i) e = rw (e, run_sampled) (to-stop 23 i (omega arith) (omega arith) (omega (arith, lacking-below ls 0 n i e)))
      go none e = rw (e, run_sampled) (on (ltb (length cells) size || ltb (length vs) (list_takes ls)))

  low : (P : RunOutcome → Type 0) (r : Recording) (ls : List Line) (size : ℕ) → ((n i : ℕ) → 1 ≤ n → n ≤ 23 → i ≤ room.lines → P (stopped n i)) → 0 + length ls ≤ room.lines
      → P (run_sampled cells size ls r) → P (run_listed cells r (listed ls size))
  unfolding run_listed
  low P r ls size stop h p = go (high size 0 ls) refl
    where
      go : (o : Option ℕ) → high size 0 ls ≡ o → P (run_listed cells r (listed ls size))
      go (some i) e = rw (e, run_listed) (stop 20 i (omega arith) (omega arith) (omega (arith, high-below ls size 0 i e)))
      go none e = rw (e, run_listed) p

  pub comes-whole : (n : ℕ) (vs list : List ℕ) → Comes room.lines (recorded_on room cells (recorded n vs) list)
  unfolding recorded_on run_listed
  comes-whole n vs list = go (read_list room list) (read-list-in room one list)
    where
      go : (l : Listed) → ListIn room 0 l → Comes room.lines (run_listed cells (recorded n vs) l)
      go (unlisted k i) h = to-stop k i h.0 (omega (arith, h.1)) h.2
      go (listed ls size) h = low (Comes room.lines) (recorded n vs) ls size (λ k i a b c. to-stop k i a b c) h.0 (whole ls size n vs h.0)

  pub comes-torn : (j : ℕ) (list : List ℕ) → ComesWith room.lines j (recorded_on room cells (malformed j) list)
  unfolding recorded_on run_listed
  comes-torn j list = go (read_list room list) (read-list-in room one list)
    where
      go : (l : Listed) → ListIn room 0 l → ComesWith room.lines j (run_listed cells (malformed j) l)
      go (unlisted k i) h = as-whole (to-stop k i h.0 (omega (arith, h.1)) h.2)
      go (listed ls size) h = low (ComesWith room.lines j) (malformed j) ls size (λ k i a b c. as-whole (to-stop k i a b c)) h.0 as-torn

  -- by the column where the recording ended
  pub comes-told : (line : ℕ) (vs list : List ℕ) (b : Bool) → ComesWith room.lines line (recorded_on room cells (elim b [ true ↦ recorded line vs | false ↦ malformed line ]) list)
  comes-told line vs list true = as-whole (comes-whole line vs list)
  comes-told line vs list false = comes-torn line list

pub comes : (room : Room) → 1 ≤ room.lines → (cells list : List ℕ) → Comes room.lines (ran_on room cells list)
unfolding ran_on
comes room one cells list = comes-whole room one cells 0 [] list

-- ---- the two halves of the answer of `run`

abbrev pub HalvesOf : List ℕ → List ℕ → ℕ → ℕ → Running → Type 0
HalvesOf cells out greatest most l = Halves (length out) (7 * most) greatest most ((l.cells ≡ cells) × (l.out ≡ out)) l.answer

halves_of : (greatest most : ℕ) → 23 ≤ greatest → most ≤ 65535 → (cells out : List ℕ) (o : RunOutcome) → Comes most o → HalvesOf cells out greatest most (run_left o cells out)
unfolding run_left provided◌then◌else◌
halves_of greatest most k h cells out _ (to-stop n i a b c) = by_number_lem _ _ _ _ _ n i (omega arith) a (omega arith) c (refl, refl)
halves_of greatest most k h cells out _ (to_end {r = r} {left = left} a) = go (leb (length (loads_text r.loaded)) (length out)) refl
  where
    go : (b : Bool) → leb (length (loads_text r.loaded)) (length out) ≡ b → HalvesOf cells out greatest most (run_left (ran r left) cells out)
    go true e = rw (e, provided◌then◌else◌) (by_count _ _ _ _ _ _ (omega arith) (leb-true _ _ e) a)
    go false e = rw (e, provided◌then◌else◌) (by_number_lem _ _ _ _ _ 17 0 (omega arith) (omega arith) (omega arith) (omega arith) (refl, refl))

-- a number is at most 23
pub run-halves : (greatest : ℕ) → 23 ≤ greatest → (room : Room) → 1 ≤ room.lines → room.lines ≤ 65535 → (list cells out : List ℕ) → HalvesOf cells out greatest room.lines (run_entry room list cells out)
unfolding run_entry
run-halves greatest k room one h list cells out = halves_of greatest room.lines k h cells out _ (comes room one (cells_of cells) list)

-- as `run` promises it
pub run-answer : (list cells out : List ℕ) → HalvesOf cells out 23 LINES (run_entry base list cells out)
unfolding base
run-answer list cells out = run-halves 23 (omega arith) base (omega arith) (omega arith) list cells out

-- ---- of `run_recorded`: a number is at most 29, and a line, of the list or of the recording, at most 4,294,967,295

abbrev pub RecordedHalves : (most : ℕ) (cells out left : List ℕ) → RecordedRunning → Type 0
RecordedHalves most cells out left l = Halves (length out) (7 * most) 29 4294967295 ((l.cells ≡ cells) × (l.out ≡ out) × (l.left ≡ left)) l.answer

module _ (most : ℕ) (h : most ≤ 65535) (cells out left : List ℕ) where
  abbrev halved : RunOutcome → Type 0
  halved o = RecordedHalves most cells out left (recorded_left o cells out left)

  recorded-of : (j : ℕ) → j ≤ 4294967295 → (o : RunOutcome) → ComesWith most j o → halved o
  unfolding recorded_left provided◌then◌else◌
  recorded-of j k _ as-torn = by_number_lem _ _ _ _ _ 24 j (omega arith) (omega arith) (omega arith) k (refl, refl, refl)
  recorded-of j k _ (as-whole (to-stop n i a b c)) = by_number_lem _ _ _ _ _ n i (omega arith) a (omega arith) (omega arith) (refl, refl, refl)
  recorded-of j k _ (as-whole (to_end {r = r} {left = n} a)) =
      decided (leb (length (loads_text r.loaded)) (length out))
      (λ e.
      decided (leb 4 (length left))
      (λ f. rw (e, f, provided◌then◌else◌) (by_count _ _ _ _ _ _ (omega arith) (leb-true _ _ e) a))
      (λ f. rw (e, f, provided◌then◌else◌) (by_number_lem _ _ _ _ _ 17 0 (omega arith) (omega arith) (omega arith) (omega arith) (refl, refl, refl))))
      (λ e. rw (e, provided◌then◌else◌) (by_number_lem _ _ _ _ _ 17 0 (omega arith) (omega arith) (omega arith) (omega arith) (refl, refl, refl)))

  pub recorded-halves : (room : Room) → 1 ≤ room.lines → room.lines ≡ most → (list : List ℕ) (state : ℕ) (samples : List ℕ) → RecordedHalves most cells out left (recorded_entry room list state samples cells out left)
  unfolding recorded_entry provided◌then◌else◌
  recorded-halves room one q list state samples =
      decided (is_state state)
      (λ s. rw (s, recorded_entry) (recorded-of (reader_of state).line (omega arith) _ (rw (← q) (comes-told room one (cells_of cells) (reader_of state).line (cells_of samples) list (eqb (reader_of state).column 0)))))
      (λ s. rw (s, recorded_entry) (by_number_lem _ _ _ _ _ 29 0 (omega arith) (omega arith) (omega arith) (omega arith) (refl, refl, refl)))

-- as `run_recorded` promises it
pub recorded-answer : (list : List ℕ) (state : ℕ) (samples cells out left : List ℕ) → RecordedHalves LINES cells out left (recorded_entry base list state samples cells out left)
unfolding base
recorded-answer list state samples cells out left = recorded-halves LINES (omega arith) cells out left base (omega arith) refl list state samples
