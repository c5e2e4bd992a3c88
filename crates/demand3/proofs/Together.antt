-- Translate and then run, on the page that translate left, is `together`. Assumes nothing.
use mathlib.Core.Path.{◌≡◌, refl, sym, ap, subst, ◌∙◌}
use mathlib.Core.Bool.{Bool, true, false, ◌&&◌}
use mathlib.Core.Option.{Option, none, some}
use mathlib.Core.List.{List, [], ◌++◌}
use Prim.Native.Nat.{ℕ, ◌*◌, ◌/◌, ◌-◌, ◌≤◌, ◌<◌}
use native.Mathlib.Omega.{arith}
use lib.Dec.{leb}
use lib.ListN.{length, take}
use borrow.Author.Tests.{le-leb, lt-leb, leb-true, leb-false}
use Rattle.rules.specs.Notation.{provided◌then◌else◌}
use Rattle.rules.specs.Sizes.{base, PAGE, LINES}
use Rattle.rules.specs.Frames.{Line, Outcome, accepted}
use Rattle.rules.specs.Meaning.{Ran, lacking}
use Rattle.rules.specs.Text.{list_text}
use Rattle.rules.specs.Entries.{translated, list_left, translate_entry, over_front, loads_text, cells_of, odd_byte, bytes_of, ran, Running, run_left, ran_on, run_entry, REFUSAL}
use Rattle.text.proofs.Halves.{by_number_lem}
use Rattle.translate.proofs.Numbers.{Comes, to-list, to-stop, Halves, count, number, translate-halves}
use Rattle.machine.specs.Machine.{LeavesFrame, Bytes, refusal}
use Rattle.rules.proofs.Bytes.{Held, held-base}
use Rattle.rules.proofs.SampleCells.{cells-length}
use Rattle.machine.proofs.Answer as machine
use Rattle.demand3.specs.Promises.{TranslatePromise, RunPromise, Accepts, means, takes, PrintsMeaning}
use Rattle.demand3.specs.Together.{frame_after, worked, together_on, together}
use Rattle.demand3.proofs.Frame.{text-length, frame-front}
use Rattle.rules.proofs.Taking.{taken-by}
use Rattle.demand3.proofs.Ran.{below, as_many, lacks, worked as done, ran-short, ran_on_lem, loaded}
use Rattle.demand3.proofs.Demand3.{come, listed_by, left-ran}

-- ---- an accepted script

-- without room for the answer
left-short : (x : Ran) (n : ℕ) (cells out : List ℕ) → length out < 7 * length x.loaded → run_left (ran x n) cells out ≡ refusal 17 0 cells out
unfolding run_left provided◌then◌else◌
left-short x n cells out h = rw (lt-leb (length (loads_text x.loaded)) (length out) (omega (arith, text-length x.loaded)), provided◌then◌else◌)

module _ (script : List ℕ) (ls : List Line) (size : ℕ) (ok : Held base script ls size) (cells out : List ℕ) (bytes : Bytes cells) where
  -- with cells enough: 17 for out, or the work
  roomy : (x : Ran) (n : ℕ) → x.loaded ≡ means script [] → bytes_of x.cells ++ odd_byte cells ≡ over_front (frame_after ls size) cells
      → run_left (ran x n) cells out ≡ (provided leb (7 * length (means script [])) (length out) then worked ls size (means script []) cells out else refusal 17 0 cells out)
  unfolding provided◌then◌else◌
  roomy x n m w = go (leb (7 * length (means script [])) (length out)) refl
    where
      go : (b : Bool) → leb (7 * length (means script [])) (length out) ≡ b
          → run_left (ran x n) cells out ≡ (provided leb (7 * length (means script [])) (length out) then worked ls size (means script []) cells out else refusal 17 0 cells out)
      go false q = rw (q, provided◌then◌else◌) (left-short x n cells out (rw m (leb-false _ _ q)))
      go true q = rw (q, provided◌then◌else◌) (left-ran x n cells out (rw m (leb-true _ _ q)) ∙ rw (m, w))

  -- no sample is wanted
  run-all : takes script ≤ 0 → run_entry base (list_text ls size) cells out
      ≡ (provided (leb (2 * size) (length cells) && leb (7 * length (means script [])) (length out)) then worked ls size (means script []) cells out else refusal 17 0 cells out)
  unfolding run_entry ran_on provided◌then◌else◌ run_left
  run-all q = go (leb (2 * size) (length cells)) refl
    where
      n : length (cells_of cells) ≡ length cells / 2
      n = cells-length cells

      go : (b : Bool) → leb (2 * size) (length cells) ≡ b → run_entry base (list_text ls size) cells out
          ≡ (provided (leb (2 * size) (length cells) && leb (7 * length (means script [])) (length out)) then worked ls size (means script []) cells out else refusal 17 0 cells out)
      go false p =
          let f : length (cells_of cells) < size = omega (arith, n, leb-false (2 * size) (length cells) p) in
          rw (p, provided◌then◌else◌) (ap (λ o. run_left o cells out) (ran-short script ls size ok 0 [] q q (cells_of cells) f))
      go true p =
          let f : size ≤ length (cells_of cells) = omega (arith, n, leb-true (2 * size) (length cells) p) in
          rw p
          (ap (λ o. run_left o cells out) (ran_on_lem script ls size ok 0 [] q q (cells_of cells) f)
          ∙ roomy (done script ls size ok 0 [] q q (cells_of cells) f) (0 - takes script) (loaded script ls size ok 0 [] q q (cells_of cells) f) (frame-front ls size cells (below script ls size ok) bytes f))

  run_is : run_entry base (list_text ls size) cells out ≡ together_on (accepted ls size) (means script []) cells out
  unfolding run_entry ran_on together_on run_left
  run_is = go (lacking 0 0 ls) refl
    where
      go : (o : Option ℕ) → lacking 0 0 ls ≡ o → run_entry base (list_text ls size) cells out ≡ together_on (accepted ls size) (means script []) cells out
      go (some i) e = rw (e, together_on) (ap (λ o. run_left o cells out) (lacks script ls size ok (cells_of cells) 0 i [] e))
      go none e = rw (e, together_on) (run-all (omega (arith, taken-by ls 0 0 e, as_many script ls size ok)))

-- ---- by what translate answered

module _ (script page : List ℕ) (r : ℕ) (page' : List ℕ) (said : TranslatePromise script page r page') where
  -- the list lies on the page
  pub on-page : Accepts r → r ≤ length page
  on-page k = go (translate-halves script page)
    where
      go : Halves page (translate_entry base script page) → r ≤ length page
      go (count a b c) = omega (arith, said.answered)
      go (number n i a b c d e f) = absurd (omega (arith, said.answered))

  pub accepted-both : Accepts r → (cells out : List ℕ) → Bytes cells → (a : ℕ) (cells' out' : List ℕ) → RunPromise (take r page') cells out a cells' out' → LeavesFrame (together script cells out) a cells' out'
  unfolding together
  accepted-both k cells out bytes a cells' out' run =
      let l = listed_by script page r page' said k in
      subst (λ (x : Running). LeavesFrame x a cells' out')
      (ap (λ (t : List ℕ). run_entry base t cells out) l.is
      ∙ run_is script l.lines l.size (held-base script l.lines l.size l.ok) cells out bytes
      ∙ ap (λ (o : Outcome). together_on o (means script []) cells out) (sym l.ok))
      run

  -- 17 is no answer here: every list goes on the page
  pub refused-both : PAGE ≤ length page → REFUSAL ≤ r → (cells out : List ℕ) → LeavesFrame (together script cells out) r cells out
  unfolding together translate_entry together_on list_left provided◌then◌else◌
  refused-both room k cells out = go (translated base script) (come script) said.answered
    where
      go : (o : Outcome) → Comes o → r ≡ (list_left o page).answer → LeavesFrame (together_on o (means script []) cells out) r cells out
      go _ (to-stop n i a b c) e = record { answered = e; cells_left = refl; out-left = refl }
      go _ (to-list {ls = ls} {size = size} a) e =
          let x : r ≡ length (list_text ls size) = rw (le-leb (length (list_text ls size)) (length page) (omega arith), provided◌then◌else◌) at e in
          absurd (omega arith)

-- ---- of the promise

-- demand 3: an answer below 2^32 counts the bytes of the script's meaning, and they lie at the front of out
pub together-prints : (script cells out : List ℕ) (r : ℕ) (cells' out' : List ℕ) → LeavesFrame (together script cells out) r cells' out' → Accepts r → PrintsMeaning script [] out r out'
unfolding together together_on provided◌then◌else◌
together-prints script cells out r cells' out' h k = go (translated base script) (come script) h
  where
    go : (o : Outcome) → Comes o → LeavesFrame (together_on o (means script []) cells out) r cells' out' → PrintsMeaning script [] out r out'
    go _ (to-stop n i a b c) h = absurd (omega (arith, h.answered))
    go _ (to-list {ls = ls} {size = size} a) h = on (lacking 0 0 ls) (leb (2 * size) (length cells) && leb (7 * length (means script [])) (length out)) h
      where
        on : (o : Option ℕ) (b : Bool)
            → LeavesFrame (elim o [ some i ↦ refusal 23 i cells out | none ↦ provided b then worked ls size (means script []) cells out else refusal 17 0 cells out ]) r cells' out'
            → PrintsMeaning script [] out r out'
        on (some i) b h = absurd (omega (arith, h.answered))
        on none true h = record { count = h.answered; text = h.out-left }
        on none false h = absurd (omega (arith, h.answered))

-- any two results that the promise admits are equal
pub together-one : (script cells out : List ℕ) (r r' : ℕ) (cells' cells'' out' out'' : List ℕ) → LeavesFrame (together script cells out) r cells' out'
    → LeavesFrame (together script cells out) r' cells'' out'' → (r ≡ r') × (cells' ≡ cells'') × (out' ≡ out'')
together-one script cells out r r' cells' cells'' out' out'' a b = machine.leaves-one a b

-- the two halves of the answer can't be mistaken for each other
pub together-answer : (script cells out : List ℕ) → Bytes cells → machine.HalvesOf cells out 23 LINES (together script cells out)
unfolding together together_on base
together-answer script cells out bytes = go (translated base script) refl (come script)
  where
    go : (o : Outcome) → translated base script ≡ o → Comes o → machine.HalvesOf cells out 23 LINES (together_on o (means script []) cells out)
    go _ e (to-stop n i a b c) = by_number_lem _ _ _ _ _ n i (omega arith) a (omega arith) c (refl, refl)
    go _ e (to-list {ls = ls} {size = size} a) = subst (machine.HalvesOf cells out 23 LINES) (run_is script ls size (held-base script ls size e) cells out bytes) (machine.run-halves 23 (omega arith) base (omega arith) (omega arith) (list_text ls size) cells out)
