-- What `translate` and `run` left, as it is printed. Assumes nothing.
use mathlib.Core.Path.{◌≡◌, refl, sym, ap, subst, ◌∙◌}
use mathlib.Core.List.{List, ◌∷◌}
use Prim.Native.Nat.{ℕ, zero, suc, ◌*◌, ◌/◌, ◌%◌, ◌≤◌, ◌<◌}
use native.Mathlib.Omega.{arith}
use lib.ListN.{length, replicate}
use borrow.Author.Tests.{le-leb, lt-ltb, le-ltb}
use Rattle.rules.specs.Notation.{provided◌then◌else◌}
use Rattle.rules.specs.Sizes.{base, SLOTS, TEXT, LINES}
use Rattle.rules.specs.Frames.{Outcome}
use Rattle.rules.specs.Text.{list_text}
use Rattle.rules.specs.Entries.{translated, list_left, translate_entry, RunOutcome, ran_on, loads_text, cells_of, run_left, run_entry, refusal_answer, over_front, ee_text, outcome_text, run_text, unless_longer, translator_prints, runner_prints, REFUSAL}
use Rattle.translate.specs.Whole as translate
use Rattle.translate.proofs.Numbers as translation
use Rattle.machine.specs.Machine as machine
use Rattle.machine.proofs.Answer as running
use Rattle.answers.specs.Prints.{Prints, Halved, Shown}
use Rattle.answers.proofs.Printed.{prints-as}

-- an answer of which the text is to be printed: it counts the text's bytes, which stand at the start of out; or out stays, and the text is
-- the line of a refusal
pub data Says (text out : List ℕ) (answer : ℕ) (out' : List ℕ) : Type 0 where
  written : answer ≡ length text → length text ≤ TEXT → out' ≡ over_front text out → Says text out answer out'
  refusal : (n i : ℕ) → answer ≡ refusal_answer n i → 1 ≤ n → n < 256 → i ≤ LINES → ee_text n i ≡ text → out' ≡ out → Says text out answer out'

module _ (text out : List ℕ) (answer : ℕ) (out' : List ℕ) where
  pub halved : Says text out answer out' → Halved answer
  halved (written e h q) = record { number = omega arith; line = omega arith }
  halved (refusal n i e a b c t q) = record { number = omega arith; line = omega arith }

  pub printed : (n : ℕ) (out'' : List ℕ) → Says text out answer out' → Shown answer out' n out'' → Prints text out n out''
  printed n out'' (written e h q) s = let p = s.counts (omega arith) in record { count = p.0 ∙ e; bytes = p.1 ∙ q }
  printed n out'' (refusal m i e a b c t q) s =
      let x : answer / REFUSAL ≡ m = omega arith in
      let y : answer % REFUSAL ≡ i = omega arith in
      let l : ee_text (answer / REFUSAL) (answer % REFUSAL) ≡ text = rw (x, y) t in
      subst (λ (o : List ℕ). Prints text o n out'') q (prints-as l (s.refuses (omega arith)))

-- ---- translate

translation-says : (o : Outcome) → translation.Comes o → (out : List ℕ) → TEXT ≤ length out → (r : ℕ) (out' : List ℕ) → translate.LeavesList (list_left o out) r out'
    → Says (outcome_text o) out r out'
unfolding list_left outcome_text provided◌then◌else◌
translation-says _ (translation.to-stop n i a b c) out h r out' l = refusal n i l.answered a (omega arith) c refl l.list_left
translation-says _ (translation.to-list {ls = ls} {size = size} a) out h r out' l =
    let e = le-leb (length (list_text ls size)) (length out) (omega arith) in
    written (rw (e, provided◌then◌else◌) at l.answered) (omega arith) (rw (e, provided◌then◌else◌) at l.list_left)

module _ (script : List ℕ) where
  pub script-longer : TEXT < length script → ee_text 17 0 ≡ translator_prints base script
  unfolding translator_prints unless_longer provided◌then◌else◌ base
  script-longer h = sym (rw (lt-ltb _ _ h, provided◌then◌else◌))

  script-fits : length script ≤ TEXT → outcome_text (translated base script) ≡ translator_prints base script
  unfolding translator_prints unless_longer provided◌then◌else◌ base
  script-fits h = sym (rw (le-ltb _ _ h, provided◌then◌else◌))

  come : translation.Comes (translated base script)
  unfolding base
  come = translation.comes script

  pub translate-says : length script ≤ TEXT → (out : List ℕ) → TEXT ≤ length out → (r : ℕ) (out' : List ℕ) → translate.LeavesList (translate_entry base script out) r out'
      → Says (translator_prints base script) out r out'
  unfolding translate_entry
  translate-says h out wide r out' l =
      subst (λ (t : List ℕ). Says t out r out') (script-fits h) (translation-says (translated base script) come out wide r out' l)

-- ---- run

run-left : (o : RunOutcome) → running.Comes LINES o → (cells out : List ℕ) → TEXT ≤ length out → (r : ℕ) (cells' out' : List ℕ)
    → machine.LeavesFrame (run_left o cells out) r cells' out' → Says (run_text o) out r out'
unfolding run_left run_text provided◌then◌else◌
run-left _ (running.to-stop n i a b c) cells out h r cells' out' l = refusal n i l.answered a (omega arith) c refl l.out-left
run-left _ (running.to_end {r = x} a) cells out h r cells' out' l =
    let e = le-leb (length (loads_text x.loaded)) (length out) (omega arith) in
    written (rw (e, provided◌then◌else◌) at l.answered) (omega arith) (rw (e, provided◌then◌else◌) at l.out-left)

-- the program's own cells
pub zero-cells : (n : ℕ) → cells_of (replicate (2 * n) 0) ≡ replicate n 0
unfolding cells_of
zero-cells zero = refl
zero-cells (suc n) = let e : 2 * suc n ≡ suc (suc (2 * n)) = omega arith in rw e (ap (λ (l : List ℕ). 0 ∷ l) (zero-cells n))

module _ (list : List ℕ) where
  pub list-longer : TEXT < length list → ee_text 17 0 ≡ runner_prints base list
  unfolding runner_prints unless_longer provided◌then◌else◌ base
  list-longer h = sym (rw (lt-ltb _ _ h, provided◌then◌else◌))

  module _ (h : length list ≤ TEXT) (out : List ℕ) (wide : TEXT ≤ length out) (cells : List ℕ) (zeros : cells ≡ replicate (2 * SLOTS) 0) where
    list-fits : run_text (ran_on base (cells_of cells) list) ≡ runner_prints base list
    unfolding runner_prints unless_longer provided◌then◌else◌ base
    list-fits = ap (λ (cs : List ℕ). run_text (ran_on base cs list)) (ap cells_of zeros ∙ zero-cells SLOTS) ∙ sym (rw (le-ltb _ _ h, provided◌then◌else◌))

    come-to : running.Comes LINES (ran_on base (cells_of cells) list)
    unfolding base
    come-to = running.comes base (omega arith) (cells_of cells) list

    pub run-says : (r : ℕ) (cells' out' : List ℕ) → machine.LeavesFrame (run_entry base list cells out) r cells' out' → Says (runner_prints base list) out r out'
    unfolding run_entry
    run-says r cells' out' l =
        subst (λ (t : List ℕ). Says t out r out') list-fits (run-left (ran_on base (cells_of cells) list) come-to cells out wide r cells' out' l)
