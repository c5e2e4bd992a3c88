-- What `run_recorded` left, as it is printed. Assumes nothing.
use mathlib.Core.Path.{◌≡◌, refl, sym, ap, subst, ◌∙◌}
use mathlib.Core.Bool.{Bool, true, false}
use mathlib.Core.List.{List, [], ◌∷◌, ◌++◌}
use Prim.Native.Nat.{ℕ, ◌+◌, ◌*◌, ◌/◌, ◌%◌, ◌≤◌, ◌<◌}
use native.Mathlib.Omega.{arith}
use lib.Dec.{eqb}
use lib.ListN.{length, drop, replicate, length-append, drop_of_length-le}
use borrow.Author.Tests.{le-leb, lt-ltb, le-ltb, ne_eqb}
use Rattle.rules.specs.Notation.{provided◌then◌else◌}
use Rattle.rules.specs.Sizes.{base, SLOTS, TEXT, LINES}
use Rattle.rules.specs.Frames.{shows}
use Rattle.rules.specs.Text.{hex2, hex4, hexes, line_text}
use Rattle.rules.specs.Recordings.{Recording, reader_of, is_state, ended}
use Rattle.rules.specs.Entries.{RunOutcome, recorded_on, loads_text, cells_of, refusal_answer, over_front, ee_text, malformed_text, left_text, bytes4, recorded_left, recorded_entry, recorded_text, unless_longer, recorded_prints, REFUSAL}
use Rattle.text.specs.Writing.{over}
use Rattle.text.proofs.Over.{over-over}
use Rattle.machine.specs.Recorded.{LeavesAll}
use Rattle.machine.specs.Work.{cell_at}
use Rattle.machine.proofs.Answer.{to_end, to-stop, ComesWith, as-whole, as-torn, comes-told}
use Rattle.answers.specs.Prints.{Prints, stopped_text, HalvedBeside, number4, Behind}
use Rattle.answers.proofs.Printed.{prints-as, ee-printed}
use Rattle.answers.proofs.Answers.{zero-cells}

-- ---- the line of the number left over

-- of two words it is a line of two operands
pub left-line : (left : List ℕ) (high low : ℕ) → high ≡ cell_at left 0 → low ≡ cell_at left 1 → low < 65536 → line_text (shows 0xa1 (high ∷ low ∷ [])) ≡ left_text (number4 left)
unfolding line_text hexes hex2 hex4 left_text
left-line left high low p q b =
    let h : number4 left / 65536 ≡ high = omega arith in
    let l : number4 left % 65536 ≡ low = omega arith in
    rw (h, l)

-- what stands at the front stands from 0 on
at_front : (t out : List ℕ) → over_front t out ≡ over out 0 t
unfolding over
at_front t out = let e : 0 + length t ≡ length t = omega arith in ap (λ (n : ℕ). t ++ drop n out) (sym e)

number-back : (n : ℕ) → number4 (bytes4 n) ≡ n
number-back n = omega arith

left-length : (n : ℕ) → length (left_text n) ≡ 11
unfolding left_text hex2 hex4
left-length n = refl

-- ---- the line of a refusal, written at the start

pub malformed-printed : (n i : ℕ) (out : List ℕ) (k : ℕ) (out' : List ℕ) → n ≡ 24 → k ≡ 0 + 13 → out' ≡ over out 0 (malformed_text i) → Prints (stopped_text n i) out k out'
unfolding over malformed_text hex2 hex4
malformed-printed n i out k out' e q w = rw (e, stopped_text) (record { count = q; bytes = w })

pub other-printed : (n i : ℕ) (out : List ℕ) (k : ℕ) (out' : List ℕ) → (n ≡ 24 → ⊥) → k ≡ 0 + 9 → out' ≡ over out 0 (ee_text n i) → Prints (stopped_text n i) out k out'
other-printed n i out k out' e q w = rw (ne_eqb n 24 e, stopped_text) (ee-printed n i out k out' q w)

-- ---- what the answer says: of the text, the loads are written, and the number left over stands in left; or out stays, and the text is the
-- line of a refusal

pub data SaysBeside (text out : List ℕ) (answer : ℕ) (out' left' : List ℕ) : Type 0 where
  written : (loads : List ℕ) (n : ℕ) → answer ≡ length loads → length loads ≤ 14336 → out' ≡ over_front loads out → left' ≡ bytes4 n → loads ++ left_text n ≡ text → SaysBeside text out answer out' left'
  refusal : (n i : ℕ) → answer ≡ refusal_answer n i → 1 ≤ n → n < 256 → i ≤ 4294967295 → ((n ≡ 24 → ⊥) → i ≤ 65535) → stopped_text n i ≡ text → out' ≡ out → SaysBeside text out answer out' left'

module _ (text out : List ℕ) (answer : ℕ) (out' left' : List ℕ) where
  pub says-room : SaysBeside text out answer out' left' → answer < REFUSAL → (answer + 11 ≤ TEXT) × (4 ≤ length left')
  says-room (written loads n e h q k t) l = (omega arith, omega (arith, ap length k))
  says-room (refusal n i e a b c d t q) l = absurd (omega arith)

  pub halved-beside : SaysBeside text out answer out' left' → REFUSAL ≤ answer → HalvedBeside answer
  halved-beside (written loads n e h q k t) l = absurd (omega arith)
  halved-beside (refusal n i e a b c d t q) l =
      let x : answer / REFUSAL ≡ n = omega arith in
      let y : answer % REFUSAL ≡ i = omega arith in
      record { number = omega arith; line = λ ne. subst (λ (j : ℕ). j ≤ 65535) (sym y) (d (λ z. ne (x ∙ z))) }

  pub printed-behind : (m : ℕ) (out'' : List ℕ) → TEXT ≤ length out → SaysBeside text out answer out' left' → answer < REFUSAL → Behind left' out' answer m out'' → Prints text out m out''
  printed-behind m out'' wide (refusal n i e a b c d t q) l p = absurd (omega arith)
  printed-behind m out'' wide (written loads n e h q k t) l p =
      let v : number4 left' ≡ n = ap number4 k ∙ number-back n in
      let front : out' ≡ over out 0 loads = q ∙ at_front loads out in
      let all : out'' ≡ over out 0 (loads ++ left_text n) =
      p.bytes ∙ (λ s. over (front s) (e s) (left_text (v s))) ∙ over-over out 0 loads (length loads) (left_text n) (omega arith) (omega arith) in
      prints-as t (record { count = p.count ∙ omega (arith, length-append loads (left_text n), left-length n); bytes = all ∙ sym (at_front (loads ++ left_text n) out) })

  pub printed-stopped : (m : ℕ) (out'' : List ℕ) → SaysBeside text out answer out' left' → REFUSAL ≤ answer → Prints (stopped_text (answer / REFUSAL) (answer % REFUSAL)) out' m out'' → Prints text out m out''
  printed-stopped m out'' (written loads n e h q k t) l p = absurd (omega arith)
  printed-stopped m out'' (refusal n i e a b c d t q) l p =
      let x : answer / REFUSAL ≡ n = omega arith in
      let y : answer % REFUSAL ≡ i = omega arith in
      let z : stopped_text (answer / REFUSAL) (answer % REFUSAL) ≡ text = (λ s. stopped_text (x s) (y s)) ∙ t in
      subst (λ (o : List ℕ). Prints text o m out'') q (prints-as z p)

-- ---- run_recorded

drop_all : (left : List ℕ) → length left ≡ 4 → drop 4 left ≡ []
drop_all left e = drop_of_length-le left {i = 4} (omega arith)

outcome-says : (j : ℕ) → j ≤ 4294967295 → (o : RunOutcome) → ComesWith LINES j o → (cells out left : List ℕ) → TEXT ≤ length out → length left ≡ 4 → (a : ℕ) (cells' out' left' : List ℕ)
    → LeavesAll (recorded_left o cells out left) a cells' out' left' → SaysBeside (recorded_text o) out a out' left'
unfolding recorded_left recorded_text provided◌then◌else◌
outcome-says j f _ (as-whole (to-stop n i p q c)) cells out left h k a cells' out' left' l = refusal n i l.answered p (omega arith) (omega arith) (λ ne. omega arith) refl l.out-left
outcome-says j f _ as-torn cells out left h k a cells' out' left' l = refusal 24 j l.answered (omega arith) (omega arith) f (λ ne. absurd (ne refl)) refl l.out-left
outcome-says j f _ (as-whole (to_end {r = x} {left = n} m)) cells out left h k a cells' out' left' l =
    let e = le-leb (length (loads_text x.loaded)) (length out) (omega arith) in
    let g = le-leb 4 (length left) (omega arith) in
    let d : over_front (bytes4 n) left ≡ bytes4 n = ap (λ (t : List ℕ). bytes4 n ++ t) (drop_all left k) in
    written (loads_text x.loaded) n (rw (e, g, provided◌then◌else◌) at l.answered) (omega arith) (rw (e, g, provided◌then◌else◌) at l.out-left) ((rw (e, g, provided◌then◌else◌) at l.left-left) ∙ d) refl

module _ (list : List ℕ) (state : ℕ) (samples : List ℕ) where
  pub beside-longer : TEXT < length list → ee_text 17 0 ≡ recorded_prints base list state samples
  unfolding recorded_prints unless_longer provided◌then◌else◌ base
  beside-longer h = sym (rw (lt-ltb _ _ h, provided◌then◌else◌))

  module _ (h : length list ≤ TEXT) (out : List ℕ) (wide : TEXT ≤ length out) (cells : List ℕ) (zeros : cells ≡ replicate (2 * SLOTS) 0) (left : List ℕ) (four : length left ≡ 4) where
    abbrev r : Recording
    r = ended (reader_of state) (cells_of samples)

    printed-as : (provided (is_state state) then recorded_text (recorded_on base (cells_of cells) r list) else ee_text 29 0) ≡ recorded_prints base list state samples
    unfolding recorded_prints unless_longer provided◌then◌else◌ base
    printed-as =
        ap (λ (cs : List ℕ). provided (is_state state) then recorded_text (recorded_on base cs r list) else ee_text 29 0) (ap cells_of zeros ∙ zero-cells SLOTS)
        ∙ sym (rw (le-ltb _ _ h, provided◌then◌else◌))

    pub beside-says : (a : ℕ) (cells' out' left' : List ℕ) → LeavesAll (recorded_entry base list state samples cells out left) a cells' out' left' → SaysBeside (recorded_prints base list state samples) out a out' left'
    unfolding recorded_entry provided◌then◌else◌ base
    beside-says a cells' out' left' l = subst (λ (t : List ℕ). SaysBeside t out a out' left') printed-as (go (is_state state) refl)
      where
        go : (b : Bool) → is_state state ≡ b → SaysBeside (provided (is_state state) then recorded_text (recorded_on base (cells_of cells) r list) else ee_text 29 0) out a out' left'
        go true e = rw (e, provided◌then◌else◌) (outcome-says (reader_of state).line (omega arith) _ (comes-told base (omega arith) (cells_of cells) (reader_of state).line (cells_of samples) list (eqb (reader_of state).column 0)) cells out left wide four a cells' out' left' (rw (e, provided◌then◌else◌) at l))
        go false e = let k = rw (e, provided◌then◌else◌) at l in rw (e, provided◌then◌else◌) (refusal 29 0 k.answered (omega arith) (omega arith) (omega arith) (λ ne. omega arith) refl k.out-left)
