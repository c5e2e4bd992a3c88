-- What the checking program prints, by the answer of `agrees`. Assumes nothing.
use mathlib.Core.Path.{◌≡◌, refl, sym, ap, ◌∙◌}
use mathlib.Core.Bool.{true, false}
use mathlib.Core.List.{List, [], ◌∷◌}
use Prim.Native.Nat.{ℕ, ◌+◌, ◌*◌, ◌/◌, ◌%◌, ◌≤◌, ◌<◌}
use native.Mathlib.Omega.{arith}
use lib.ListN.{length, set, drop}
use borrow.Author.Tests.{lt-ltb, le-ltb}
use Rattle.rules.specs.Notation.{provided◌then◌else◌}
use Rattle.rules.specs.Sizes.{base, TEXT}
use Rattle.rules.specs.Entries.{ee_text, unless_longer, REFUSAL}
use Rattle.rules.specs.Suppliers.{Verdict, verdict, verdict_answer, verdict_text, checker_prints}
use Rattle.rules.specs.Refusals.{number_of}
use Rattle.text.specs.Refused.{answer_of}
use Rattle.text.specs.declared.refusal.RefusedAt.{RefusedAt}
use Rattle.text.proofs.Numbered.{numbered, number-half, line-half}
use Rattle.supplier.proofs.Answers.{Comes, to_word, to-stop, comes, one-is-yes, zero-is-no}

-- ---- the text

module _ (script list : List ℕ) where
  pub script-too-long : TEXT < length script → ee_text 17 0 ≡ checker_prints base script list
  unfolding checker_prints unless_longer provided◌then◌else◌ base
  script-too-long h = sym (rw (lt-ltb _ _ h, provided◌then◌else◌))

  pub list-too-long : length script ≤ TEXT → TEXT < length list → ee_text 17 0 ≡ checker_prints base script list
  unfolding checker_prints unless_longer provided◌then◌else◌ base
  list-too-long k h = sym (rw (le-ltb _ _ k, lt-ltb _ _ h, provided◌then◌else◌))

  fits : length script ≤ TEXT → length list ≤ TEXT → verdict_text (verdict base script list) ≡ checker_prints base script list
  unfolding checker_prints unless_longer provided◌then◌else◌ base
  fits k h = sym (rw (le-ltb _ _ k, le-ltb _ _ h, provided◌then◌else◌))

  module _ (k : length script ≤ TEXT) (h : length list ≤ TEXT) (r : ℕ) (promised : r ≡ verdict_answer (verdict base script list)) where
    pub yes-printed : r ≡ 1 → 0x79 ∷ 0x65 ∷ 0x73 ∷ 10 ∷ [] ≡ checker_prints base script list
    unfolding verdict_text
    yes-printed e = sym (ap verdict_text (one-is-yes script list r promised e)) ∙ fits k h

    pub no-printed : r ≡ 0 → 0x6e ∷ 0x6f ∷ 10 ∷ [] ≡ checker_prints base script list
    unfolding verdict_text
    no-printed e = sym (ap verdict_text (zero-is-no script list r promised e)) ∙ fits k h

    -- the halves of a refusal fit the digits of its line, which is printed
    pub record Stopped : Type 0 where
      pub number : r / REFUSAL ≤ 255
      pub line : r % REFUSAL ≤ 65535
      pub text : ee_text (r / REFUSAL) (r % REFUSAL) ≡ checker_prints base script list

    stopped_by : (v : Verdict) → Comes v → verdict base script list ≡ v → (r ≡ 1 → ⊥) → (r ≡ 0 → ⊥) → Stopped
    unfolding verdict_text
    stopped_by _ (to_word true) e one zero = absurd (one (promised ∙ ap verdict_answer e))
    stopped_by _ (to_word false) e one zero = absurd (zero (promised ∙ ap verdict_answer e))
    stopped_by _ (to-stop n i a b c) e one zero =
        let is : r ≡ n * REFUSAL + i = promised ∙ ap verdict_answer e in
        let x : r / REFUSAL ≡ n = omega arith in
        let y : r % REFUSAL ≡ i = omega arith in
        record { number = omega arith; line = omega arith; text = (λ u. ee_text (x u) (y u)) ∙ sym (ap verdict_text e) ∙ fits k h }

    pub stopped : (r ≡ 1 → ⊥) → (r ≡ 0 → ⊥) → Stopped
    stopped one zero = stopped_by (verdict base script list) (comes script list) refl one zero

  -- the same of a refusal with its line
  module _ (k : length script ≤ TEXT) (h : length list ≤ TEXT) (e : RefusedAt) (line : e.line < 4294967296) (promised : answer_of e ≡ verdict_answer (verdict base script list)) where
    halves : Stopped k h (answer_of e) promised
    halves = let n = numbered e.refusal in stopped k h (answer_of e) promised (λ q. omega (arith, n, q)) (λ q. omega (arith, n, q))

    pub line-fits : e.line ≤ 65535
    line-fits = omega (arith, halves.line, line-half e line)

    pub stopped-printed : ee_text (number_of e.refusal) e.line ≡ checker_prints base script list
    stopped-printed = (λ u. ee_text (sym (number-half e line) u) (sym (line-half e line) u)) ∙ halves.text
