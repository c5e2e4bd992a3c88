-- What an answer of `agrees` tells: its two halves can't be mistaken for each other, and 1, 0 and a refusal not for one another. Assumes nothing.
use mathlib.Core.Path.{◌≡◌, refl, sym, ap, ◌∙◌}
use mathlib.Core.Bool.{Bool, true, false}
use mathlib.Core.List.{List}
use Prim.Native.Nat.{ℕ, ◌≤◌}
use native.Mathlib.Omega.{arith}
use lib.ListN.{length}
use Rattle.rules.specs.Sizes.{base, LINES}
use Rattle.rules.specs.Frames.{Line, accepted}
use Rattle.rules.specs.Text.{Script, frames, unread, title, read_script, list_text, Listed, listed, unlisted, read_list}
use Rattle.rules.specs.Entries.{translated}
use Rattle.rules.specs.Suppliers.{agrees, Verdict, says, unreadable, judged, verdict, verdict_answer, Prints, YesPrints, OursGetYes, SaysNo}
use Rattle.rules.proofs.Suppliers.{base-prints, base-get-yes}
use Rattle.rules.proofs.WhyNot.{base-no-bytes}
use Rattle.text.proofs.Bounds.{ScriptIn, ListIn, read-in, read-list-in}

-- a text that can't be read gives 1 or 2, and a line up to LINES
pub data Comes : Verdict → Type 0 where
  to_word : (b : Bool) → Comes (says b)
  to-stop : (n i : ℕ) → 1 ≤ n → n ≤ 2 → i ≤ LINES → Comes (unreadable n i)

pub comes : (script list : List ℕ) → Comes (verdict base script list)
unfolding verdict judged base
comes script list = go (read_script base script).script (read_list base list) (read-in base (omega arith) script) (read-list-in base (omega arith) list)
  where
    go : (r : Script) (l : Listed) → ScriptIn base (length (title (read_script base script).place)) r → ListIn base 0 l → Comes (judged base (read_script base script).place r l)
    go (unread n i) l h k = to-stop n i h.0 h.1 h.2
    go (frames fs) (unlisted n i) h k = to-stop n i k.0 k.1 k.2
    go (frames fs) (listed ls size) h k = to_word (agrees base (read_script base script).place fs ls size)

-- 1 is a yes, and 0 a no
answer-yes : {v : Verdict} → Comes v → verdict_answer v ≡ 1 → v ≡ says true
answer-yes (to_word true) e = refl
answer-yes (to_word false) e = absurd (omega (arith, e))
answer-yes (to-stop n i a b c) e = absurd (omega (arith, e))

answer-no : {v : Verdict} → Comes v → verdict_answer v ≡ 0 → v ≡ says false
answer-no (to_word true) e = absurd (omega (arith, e))
answer-no (to_word false) e = refl
answer-no (to-stop n i a b c) e = absurd (omega (arith, e))

-- ---- from the promise of `agrees` alone

module _ (script list : List ℕ) (r : ℕ) (promised : r ≡ verdict_answer (verdict base script list)) where
  pub one-is-yes : r ≡ 1 → verdict base script list ≡ says true
  one-is-yes e = answer-yes (comes script list) (sym promised ∙ e)

  pub zero-is-no : r ≡ 0 → verdict base script list ≡ says false
  zero-is-no e = answer-no (comes script list) (sym promised ∙ e)

  -- a list that is answered by 1 is read, and runs to the script's meaning within its size
  pub one-prints : r ≡ 1 → Prints base script list
  unfolding YesPrints
  one-prints e = base-prints script list (one-is-yes e)

  -- one that is answered by 0 is read, and fails one of the request's conditions
  pub zero-why : r ≡ 0 → SaysNo base script list
  zero-why e = base-no-bytes.why script list (zero-is-no e)

-- every list that `translate` writes is answered by 1
pub ours-one : (script : List ℕ) (ls : List Line) (size r : ℕ) → translated base script ≡ accepted ls size → r ≡ verdict_answer (verdict base script (list_text ls size)) → r ≡ 1
unfolding OursGetYes
ours-one script ls size r e promised = promised ∙ ap verdict_answer (base-get-yes script ls size e)

-- any two answers that the promise admits are equal
pub answer-one : (script list : List ℕ) {r r' : ℕ} → r ≡ verdict_answer (verdict base script list) → r' ≡ verdict_answer (verdict base script list) → r ≡ r'
answer-one script list p q = p ∙ sym q
