-- What a translation comes to: a refusal has a number from 1 to 22 and the line of a frame, and a list is at most 55,303 bytes. So the two
-- halves of the answer can't be mistaken for each other. Assumes nothing.
use mathlib.Core.Path.{◌≡◌, refl}
use mathlib.Core.Bool.{Bool, true, false}
use mathlib.Core.List.{List, [], ◌∷◌, ◌++◌}
use Prim.Native.Nat.{ℕ, ◌+◌, ◌*◌, ◌≤◌}
use native.Mathlib.Omega.{arith}
use lib.Dec.{leb}
use lib.ListN.{length, length-append}
use borrow.Author.Tests.{leb-true}
use Rattle.rules.specs.Notation.{provided◌then◌else◌}
use Rattle.rules.specs.Sizes.{base, LINES, LONGEST_LIST}
use Rattle.rules.specs.Slots.{Place, by_head, lowest, exactly_at}
use Rattle.rules.specs.Frames.{start, Frame, Line, shows, Outcome, accepted, refused_at, before, steps}
use Rattle.rules.specs.Text.{Script, frames, unread, title, read_script, line_text, list_text}
use Rattle.rules.specs.Entries.{outcome, translated, Translation, list_left, translate_entry}
use Rattle.rules.proofs.Refusals.{refused-within}
use Rattle.rules.proofs.Reached.{start-sound}
use Rattle.rules.proofs.KeepsSteps.{keeps-step}
use Rattle.rules.proofs.Fits.{base-wide}
use Rattle.rules.proofs.Lengths.{line-length}
use Rattle.rules.proofs.Pages.{list_length}
use Rattle.text.proofs.Bounds.{ScriptIn, read-in}
pub use Rattle.text.proofs.Halves.{count, number}
use Rattle.text.proofs.Halves.{Halves as Both, by_count, by_number_lem}
use Rattle.translate.proofs.Going.{by, fair, owes-none}

-- ---- in our room, by any place

pub data Comes : Outcome → Type 0 where
  to-list : {ls : List Line} {size : ℕ} → length (list_text ls size) ≤ LONGEST_LIST → Comes (accepted ls size)
  to-stop : (n i : ℕ) → 1 ≤ n → n ≤ 22 → i ≤ LINES → Comes (refused_at n i)

title-adds : (p : Place) (ls : List Line) (size : ℕ) → length (list_text (title p ++ ls) size) ≤ length (list_text ls size) + 7 * length (title p)
unfolding list_text
title-adds by_head ls size = omega arith
title-adds (exactly_at a) ls size = omega arith
title-adds lowest ls size = omega (arith, length-append (line_text (shows 0xf0 (2 ∷ []))) (list_text ls size), line-length (shows 0xf0 (2 ∷ [])))

pub comes : (script : List ℕ) → Comes (translated base script)
unfolding translated outcome base
comes script = go (read_script base script).script (read-in base (omega arith) script)
  where
    p : Place
    p = (read_script base script).place

    -- the title's line is shorter than a frame's may be
    under : (p : Place) (fs : List Frame) → length (title p) + length fs ≤ LINES → (o : Outcome) → steps base (by p) (length (title p)) start fs ≡ o → Comes (before (title p) o)
    under p fs h (accepted ls size) e =
        let k = list_length base (by p) (λ s ok f. keeps-step base s ok base-wide.slots (by p) (fair p) f) fs (length (title p)) start ls size (start-sound base base-wide.segments base-wide.scopes) e in
        to-list {ls = title p ++ ls} {size = size} (omega (arith, k, owes-none, title-adds p ls size))
    under p fs h (refused_at n i) e =
        let k = refused-within base (by p) fs (length (title p)) start n i e in
        to-stop n i k.0 k.1 (omega (arith, k.2))

    go : (r : Script) → ScriptIn base (length (title p)) r → Comes (outcome base p r)
    go (frames fs) h = under p fs (omega (arith, h)) (steps base (by p) (length (title p)) start fs) refl
    go (unread n i) h = to-stop n i h.0 (omega (arith, h.1)) h.2

-- ---- the two halves of the answer

-- `number`: the list is the one that came in
abbrev pub Halves : List ℕ → Translation → Type 0
Halves list l = Both (length list) LONGEST_LIST 22 LINES (l.list ≡ list) l.answer

halves_of : (list : List ℕ) (o : Outcome) → Comes o → Halves list (list_left o list)
unfolding list_left provided◌then◌else◌
halves_of list _ (to-stop n i a b c) = by_number_lem _ _ _ _ _ n i (omega arith) a b c refl
halves_of list _ (to-list {ls = ls} {size = size} a) = go (leb (length (list_text ls size)) (length list)) refl
  where
    go : (b : Bool) → leb (length (list_text ls size)) (length list) ≡ b → Halves list (list_left (accepted ls size) list)
    go true e = rw (e, provided◌then◌else◌) (by_count _ _ _ _ _ _ (omega arith) (leb-true _ _ e) a)
    go false e = rw (e, provided◌then◌else◌) (by_number_lem _ _ _ _ _ 17 0 (omega arith) (omega arith) (omega arith) (omega arith) refl)

pub translate-halves : (script list : List ℕ) → Halves list (translate_entry base script list)
unfolding translate_entry base
translate-halves script list = halves_of list (translated base script) (comes script)
