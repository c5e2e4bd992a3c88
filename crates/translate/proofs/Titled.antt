-- The title's line on the page. Assumes nothing.
use mathlib.Core.Path.{◌≡◌, refl, sym, ap, ◌∙◌}
use mathlib.Core.List.{List, [], ◌∷◌}
use Prim.Native.Nat.{ℕ, zero, suc, ◌≤◌}
use native.Mathlib.Omega.{arith}
use lib.ListN.{length}
use Rattle.rules.specs.Slots.{by_head, lowest}
use Rattle.rules.specs.Frames.{shows}
use Rattle.rules.specs.Text.{title, line_text}
use Rattle.rules.proofs.Lengths.{line-length}
use Rattle.text.specs.Titles.{place_by}
use Rattle.text.specs.Writing.{over}
use Rattle.text.proofs.Over.{over_nothing}
use Rattle.translate.specs.Whole.{lines_text}
use Rattle.translate.proofs.Written.{alone}

pub titles-length : (n : ℕ) → n ≤ 1 → length (title (place_by n)) ≡ n
titles-length zero l = refl
titles-length (suc zero) l = refl
titles-length (suc (suc n)) l = absurd (omega arith)

pub no-title : (page : List ℕ) → (0 ≡ length (lines_text (title by_head))) × (page ≡ over page 0 (lines_text (title by_head)))
unfolding lines_text
no-title page = (refl, over_nothing page 0)

pub one-title : (page page' : List ℕ) (w : ℕ) → w ≡ 7 → page' ≡ over page 0 (line_text (shows 0xf0 (2 ∷ []))) → (w ≡ length (lines_text (title lowest))) × (page' ≡ over page 0 (lines_text (title lowest)))
one-title page page' w ew ep =
    let a : lines_text (title lowest) ≡ line_text (shows 0xf0 (2 ∷ [])) = alone (shows 0xf0 (2 ∷ [])) in
    (omega (arith, ap length a, line-length (shows 0xf0 (2 ∷ []))), ep ∙ ap (over page 0) (sym a))
