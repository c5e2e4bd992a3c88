-- Lines on the page: a frame's line, and the list as what was written line after line. Assumes nothing.
use mathlib.Core.Path.{◌≡◌, refl, ◌∙◌}
use mathlib.Core.List.{List, [], ◌∷◌, ◌++◌, append_assoc, append-nil}
use Prim.Native.Nat.{ℕ, ◌+◌, ◌*◌}
use native.Mathlib.Omega.{arith}
use lib.ListN.{length, length-append}
use Rattle.rules.specs.Frames.{Line, stores, loads, shows, constant, next_sample}
use Rattle.rules.specs.Text.{operands_of, line_text, list_text}
use Rattle.rules.proofs.Lengths.{line-length}
use Rattle.rules.proofs.Pages.{lines_length}
use Rattle.translate.specs.Whole.{lines_text}

-- ---- lines one after another

pub lines-length : (ls : List Line) → length (lines_text ls) ≡ lines_length ls
unfolding lines_text lines_length
lines-length [] = refl
lines-length (l ∷ ls) = length-append (line_text l) (lines_text ls) ∙ omega (arith, lines-length ls)

pub lines-on : (ls ms : List Line) → lines_text (ls ++ ms) ≡ lines_text ls ++ lines_text ms
unfolding lines_text
lines-on [] ms = refl
lines-on (l ∷ ls) ms = rw (lines-on ls ms, append_assoc)

-- the list of an accepted script ends in the size line
pub list_on : (ls : List Line) (size : ℕ) → list_text (ls ++ []) size ≡ lines_text ls ++ line_text (shows 0x90 (size ∷ []))
unfolding list_text lines_text
list_on [] size = refl
list_on (l ∷ ls) size = rw (list_on ls size, append_assoc)

pub alone : (l : Line) → lines_text (l ∷ []) ≡ line_text l
unfolding lines_text
alone l = append-nil (line_text l)

-- ---- one line

pub line_long : (l : Line) → length (line_text l) ≡ 3 + 4 * length (operands_of l)
line_long l = line-length l

-- a line's text is told by its opcode and its operands
pub stored_text : (a v : ℕ) → line_text (stores a (constant v)) ≡ line_text (shows 0x10 (a ∷ v ∷ []))
unfolding line_text
stored_text a v = refl

pub sampled_text : (a : ℕ) → line_text (stores a next_sample) ≡ line_text (shows 0x14 (a ∷ []))
unfolding line_text
sampled_text a = refl

pub loaded_text : (o a : ℕ) → line_text (loads o a) ≡ line_text (shows o (a ∷ []))
unfolding line_text
loaded_text o a = refl
