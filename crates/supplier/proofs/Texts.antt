-- Equal bytes are equal lines: of two lists, one on a page and one that was read, of equal length, the bytes before the size line are the same
-- exactly if the lines are. Assumes nothing.
use mathlib.Core.Path.{◌≡◌, sym, ap, ◌∙◌}
use mathlib.Core.List.{List, [], ◌∷◌, ◌++◌, append-nil}
use Prim.Native.Nat.{ℕ, ◌+◌, ◌-◌, ◌≤◌}
use native.Mathlib.Omega.{arith}
use lib.ListN.{length, take, length-append}
use lib.Seq.{take_at, take-take}
use Rattle.rules.specs.Sizes.{base}
use Rattle.rules.specs.Frames.{Line, shows}
use Rattle.rules.specs.Text.{line_text, list_text, listed, read_list}
use Rattle.rules.proofs.Lengths.{line-length}
use Rattle.translate.specs.Whole.{lines_text}
use Rattle.translate.proofs.Written.{list_on}

-- ---- a list's lines, and its size line of seven bytes

abbrev size_text : ℕ → List ℕ
size_text size = line_text (shows 0x90 (size ∷ []))

sized : (ls : List Line) (size : ℕ) → list_text ls size ≡ lines_text ls ++ size_text size
sized ls size = ap (λ (l : List Line). list_text l size) (sym (append-nil ls)) ∙ list_on ls size

size-long : (size : ℕ) → length (size_text size) ≡ 7
size-long size = line-length (shows 0x90 (size ∷ []))

long : (ls : List Line) (size : ℕ) → length (list_text ls size) ≡ length (lines_text ls) + 7
long ls size = ap length (sized ls size) ∙ length-append (lines_text ls) (size_text size) ∙ ap (λ (n : ℕ). length (lines_text ls) + n) (size-long size)

front-lines : (ls : List Line) (size n : ℕ) → n ≡ length (list_text ls size) → take (n - 7) (list_text ls size) ≡ lines_text ls
front-lines ls size n e = ap (take (n - 7)) (sized ls size) ∙ take_at (lines_text ls) (size_text size) (n - 7) (omega (arith, e, long ls size))

module _ (own ls : List Line) (needs size n : ℕ) (list page : List ℕ) (en : n ≡ length (list_text own needs)) (ep : take n page ≡ list_text own needs) (el : list ≡ list_text ls size) where
  pub seven : 7 ≤ n
  seven = omega (arith, en, long own needs)

  page-front : take (n - 7) page ≡ lines_text own
  page-front = sym (take-take (n - 7) n page (omega arith)) ∙ ap (take (n - 7)) ep ∙ front-lines own needs n en

  pub same_length : own ≡ ls → length list ≡ n
  same_length e = ap length el ∙ omega (arith, long ls size, long own needs, en, ap (λ (l : List Line). length (lines_text l)) e)

  pub same_bytes : own ≡ ls → take (n - 7) list ≡ take (n - 7) page
  same_bytes e = ap (take (n - 7)) el ∙ front-lines ls size n (sym (same_length e) ∙ ap length el) ∙ sym (ap lines_text e) ∙ sym page-front

  -- the lines on the page, under the list's size, read back; so does the list
  pub same_lines_lem : read_list base (list_text own size) ≡ listed own size → read_list base list ≡ listed ls size → length list ≡ n → take (n - 7) list ≡ take (n - 7) page → own ≡ ls
  same_lines_lem back read l e =
      let lines : lines_text ls ≡ lines_text own = sym (front-lines ls size n (sym l ∙ ap length el)) ∙ sym (ap (take (n - 7)) el) ∙ e ∙ page-front in
      let text : list_text own size ≡ list = sized own size ∙ ap (λ (t : List ℕ). t ++ size_text size) (sym lines) ∙ sym (sized ls size) ∙ sym el in
      let z : listed own size ≡ listed ls size = sym back ∙ ap (read_list base) text ∙ read in
      cc
