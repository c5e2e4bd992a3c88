-- A table of a list's lines, a number for each. Assumes nothing.
use Rattle.std.specs.Prelude.{◌≡◌, List, ◌++◌, map, ℕ, ◌*◌, ◌≤◌, ◌<◌, length, get_or, Some, None, Result, Ok}
use Rattle.std.proofs.Math.Option.{some}
use Rattle.rules.specs.Sizes.{LINES}
use Rattle.rules.specs.Text.{split, Titled, titled, title}
use Rattle.text.specs.Lines.{lined, line_reading, unpacked}
use Rattle.text.specs.Shapes.{Reading}
use Rattle.text.specs.declared.refusal.RefusedAt.{RefusedAt}
use Rattle.text.specs.declared.whole.Listing.{Listing}

-- what the lines of a list come to, of which the first may be its title
unfoldable pub readings : List ℕ → List Reading
readings s =
    let t : Titled = titled (split s) in
    map (λ l. lined (some l)) (title t.place) ++ map line_reading t.rest

-- a row for each line that a text so long can have: a line has three bytes at least
abbrev pub RowsFor : List ℕ → List ℕ → Type 0
RowsFor s t = (k : ℕ) → k < LINES → 3 * k < length s → k < length t

-- the table has the first n lines
abbrev pub Rows : List ℕ → List ℕ → ℕ → Type 0
Rows s t n = (j : ℕ) → j < n → Some (unpacked (get_or t j 0)) ≡ get_or (readings s) j None

-- the table has the lines of a list that is read
pub record Tabled (s t : List ℕ) (r : Result Listing RefusedAt) : Type 0 where
  pub rows : (l : Listing) → r ≡ Ok l → Rows s t l.lines
  pub fits : (l : Listing) → r ≡ Ok l → l.lines ≤ length t
