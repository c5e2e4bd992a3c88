-- The title of a script or of a list: its first line, where that is `f00002`. Assumes nothing.
use Rattle.std.specs.Prelude.{◌≡◌, List, ℕ, zero, suc, ◌*◌, ◌≤◌, length, drop, set}
use Rattle.rules.specs.Slots.{Place, by_head, lowest}
use Rattle.rules.specs.Text.{split, titled}

-- where allocations go under n title lines
abbrev pub place_by : ℕ → Place
place_by zero = by_head
place_by (suc n) = lowest

-- the script or list s has n title lines, none or one, of seven bytes
pub record Titles (s : List ℕ) (n : ℕ) : Type 0 where
  pub most : n ≤ 1
  pub within : 7 * n ≤ length s
  pub is : titled (split s) ≡ record { place = place_by n; rest = split (drop (7 * n) s) }

-- what the digits `f00002` make, with zeros after them up to ten
abbrev pub title_number : ℕ
title_number = 0xf000020000

-- a table of a list's lines, with the title in row 0 where there is one
abbrev pub title_in : ℕ → List ℕ → List ℕ
title_in zero t = t
title_in (suc n) t = set t 0 title_number
