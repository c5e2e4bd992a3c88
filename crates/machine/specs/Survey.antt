-- What a whole list asks for. Assumes nothing.
use Rattle.std.specs.Prelude.{List, [], ◌∷◌, ℕ, ◌+◌, ◌-◌, ltb}
use Rattle.text.specs.Shapes.{pick}
use Rattle.machine.specs.Entries.{loads_of, takes_of, over_of}
use Rattle.machine.specs.declared.entries.Entry.{Entry}
use Rattle.machine.specs.declared.survey.Asked.{Asked}
use Rattle.text.specs.Refused.{Checked, good, bad}

abbrev pub asked : ℕ → ℕ → Asked
asked loads takes = record { loads = loads; takes = takes }

-- line i on, with so many loads and samples before it: what is asked for, or 20 at the first line whose address is not below the size
unfoldable pub survey_of : (size i loads takes : ℕ) → List Entry → Checked Asked
survey_of size i loads takes [] = good (asked loads takes)
survey_of size i loads takes (x ∷ es) = pick (over_of size x) (bad 20 i) (survey_of size (i + 1) (loads + loads_of x) (takes + takes_of x) es)

-- line i on, with n samples left: the first line that takes one and has none
unfoldable pub lacking_of : (i n : ℕ) → List Entry → ℕ
lacking_of i n [] = i
lacking_of i n (x ∷ es) = pick (ltb n (takes_of x)) i (lacking_of (i + 1) (n - takes_of x) es)
