-- What the functions below the entries answer: over a length, some of the arrays. Assumes nothing.
use Rattle.std.specs.Prelude.{Bool, true, false, ◌&&◌, List, ℕ, get_or, eqb, ltb}
use Rattle.rules.specs.Sizes.{SCOPES}
use Rattle.needs.specs.declared.AddressKind.{AddressKind}
use Rattle.needs.specs.declared.AddressKind.TheVariants as kind

-- "a run of n ≥ 2 Dangling, a run of 1 Local"
abbrev pub kind_for : ℕ → AddressKind
kind_for n = elim (eqb n 1) [ true ↦ kind.Local | false ↦ kind.Dangling ]

-- "Scope only if its scope is top", read off the arrays
abbrev pub back_from : List ℕ → ℕ → AddressKind → Bool
back_from number top kind.Local = true
back_from number top kind.Dangling = true
back_from number top kind.Assigned = false
back_from number top kind.Freed = false
back_from number top (kind.Scope id) = ltb top SCOPES && eqb top id.index && eqb (get_or number top 0) id.number
