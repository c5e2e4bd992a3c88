-- Document 01, "Scopes": "An address set ignores a repeated insert; a removed and reinserted address goes to the end."
-- Owned lists and the dangling list are address sets. Assumes nothing.
use Rattle.std.specs.Prelude.{Bool, true, false, not, ◌&&◌, List, [], ◌∷◌, ◌++◌, ℕ, zero, suc, eqb}

unfoldable pub member : ℕ → List ℕ → Bool
member a [] = false
member a (b ∷ l) = elim (eqb a b) [ true ↦ true | false ↦ member a l ]

-- insert: at the end, unless there
unfoldable pub added : ℕ → List ℕ → List ℕ
added a l = elim (member a l) [ true ↦ l | false ↦ l ++ (a ∷ []) ]

-- remove
unfoldable pub without : ℕ → List ℕ → List ℕ
without a [] = []
without a (b ∷ l) = elim (eqb a b) [ true ↦ without a l | false ↦ b ∷ without a l ]

-- several, one after another
unfoldable pub added_all : List ℕ → List ℕ → List ℕ
added_all [] l = l
added_all (a ∷ more) l = added_all more (added a l)

unfoldable pub without_all : List ℕ → List ℕ → List ℕ
without_all [] l = l
without_all (a ∷ more) l = without_all more (without a l)

unfoldable pub repeats_nothing : List ℕ → Bool
repeats_nothing [] = true
repeats_nothing (a ∷ l) = not (member a l) && repeats_nothing l

-- the n addresses of a run, from a on
unfoldable pub run : ℕ → ℕ → List ℕ
run a zero = []
run a (suc n) = a ∷ run (suc a) n
