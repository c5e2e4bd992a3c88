-- The lists that the cells hold, read off by following `next`. Assumes nothing.
use Rattle.std.specs.Prelude.{◌≡◌, true, false, List, [], ◌∷◌, ℕ, zero, suc, ◌+◌, ltb, Option, Some, None}
use Rattle.links.specs.Links.{next_in}

-- from c, `next` leads through xs and then to e
abbrev pub Ahead : (ℕ → ℕ) → ℕ → List ℕ → ℕ → Type 0
Ahead next c [] e = c ≡ e
Ahead next c (x ∷ xs) e = (c ≡ x) × Ahead next (next c) xs e

-- the first of a list, if it has one
abbrev pub first_of : List ℕ → Option ℕ
first_of [] = None
first_of (a ∷ xs) = Some a

-- from c along `next` while it is an address below n, at most k of them
unfoldable pub follow : ℕ → ℕ → (ℕ → ℕ) → ℕ → List ℕ
follow n zero next c = []
follow n (suc k) next c = elim (ltb c n) [ true ↦ c ∷ follow n k next (next c) | false ↦ [] ]

-- the list whose ends are at cell n + i
unfoldable pub lists : ℕ → List ℕ → ℕ → List ℕ
lists n t i = follow n (suc n) (next_in t) (next_in t (n + i))
