-- What the halves of a state say: which slots are occupied, and what is searched for among them. Assumes nothing.
use Rattle.std.specs.Prelude.{Bool, true, false, not, List, ℕ, ◌+◌, ◌/◌, ◌%◌, ◌^◌, get_or, eqb}
use Rattle.std.proofs.Math.Option.{Option}
use Rattle.rules.specs.Notation.{first}
use Rattle.rules.specs.Slots as rule

-- bit i of h is set
abbrev pub bit : ℕ → ℕ → Bool
bit h i = eqb (h / 2 ^ i % 2) 1

-- slot a is occupied: bit a % 64 of half a / 64
abbrev pub occ : List ℕ → ℕ → Bool
occ halves a = bit (get_or halves (a / 64) 0) (a % 64)

-- the slots as the rules see them
abbrev pub slots_of : List ℕ → ℕ → ℕ → rule.Slots
slots_of halves l h = record { occupied = occ halves; segments = l; head = h }

-- the least clear place among the n from i on, if there is one
abbrev pub clear_from : (ℕ → Bool) → ℕ → ℕ → Option ℕ
clear_from p i n = first (λ j. not (p j)) i n

-- L after a push at g: "If g is a multiple of 128, L becomes g/128 + 1, which may shrink it; otherwise L stays."
abbrev pub grown_to : ℕ → ℕ → ℕ
grown_to l g = elim (eqb (g % 128) 0) [ true ↦ g / 128 + 1 | false ↦ l ]
