-- What giving a run's slots back comes to: the slots, the last one first. Assumes nothing.
use Rattle.std.specs.Prelude.{Bool, List, [], ◌∷◌, ℕ, zero, suc, ◌+◌}
use Rattle.rules.specs.Notation.{Answer, given, ◌>>=◌}
use Rattle.rules.specs.Scopes.{Scopes}
use Rattle.rules.specs.Needs as rule

-- the n addresses from a on, the last one first
unfoldable pub down_from : ℕ → ℕ → List ℕ
down_from a zero = []
down_from a (suc n) = (a + n) ∷ down_from a n

-- each goes back, in this order; the first refusal is the answer
unfoldable pub back_each : Bool → List ℕ → Scopes → Answer Scopes
back_each dangles [] c = given c
back_each dangles (a ∷ more) c = do
  d ← rule.give_back dangles a c
  back_each dangles more d
