-- An option of the code in the rules' terms: they have an `Option` of their own. Assumes nothing.
use Rattle.std.specs.Prelude.{Option, Some, None}
use Rattle.std.proofs.Math.Option as rule

-- what is there is what `f` says of it
abbrev pub option_of : {A B : Type 0} → (A → B) → Option A → rule.Option B
option_of f None = rule.none
option_of f (Some a) = rule.some (f a)
