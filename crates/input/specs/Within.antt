-- What was read. Assumes nothing.
use Rattle.std.specs.Prelude.{ℕ, ◌<◌}
use Rattle.input.specs.declared.Input.{Input}
use Rattle.input.specs.declared.Input.TheVariants.{Whole, Full}

-- an input that was read whole took less than there is room for
abbrev pub Within : Input → ℕ → Type 0
Within (Whole n) most = n < most
Within Full most = Unit {0}
