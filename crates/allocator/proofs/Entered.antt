-- From the answer v of the check to an entry's promise. Assumes nothing.
use mathlib.Core.Path.{◌≡◌}
use mathlib.Core.Bool.{Bool, true}
use Rattle.rules.specs.Tells.{Tells}
use Rattle.scopes.specs.declared.Scopes.{Scopes}
use Rattle.soundness.specs.Canonical.{Good}
use Rattle.allocator.specs.Entries.{Checked, taken}

pub passed : {s : Scopes} {v : Bool} → Tells v (Good s) → v ≡ true → Good s
passed t e = t.holds e

pub gives : {R : Type 0} {s : Scopes} {refusal : R} {Gives : R → Type 0} {r : R} {v : Bool} → Tells v (Good s) → v ≡ true → Gives r → Checked s refusal Gives r
gives t e h = taken (passed t e) h
