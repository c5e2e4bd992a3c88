use Rattle.std.proofs.Common.{◌≡◌, ◌*◌, ◌-◌, length}
use Rattle.rules.specs.Sizes.{SCOPES}
use Rattle.scopes.specs.Leaves.{Noted}
use Rattle.scopes.proofs.Scopes.lookup.Given as goal

abbrev pub invariant-loop-e : goal.invariant-loop-e
invariant-loop-e l = (length l.places ≡ SCOPES) × Noted l.self.bindings l.name (l.self.count - 8 * l.e) l.self.count l.places
