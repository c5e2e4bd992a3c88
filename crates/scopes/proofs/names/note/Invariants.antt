use Rattle.std.proofs.Common.{◌≡◌, ℕ, ◌≤◌, length}
use Rattle.rules.specs.Sizes.{BINDINGS, SCOPES}
use Rattle.scopes.specs.Leaves.{Noted}
use Rattle.scopes.proofs.names.note.Given as goal

abbrev pub invariant-loop-j : goal.invariant-loop-j
invariant-loop-j l = (l.from ≤ l.j) × (length l.places ≡ SCOPES) × ((count : ℕ) → l.to ≤ count → count ≤ BINDINGS → Noted l.bindings l.name l.to count l.initial.places → Noted l.bindings l.name l.j count l.places)
