use Rattle.std.proofs.Common.{◌≡◌, ◌+◌, ◌*◌, take}
use Rattle.rules.specs.Sizes.{WORD}
use Rattle.scopes.proofs.Bindings.{Missed}
use Rattle.scopes.proofs.names.find.Given as goal

abbrev pub invariant-loop-j : goal.invariant-loop-j
invariant-loop-j l = (l.key ≡ l.i * WORD + l.name) × Missed l.i l.name (take l.j (take l.count l.bindings))
