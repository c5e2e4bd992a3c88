-- `bindings::named` meets its contract. Assumes nothing.
use borrow.Author.Rules.{rules}
use native.Mathlib.Omega.{arith}
use Rattle.rules.specs.Tells.{Tells}
use Rattle.rules.proofs.Tells.{tells_as}
use Rattle.soundness.proofs.Tested.{fails-with}
use Rattle.soundness.proofs.Keys.{Listed, named-of, listed-of, named-distinct}
use Rattle.soundness.proofs.bindings.named.Goals as goal

pub returns-else-scopes_live : goal.returns-else-scopes_live
returns-else-scopes_live c =
    let s = c.args.s.now in
    let listed : Tells c.if-clear_from.value (Listed s.bindings s.live s.count (search rules)) = grind arith in
    fails-with listed c.if-scopes_live.false (listed-of s.bindings s.live s.count (search rules))

pub returns-then-scopes_live : goal.returns-then-scopes_live
returns-then-scopes_live c =
    let s = c.args.s.now in
    let listed : Tells c.if-clear_from.value (Listed s.bindings s.live s.count (search rules)) = grind arith in
    tells_as c.distinct.ensures (named-of s.bindings s.live s.count (search rules) (listed.holds c.if-scopes_live.true)) (named-distinct s.bindings s.live s.count (search rules))
