-- `in_turn` meets its contract: both calls are handed a sound state, so neither is refused by 29. Assumes nothing.
use mathlib.Core.Path.{◌≡◌}
use lib.ListN.{length}
use borrow.Author.Rules.{rules}
use Rattle.rules.specs.Sizes.{BINDINGS, SCOPES}
use Rattle.checks.proofs.Told.{enters}
use Rattle.checks.proofs.Pairs.{turn}
use Rattle.checks.proofs.in_turn.Goals as goal

pub returns : goal.returns
returns c sound idle =
    let long : (length c.args.s.live ≡ SCOPES) × (length c.args.s.bindings ≡ BINDINGS) = (search rules, search rules) in
    let o = enters _ _ _ _ long.0 long.1 sound c.alloc-o.ensures in
    let between : (length c.alloc-o.result.state.live ≡ SCOPES) × (length c.alloc-o.result.state.bindings ≡ BINDINGS) = (search rules, search rules) in
    let r = enters _ _ _ _ between.0 between.1 o.1 c.free.ensures in
    let t = turn c.args.s c.alloc-o.result c.free.result idle o.0 r.0 in
    (t.0, t.1, r.1)
