-- Eight bindings, none of which is of a name. Assumes nothing.
use Rattle.std.proofs.Common.{◌+◌, sym, ◌∙◌, arith}
use borrow.Author.Tests.{eqb-false}
use Rattle.rules.proofs.Tells.{neither}
use Rattle.scopes.specs.Leaves.{binds}
use Rattle.scopes.proofs.Tables.{more}
use Rattle.scopes.proofs.Notes.{other_name}
use Rattle.scopes.proofs.names.named.Goals as goal

pub loop-k-preserved : goal.loop-k-preserved
loop-k-preserved c e i j a b =
    let l = c.loop-k in
    let n = neither _ _ e in
    more (binds c.args.bindings.now c.args.name i) (c.args.from + l.k) c.args.from (l.invariant n.0 i) (other_name c.args.bindings.now c.args.name i (c.args.from + l.k) (λ q. eqb-false _ _ n.1 (q ∙ sym c.from-key.ensures))) j a (omega arith)

pub returns : goal.returns
returns c e i j a b = let l = c.loop-k in l.invariant e i j a (omega (arith, b, c.loop-k-test.false))
