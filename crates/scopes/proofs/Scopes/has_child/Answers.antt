-- Whether a scope has a live child. Assumes nothing.
use Rattle.std.proofs.Common.{◌≡◌, Bool, ◌||◌, sym, refl, ap, ◌∙◌, arith}
use Rattle.rules.specs.Sizes.{SCOPES}
use Rattle.rules.specs.Notation.{first}
use Rattle.scopes.specs.Leaves.{child_of}
use Rattle.scopes.proofs.Tables.{any-more}
use Rattle.scopes.proofs.Finds.{has-child}
use Rattle.scopes.proofs.Scopes.has_child.Goals as goal

pub loop-j-init : goal.loop-j-init
unfolding first
loop-j-init c = refl

pub loop-j-preserved : goal.loop-j-preserved
loop-j-preserved c =
    let l = c.loop-j in
    let f = child_of c.args.self.now.live c.args.self.now.parent c.args.i in
    ap (λ (b : Bool). b || f l.j) l.invariant ∙ sym (any-more f l.j)

pub returns : goal.returns
returns c = sym (has-child c.args.self.now c.args.i c.requires _ (let e : c.loop-j.j ≡ SCOPES = omega (arith, c.loop-j-test.false, c.loop-j.auto.j-end) in rw e at c.loop-j.invariant))
