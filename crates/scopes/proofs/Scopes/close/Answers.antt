-- A scope is closed. Assumes nothing.
use Rattle.std.proofs.Common.{◌≡◌, Bool, true, false, List, get_or, refl, ap, ◌∙◌}
use Rattle.scopes.specs.View.{found_at, told_only}
use Rattle.scopes.specs.Leaves.{NoChild}
use Rattle.scopes.specs.Steps.{shut}
use Rattle.scopes.proofs.Becoming.{refuses, does}
use Rattle.scopes.proofs.Finds.{has-child, no-child}
use Rattle.scopes.proofs.Closes.{gone-is, gone_whole}
use Rattle.scopes.proofs.Pops.{shut-child, shut-closes}
use Rattle.scopes.proofs.Scopes.close.Goals as goal

pub returns-then-has_child : goal.returns-then-has_child
returns-then-has_child c = refuses c.args.self.now _ _ c.requires.0 (shut-child c.args.self.now c.args.i _ c.has_child.ensures c.if-has_child.true)

pub returns : goal.returns
returns c =
    let s = c.args.self.now in
    let t = c.empty.new.self in
    let y = c.empty.ensures in
    let r = c.forget_names-self in
    let i = c.args.i in
    let hi = c.requires.1.0 in
    let li : get_or t.live i false ≡ true = ap (λ (l : List Bool). get_or l i false) y.scopes.0 ∙ c.requires.1.1 in
    let nc : NoChild t.live t.parent i = rw (y.scopes.0, y.scopes.1) (no-child s i hi _ (c.has_child.ensures ∙ has-child s i hi _ refl) c.requires.0.sized.live c.if-has_child.false) in
    does s _ tt (λ x. told_only x (shut (found_at s i) x))
    (shut-closes s i _ c.has_child.ensures c.if-has_child.false _
    (gone-is t y.whole.sound y.whole.sized i hi li nc y.none r.new.bindings r.result r.ensures.unbinds.1 r.ensures.unbinds.0 (r.ensures.clears_from y.whole.sound.named.clear) _ c.from-self.ensures ∙ y.closes))
    (gone_whole t y.whole.sound y.whole.sized i hi li nc y.none r.new.bindings r.result r.ensures.unbinds.1 r.ensures.unbinds.0 (r.ensures.clears_from y.whole.sound.named.clear) _ c.from-self.ensures r.ensures.unbinds.2)
