-- A name is bound in the top scope. Assumes nothing.
use Rattle.scopes.proofs.Becoming.{refuses, passes}
use Rattle.scopes.proofs.Defines.{define-no-top, define-there, define-new, define-full}
use Rattle.scopes.proofs.Scopes.define.Goals as goal

pub returns-in_err-top : goal.returns-in_err-top
returns-in_err-top c = passes c.args.self.now _ _ _ _ c.from_residual.ensures.1 c.requires (define-no-top c.args.self.now c.args.name c.args.address.0 c.args.handle.0 _ c.in_err-top.ensures)

pub returns-in-Some : goal.returns-in-Some
returns-in-Some c = define-there c.args.self.now c.args.name c.args.address.0 c.args.handle.0 c.requires.sound _ c.in_ok-top.ensures _ c.packed-b.ensures c.requires.sized c.in-Some.j c.in-Some.ensures

pub returns-then-self-eq-BINDINGS : goal.returns-then-self-eq-BINDINGS
returns-then-self-eq-BINDINGS c =
    refuses c.args.self.now _ _ c.requires
    (define-full c.args.self.now c.args.name c.args.address.0 c.args.handle.0 c.requires.sound _ c.in_ok-top.ensures _ c.packed-b.ensures c.requires.sized c.in_default.ensures c.if-self-eq-BINDINGS.true)

pub returns : goal.returns
returns c = define-new c.args.self.now c.args.name c.args.address.0 c.args.handle.0 c.requires.sound _ c.in_ok-top.ensures _ c.packed-b.ensures c.requires.sized c.in_default.ensures c.if-self-eq-BINDINGS.false
