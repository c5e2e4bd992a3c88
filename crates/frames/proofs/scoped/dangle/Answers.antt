use Rattle.std.specs.Prelude.{Ok, Err}
use Rattle.rules.specs.Scopes as rule
use Rattle.frames.proofs.Told.{handed-on}
use Rattle.frames.proofs.Moving.{dangle-works, number-refused, number-becomes, none-refused-4}
use Rattle.frames.proofs.scoped.dangle.Goals as goal

pub returns-in_err-id : goal.returns-in_err-id
returns-in_err-id c =
    let e = c.in_err-id.field-0.0 in
    rw (handed-on c.from_residual.result c.from_residual.ensures.1)
    (λ handles stands drained. dangle-works stands c.args.n (Err e) (number-refused c.args.scopes.now c.args.n rule.dangle_scope c.from.ensures c.requires (none-refused-4 _).1 e c.in_err-id.ensures) drained)

pub returns-in_err-dangle : goal.returns-in_err-dangle
returns-in_err-dangle c =
    rw (handed-on c.from_residual-in_err-dangle.result c.from_residual-in_err-dangle.ensures.1)
    (λ handles stands drained. dangle-works stands c.args.n (Err c.in_err-dangle.field-0.0) (number-becomes c.args.scopes.now c.args.n rule.dangle_scope c.from.ensures c.in_ok-id.id c.in_ok-id.ensures c.in_err-dangle.ensures) drained)

pub returns : goal.returns
returns c = λ handles stands drained. dangle-works stands c.args.n (Ok tt) (number-becomes c.args.scopes.now c.args.n rule.dangle_scope c.from.ensures c.in_ok-id.id c.in_ok-id.ensures c.in_ok-dangle.ensures) drained
