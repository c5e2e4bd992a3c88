use Rattle.std.specs.Prelude.{Ok, Err}
use Rattle.rules.specs.Scopes as rule
use Rattle.rules.specs.Sizes.{base}
use Rattle.frames.proofs.Told.{handed-on}
use Rattle.frames.proofs.Moving.{pop-works, number-refused, number-becomes, none-refused-4}
use Rattle.frames.proofs.scoped.pop.Goals as goal

pub returns-in_err-id : goal.returns-in_err-id
returns-in_err-id c =
    let e = c.in_err-id.field-0.0 in
    rw (handed-on c.from_residual.result c.from_residual.ensures.1)
    (λ handles stands drained. pop-works stands c.args.n (Err e) (number-refused c.args.scopes.now c.args.n (rule.pop_scope base) c.from.ensures c.requires (none-refused-4 _).0 e c.in_err-id.ensures) drained)

pub returns-in_err-pop : goal.returns-in_err-pop
returns-in_err-pop c =
    rw (handed-on c.from_residual-in_err-pop.result c.from_residual-in_err-pop.ensures.1)
    (λ handles stands drained. pop-works stands c.args.n (Err c.in_err-pop.field-0.0) (number-becomes c.args.scopes.now c.args.n (rule.pop_scope base) c.from.ensures c.in_ok-id.id c.in_ok-id.ensures c.in_err-pop.ensures) drained)

pub returns : goal.returns
returns c = λ handles stands drained. pop-works stands c.args.n (Ok tt) (number-becomes c.args.scopes.now c.args.n (rule.pop_scope base) c.from.ensures c.in_ok-id.id c.in_ok-id.ensures c.in_ok-pop.ensures) drained
