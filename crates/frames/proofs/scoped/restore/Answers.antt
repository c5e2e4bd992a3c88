use Rattle.std.specs.Prelude.{Ok, Err}
use Rattle.rules.specs.Scopes as rule
use Rattle.frames.proofs.Told.{handed-on}
use Rattle.frames.proofs.Moving.{restore-works, number-refused, number-becomes, none-refused-4}
use Rattle.frames.proofs.scoped.restore.Goals as goal

pub returns-in_err-id : goal.returns-in_err-id
returns-in_err-id c =
    let e = c.in_err-id.field-0.0 in
    rw (handed-on c.from_residual.result c.from_residual.ensures.1)
    (λ handles stands drained. restore-works stands c.args.n (Err e) (number-refused c.args.scopes.now c.args.n rule.restore_scope c.from.ensures c.requires (none-refused-4 _).2 e c.in_err-id.ensures) drained)

pub returns-in_err-restore : goal.returns-in_err-restore
returns-in_err-restore c =
    rw (handed-on c.from_residual-in_err-restore.result c.from_residual-in_err-restore.ensures.1)
    (λ handles stands drained. restore-works stands c.args.n (Err c.in_err-restore.field-0.0) (number-becomes c.args.scopes.now c.args.n rule.restore_scope c.from.ensures c.in_ok-id.id c.in_ok-id.ensures c.in_err-restore.ensures) drained)

pub returns : goal.returns
returns c = λ handles stands drained. restore-works stands c.args.n (Ok tt) (number-becomes c.args.scopes.now c.args.n rule.restore_scope c.from.ensures c.in_ok-id.id c.in_ok-id.ensures c.in_ok-restore.ensures) drained
