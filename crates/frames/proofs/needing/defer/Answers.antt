use Rattle.rules.specs.Frames as frame
use Rattle.frames.proofs.Told.{handed-on}
use Rattle.frames.proofs.NeedSteps.{defer-4, defer-as, made-works, full-works}
use Rattle.frames.proofs.needing.defer.Goals as goal

pub returns-in_err-id : goal.returns-in_err-id
returns-in_err-id c = rw (handed-on c.from_residual.result c.from_residual.ensures.1) (λ handles stands. defer-4 stands c.args.n c.from.ensures c.in_err-id.field-0.0 c.in_err-id.ensures)

pub returns-in_err-k : goal.returns-in_err-k
returns-in_err-k c =
    rw (handed-on c.from_residual-in_err-k.result c.from_residual-in_err-k.ensures.1)
    (λ handles stands. full-works stands (frame.new_defer c.args.n) 0x20 _ (defer-as stands c.args.n c.from.ensures c.in_ok-id.id c.in_ok-id.ensures c.deferred.result c.deferred.ensures) c.in_err-k.field-0.0 c.in_err-k.ensures)

pub returns : goal.returns
returns c = λ handles stands. made-works stands (frame.new_defer c.args.n) 0x20 _ (defer-as stands c.args.n c.from.ensures c.in_ok-id.id c.in_ok-id.ensures c.deferred.result c.deferred.ensures) c.in_ok-k.k c.in_ok-k.ensures
