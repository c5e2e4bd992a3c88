use Rattle.rules.specs.Frames as frame
use Rattle.frames.proofs.Told.{handed-on}
use Rattle.frames.proofs.NeedSteps.{assigned-13, assigned-as, made-works, full-works}
use Rattle.frames.proofs.needing.assigned.Goals as goal

pub returns-in_err-x : goal.returns-in_err-x
returns-in_err-x c = rw (handed-on c.from_residual.result c.from_residual.ensures.1) (λ s stands. assigned-13 stands c.args.h.0 c.in_err-x.field-0.0 c.in_err-x.ensures)

pub returns-in_err-k : goal.returns-in_err-k
returns-in_err-k c =
    rw (handed-on c.from_residual-in_err-k.result c.from_residual-in_err-k.ensures.1)
    (λ s stands. full-works stands (frame.new_assigned c.args.h.0) 0x21 _ (assigned-as stands c.args.h.0 c.in_ok-x.x c.in_ok-x.ensures c.assigned.result c.assigned.ensures) c.in_err-k.field-0.0 c.in_err-k.ensures)

pub returns : goal.returns
returns c = λ s stands. made-works stands (frame.new_assigned c.args.h.0) 0x21 _ (assigned-as stands c.args.h.0 c.in_ok-x.x c.in_ok-x.ensures c.assigned.result c.assigned.ensures) c.in_ok-k.k c.in_ok-k.ensures
