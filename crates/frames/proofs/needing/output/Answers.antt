use Rattle.std.specs.Prelude.{Ok, Err}
use Rattle.needs.specs.declared.Output.TheVariants.{Keep, Discard}
use Rattle.frames.proofs.Told.{handed-on}
use Rattle.frames.proofs.NeedSteps.{output-21, output-works}
use Rattle.frames.proofs.needing.output.Goals as goal

pub returns-in_err-d : goal.returns-in_err-d
returns-in_err-d c = rw (handed-on c.from_residual.result c.from_residual.ensures.1) (λ stands. output-21 stands c.args.k.0 c.in_err-d.field-0.0 c.in_err-d.ensures)

pub returns-in_err-a : goal.returns-in_err-a
returns-in_err-a c =
    rw (handed-on c.from_residual-in_err-a.result c.from_residual-in_err-a.ensures.1)
    (λ stands. output-works stands c.args.k.0 c.in_ok-d.d c.in_ok-d.ensures (Err c.in_err-a.field-0.0) c.in_err-a.ensures)

pub returns-in-Keep : goal.returns-in-Keep
returns-in-Keep c = λ stands. output-works stands c.args.k.0 c.in_ok-d.d c.in_ok-d.ensures (Ok (Keep c.in-Keep.a)) (rw c.in-Keep.is at c.in_ok-a.ensures)

pub returns-in-Discard : goal.returns-in-Discard
returns-in-Discard c = λ stands. output-works stands c.args.k.0 c.in_ok-d.d c.in_ok-d.ensures (Ok Discard) (rw c.in-Discard.is at c.in_ok-a.ensures)
