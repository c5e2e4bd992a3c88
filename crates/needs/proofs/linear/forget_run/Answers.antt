use mathlib.Core.Path.{ap, ◌∙◌}
use Rattle.rules.specs.AddressSets.{run}
use Rattle.rules.specs.Needs as need
use Rattle.needs.specs.Kinds.{kind_of, run_of}
use Rattle.needs.proofs.Runs.{forget-kind, forget-empty}
use Rattle.needs.proofs.linear.forget_run.Goals as goal

pub returns-then-run-eq0 : goal.returns-then-run-eq0
unfolding need.forget_run run
returns-then-run-eq0 c = (ap run_of c.empty.ensures ∙ forget-empty (kind_of c.args.run.kind) c.args.run.first.0 c.args.run.count c.if-run-eq0.true, λ z. c.empty.ensures)

pub returns : goal.returns
unfolding need.forget_run
returns c = (forget-kind (kind_of c.args.run.kind) (run c.args.run.first.0 c.args.run.count), λ z. absurd (c.if-run-eq0.false z))
