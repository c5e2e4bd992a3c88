-- `run_beside` meets its contract, over the rules' own `recorded_entry`: 29, or a run over a table that is long enough. Assumes nothing.
use mathlib.Core.Path.{sym, ap, ◌∙◌}
use Rattle.rules.specs.Sizes.{base}
use Rattle.rules.specs.Recordings.{Reader, is_reader}
use Rattle.text.specs.Refused.{answer_of}
use Rattle.machine.proofs.Ruled.{entry_other, entry_read}
use Rattle.machine.proofs.recorded.run_beside.Goals as goal

pub returns-in_default : goal.returns-in_default
returns-in_default c = entry_other base c.args.list.now c.args.state c.args.samples.now c.args.cells.now c.args.out.now c.args.left.now c.in_default.ensures _ (ap answer_of c.new.ensures)

pub returns-then-list-le-SHORT : goal.returns-then-list-le-SHORT
returns-then-list-le-SHORT c = entry_read base c.args.list.now c.args.state c.args.samples.now c.args.cells.now c.args.out.now c.args.left.now (λ k. (c.slice_known-1.given k).fits) (ap is_reader (sym c.in-Some.ensures) ∙ c.in-Some.reader.left_by_bytes) _ _ (ap (λ (x : Reader). x.column) c.in-Some.ensures) (ap (λ (x : Reader). x.line) c.in-Some.ensures) _ _ _ _ c.run_over.ensures

pub returns : goal.returns
returns c = entry_read base c.args.list.now c.args.state c.args.samples.now c.args.cells.now c.args.out.now c.args.left.now (λ k. (c.slice_known-1.given k).fits) (ap is_reader (sym c.in-Some.ensures) ∙ c.in-Some.reader.left_by_bytes) _ _ (ap (λ (x : Reader). x.column) c.in-Some.ensures) (ap (λ (x : Reader). x.line) c.in-Some.ensures) _ _ _ _ c.run_over-2.ensures
