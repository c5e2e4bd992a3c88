-- `put_left` meets its contract. Assumes nothing.
use mathlib.Core.Path.{ap, ◌∙◌}
use native.Mathlib.Omega.{arith}
use Rattle.text.specs.Writing.{over}
use Rattle.answers.proofs.Beside.{left-line}
use Rattle.answers.proofs.put_left.Goals as goal

pub returns : goal.returns
returns c = record {
  count = omega (arith, c.put_line.ensures.value);
  bytes = c.put_line.ensures.out_after ∙ ap (over c.args.out.now c.args.written) (left-line c.args.left.now _ _ c.load-high.ensures c.load-low.ensures (omega arith));
}
