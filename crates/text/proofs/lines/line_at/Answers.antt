-- `line_at` meets its contract. Assumes nothing.
use Rattle.text.proofs.Splits.{took-torn, took-digits, took-other}
use Rattle.text.proofs.lines.line_at.Goals as goal

pub returns-then-e-s : goal.returns-then-e-s
returns-then-e-s c = took-torn c.args.kind c.args.s.now c.args.p c.requires.in_bounds _ c.requires.digits c.if-e-s.true

pub returns-then-s-e-eq10 : goal.returns-then-s-e-eq10
returns-then-s-e-eq10 c = took-digits c.args.kind c.args.s.now c.args.p c.requires.in_bounds _ c.requires.digits c.if-e-s.false c.if-s-e-eq10.true _ c.frame_by-frame.ensures

pub returns : goal.returns
returns c = took-other c.args.kind c.args.s.now c.args.p c.requires.in_bounds _ c.requires.digits (λ l z. c.if-s-e-eq10.false z) _ c.next_line.ensures
