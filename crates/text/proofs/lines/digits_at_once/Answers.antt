-- `digits_at_once` meets its contract. Assumes nothing.
use Rattle.text.proofs.AtOnce.{two_digits, six-digits, ten-digits}
use Rattle.text.proofs.lines.digits_at_once.Goals as goal

pub returns-then-front-eq10 : goal.returns-then-front-eq10
returns-then-front-eq10 c =
    two_digits c.args.s.now c.args.p c.requires _ c.word_of-front.ensures _ c.in_ok-opcode.ensures _ c.joined.ensures c.if-front-eq10.true

pub returns-then-back-eq10 : goal.returns-then-back-eq10
returns-then-back-eq10 c =
    six-digits c.args.s.now c.args.p c.requires _ c.word_of-front.ensures _ c.in_ok-opcode.ensures _ c.word_of-back.ensures _ c.in_ok-a.ensures _ c.joined-then-back-eq10.ensures c.if-back-eq10.true

pub returns-then-last-eq10 : goal.returns-then-last-eq10
returns-then-last-eq10 c =
    ten-digits c.args.s.now c.args.p c.requires _ c.word_of-front.ensures _ c.in_ok-opcode.ensures _ c.word_of-back.ensures _ c.in_ok-a.ensures _ c.word_of-last.ensures _ c.in_ok-b.ensures _ c.joined-then-last-eq10.ensures c.if-last-eq10.true
