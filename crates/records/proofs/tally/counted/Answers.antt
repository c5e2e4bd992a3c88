-- `counted` meets its contract. Assumes nothing.
use Rattle.records.proofs.Counting.{more-agrees, more-first, more-differs}
use Rattle.records.proofs.tally.counted.Goals as goal

pub returns-then-agrees : goal.returns-then-agrees
returns-then-agrees c = more-agrees _ _ c.requires.2 c.if-agrees.true

pub returns-then-t-eq0 : goal.returns-then-t-eq0
returns-then-t-eq0 c = more-first _ _ c.requires.2 c.if-agrees.false c.if-t-eq0.true

pub returns : goal.returns
returns c = more-differs _ _ c.requires.2 c.if-agrees.false c.if-t-eq0.false
