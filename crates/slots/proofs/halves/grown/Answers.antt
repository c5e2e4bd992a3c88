use Rattle.slots.proofs.Steps.{grown-new, grown-stays}
use Rattle.slots.proofs.halves.grown.Goals as goal

pub returns-then-g-eq0 : goal.returns-then-g-eq0
returns-then-g-eq0 c = grown-new _ _ c.if-g-eq0.true

pub returns-else-g-eq0 : goal.returns-else-g-eq0
returns-else-g-eq0 c = grown-stays _ _ c.if-g-eq0.false
