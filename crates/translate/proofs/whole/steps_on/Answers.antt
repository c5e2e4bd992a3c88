-- The title, and what stands behind it. Assumes nothing.
use Rattle.translate.proofs.Going.{by-edition}
use Rattle.translate.proofs.whole.steps_on.Goals as goal

pub returns : goal.returns
returns c = by-edition _ _ _ _ _ c.place_by.ensures c.has_title-titled.ensures c.steps_behind.ensures
