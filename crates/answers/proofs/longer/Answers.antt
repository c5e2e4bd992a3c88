-- `longer` meets its contract. Assumes nothing.
use Rattle.answers.proofs.Printed.{ee-printed}
use Rattle.answers.proofs.longer.Goals as goal

pub returns : goal.returns
returns c = ee-printed 17 0 _ _ _ c.put_refusal.ensures.value c.put_refusal.ensures.out_after
