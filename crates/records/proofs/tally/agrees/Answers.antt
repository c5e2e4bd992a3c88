-- `agrees` meets its contract. Assumes nothing.
use Rattle.answers.proofs.Printed.{prints-in, prints-all, prints-text}
use Rattle.records.proofs.Texts.{same-as}
use Rattle.records.proofs.tally.agrees.Goals as goal

pub slice_bounds-out-end : goal.slice_bounds-out-end
slice_bounds-out-end c = prints-in c.translated-n.ensures

pub slice_bounds-same-end : goal.slice_bounds-same-end
slice_bounds-same-end c = prints-all c.translated-n.ensures

pub returns : goal.returns
returns c = same-as _ _ _ _ c.same.ensures (prints-text c.translated-n.ensures)
