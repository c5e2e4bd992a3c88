use Rattle.slots.proofs.Counts.{any-set}
use Rattle.slots.proofs.half.has_set.Goals as goal

pub returns : goal.returns
returns c = any-set c.args.h c.ranges.h.fits
