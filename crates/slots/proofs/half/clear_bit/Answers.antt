use Rattle.slots.proofs.Bits.{bit-clear}
use Rattle.slots.proofs.half.clear_bit.Goals as goal

pub returns : goal.returns
returns c = bit-clear c.args.h c.args.i c.requires c.ranges.h.fits
