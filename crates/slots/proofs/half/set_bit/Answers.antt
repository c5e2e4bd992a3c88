use Rattle.slots.proofs.Bits.{bit-set}
use Rattle.slots.proofs.half.set_bit.Goals as goal

pub returns : goal.returns
returns c = bit-set c.args.h c.args.i c.requires
