-- `put_byte` meets its contract. Assumes nothing.
use Rattle.text.proofs.Over.{byte_put}
use Rattle.text.proofs.writing.put_byte.Goals as goal

pub returns-clause-out_after : goal.returns-clause-out_after
returns-clause-out_after c = byte_put c.args.out.now c.args.w c.args.n _ _ c.requires c.digit_of.ensures c.digit_of-2.ensures
