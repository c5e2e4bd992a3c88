-- `put_end` meets its contract. Assumes nothing.
use mathlib.Core.Path.{refl}
use Rattle.text.proofs.Over as writing
use Rattle.text.proofs.writing.put_end.Goals as goal

pub returns : goal.returns
returns c = record {
  value = refl;
  out_after = writing.end-put c.args.out.now c.args.w c.requires;
}
