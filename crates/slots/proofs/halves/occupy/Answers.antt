use mathlib.Core.Bool.{true}
use borrow.Author.Rules.{rules}
use Rattle.slots.proofs.Occupied.{occ-set}
use Rattle.slots.proofs.halves.occupy.Goals as goal

pub returns : goal.returns
returns c = record {
  halves_after = occ-set c.args.halves.now c.args.a c.set_bit.result true (search rules) c.set_bit.ensures;
  halves_len = search rules;
}
