use mathlib.Core.Bool.{false}
use borrow.Author.Rules.{rules}
use Rattle.slots.proofs.Occupied.{occ-set}
use Rattle.slots.proofs.halves.vacate.Goals as goal

pub returns : goal.returns
returns c = record {
  halves_after = occ-set c.args.halves.now c.args.a c.clear_bit.result false (search rules) c.clear_bit.ensures;
  halves_len = search rules;
}
