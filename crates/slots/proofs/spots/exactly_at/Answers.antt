-- Exactly at an address, or nowhere. Assumes nothing.
use Rattle.rules.specs.Sizes.{base}
use Rattle.slots.specs.Halves.{slots_of}
use Rattle.slots.proofs.Going.{at-none, at-some}
use Rattle.slots.proofs.spots.exactly_at.Goals as goal

pub taken-requires : goal.taken-requires
taken-requires c = ((c.vacant.ensures.holds c.if-vacant.true).0, c.requires.1)

pub returns-then-vacant : goal.returns-then-vacant
unfolding base
returns-then-vacant c = at-some (slots_of c.args.halves.now c.args.segments c.args.head) c.args.many c.args.a _ c.vacant.ensures _ c.requires.1 c.if-vacant.true c.taken.ensures

pub returns-else-vacant : goal.returns-else-vacant
unfolding base
returns-else-vacant c = at-none (slots_of c.args.halves.now c.args.segments c.args.head) c.args.many c.args.a _ c.vacant.ensures c.if-vacant.false
