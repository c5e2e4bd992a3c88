use Rattle.std.proofs.Common.{Bool, refl, ap}
use Rattle.slots.specs.Promises.{view, SeenSlots}
use Rattle.slots.proofs.Steps.{remove-within, remove-past}
use Rattle.bare.proofs.pairs.take_out.Goals as goal

pub returns-then-a-t-clause-removed : goal.returns-then-a-t-clause-removed
returns-then-a-t-clause-removed c = ap (λ (x : SeenSlots Bool). x.next) (remove-within (view c.args.t.now) _ _ c.if-a-t.true refl c.vacate.ensures.halves_after)

pub returns-else-a-t-clause-removed : goal.returns-else-a-t-clause-removed
returns-else-a-t-clause-removed c = ap (λ (x : SeenSlots Bool). x.next) (remove-past (view c.args.t.now) _ c.if-a-t.false)
