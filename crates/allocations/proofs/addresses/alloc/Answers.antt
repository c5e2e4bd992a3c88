use Rattle.std.proofs.lemmas.Result.{err_from_is_err_and}
use Rattle.rules.specs.Scopes.{alloc_top}
use Rattle.rules.specs.Needs as need
use Rattle.slots.specs.Spots.{placement_of}
use Rattle.allocations.proofs.Goes.{goes-on}
use Rattle.allocations.proofs.addresses.alloc.Goals as goal

pub returns-in_err-slot : goal.returns-in_err-slot
unfolding need.alloc_address
returns-in_err-slot c =
    let p = err_from_is_err_and c.from_residual.result c.from_residual.ensures.1 in
    rw (p.1, p.2) (goes-on (alloc_top (placement_of c.args.place)) (λ a. need.address a need.local) _ c.in_err-slot.ensures)

pub returns : goal.returns
unfolding need.alloc_address
returns c = goes-on (alloc_top (placement_of c.args.place)) (λ a. need.address a need.local) _ c.in_ok-slot.ensures
