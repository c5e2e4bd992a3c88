use Rattle.std.proofs.lemmas.Result.{err_from_is_err_and}
use Rattle.rules.specs.Sizes.{base}
use Rattle.rules.specs.Scopes.{alloc_in, by_id}
use Rattle.rules.specs.Needs as need
use Rattle.slots.specs.Spots.{placement_of}
use Rattle.scopes.specs.View.{id_of}
use Rattle.allocations.proofs.Goes.{goes-on}
use Rattle.allocations.proofs.addresses.alloc_in.Goals as goal

pub returns-in_err-slot : goal.returns-in_err-slot
unfolding need.alloc_address_in
returns-in_err-slot c =
    let p = err_from_is_err_and c.from_residual.result c.from_residual.ensures.1 in
    let id = id_of c.args.id in
    rw (p.1, p.2) (goes-on (λ d. alloc_in (placement_of c.args.place) (by_id base d id) d) (λ a. need.address a (need.scope id)) _ c.in_err-slot.ensures)

pub returns : goal.returns
unfolding need.alloc_address_in
returns c =
    let id = id_of c.args.id in
    goes-on (λ d. alloc_in (placement_of c.args.place) (by_id base d id) d) (λ a. need.address a (need.scope id)) _ c.in_ok-slot.ensures
