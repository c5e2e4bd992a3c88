use Rattle.std.proofs.lemmas.Result.{err_from_is_err_and}
use Rattle.slots.specs.Spots.{placement_of}
use Rattle.allocations.proofs.Served.{as-output, output-of-from}
use Rattle.allocations.proofs.any.allocate_output.Goals as goal

pub returns-in_err-slot : goal.returns-in_err-slot
returns-in_err-slot c =
    let p = err_from_is_err_and c.from_residual.result c.from_residual.ensures.1 in
    rw (p.1, p.2) (as-output (placement_of c.args.place) _ c.in_err-slot.ensures)

pub returns : goal.returns
returns c = rw (c.from.ensures, output-of-from c.in_ok-slot.slot) (as-output (placement_of c.args.place) _ c.in_ok-slot.ensures)
