use Rattle.std.proofs.lemmas.Result.{err_from_is_err_and}
use Rattle.slots.specs.Spots.{placement_of}
use Rattle.allocations.proofs.Served.{served-given, served-refused, has-address, wants-none}
use Rattle.allocations.proofs.any.allocate.Goals as goal
use Rattle.allocations.proofs.any.allocate.Goals.{in-Defer+in_ok-a-in-Defer, in-Address}

pub returns-in_err-a-in-Defer : goal.returns-in_err-a-in-Defer
returns-in_err-a-in-Defer c =
    let p = err_from_is_err_and c.from_residual.result c.from_residual.ensures.1 in
    rw (p.1, p.2) (served-refused (placement_of c.args.place) c.in-Defer.id c.args.need.now c.in-Defer.is _ c.in_err-a-in-Defer.ensures)

pub returns-in-Ignore : goal.returns-in-Ignore
returns-in-Ignore c = wants-none c.requires (placement_of c.args.place) c.args.need.now c.in-Ignore.is

pub returns : goal.returns
returns c =
    elim c.match-need.branch [
      | in-Defer+in_ok-a-in-Defer w ↦ rw (w.s-is, w.a-is) (served-given (placement_of c.args.place) w.in-Defer.id c.args.need.now w.in-Defer.is _ w.in_ok-a-in-Defer.ensures)
      | in-Address w ↦ rw (w.s-is, w.a-is) (has-address c.requires (placement_of c.args.place) c.args.need.now w.in-Address.a _ w.in-Address.is w.allocated-a.ensures)
    ]
