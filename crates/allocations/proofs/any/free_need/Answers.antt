use Rattle.std.proofs.lemmas.Result.{err_from_is_err_and}
use Rattle.allocations.proofs.Served.{rid-given, rid-refused, rid-none}
use Rattle.allocations.proofs.any.free_need.Goals as goal

pub returns-in_err-free : goal.returns-in_err-free
returns-in_err-free c =
    let p = err_from_is_err_and c.from_residual.result c.from_residual.ensures.1 in
    rw (p.1, p.2) (rid-refused c.in-Address.a c.args.need.now c.in-Address.is _ c.in_err-free.ensures)

pub returns-in_ok-free : goal.returns-in_ok-free
returns-in_ok-free c = rid-given c.in-Address.a c.args.need.now c.in-Address.is _ c.in_ok-free.ensures

pub returns-in_default : goal.returns-in_default
returns-in_default c = rid-none c.requires c.args.need.now c.in_default.not-Address
