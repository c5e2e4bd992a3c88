use Rattle.std.proofs.lemmas.Result.{err_from_is_err_and}
use Rattle.rules.specs.Notation.{◌>>=◌}
use Rattle.needs.specs.Kinds.{need_of}
use Rattle.needs.proofs.Asks.{taken}
use Rattle.needs.proofs.any.into_addr.Goals as goal

pub returns-in_err-a : goal.returns-in_err-a
unfolding ◌>>=◌
returns-in_err-a c = let p = err_from_is_err_and c.from_residual.result c.from_residual.ensures.1 in rw (p.1, p.2) (taken (need_of c.args.need.now) _ c.in_err-a.ensures)

pub returns : goal.returns
unfolding ◌>>=◌
returns c = taken (need_of c.args.need.now) _ c.in_ok-a.ensures
