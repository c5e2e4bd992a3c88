use Rattle.std.proofs.Common.{arith}
use Rattle.bare.proofs.Runs.{call-insert, call-push, call-lowest, call-remove}
use Rattle.bare.proofs.calls.call.Goals as goal

pub returns-in-65535 : goal.returns-in-65535
returns-in-65535 c = call-insert _ _ _ c.in-65535.is c.placed.ensures c.insert.ensures.shows

pub returns-in-65534 : goal.returns-in-65534
returns-in-65534 c = call-push _ _ _ c.in-65534.is c.placed-in-65534.ensures c.push.ensures.shows

pub returns-in-65533 : goal.returns-in-65533
returns-in-65533 c = call-lowest _ _ _ c.in-65533.is c.placed-in-65533.ensures c.insert_lowest.ensures.shows

pub returns-in_default : goal.returns-in_default
returns-in_default c = call-remove _ _ _ (λ e. omega arith) (λ e. omega arith) (λ e. omega arith) c.removed.ensures c.remove.ensures.shows
