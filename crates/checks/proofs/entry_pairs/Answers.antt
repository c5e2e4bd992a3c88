-- `entry_pairs` meets its contract: a fresh state is idle. Assumes nothing.
use mathlib.Core.Path.{sym, subst}
use Rattle.checks.specs.States.{Idle}
use Rattle.checks.proofs.Pairs.{fresh-idle}
use Rattle.checks.proofs.entry_pairs.Goals as goal

pub returns : goal.returns
returns c = c.answered.ensures.all c.fresh.ensures.1 (subst Idle (sym c.fresh.ensures.0) fresh-idle)
