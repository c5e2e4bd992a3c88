-- `bound` meets its contract. Assumes nothing.
use Prim.Native.Nat.{◌-◌}
use native.Mathlib.Omega.{arith}
use Rattle.rules.specs.Sizes.{SCOPES, SLOTS}
use Rattle.checks.specs.States.{Filled}
use Rattle.checks.proofs.Told.{next-only}
use Rattle.checks.proofs.Filling.{name-more}
use Rattle.checks.proofs.bound.Goals as goal

pub loop-name-preserved : goal.loop-name-preserved
loop-name-preserved c =
    let o = c.define.ensures in (
      o.whole,
      λ filled. next-only (Filled (SCOPES - 1) SLOTS _) _ _ o.is (name-more _ _ _ _ (c.loop-name.invariant.1 filled) (omega arith) (omega arith) _ _),
    )
