-- `full` meets its contract. Assumes nothing.
use Prim.Native.Nat.{◌-◌}
use native.Mathlib.Omega.{arith}
use Rattle.rules.specs.Sizes.{SCOPES, SLOTS}
use Rattle.checks.specs.States.{Filled}
use Rattle.checks.proofs.Told.{slots-sound, next}
use Rattle.checks.proofs.Filling.{slots-all}
use Rattle.checks.proofs.full.Goals as goal

pub returns : goal.returns
returns c =
    let s = c.opened-s.ensures in
    (c.bound.ensures.sound, c.bound.ensures.full (next (Filled (SCOPES - 1) SLOTS 0) _ _ (λ a. a) c.alloc_run.ensures.is (slots-all _ _ s.1 (omega arith) (slots-sound _ s.0) _ (omega arith))))
