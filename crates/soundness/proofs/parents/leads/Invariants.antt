use mathlib.Core.Path.{◌≡◌}
use Prim.Native.Nat.{◌-◌}
use Rattle.rules.specs.Sizes.{SCOPES}
use Rattle.scopes.specs.Sound.{LeadsToRoot}
use Rattle.soundness.specs.Parts.{climb}
use Rattle.soundness.proofs.parents.leads.Given as goal

abbrev pub invariant-loop-step : goal.invariant-loop-step
invariant-loop-step l =
    record {
      same : climb l.s.live l.s.parent SCOPES l.i ≡ climb l.s.live l.s.parent (SCOPES - l._step) l.k;
      way : LeadsToRoot l.s.live l.s.parent l.k → LeadsToRoot l.s.live l.s.parent l.i;
    }
