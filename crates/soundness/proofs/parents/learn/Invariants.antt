use Rattle.scopes.specs.Sound.{LeadsToRoot}
use Rattle.soundness.specs.Parts.{Known}
use Rattle.soundness.proofs.parents.learn.Given as goal

abbrev pub invariant-loop-step : goal.invariant-loop-step
invariant-loop-step l = record { leads : LeadsToRoot l.s.live l.s.parent l.k; known : Known l.s.live l.s.parent l.known }
