use Rattle.std.proofs.Common.{◌≡◌, ◌-◌}
use Rattle.slots.specs.Promises.{view}
use Rattle.bare.specs.Bare.{HALF, inserts, half_full}
use Rattle.bare.proofs.Runs.{Sound}
use Rattle.bare.proofs.pairs.half_full.Given as goal

abbrev pub invariant-loop-i : goal.invariant-loop-i
invariant-loop-i l = record { sound : Sound (view l.s); left : inserts (HALF - l._i) (view l.s) ≡ half_full }
