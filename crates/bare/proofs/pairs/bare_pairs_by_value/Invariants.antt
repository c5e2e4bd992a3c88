use Rattle.std.proofs.Common.{◌≡◌, ◌-◌}
use Rattle.slots.specs.Promises.{view}
use Rattle.bare.specs.Bare.{summed, pairs_sum}
use Rattle.bare.proofs.Runs.{Sound}
use Rattle.bare.proofs.pairs.bare_pairs_by_value.Given as goal

abbrev pub invariant-loop-i : goal.invariant-loop-i
invariant-loop-i l = record { sound : Sound (view l.s); left : summed l.stride (l.n - l._i) l.a (view l.s) l.sum ≡ pairs_sum l.stride l.n }
