use Rattle.std.proofs.Common.{◌≡◌, ◌-◌, ◌<◌, length}
use Rattle.rules.specs.Sizes.{HALVES}
use Rattle.slots.specs.Promises.{view}
use Rattle.bare.specs.Bare.{HALF, summed}
use Rattle.bare.proofs.Runs.{Sound}
use Rattle.bare.proofs.pairs.run_lent.Given as goal

abbrev pub invariant-loop-i : goal.invariant-loop-i
invariant-loop-i l =
    record {
      below : l.a < HALF;
      long : length l.t.halves ≡ HALVES;
      sound : Sound (view l.t);
      left : summed l.stride (l.n - l._i) l.a (view l.t) l.sum ≡ summed l.stride l.n 0 (view l.initial.t) 0;
    }
