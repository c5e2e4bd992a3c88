use Rattle.std.proofs.Common.{◌≡◌, ◌-◌, length}
use Rattle.rules.specs.Slots.{fresh_slots}
use Rattle.slots.specs.Promises.{view}
use Rattle.bare.specs.Bare.{rows}
use Rattle.bare.proofs.rows.bare_calls.Given as goal

abbrev pub invariant-loop-i : goal.invariant-loop-i
invariant-loop-i l =
    record {
      long : length l.shown ≡ length l.initial.shown;
      left : rows l.calls (l.n - l.i) l.i (view l.s) l.shown ≡ rows l.calls l.n 0 fresh_slots l.initial.shown;
    }
