use mathlib.Core.Path.{◌≡◌}
use lib.ListN.{length}
use Rattle.rules.specs.Sizes.{BINDINGS, WORD}
use Rattle.soundness.specs.Parts.{Distinct, Met}
use Rattle.soundness.proofs.bindings.distinct.Given as goal

abbrev pub invariant-loop-j : goal.invariant-loop-j
invariant-loop-j l =
    record {
      names : length l.places ≡ WORD;
      bound : length l.scopes ≡ BINDINGS;
      met : Met l.s.bindings l.places l.scopes l.j;
      distinct : Distinct l.s.bindings l.j;
    }
