use mathlib.Core.Path.{◌≡◌}
use lib.ListN.{length}
use Rattle.rules.specs.Sizes.{HANDLES, SLOTS}
use Rattle.needs.specs.Kinds.{kind_of}
use Rattle.handles.proofs.Grants.{Hands}
use Rattle.handles.proofs.Handles.grant.Given as goal

abbrev pub invariant-loop-i : goal.invariant-loop-i
invariant-loop-i l = record {
  hands : Hands l.initial.self l.self l.i l.a (kind_of l.kind);
  same : l.self.handed ≡ l.initial.self.handed;
  long : length l.self.table ≡ HANDLES;
  holders-long : length l.self.holders ≡ SLOTS;
}
