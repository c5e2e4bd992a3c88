use Rattle.handles.proofs.NeedTables.{Left}
use Rattle.handles.proofs.remembered.Needs.belongs.Given as goal

abbrev pub invariant-loop-i : goal.invariant-loop-i
invariant-loop-i l = Left l.self l.h.0 l.i
