-- An edit compares otherwise: here the check shows the fact that fails.
use mathlib.Core.Path.{sym}
use Rattle.handles.proofs.Handles.is_held.Goals as goal

pub returns-then-occupied : goal.returns-then-occupied
returns-then-occupied c = rw (sym c.from-a.ensures, sym c.if-occupied.ensures)
