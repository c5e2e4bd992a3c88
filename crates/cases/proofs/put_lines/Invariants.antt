-- `put_lines` stays within its buffer, and says where it ends. Assumes nothing.
use Rattle.std.proofs.Common.{◌≡◌, ◌≤◌, length}
use Rattle.cases.proofs.put_lines.Given as goal

abbrev pub invariant-loop : goal.invariant-loop
invariant-loop l = (l.at ≤ length l.initial.buf) × (length l.buf ≡ length l.initial.buf)
