-- `put_down` stays within the list: seven bytes a slot, and seven for the size line. Assumes nothing.
use Rattle.std.proofs.Common.{◌≡◌, ◌+◌, ◌*◌, ◌≤◌, length}
use Rattle.supplier_test.proofs.put_down.Given as goal

abbrev pub invariant-loop-a : goal.invariant-loop-a
invariant-loop-a l = (3072 ≤ l.a) × (l.w + 7 * l.a ≡ 28672) × (length l.list ≡ length l.initial.list)
