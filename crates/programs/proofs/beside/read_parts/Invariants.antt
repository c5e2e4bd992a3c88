use Rattle.std.proofs.Common.{◌≡◌, ◌-◌, length}
use Rattle.programs.specs.Recorded.{OfBytes}
use Rattle.programs.proofs.beside.read_parts.Given as goal

abbrev pub invariant-loop-bytes : goal.invariant-loop-bytes
invariant-loop-bytes l = OfBytes l.state l.initial.samples l.samples × (length l.part ≡ 65536) × (length l.samples ≡ length l.initial.samples)

abbrev pub decreases-loop-bytes : goal.decreases-loop-bytes
decreases-loop-bytes l = 30064771066 - l.bytes
