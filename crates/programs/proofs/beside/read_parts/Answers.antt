-- `read_parts` meets its contract: the state and the samples are those of the bytes that were read. It ends: a turn reads a byte at least,
-- and no more are wanted than the longest recording has, and one. Assumes nothing.
use borrow.Author.Rules.{rules}
use Rattle.programs.proofs.Parts.{of_none, of-more}
use Rattle.programs.proofs.beside.read_parts.Goals as goal

pub loop-bytes-init : goal.loop-bytes-init
loop-bytes-init c = (of_none _, search rules, search rules)

pub returns-then-state-ge-MALFORMED : goal.returns-then-state-ge-MALFORMED
returns-then-state-ge-MALFORMED c = of-more _ _ _ c.loop-bytes.invariant.0 _ _ _ c.read_recording-state.ensures

pub loop-bytes-preserved : goal.loop-bytes-preserved
loop-bytes-preserved c = (of-more _ _ _ c.loop-bytes.invariant.0 _ _ _ c.read_recording-state.ensures, search rules, search rules)
