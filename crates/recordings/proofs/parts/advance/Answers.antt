-- `advance` meets its contract. Assumes nothing.
use native.Mathlib.Omega.{arith}
use Rattle.recordings.specs.Reading.{seen}
use Rattle.recordings.proofs.Turns.{byte-turn, bad-turn}
use Rattle.recordings.proofs.WholeLines.{lines_then}
use Rattle.recordings.proofs.parts.advance.Goals as goal

pub returns-then-r-eq7 : goal.returns-then-r-eq7
returns-then-r-eq7 c =
    let r = seen c.args.r in
    lines_then c.args.part.now c.args.p r c.args.samples.now _ _ c.whole_lines-line.ensures c.if-count-gt0.false _ _ _
    (bad-turn c.args.part.now c.args.p r _ (omega arith) c.args.r.left_by_bytes c.if-r-eq7.true)

pub returns : goal.returns
returns c =
    let r = seen c.args.r in
    lines_then c.args.part.now c.args.p r c.args.samples.now _ _ c.whole_lines-line.ensures c.if-count-gt0.false _ _ _
    (byte-turn c.args.part.now c.args.p r _ _ _ (omega arith) c.args.r.left_by_bytes c.read_byte.ensures.next c.read_byte.ensures.left)
