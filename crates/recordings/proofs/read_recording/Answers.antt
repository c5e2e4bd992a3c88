-- `read_recording` meets its contract. Assumes nothing.
use mathlib.Core.Path.{refl, ap, ◌∙◌}
use Rattle.text.specs.Refused.{answer_of}
use Rattle.recordings.proofs.Results.{entry-good, entry-bad}
use Rattle.recordings.proofs.read_recording.Goals as goal

pub returns-in-Some : goal.returns-in-Some
returns-in-Some c =
    let s = c.args in
    entry-good s.state s.samples.now s.part.now _ c.in-Some.ensures c.in-Some.reader.left_by_bytes _ c.read_part.ensures.next _ c.closed.ensures _ c.read_part.ensures.left

pub returns-in-None : goal.returns-in-None
returns-in-None c =
    let s = c.args in
    entry-bad s.state s.samples.now s.part.now _ refl c.in-None.ensures _ (c.from.ensures ∙ ap answer_of c.new.ensures)
