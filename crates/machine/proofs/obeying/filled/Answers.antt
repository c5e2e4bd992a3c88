-- `filled` meets its contract. Assumes nothing.
use mathlib.Core.Path.{sym, ap, ◌∙◌}
use Rattle.text.specs.declared.lines.Frame.{Frame}
use Rattle.machine.proofs.Placing.{sample-fits, sample-filled, other-filled}
use Rattle.machine.proofs.obeying.filled.Goals as goal

pub load-b-requires : goal.load-b-requires
load-b-requires c = sample-fits _ _ _ (ap (λ (f : Frame). f.opcode) (sym c.unpack-f.ensures) ∙ c.if-f-ne20.false) c.requires

pub returns : goal.returns
returns c = sample-filled _ _ _ _ _ c.unpack-f.ensures c.load-b.ensures c.if-f-ne20.false c.pack.ensures

pub returns-then-f-ne20 : goal.returns-then-f-ne20
returns-then-f-ne20 c = other-filled _ _ (λ e. c.if-f-ne20.true (ap (λ (f : Frame). f.opcode) c.unpack-f.ensures ∙ e))
