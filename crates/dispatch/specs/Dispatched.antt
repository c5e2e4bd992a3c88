-- What the step of any frame promises. Assumes nothing.
use Rattle.std.specs.Prelude.{◌≡◌, true, List, ℕ, Result}
use Rattle.std.specs.Result.{is_err}
use Rattle.std.proofs.Math.Option.{some}
use Rattle.rules.specs.declared.refusal.Refusal.{Refusal}
use Rattle.rules.specs.Slots.{Placement}
use Rattle.rules.specs.Frames.{Frame}
use Rattle.text.specs.Lines.{frame_of}
use Rattle.text.specs.declared.lines.Frame.{Frame as Code}
use Rattle.frames.specs.Needing.{WorksWith}
use Rattle.frames.specs.declared.steps.Script.{Script}
use Rattle.frames.specs.declared.steps.Adds.{Adds}

-- the frame that the record f is leads where the rules say, where slots go by `place`
abbrev pub StepsOn : Placement → Code → Script → Result Adds Refusal → Script → (drained : List ℕ) → Type 0
StepsOn place f p r p' drained = (g : Frame) → frame_of f ≡ some g → WorksWith place g f.opcode p r p' drained

-- a refused step leaves the table of drained slots
abbrev pub RefusedKeeps : List ℕ → Result Adds Refusal → List ℕ → Type 0
RefusedKeeps drained r drained' = is_err r ≡ true → drained' ≡ drained
