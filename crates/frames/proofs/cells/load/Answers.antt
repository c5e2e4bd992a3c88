use mathlib.Core.Path.{◌∙◌}
use Rattle.rules.specs.declared.refusal.Refusal.TheVariants.{NotHeld, NeverWritten}
use Rattle.frames.proofs.Moving.{works-refused}
use Rattle.frames.proofs.Handling.{held-is, load-14, load-15, load-works}
use Rattle.frames.proofs.cells.load.Goals as goal

pub returns-then-not-is_held : goal.returns-then-not-is_held
returns-then-not-is_held c =
    λ f o it.
    works-refused c.requires.0 f o NotHeld (load-14 c.requires.0 c.args.h.0 c.args.x c.requires.1 f o it (held-is c.requires.0 c.args.h.0 c.args.x c.requires.1 c.is_held.ensures ∙ c.if-not-is_held.true))

pub returns-then-x : goal.returns-then-x
returns-then-x c =
    λ f o it.
    load-works c.requires.0 c.args.h.0 c.args.x c.requires.1 f o it (held-is c.requires.0 c.args.h.0 c.args.x c.requires.1 c.is_held.ensures ∙ c.if-not-is_held.false) c.if-x.true

pub returns : goal.returns
returns c =
    λ f o it.
    works-refused c.requires.0 f o NeverWritten (load-15 c.requires.0 c.args.h.0 c.args.x c.requires.1 f o it (held-is c.requires.0 c.args.h.0 c.args.x c.requires.1 c.is_held.ensures ∙ c.if-not-is_held.false) c.if-x.false)
