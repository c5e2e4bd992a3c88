use native.Mathlib.Omega.{arith}
use mathlib.Core.Path.{refl, ap, ◌∙◌}
use Rattle.rules.specs.Needs.{Address}
use Rattle.rules.specs.Frames as frame
use Rattle.rules.specs.declared.refusal.Refusal.TheVariants.{NotHeld}
use Rattle.frames.specs.Steps.{source_of}
use Rattle.frames.proofs.Told.{handed-on}
use Rattle.frames.proofs.Moving.{works-refused}
use Rattle.frames.proofs.Handling.{handed-few, slot-low, below, held-is, write-unknown, write-14, write-works}
use Rattle.frames.proofs.cells.write.Goals as goal

pub known-requires : goal.known-requires
known-requires c = handed-few c.requires

pub returns-in_err-known-clause-leads : goal.returns-in_err-known-clause-leads
returns-in_err-known-clause-leads c = rw (handed-on c.from_residual.result c.from_residual.ensures.1) (λ o drained. write-unknown c.requires c.args.h.0 c.in_err-known.field-0.0 drained o (source_of c.args.x) c.in_err-known.ensures)

pub returns-then-not-is_held-clause-leads : goal.returns-then-not-is_held-clause-leads
returns-then-not-is_held-clause-leads c =
    λ o drained.
    let knows = c.in_ok-known.ensures in
    works-refused c.requires (frame.write c.args.h.0 (source_of c.args.x)) o NotHeld
    (write-14 c.requires c.args.h.0 c.in_ok-known.known knows (source_of c.args.x) (held-is c.requires c.args.h.0 c.in_ok-known.known knows c.is_held.ensures ∙ c.if-not-is_held.true)) drained

pub set-requires : goal.set-requires
set-requires c =
    let knows = c.in_ok-known.ensures in
    (below c.args.handles.now c.args.h.0 c.in_ok-known.known knows (handed-few c.requires), omega (arith, ap (λ (a : Address). a.slot) c.allocated.ensures, slot-low c.args.handles.now c.args.h.0 c.in_ok-known.known knows))

pub returns-clause-leads : goal.returns-clause-leads
returns-clause-leads c =
    λ o.
    let knows = c.in_ok-known.ensures in
    write-works c.requires c.args.h.0 c.in_ok-known.known knows _ c.set.new.self c.set.ensures o c.args.x c.allocated.ensures refl
    (held-is c.requires c.args.h.0 c.in_ok-known.known knows c.is_held.ensures ∙ c.if-not-is_held.false)
