use native.Mathlib.Omega.{arith}
use mathlib.Core.Path.{ap, ◌∙◌}
use Rattle.handles.specs.declared.Handle.{Handle as Known}
use Rattle.frames.proofs.Told.{handed-on}
use Rattle.frames.proofs.Handling.{handed-few, slot-low, below, held-is}
use Rattle.frames.proofs.Freeing.{back-14, back-12, back-comes}
use Rattle.frames.proofs.frees.hand_back.Goals as goal

pub returns-then-not-is_held-clause-frees : goal.returns-then-not-is_held-clause-frees
returns-then-not-is_held-clause-frees c =
    back-14 c.requires.0 c.args.dangles c.args.h.0 c.args.x c.requires.1 (held-is c.requires.0 c.args.h.0 c.args.x c.requires.1 c.is_held.ensures ∙ c.if-not-is_held.true)

pub returns-in_err-give_back-clause-frees : goal.returns-in_err-give_back-clause-frees
returns-in_err-give_back-clause-frees c =
    rw (handed-on c.from_residual.result c.from_residual.ensures.1)
    (back-12 c.requires.0 c.args.dangles c.args.h.0 c.args.x c.requires.1 (held-is c.requires.0 c.args.h.0 c.args.x c.requires.1 c.is_held.ensures ∙ c.if-not-is_held.false) c.in_err-give_back.field-0.0 c.in_err-give_back.ensures)

pub set-requires : goal.set-requires
set-requires c =
    (below c.args.handles.now c.args.h.0 c.args.x c.requires.1 (handed-few c.requires.0), omega (arith, ap (λ (z : Known). z.address.slot.0) c.forgotten.ensures, slot-low c.args.handles.now c.args.h.0 c.args.x c.requires.1))

pub returns-clause-frees : goal.returns-clause-frees
returns-clause-frees c =
    back-comes c.requires.0 c.args.dangles c.args.h.0 c.args.x c.requires.1 (held-is c.requires.0 c.args.h.0 c.args.x c.requires.1 c.is_held.ensures ∙ c.if-not-is_held.false) _ c.set.new.self c.forgotten.ensures c.set.ensures
    c.in_ok-give_back.ensures
