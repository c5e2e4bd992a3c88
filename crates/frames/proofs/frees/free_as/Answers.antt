use native.Mathlib.Omega.{arith}
use mathlib.Core.Path.{sym, ap, ◌∙◌}
use Rattle.needs.specs.Kinds.{kind_of}
use Rattle.needs.proofs.Tops.{back_from_lem}
use Rattle.handles.specs.declared.Handle.{Handle as Known}
use Rattle.frames.specs.Steps.{freed_then}
use Rattle.frames.proofs.Handling.{handed-few, slot-low, below}
use Rattle.frames.proofs.Moving.{comes-by}
use Rattle.frames.proofs.Freeing.{goes_back_lem, kept-comes}
use Rattle.frames.proofs.frees.free_as.Goals as goal

pub returns-then-goes_back-clause-frees : goal.returns-then-goes_back-clause-frees
returns-then-goes_back-clause-frees c =
    λ o drained.
    let a = c.args in
    comes-by o
    (ap (freed_then o) (goes_back_lem c.requires.0 a.dangles a.h.0 a.x c.requires.1 (kind_of a.kind) (sym (back_from_lem a.scopes.now c.requires.0.whole.sound a.kind) ∙ sym c.goes_back.ensures ∙ c.if-goes_back.true)))
    (c.hand_back.ensures.frees o drained)

pub set-requires : goal.set-requires
set-requires c =
    (below c.args.handles.now c.args.h.0 c.args.x c.requires.1 (handed-few c.requires.0), omega (arith, ap (λ (z : Known). z.address.slot.0) c.forgotten.ensures, slot-low c.args.handles.now c.args.h.0 c.args.x c.requires.1))

pub returns-clause-frees : goal.returns-clause-frees
returns-clause-frees c =
    let a = c.args in
    kept-comes c.requires.0 a.dangles a.h.0 a.x c.requires.1 (kind_of a.kind) (sym (back_from_lem a.scopes.now c.requires.0.whole.sound a.kind) ∙ sym c.goes_back.ensures ∙ c.if-goes_back.false)
    _ c.set.new.self c.forgotten.ensures c.set.ensures
