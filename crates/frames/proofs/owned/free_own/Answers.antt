use mathlib.Core.Path.{ap, ◌∙◌}
use Rattle.rules.specs.Frames.{is_scope_kind, free_own}
use Rattle.scopes.specs.View.{view}
use Rattle.needs.specs.Kinds.{kind_of, need_of, address_of}
use Rattle.needs.specs.declared.AddressKind.{AddressKind}
use Rattle.needs.specs.declared.Need.{Need as Need'}
use Rattle.handles.specs.Handles.{state_of}
use Rattle.frames.specs.Steps.{freed_then}
use Rattle.frames.proofs.Handling.{handed-few}
use Rattle.frames.proofs.Moving.{comes-by}
use Rattle.frames.proofs.Owning.{other-kind, no-address, own-freed, other-comes}
use Rattle.frames.proofs.owned.free_own.Goals as goal

pub known-requires : goal.known-requires
known-requires c = handed-few c.requires.0

pub returns-in-Scope-clause-frees : goal.returns-in-Scope-clause-frees
returns-in-Scope-clause-frees c =
    λ o drained.
    let t = state_of (view c.args.scopes.now) c.args.handles.now in
    comes-by o
    (ap (λ (d : Need'). freed_then o (free_own c.args.h.0 t (need_of d))) c.in-Address.is ∙ ap (freed_then o) (own-freed c.args.h.0 t (address_of c.in-Address.a) (ap (λ (k : AddressKind). is_scope_kind (kind_of k)) c.in-Scope.is)))
    (c.free_as.ensures.frees o drained)

pub returns-in_default-kind-clause-frees : goal.returns-in_default-kind-clause-frees
returns-in_default-kind-clause-frees c = other-comes c.requires.0 c.args.h.0 (need_of c.args.d) (other-kind c.in-Address.is c.in_default-kind.not-Scope)

pub returns-in_default-clause-frees : goal.returns-in_default-clause-frees
returns-in_default-clause-frees c = other-comes c.requires.0 c.args.h.0 (need_of c.args.d) (no-address c.args.d c.in_default.not-Address)
