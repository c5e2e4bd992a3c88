-- A slot for the top scope. Assumes nothing.
use Rattle.std.proofs.Common.{ap}
use Rattle.scopes.specs.View.{view, told}
use Rattle.scopes.proofs.Becoming.{passes, instead}
use Rattle.scopes.proofs.Allocs.{alloc-no-top, alloc-top}
use Rattle.scopes.proofs.Scopes.alloc.Goals as goal

pub returns-in_err-top : goal.returns-in_err-top
returns-in_err-top c = passes c.args.self.now _ _ _ _ c.from_residual.ensures.1 c.requires (alloc-no-top _ c.args.self.now _ c.in_err-top.ensures)

pub returns : goal.returns
returns c = instead _ _ _ _ _ (ap (told (λ a. a) (view c.args.self.now)) (alloc-top _ c.args.self.now _ c.in_ok-top.ensures)) c.alloc_at.ensures
