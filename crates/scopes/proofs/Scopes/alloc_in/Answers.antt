-- A slot for the scope with an id. Assumes nothing.
use Rattle.std.proofs.Common.{ap}
use Rattle.scopes.specs.View.{view, told}
use Rattle.scopes.proofs.Becoming.{refuses, instead}
use Rattle.scopes.proofs.Allocs.{alloc-in-none, alloc-in-is}
use Rattle.scopes.proofs.Scopes.alloc_in.Goals as goal

pub returns-in_default : goal.returns-in_default
returns-in_default c = refuses c.args.self.now _ _ c.requires (alloc-in-none _ c.args.self.now _ c.in_default.ensures.is)

pub returns : goal.returns
returns c = instead _ _ _ _ _ (ap (told (λ a. a) (view c.args.self.now)) (alloc-in-is _ c.args.self.now _ _ c.in-Some.ensures.is)) c.alloc_at.ensures
