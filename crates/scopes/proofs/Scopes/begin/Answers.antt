-- A blank state becomes the fresh one. Assumes nothing.
use borrow.Author.Rules.{rules}
use mathlib.Core.Path.{◌≡◌, sym, subst}
use Rattle.rules.specs.Scopes.{fresh_scopes}
use Rattle.scopes.specs.View.{view}
use Rattle.scopes.specs.Steps.{Whole}
use Rattle.scopes.specs.declared.Scopes.{Scopes}
use Rattle.scopes.proofs.Start.{begun, fresh-view, fresh-sound, fresh-sized}
use Rattle.scopes.proofs.Scopes.begin.Goals as goal

pub returns : goal.returns
returns c =
    subst (λ (x : Scopes). (view x ≡ fresh_scopes) × Whole x) (sym (begun c.args.self.now c.clear.new.t c.requires))
    (fresh-view c.clear.new.t c.clear.ensures, record { sound = fresh-sound c.clear.new.t c.clear.ensures; sized = fresh-sized c.clear.new.t (search rules) })
