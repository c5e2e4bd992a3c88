-- What an operation promises, where it refuses and where it is done. Assumes nothing.
use Rattle.std.proofs.Common.{◌≡◌, ℕ, refl, ◌∙◌}
use Rattle.std.specs.Prelude.{Result}
use Rattle.std.specs.Result.{IsErrAnd}
use Rattle.std.proofs.lemmas.Result.{err_from_is_err_and}
use Rattle.rules.specs.Notation.{Answer, given, refused}
use Rattle.rules.specs.Refusals.{number_of, says}
use Rattle.rules.specs.declared.refusal.Refusal.{Refusal}
use Rattle.rules.specs.Scopes as rule
use Rattle.rules.proofs.Tells.{clash}
use Rattle.scopes.specs.View.{view, Seen}
use Rattle.scopes.specs.Steps.{Whole, Becomes}
use Rattle.scopes.specs.declared.Scopes.{Scopes}

-- a refusal leaves the state
pub refuses : {B : Type 0} (s : Scopes) (n : ℕ) (f : rule.Scopes → Seen B) → Whole s → record { next = view s; says = refused n } ≡ f (view s) → Becomes s s (refused n) f
refuses s n f h e = record { is = e; whole = h; kept = λ _. refl }

-- the same where the rule is said otherwise
pub instead : {B : Type 0} (s t : Scopes) (x : Answer B) (f g : rule.Scopes → Seen B) → f (view s) ≡ g (view s) → Becomes s t x f → Becomes s t x g
instead s t x f g e b = record { is = b.is ∙ e; whole = b.whole; kept = b.kept }

-- a function that passes a refusal on by `?`: what its result says
pub passes : {V B : Type 0} (s : Scopes) (g : V → B) (r : Result V Refusal) (e : Refusal) (f : rule.Scopes → Seen B) → IsErrAnd r (λ d. d ≡ e) → Whole s → record { next = view s; says = refused (number_of e) } ≡ f (view s)
    → Becomes s s (says g r) f
passes s g r e f i h q = let p = err_from_is_err_and r i in rw (p.1, p.2) (refuses s (number_of e) f h q)

pub does : {B : Type 0} (s t : Scopes) (x : B) (f : rule.Scopes → Seen B) → record { next = view t; says = given x } ≡ f (view s) → Whole t → Becomes s t (given x) f
does s t x f e h = record { is = e; whole = h; kept = λ q. clash q refl }
