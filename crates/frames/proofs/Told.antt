-- What a step adds of what an operation answered, and what a refused operation leaves. Assumes nothing.
use mathlib.Core.Path.{◌≡◌, refl, sym, ap, ◌∙◌}
use mathlib.Core.Bool.{true}
use mathlib.Core.Option.{Option, none, some}
use mathlib.Core.List.{List}
use Prim.Native.Nat.{ℕ}
use Rattle.std.specs.Prelude.{Result, Ok, Err}
use Rattle.std.specs.Result.{is_err, IsErrAnd}
use Rattle.std.proofs.lemmas.Result.{err_from_is_err_and}
use Rattle.rules.specs.Notation.{Answer, given, refused, ◌>>=◌, refuse◌unless◌}
use Rattle.rules.specs.Refusals.{number_of, says}
use Rattle.rules.specs.declared.refusal.Refusal.{Refusal}
use Rattle.rules.specs.Scopes as rule
use Rattle.rules.specs.Frames.{State, Step, one_line}
use Rattle.rules.proofs.Tells.{clash}
use Rattle.scopes.specs.View.{Seen, told, told_only, replied}
use Rattle.scopes.specs.Steps.{is_refusal}
use Rattle.frames.specs.Steps.{line_of, stepped, Few}
use Rattle.frames.specs.declared.steps.Adds.{Adds}

-- what a `?` hands on is the refusal that was answered
pub handed-on : {T : Type 0} {d : Refusal} (r : Result T Refusal) → IsErrAnd r (λ y. y ≡ d) → r ≡ Err d
handed-on r h = let p = err_from_is_err_and r h in p.1 ∙ ap Err p.2

pub given-refused {ℓ} : {X : Type ℓ} {B : Type 0} {b : B} {n : ℕ} → given b ≡ refused n → X
given-refused e = clash refl (sym (ap is_refusal e))

-- a refusal of what isn't there: it was, or it wasn't
module _ {A : Type 0} (n : ℕ) (o : Option A) where
  pub unless-ok : {x : A} → given x ≡ (refuse n unless o) → o ≡ some x
  unfolding refuse◌unless◌
  unless-ok {x} e = go o refl
    where
      go : (p : Option A) → o ≡ p → o ≡ some x
      go none q = given-refused (e ∙ ap (λ (z : Option A). refuse n unless z) q)
      go (some y) q = let z = e ∙ ap (λ (z : Option A). refuse n unless z) q in let same : x ≡ y = cc in q ∙ ap some (sym same)

  pub unless-err : (e : Refusal) → refused (number_of e) ≡ (refuse n unless o) → (o ≡ none) × (number_of e ≡ n)
  unfolding refuse◌unless◌
  unless-err e q = go o refl
    where
      go : (p : Option A) → o ≡ p → (o ≡ none) × (number_of e ≡ n)
      go none p = (p, let z = q ∙ ap (λ (z : Option A). refuse n unless z) p in cc)
      go (some y) p = given-refused (sym (q ∙ ap (λ (z : Option A). refuse n unless z) p))

-- of what was answered k is added; a refusal is handed on
abbrev pub adding : {V : Type 0} → (V → Adds) → Result V Refusal → Result Adds Refusal
adding k (Ok v) = Ok (k v)
adding k (Err e) = Err e

pub few-adding : {V : Type 0} (k : V → Adds) → ((v : V) → Few (Ok (k v))) → (r : Result V Refusal) → Few (adding k r)
few-adding k h (Ok v) = h v
few-adding k h (Err e) = tt

module _ {V B : Type 0} (f : V → B) (k : V → Adds) where
  pub refusal-kept : (r : Result V Refusal) → is_err (adding k r) ≡ true → is_refusal (says f r) ≡ true
  refusal-kept (Ok v) q = clash q refl
  refusal-kept (Err e) q = refl

  module _ (o : ℕ) (t : State) (drained : List ℕ) where
    pub as-refused : (r : Result V Refusal) (n : ℕ) → says f r ≡ refused n → refused n ≡ stepped o (adding k r) t drained
    as-refused (Ok v) n e = given-refused e
    as-refused (Err x) n e = ap refused (let q : _ ≡ n = cc in sym q)

    pub as-given : (r : Result V Refusal) (b : B) → says f r ≡ given b → (m : Step) → ((v : V) → r ≡ Ok v → f v ≡ b → m ≡ one_line (line_of o (k v) drained) t) → m ≡ stepped o (adding k r) t drained
    as-given (Ok v) b e m h = h v refl (cc)
    as-given (Err x) b e m h = given-refused (sym e)

    -- a chain that goes on with what the rule gives, where the code answered r
    pub told-then : {A : Type 0} (g : A → B) (c d : rule.Scopes) (r : Result V Refusal) (ans : Answer (A × rule.Scopes)) → record { next = d; says = says f r } ≡ told g c ans → (K : A × rule.Scopes → Step)
        → ((x : A × rule.Scopes) (v : V) → ans ≡ given x → d ≡ x.1 → r ≡ Ok v → f v ≡ g x.0 → K x ≡ one_line (line_of o (k v) drained) t) → (ans >>= K) ≡ stepped o (adding k r) t drained
    unfolding ◌>>=◌
    told-then g c d r (given x) e K h = as-given r (g x.0) (ap (λ (z : Seen B). z.says) e) (K x) (λ v is q. h x v refl (ap (λ (z : Seen B). z.next) e) is q)
    told-then g c d r (refused n) e K h = as-refused r n (ap (λ (z : Seen B). z.says) e)

    pub replied-then : {A : Type 0} (g : A → B) (r : Result V Refusal) (ans : Answer A) → says f r ≡ replied g ans → (K : A → Step)
        → ((x : A) (v : V) → ans ≡ given x → r ≡ Ok v → f v ≡ g x → K x ≡ one_line (line_of o (k v) drained) t) → (ans >>= K) ≡ stepped o (adding k r) t drained
    unfolding ◌>>=◌
    replied-then g r (given x) e K h = as-given r (g x) e (K x) (λ v is q. h x v refl is q)
    replied-then g r (refused n) e K h = as-refused r n e

-- .. where the rule gives the next state alone
module _ {V : Type 0} (f : V → Unit {0}) (k : V → Adds) (o : ℕ) (t : State) (drained : List ℕ) where
  pub only-then : (c d : rule.Scopes) (r : Result V Refusal) (ans : Answer rule.Scopes) → record { next = d; says = says f r } ≡ told_only c ans → (K : rule.Scopes → Step)
      → ((x : rule.Scopes) (v : V) → ans ≡ given x → d ≡ x → r ≡ Ok v → K x ≡ one_line (line_of o (k v) drained) t) → (ans >>= K) ≡ stepped o (adding k r) t drained
  unfolding ◌>>=◌
  only-then c d r (given x) e K h = as-given f k o t drained r tt (ap (λ (z : Seen (Unit {0})). z.says) e) (K x) (λ v is _. h x v refl (ap (λ (z : Seen (Unit {0})). z.next) e) is)
  only-then c d r (refused n) e K h = as-refused f k o t drained r n (ap (λ (z : Seen (Unit {0})). z.says) e)
