-- Which scope is popped, and by which number it is refused; root at the end. Assumes nothing.
use Rattle.std.proofs.Common.{Ok, Err, ◌≡◌, ℕ, Bool, true, false, get_or, sym, refl, ap, ◌∙◌}
use mathlib.Core.Option.{Option}
use Rattle.rules.specs.Notation.{Answer, given, refused, ◌>>=◌, refuse◌unless◌, refuse◌when◌}
use Rattle.rules.specs.Refusals.{number_of}
use Rattle.rules.specs.declared.refusal.Refusal.{Refusal}
use Rattle.rules.specs.Sizes.{base}
use Rattle.rules.specs.Scopes as rule
use Rattle.scopes.specs.View.{view, found_at, told_only}
use Rattle.scopes.specs.Sound.{Sound}
use Rattle.scopes.specs.Leaves.{Admits, Tops}
use Rattle.scopes.specs.Steps.{shut}
use Rattle.scopes.specs.declared.Scopes.{Scopes}
use Rattle.scopes.proofs.Finds.{Topped}
use Rattle.scopes.proofs.Refusals.{refused-by, admitted}
use Rattle.scopes.proofs.Marks.{leads-root}

-- ---- pop

module _ (s : Scopes) (id : rule.Id) where
  abbrev o : Option rule.Found
  o = rule.by_id base (view s) id

  pub pop-refused : (e : Refusal) → Admits s false o (Err e) → record { next = view s; says = refused (number_of e) } ≡ told_only (view s) (rule.pop_scope base o (view s))
  unfolding rule.pop_scope rule.poppable ◌>>=◌
  pop-refused e a = sym (ap (λ (x : Answer rule.Found). told_only (view s) (x >>= λ k. given (rule.closed k (view s)))) (refused-by false _ s o e a))

  pub pop-shuts : (i : ℕ) → Admits s false o (Ok i) → rule.pop_scope base o (view s) ≡ shut (found_at s i) (view s)
  unfolding rule.pop_scope rule.poppable ◌>>=◌ refuse◌when◌
  pop-shuts i a =
      ap (λ (x : Answer rule.Found). x >>= λ k. given (rule.closed k (view s))) (admitted false _ s o i a)
      ∙ tested (rule.has_child base (view s) i)
    where
      tested : (b : Bool) → ((refuse 6 when b >>= λ _. given (found_at s i)) >>= λ k. given (rule.closed k (view s))) ≡ (refuse 6 when b >>= λ _. given (rule.closed (found_at s i) (view s)))
      tested true = refl
      tested false = refl

-- ---- pop last

module _ (s : Scopes) where
  pub last-no-top : (e : Refusal) → Tops s (Err e) → record { next = view s; says = refused (number_of e) } ≡ told_only (view s) (rule.pop_last_scope base (view s))
  unfolding rule.pop_last_scope rule.last_poppable ◌>>=◌
  last-no-top e t = rw (sym t.is)

  -- where there is a top, root is live
  pub root_live : Sound s → Topped s → get_or s.live 0 false ≡ true
  root_live h t = (leads-root (h.rooted.leads s.top t.live)).0

  pub last-shuts : Sound s → Topped s → rule.pop_last_scope base (view s) ≡ shut (found_at s 0) (view s)
  unfolding rule.pop_last_scope rule.last_poppable ◌>>=◌ refuse◌unless◌ refuse◌when◌
  last-shuts h t = go (rule.has_child base (view s) 0) refl
    where
      go : (b : Bool) → rule.has_child base (view s) 0 ≡ b → rule.pop_last_scope base (view s) ≡ shut (found_at s 0) (view s)
      go true q = rw (t.is, root_live h t, q)
      go false q = rw (t.is, root_live h t, q)

-- ---- what closing comes to

module _ (s : Scopes) (i : ℕ) (r : Bool) (e : r ≡ rule.has_child base (view s) i) where
  pub shut-child : r ≡ true → record { next = view s; says = refused 6 } ≡ told_only (view s) (shut (found_at s i) (view s))
  unfolding ◌>>=◌ refuse◌when◌
  shut-child l = rw (sym e ∙ l)

  pub shut-closes : r ≡ false → (c : rule.Scopes) → c ≡ rule.closed (found_at s i) (view s) → record { next = c; says = given tt } ≡ told_only (view s) (shut (found_at s i) (view s))
  unfolding ◌>>=◌ refuse◌when◌
  shut-closes l c w = rw (sym e ∙ l) (λ t. record { next = w t; says = given tt })
