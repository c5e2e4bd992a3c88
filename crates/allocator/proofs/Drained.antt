-- The dangling list in lent numbers: 17 where they are too few, else at their front. Assumes nothing.
use mathlib.Core.Path.{◌≡◌, sym, ap, ◌∙◌}
use mathlib.Core.List.{List, ◌++◌}
use Prim.Native.Nat.{ℕ, ◌≤◌, ◌<◌}
use native.Mathlib.Omega.{arith}
use lib.ListN.{length, take, drop}
use lib.Seq.{length-take-le}
use borrow.Author.Tests.{le-leb, lt-leb}
use Rattle.std.specs.Prelude.{Ok, Err}
use Rattle.rules.specs.Notation.{given, provided◌then◌else◌}
use Rattle.rules.specs.Scopes as rule
use Rattle.scopes.specs.View.{view}
use Rattle.scopes.specs.declared.Scopes.{Scopes}
use Rattle.allocator.specs.Drained.{drained, seen_drain}
use Rattle.rules.specs.declared.refusal.Refusal.TheVariants.{MemoryTooShort}

-- ---- by what was drained onto a page

module _ (s : Scopes) (lent page : List ℕ) (n : ℕ) (is : take n page ≡ (rule.drain_dangling (view s)).0) (fits : n ≤ length page) where
  count-is : length (rule.drain_dangling (view s)).0 ≡ n
  count-is = sym (ap length is) ∙ length-take-le n page fits

  pub short : length lent < n → seen_drain (record { state = s; answer = Err MemoryTooShort }, lent) ≡ drained (view s) lent
  unfolding drained provided◌then◌else◌
  short h = rw (lt-leb (length (rule.drain_dangling (view s)).0) (length lent) (omega (arith, count-is)), provided◌then◌else◌)

  pub handed : (t : Scopes) (out : List ℕ) → n ≤ length lent → view t ≡ (rule.drain_dangling (view s)).1 → out ≡ take n page ++ drop n lent
      → seen_drain (record { state = t; answer = Ok n }, out) ≡ drained (view s) lent
  unfolding drained provided◌then◌else◌
  handed t out h v o =
      let m : n ≡ length (rule.drain_dangling (view s)).0 = sym count-is in
      rw (le-leb (length (rule.drain_dangling (view s)).0) (length lent) (omega (arith, count-is)), provided◌then◌else◌)
      (λ i. record { next = v i; says = given (m i); lent = (o ∙ (λ j. is j ++ drop (m j) lent)) i })
