-- A run from its last address to its first, and what freeing each of them in that order comes to. Assumes nothing.
use mathlib.Core.Path.{◌≡◌, refl, ap, ◌∙◌}
use mathlib.Core.Bool.{Bool, true, false}
use mathlib.Core.List.{List, [], ◌∷◌, ◌++◌, reverse, reverse_aux, reverse-append}
use Prim.Native.Nat.{ℕ, zero, suc, ◌+◌}
use native.Mathlib.Omega.{arith}
use Rattle.rules.specs.Notation.{Answer, given, refused, ◌>>=◌}
use Rattle.rules.specs.AddressSets.{run}
use Rattle.rules.specs.Scopes.{Scopes}
use Rattle.rules.specs.Needs as need
use Rattle.needs.specs.Kinds.{addresses}
use Rattle.needs.proofs.Runs.{of_kind}
use Rattle.allocations.specs.Inner.{down_from, back_each}
use Rattle.allocations.proofs.Frees.{freed_in, free-spent, free-kept, free_back}
use Rattle.allocations.proofs.Keeps.{back-goes}

-- ---- the order

run-last : (a n : ℕ) → run a (suc n) ≡ run a n ++ ((a + n) ∷ [])
unfolding run
run-last a zero = ap (λ (b : ℕ). b ∷ []) (omega arith)
run-last a (suc n) = ap (λ (l : List ℕ). a ∷ l) (run-last (suc a) n ∙ ap (λ (b : ℕ). run (suc a) n ++ (b ∷ [])) (omega arith))

pub down_run : (a n : ℕ) → reverse (run a n) ≡ down_from a n
unfolding run down_from
down_run a zero = refl
down_run a (suc n) = ap reverse (run-last a n) ∙ reverse-append (run a n) ((a + n) ∷ []) ∙ ap (λ (l : List ℕ). (a + n) ∷ l) (down_run a n)

reverse_onto : (k : need.Kind) (l r : List ℕ) → reverse_aux (of_kind k l) (of_kind k r) ≡ of_kind k (reverse_aux l r)
reverse_onto k [] r = refl
reverse_onto k (a ∷ l) r = reverse_onto k l (a ∷ r)

pub run_down : (k : need.Kind) (a n : ℕ) → reverse (addresses k a n) ≡ of_kind k (down_from a n)
run_down k a n = reverse_onto k (run a n) [] ∙ ap (of_kind k) (down_run a n)

-- ---- each of them is freed

module _ (dangles : Bool) (k : need.Kind) where
  pub each_spent : (a : ℕ) (l : List ℕ) (c : Scopes) → need.is_freed k ≡ true → need.free_each dangles (of_kind k (a ∷ l)) c ≡ refused 13
  unfolding need.free_each ◌>>=◌
  each_spent a l c e = rw (free-spent dangles a k c e)

  pub each-kept : (l : List ℕ) (c : Scopes) → need.is_freed k ≡ false → need.goes_back c k ≡ false → need.free_each dangles (of_kind k l) c ≡ given c
  unfolding need.free_each ◌>>=◌
  each-kept [] c e g = refl
  each-kept (a ∷ l) c e g = rw (free-kept dangles a k c e g) (each-kept l c e g)

  pub each_back : (l : List ℕ) (c : Scopes) → need.is_freed k ≡ false → need.goes_back c k ≡ true → need.free_each dangles (of_kind k l) c ≡ back_each dangles l c
  unfolding need.free_each back_each ◌>>=◌
  each_back [] c e g = refl
  each_back (a ∷ l) c e g =
      ap (λ (m : Answer (need.Address × Scopes)). m >>= λ r. need.free_each dangles (of_kind k l) r.1) (free_back dangles a k c e g)
      ∙ go (need.give_back dangles a c) (λ d p. each_back l d e ((back-goes dangles a c k).at d p ∙ g))
    where
      go : (m : Answer Scopes) → ((d : Scopes) → m ≡ given d → need.free_each dangles (of_kind k l) d ≡ back_each dangles l d)
          → ((m >>= freed_in a) >>= λ r. need.free_each dangles (of_kind k l) r.1) ≡ (m >>= back_each dangles l)
      go (given d) more = more d refl
      go (refused n) more = refl
