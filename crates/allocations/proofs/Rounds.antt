-- The loop that gives a run's slots back, and freeing a run by cases. Assumes nothing.
use mathlib.Core.Path.{◌≡◌, refl, sym, ap, ◌∙◌}
use mathlib.Core.Bool.{Bool, true, false}
use mathlib.Core.List.{List}
use Prim.Native.Nat.{ℕ, suc, ◌+◌, ◌-◌, ◌<◌}
use native.Mathlib.Omega.{arith}
use Rattle.rules.specs.Notation.{Answer, given, refused, ◌>>=◌}
use Rattle.rules.specs.Scopes.{Scopes}
use Rattle.rules.specs.Needs as need
use Rattle.rules.specs.Sizes.{WORD}
use Rattle.scopes.specs.View.{view, told, told_only, replied}
use Rattle.scopes.specs.Steps.{Whole, Becomes}
use Rattle.scopes.specs.declared.Scopes as state
use Rattle.needs.specs.Kinds.{addresses}
use Rattle.needs.proofs.Runs.{of_kind}
use Rattle.allocations.specs.Inner.{down_from, back_each}
use Rattle.allocations.proofs.Goes.{told-as, goes-with, stays}
use Rattle.allocations.proofs.Keeps.{no_slot}
use Rattle.allocations.proofs.Downwards.{run_down, each_spent, each-kept, each_back}

some_more : {n : ℕ} → (n ≡ 0 → ⊥) → n ≡ suc (n - 1)
some_more z = omega (arith, z)

-- ---- one turn

module _ (dangles : Bool) (a : ℕ) where
  pub down_step : (i j : ℕ) (c : Scopes) → i ≡ suc j → back_each dangles (down_from a i) c ≡ (need.give_back dangles (a + j) c >>= back_each dangles (down_from a j))
  unfolding down_from back_each
  down_step i j c e = ap (λ (n : ℕ). back_each dangles (down_from a n) c) e

  pub down-none : (i : ℕ) (c : Scopes) → i ≡ 0 → back_each dangles (down_from a i) c ≡ given c
  unfolding down_from back_each
  down-none i c e = ap (λ (n : ℕ). back_each dangles (down_from a n) c) e

  -- the slot b, which comes first of i, went back
  pub turn-done : (i j b : ℕ) (c d : Scopes) → i ≡ suc j → b ≡ a + j → need.give_back dangles b c ≡ given d → back_each dangles (down_from a j) d ≡ back_each dangles (down_from a i) c
  unfolding ◌>>=◌
  turn-done i j b c d e p g =
      sym (down_step i j c e ∙ ap (λ (m : Answer Scopes). m >>= back_each dangles (down_from a j)) (ap (λ (x : ℕ). need.give_back dangles x c) (sym p) ∙ g))

  -- .. or was refused
  pub turn-refused : (i j b n : ℕ) (c : Scopes) → i ≡ suc j → b ≡ a + j → need.give_back dangles b c ≡ refused n → back_each dangles (down_from a i) c ≡ refused n
  unfolding ◌>>=◌
  turn-refused i j b n c e p g =
      down_step i j c e ∙ ap (λ (m : Answer Scopes). m >>= back_each dangles (down_from a j)) (ap (λ (x : ℕ). need.give_back dangles x c) (sym p) ∙ g)

-- the last address goes first, and is no slot
pub far-refused : {s : state.Scopes} → Whole s → (dangles : Bool) (a n : ℕ) → a < WORD → WORD < a + n → back_each dangles (down_from a n) (view s) ≡ refused 12
far-refused {s} whole dangles a n l h = turn-refused dangles a n (n - 1) (a + (n - 1)) 12 (view s) (omega arith) refl (no_slot s whole.sound dangles (a + (n - 1)) (omega arith))

-- ---- a run is freed: empty, Freed, kept by its owner, given back

module _ (dangles : Bool) (k : need.Kind) (a n : ℕ) (c : Scopes) where
  abbrev freed_run : Scopes → Answer (List need.Address × Scopes)
  freed_run d = given (need.forget_run (addresses k a n), d)

  each : need.free_run dangles (addresses k a n) c ≡ (need.free_each dangles (of_kind k (down_from a n)) c >>= freed_run)
  unfolding need.free_run need.forget_run
  each = ap (λ (l : List need.Address). need.free_each dangles l c >>= freed_run) (run_down k a n)

  freed-each : (m : Answer Scopes) → need.free_each dangles (of_kind k (down_from a n)) c ≡ m → need.free_run dangles (addresses k a n) c ≡ (m >>= freed_run)
  freed-each m e = each ∙ ap (λ (x : Answer Scopes). x >>= freed_run) e

  pub run-empty : n ≡ 0 → need.free_run dangles (addresses k a n) c ≡ freed_run c
  unfolding down_from need.free_each ◌>>=◌
  run-empty e = freed-each (given c) (ap (λ (i : ℕ). need.free_each dangles (of_kind k (down_from a i)) c) e)

  pub run-spent : (n ≡ 0 → ⊥) → need.is_freed k ≡ true → need.free_run dangles (addresses k a n) c ≡ refused 13
  unfolding down_from ◌>>=◌
  run-spent z e =
      freed-each (refused 13)
      (ap (λ (i : ℕ). need.free_each dangles (of_kind k (down_from a i)) c) (some_more z) ∙ each_spent dangles k (a + (n - 1)) (down_from a (n - 1)) c e)

  pub run-kept : need.is_freed k ≡ false → need.goes_back c k ≡ false → need.free_run dangles (addresses k a n) c ≡ freed_run c
  unfolding ◌>>=◌
  run-kept e g = freed-each (given c) (each-kept dangles k (down_from a n) c e g)

  pub run-back : need.is_freed k ≡ false → need.goes_back c k ≡ true → need.free_run dangles (addresses k a n) c ≡ (back_each dangles (down_from a n) c >>= freed_run)
  run-back e g = freed-each _ (each_back dangles k (down_from a n) c e g)

-- ---- of the state s, which is whole

module _ {s : state.Scopes} (whole : Whole s) (dangles : Bool) (k : need.Kind) (a n : ℕ) where
  pub run-freed-empty : n ≡ 0 → Becomes s s (given (need.forget_run (addresses k a n))) (λ c. told (λ l. l) c (need.free_run dangles (addresses k a n) c))
  run-freed-empty z = stays whole (ap (told (λ l. l) (view s)) (run-empty dangles k a n (view s) z))

  pub run-freed-spent : (n ≡ 0 → ⊥) → need.is_freed k ≡ true → Becomes s s (refused 13) (λ c. told (λ l. l) c (need.free_run dangles (addresses k a n) c))
  run-freed-spent z e = stays whole (ap (told (λ l. l) (view s)) (run-spent dangles k a n (view s) z e))

  pub run-freed-kept : need.is_freed k ≡ false → need.goes_back (view s) k ≡ false
      → Becomes s s (given (need.forget_run (addresses k a n))) (λ c. told (λ l. l) c (need.free_run dangles (addresses k a n) c))
  run-freed-kept e g = stays whole (ap (told (λ l. l) (view s)) (run-kept dangles k a n (view s) e g))

  pub run-freed-back : need.is_freed k ≡ false → need.goes_back (view s) k ≡ true
      → {t : state.Scopes} (r : Answer (Unit {0})) → Becomes s t r (λ c. told_only c (back_each dangles (down_from a n) c))
      → Becomes s t (replied (λ u. need.forget_run (addresses k a n)) r) (λ c. told (λ l. l) c (need.free_run dangles (addresses k a n) c))
  run-freed-back e g {t} r h =
      told-as (ap (told (λ l. l) (view s)) (sym (run-back dangles k a n (view s) e g))) (goes-with (back_each dangles (down_from a n)) (need.forget_run (addresses k a n)) r h)
