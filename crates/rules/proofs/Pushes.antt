-- A run is n pushes, one after another: on any slots, sound or not. Assumes nothing.
use mathlib.Core.Path.{◌≡◌, refl, sym, ap, ◌∙◌}
use mathlib.Core.Bool.{Bool, true, false}
use mathlib.Core.Option.{Option, none}
use Prim.Native.Nat.{ℕ, zero, suc, ◌+◌, ◌*◌, ◌≤◌, ◌<◌}
use native.Mathlib.Omega.{arith}
use lib.Dec.{ltb}
use borrow.Author.Tests.{eq-eqb, ne_eqb, ltb-true, ltb-false}
use Rattle.rules.specs.Notation.{given, refused}
use Rattle.rules.specs.Slots.{Slots, Placed, placed, past_greatest, push_at, push, pushes, push_run}
use Rattle.rules.specs.AddressSets.{run}
use Rattle.rules.specs.Pushes.{push_times, addresses_by, RunIsPushes}
use Rattle.rules.proofs.Chains.{unless-some, unless-none, refused-on}
use Rattle.rules.proofs.Tells.{is_false}
use Rattle.rules.proofs.Tables.{by_eqb, put_same, put_other}
use Rattle.rules.proofs.Searches.{past-within, past-above, past_is}
use Rattle.rules.proofs.Blanks.{then-given}

module _ (m : ℕ) where
  -- ---- a push

  past_fits : (s : Slots) → past_greatest m s ≤ 128 * m
  unfolding past_greatest
  past_fits s = past-within s.occupied (128 * m)

  -- by its test, whether g is past the last slot
  abbrev tested : Slots → Bool → Option Placed
  tested s full = elim full [ true ↦ none | false ↦ placed (past_greatest m s) (push_at (past_greatest m s) s) ]

  push-full : (s : Slots) → past_greatest m s ≡ 128 * m → push m s ≡ none
  unfolding push
  push-full s e = ap (tested s) (eq-eqb (past_greatest m s) (128 * m) e)

  push-fits : (s : Slots) → past_greatest m s < 128 * m → push m s ≡ placed (past_greatest m s) (push_at (past_greatest m s) s)
  unfolding push
  push-fits s l = ap (tested s) (ne_eqb (past_greatest m s) (128 * m) (λ e. omega arith))

  -- the next one is for the slot behind it
  push-next : (s : Slots) → past_greatest m s < 128 * m → past_greatest m (push_at (past_greatest m s) s) ≡ suc (past_greatest m s)
  unfolding past_greatest push_at
  push-next s l =
      past_is _ (128 * m) _ l (put_same s.occupied _ true)
      (λ b above r. put_other s.occupied _ true b (λ q. omega arith) ∙ is_false (s.occupied b) (λ q. omega (arith, past-above s.occupied (128 * m) b r q)))

  -- ---- n of them

  times-fit : (n : ℕ) (s : Slots) → past_greatest m s + n ≤ 128 * m → push_times m n s ≡ given (run (past_greatest m s) n, pushes (past_greatest m s) n s)
  unfolding push_times run pushes
  times-fit zero s l = refl
  times-fit (suc n) s l =
      let fits : past_greatest m s < 128 * m = omega arith in
      unless-some 7 _ (push-fits s fits) ∙ then-given _ (times-fit n (push_at (past_greatest m s) s) (omega (arith, push-next s fits))) ∙ rw (push-next s fits)

  times-past : (n : ℕ) (s : Slots) → 128 * m < past_greatest m s + n → push_times m n s ≡ refused 7
  unfolding push_times
  times-past zero s l = absurd (omega (arith, past_fits s))
  times-past (suc n) s l =
      by_eqb (past_greatest m s) (128 * m)
      (λ e. unless-none 7 _ (push-full s e))
      (λ ne.
      let fits : past_greatest m s < 128 * m = omega (arith, ne, past_fits s) in
      unless-some 7 _ (push-fits s fits) ∙ refused-on 7 _ (times-past n (push_at (past_greatest m s) s) (omega (arith, push-next s fits))))

  -- ---- the run

  run-told : (n : ℕ) (s : Slots) → addresses_by (push_run m) n s ≡ push_times m n s
  unfolding addresses_by push_run
  run-told n s = go (ltb (128 * m) (past_greatest m s + n)) refl
    where
      go : (b : Bool) → ltb (128 * m) (past_greatest m s + n) ≡ b → addresses_by (push_run m) n s ≡ push_times m n s
      go true e = unless-none 7 _ (rw (e, push_run)) ∙ sym (times-past n s (ltb-true (128 * m) (past_greatest m s + n) e))
      go false e = unless-some 7 _ (rw (e, push_run)) ∙ sym (times-fit n s (ltb-false (128 * m) (past_greatest m s + n) e))

pub run-is-pushes : RunIsPushes
unfolding RunIsPushes
run-is-pushes = run-told
