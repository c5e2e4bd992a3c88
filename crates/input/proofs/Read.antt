-- What was read whole is within the buffer. Assumes nothing.
use mathlib.Core.Path.{◌≡◌, sym, subst}
use mathlib.Core.List.{List}
use Prim.Native.Nat.{ℕ, ◌≤◌}
use native.Mathlib.Omega.{arith}
use lib.ListN.{length, take}
use lib.Seq.{length-take-le}
use Rattle.input.specs.Within.{Within}
use Rattle.input.specs.declared.Input.{Input}
use Rattle.input.specs.declared.Input.TheVariants.{Whole}

module _ (r : Input) (n most : ℕ) (buf : List ℕ) (w : Within r most) (l : length buf ≡ most) (e : r ≡ Whole n) where
  pub whole_in_lem : n ≤ length buf
  whole_in_lem = let h : Within (Whole n) most = subst (λ (x : Input). Within x most) e w in omega (arith, h)

  pub whole-all : n ≡ length (take n buf)
  whole-all = sym (length-take-le n buf whole_in_lem)
