-- Cells after two stores. Assumes nothing.
use mathlib.Core.Path.{◌≡◌, sym, ◌∙◌}
use mathlib.Core.Logic.{◌≢◌}
use Prim.Native.Nat.{ℕ}
use Rattle.rules.specs.Notation.{put}
use Rattle.rules.proofs.Tables.{put_same, put_other}

module _ (f : ℕ → ℕ) (i v j w : ℕ) where
  pub get-second : put (put f i v) j w j ≡ w
  get-second = put_same (put f i v) j w

  pub get_first : i ≢ j → put (put f i v) j w i ≡ v
  get_first n = put_other (put f i v) j w i (λ e. n (sym e)) ∙ put_same f i v

  pub get_other : (k : ℕ) → k ≢ i → k ≢ j → put (put f i v) j w k ≡ f k
  get_other k n q = put_other (put f i v) j w k (λ e. q (sym e)) ∙ put_other f i v k (λ e. n (sym e))
