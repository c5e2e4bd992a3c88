-- How large the digits so far may be. Assumes nothing.
use mathlib.Core.Path.{◌≡◌, refl}
use Prim.Native.Nat.{ℕ, ◌*◌, ◌-◌, ◌%◌, ◌^◌, ◌≤◌, ◌<◌}
use native.Mathlib.Omega.{arith}
use Rattle.rules.specs.Recordings.{limit}
use Rattle.rules.proofs.Readers.{columns}

pub shifted : (k : ℕ) → 3 ≤ k → k < 7 → 1 * 2 ^ (4 * k - 8) % 2 ^ 64 ≡ limit k
unfolding limit
shifted k l h =
    columns (λ (k : ℕ). 3 ≤ k → k < 7 → 1 * 2 ^ (4 * k - 8) % 2 ^ 64 ≡ limit k)
    (λ l h. absurd (omega arith))
    (λ l h. absurd (omega arith))
    (λ l h. absurd (omega arith))
    (λ l h. refl)
    (λ l h. refl)
    (λ l h. refl)
    (λ l h. refl)
    (λ l h. absurd (omega arith))
    k (omega arith) l h
