-- What an answer tells, and facts place by place. Assumes nothing.
use mathlib.Core.Path.{◌≡◌, refl, sym, ◌∙◌, subst}
use mathlib.Core.Bool.{Bool, true, false}
use mathlib.Core.List.{List}
use Prim.Native.Nat.{ℕ, ◌+◌, ◌-◌, ◌≤◌, ◌<◌}
use native.Mathlib.Omega.{arith}
use lib.ListN.{length, get_or}
use Rattle.std.specs.Bool.{MatchBool}
use Rattle.std.specs.List.{AllWithin, HoldsAt, range_with_len}
use Rattle.std.proofs.lemmas.List.FromFn.{length-range_with_len, get_or-range_with_len}
use Rattle.rules.specs.Tells.{Tells}
use Rattle.rules.proofs.Tells.{clash, is_false, tells-no, tells-yes, tells_as}
use Rattle.soundness.specs.Parts.{Below}

-- a test that failed tells of each greater fact that it does not hold
pub fails-with : {r : Bool} {P Q : Type 0} → Tells r P → r ≡ false → (Q → P) → Tells r Q
fails-with t e f = record { holds = λ h. clash h e; shows = λ q. t.shows (f q) }

-- two answers that tell one fact are the same
pub told-one : {r q : Bool} {P : Type 0} → Tells r P → Tells q P → r ≡ q
told-one {r = true} t u = sym (u.shows (t.holds refl))
told-one {r = false} {q = q} t u = sym (is_false q (λ e. clash (t.shows (u.holds e)) refl))

-- what `all` over a list says of each of its numbers, and over a range of each number
abbrev pub AllAnswer : (P : ℕ → Type 0) → List ℕ → Bool → Type 0
AllAnswer P xs r = MatchBool r (AllWithin P xs 0 (length xs)) ((k : ℕ) × (k < length xs) × HoldsAt (λ x. P x → ⊥) xs k)

pub all-tells : (P : ℕ → Type 0) (xs : List ℕ) (r : Bool) → AllAnswer P xs r → Tells r (Below (length xs) (λ k. P (get_or xs k 0)))
all-tells P xs true h = tells-yes (λ k l. h k 0 (omega arith) l)
all-tells P xs false h = tells-no (λ p. h.2 0 (p h.0 h.1))

pub all-between : (P : ℕ → Type 0) (a n : ℕ) (r : Bool) → AllAnswer P (range_with_len a n) r → Tells r ((j : ℕ) → a ≤ j → j < a + n → P j)
all-between P a n r h =
    tells_as (all-tells P (range_with_len a n) r h)
    (λ p j l b. subst P (get_or-range_with_len a n (j - a) 0 (omega arith) ∙ omega arith) (p (j - a) (omega (arith, length-range_with_len a n))))
    (λ p k l. let b : k < n = omega (arith, length-range_with_len a n) in subst P (sym (get_or-range_with_len a n k 0 b)) (p (a + k) (omega arith) (omega arith)))

pub all-below : (P : ℕ → Type 0) (n : ℕ) (r : Bool) → AllAnswer P (range_with_len 0 n) r → Tells r (Below n P)
all-below P n r h = tells_as (all-between P 0 n r h) (λ p j l. p j (omega arith) (omega arith)) (λ p j _ l. p j (omega arith))
