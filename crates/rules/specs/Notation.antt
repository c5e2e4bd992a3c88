-- What the rules are written in: answers that are given or refused by a number, and tables. Assumes nothing.
use Rattle.std.specs.Prelude.{Bool, true, false, List, [], ◌∷◌, ℕ, zero, suc, eqb}
use Rattle.std.proofs.Math.Option.{Option, none, some}

infixl 5 ◌▹◌
infixl 10 ◌>>=◌
infix 20 refuse◌when◌
infix 20 refuse◌unless◌
infix 20 provided◌then◌else◌
-- ---- answers

-- an answer is given, or refused by a number of the table in "Numbers given back"
pub data Answer (A : Type 0) : Type 0 where
  given : A → Answer A
  refused : ℕ → Answer A

-- `do` goes on with what was given; the first refusal is the answer
unfoldable pub ◌>>=◌ : {A B : Type 0} → Answer A → (A → Answer B) → Answer B
given a >>= f = f a
refused n >>= f = refused n

unfoldable pub refuse◌when◌ : ℕ → Bool → Answer (Unit {0})
refuse n when true = refused n
refuse n when false = given tt

unfoldable pub refuse◌unless◌ : {A : Type 0} → ℕ → Option A → Answer A
refuse n unless none = refused n
refuse n unless (some a) = given a

unfoldable pub provided◌then◌else◌ : {A : Type 0} → Bool → A → A → A
provided true then x else y = x
provided false then x else y = y

abbrev pub is_some : {A : Type 0} → Option A → Bool
is_some none = false
is_some (some a) = true

abbrev pub implies : Bool → Bool → Bool
implies true b = b
implies false b = true

-- the number, or d where there is none
abbrev pub or_else : Option ℕ → ℕ → ℕ
or_else none d = d
or_else (some n) d = n

-- `x ▹ f` is f of x: what happens to x, in the order of reading
abbrev pub ◌▹◌ : {A B : Type 0} → A → (A → B) → B
x ▹ f = f x

-- ---- tables: a table gives what stands at each place

-- the table f with x at place i
unfoldable pub put : {A : Type 0} → (ℕ → A) → ℕ → A → ℕ → A
put f i x j = elim (eqb i j) [ true ↦ x | false ↦ f j ]

-- the first place, among the n from i on, that passes
unfoldable pub first : (ℕ → Bool) → ℕ → ℕ → Option ℕ
first f i zero = none
first f i (suc n) = elim (f i) [ true ↦ some i | false ↦ first f (suc i) n ]

-- one past the last place below n that passes, 0 if none does
unfoldable pub past_last : (ℕ → Bool) → ℕ → ℕ
past_last f zero = zero
past_last f (suc n) = elim (f n) [ true ↦ suc n | false ↦ past_last f n ]

-- every place below n passes
unfoldable pub all_below : (ℕ → Bool) → ℕ → Bool
all_below f zero = true
all_below f (suc n) = elim (f n) [ true ↦ all_below f n | false ↦ false ]

-- everything on the list passes
unfoldable pub all_of : {A : Type 0} → (A → Bool) → List A → Bool
all_of f [] = true
all_of f (a ∷ l) = elim (f a) [ true ↦ all_of f l | false ↦ false ]
