-- What holds of whatever an answer gives. A chain of refusals is gone through from the goal: one lemma for each line of a `do`.
-- Assumes nothing.
use mathlib.Core.Path.{◌≡◌, refl, ap, subst}
use mathlib.Core.Bool.{Bool, true, false}
use mathlib.Core.Option.{Option, none, some}
use Prim.Native.Nat.{ℕ}
use native.Mathlib.Omega.{arith}
use Rattle.rules.specs.Notation.{Answer, given, refused, ◌>>=◌, refuse◌when◌, refuse◌unless◌, provided◌then◌else◌}

pub record All {A : Type 0} (P : A → Type 0) (m : Answer A) : Type 0 where
  pub at : (a : A) → m ≡ given a → P a

pub all-given : {A : Type 0} {P : A → Type 0} {a : A} → P a → All P (given a)
all-given {P = P} h = record { at = λ b e. subst P (cc) h }

pub all_then : {A B : Type 0} {P : B → Type 0} {m : Answer A} {f : A → Answer B} → ((a : A) → m ≡ given a → All P (f a)) → All P (m >>= f)
unfolding ◌>>=◌
all_then {m = given a} h = h a refl
all_then {m = refused n} h = record { at = λ b e. absurd (let z : ◌≡◌ {A = ℕ} 0 1 = cc in omega arith) }

pub all-when : {B : Type 0} {P : B → Type 0} (n : ℕ) {b : Bool} (f : Unit {0} → Answer B) → (b ≡ false → All P (f tt)) → All P ((refuse n when b) >>= f)
unfolding ◌>>=◌ refuse◌when◌
all-when n {b = true} f h = record { at = λ b e. absurd (let z : ◌≡◌ {A = ℕ} 0 1 = cc in omega arith) }
all-when n {b = false} f h = h refl

pub all-unless : {A B : Type 0} {P : B → Type 0} (n : ℕ) {o : Option A} {f : A → Answer B} → ((a : A) → o ≡ some a → All P (f a)) → All P ((refuse n unless o) >>= f)
unfolding ◌>>=◌ refuse◌unless◌
all-unless n {o = none} h = record { at = λ b e. absurd (let z : ◌≡◌ {A = ℕ} 0 1 = cc in omega arith) }
all-unless n {o = some a} h = h a refl

pub all-if : {B : Type 0} {P : B → Type 0} {b : Bool} {m n : Answer B} → (b ≡ true → All P m) → (b ≡ false → All P n) → All P (provided b then m else n)
unfolding provided◌then◌else◌
all-if {b = true} x y = x refl
all-if {b = false} x y = y refl

module _ {A : Type 0} {b : Bool} (x y : A) where
  pub if-true : b ≡ true → (provided b then x else y) ≡ x
  unfolding provided◌then◌else◌
  if-true e = ap (λ (c : Bool). provided c then x else y) e

  pub if-false : b ≡ false → (provided b then x else y) ≡ y
  unfolding provided◌then◌else◌
  if-false e = ap (λ (c : Bool). provided c then x else y) e

pub none-some {ℓ} : {A : Type 0} {X : Type ℓ} {a : A} → none ≡ some a → X
none-some e = absurd (let z : ◌≡◌ {A = ℕ} 0 1 = cc in omega arith)

pub all-as : {A : Type 0} {P Q : A → Type 0} {m : Answer A} → ((a : A) → P a → Q a) → All P m → All Q m
all-as f h = record { at = λ a e. f a (h.at a e) }

-- two chains that go on alike with whatever is given
pub then_same : {A B : Type 0} {m : Answer A} {f g : A → Answer B} → ((a : A) → m ≡ given a → f a ≡ g a) → (m >>= f) ≡ (m >>= g)
unfolding ◌>>=◌
then_same {m = given a} h = h a refl
then_same {m = refused n} h = refl

-- ---- one link of a chain, by what it tests

module _ {A B : Type 0} {o : Option A} (n : ℕ) (f : A → Answer B) where
  pub unless-some : {a : A} → o ≡ some a → ((refuse n unless o) >>= f) ≡ f a
  unfolding ◌>>=◌ refuse◌unless◌
  unless-some e = ap (λ (x : Option A). (refuse n unless x) >>= f) e

  pub unless-none : o ≡ none → ((refuse n unless o) >>= f) ≡ refused n
  unfolding ◌>>=◌ refuse◌unless◌
  unless-none e = ap (λ (x : Option A). (refuse n unless x) >>= f) e

module _ {B : Type 0} {b : Bool} (n : ℕ) (f : Unit {0} → Answer B) where
  pub when_true : b ≡ true → ((refuse n when b) >>= f) ≡ refused n
  unfolding ◌>>=◌ refuse◌when◌
  when_true e = ap (λ (x : Bool). (refuse n when x) >>= f) e

  pub when_false : b ≡ false → ((refuse n when b) >>= f) ≡ f tt
  unfolding ◌>>=◌ refuse◌when◌
  when_false e = ap (λ (x : Bool). (refuse n when x) >>= f) e

pub refused-on : {A B : Type 0} {m : Answer A} (n : ℕ) (f : A → Answer B) → m ≡ refused n → (m >>= f) ≡ refused n
unfolding ◌>>=◌
refused-on {A} n f e = ap (λ (x : Answer A). x >>= f) e
