-- A refusal is told by its number, and an answer of the code by what it says. Assumes nothing.
use mathlib.Core.Path.{◌≡◌, refl, sym, ap, ◌∙◌}
use mathlib.Core.List.{List, [], ◌∷◌}
use Prim.Native.Nat.{ℕ}
use lib.ListN.{get_or}
use Rattle.std.specs.Prelude.{Result, Ok, Err}
use Rattle.rules.specs.Refusals.{number_of, says}
use Rattle.rules.specs.declared.refusal.Refusal.{Refusal}
use Rattle.rules.specs.declared.refusal.Refusal.TheVariants as code

-- the refusal at each number, and any other at the numbers that are none
abbrev table : List Refusal
table =
    code.Malformed ∷ code.Malformed ∷ code.LineTooMany ∷ code.NoTop ∷ code.NotLive ∷ code.DangledOrRoot ∷ code.HasChild ∷ code.NoSlot ∷ code.ScopesFull ∷ code.BindingsFull
    ∷ code.NameMissing ∷ code.NameMoved ∷ code.NotOwned ∷ code.HandleUnknown ∷ code.NotHeld ∷ code.NeverWritten ∷ code.HandlesFull ∷ code.MemoryTooShort ∷ code.NoAddress
    ∷ code.NotInitialised ∷ code.AddressTooHigh ∷ code.NeedUnknown ∷ code.NeedsFull ∷ code.SamplesTooFew ∷ code.RecordingMalformed
    ∷ code.NotSound ∷ code.NotSound ∷ code.NotSound ∷ code.NotSound ∷ code.NotSound ∷ []

at : ℕ → Refusal
at n = get_or table n code.NotSound

at-number : (e : Refusal) → at (number_of e) ≡ e
unfolding at
at-number code.Malformed = refl
at-number code.LineTooMany = refl
at-number code.NoTop = refl
at-number code.NotLive = refl
at-number code.DangledOrRoot = refl
at-number code.HasChild = refl
at-number code.NoSlot = refl
at-number code.ScopesFull = refl
at-number code.BindingsFull = refl
at-number code.NameMissing = refl
at-number code.NameMoved = refl
at-number code.NotOwned = refl
at-number code.HandleUnknown = refl
at-number code.NotHeld = refl
at-number code.NeverWritten = refl
at-number code.HandlesFull = refl
at-number code.MemoryTooShort = refl
at-number code.NoAddress = refl
at-number code.NotInitialised = refl
at-number code.AddressTooHigh = refl
at-number code.NeedUnknown = refl
at-number code.NeedsFull = refl
at-number code.SamplesTooFew = refl
at-number code.RecordingMalformed = refl
at-number code.NotSound = refl

pub number-one : (d e : Refusal) → number_of d ≡ number_of e → d ≡ e
number-one d e q = sym (at-number d) ∙ ap at q ∙ at-number e

-- where f tells its values apart, what is said tells the answer
pub says-one : {V B : Type 0} (f : V → B) → ((v w : V) → f v ≡ f w → v ≡ w) → (x y : Result V Refusal) → says f x ≡ says f y → x ≡ y
says-one f one (Ok v) (Ok w) e = let q : f v ≡ f w = cc in ap Ok (one v w q)
says-one f one (Ok v) (Err n) e = cc
says-one f one (Err n) (Ok w) e = cc
says-one f one (Err n) (Err m) e = let q : number_of n ≡ number_of m = cc in ap Err (number-one n m q)
