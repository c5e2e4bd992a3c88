-- Document 01, "Numbers given back": the number of each refusal of the code, and what an answer of the code says in the rules' terms. Assumes nothing.
use Rattle.std.specs.Prelude.{ℕ, Result, Ok, Err}
use Rattle.rules.specs.Notation.{Answer, given, refused}
use Rattle.rules.specs.declared.refusal.Refusal.{Refusal}
use Rattle.rules.specs.declared.refusal.Refusal.TheVariants as code

abbrev pub number_of : Refusal → ℕ
number_of code.Malformed = 1
number_of code.LineTooMany = 2
number_of code.NoTop = 3
number_of code.NotLive = 4
number_of code.DangledOrRoot = 5
number_of code.HasChild = 6
number_of code.NoSlot = 7
number_of code.ScopesFull = 8
number_of code.BindingsFull = 9
number_of code.NameMissing = 10
number_of code.NameMoved = 11
number_of code.NotOwned = 12
number_of code.HandleUnknown = 13
number_of code.NotHeld = 14
number_of code.NeverWritten = 15
number_of code.HandlesFull = 16
number_of code.MemoryTooShort = 17
number_of code.NoAddress = 18
number_of code.NotInitialised = 19
number_of code.AddressTooHigh = 20
number_of code.NeedUnknown = 21
number_of code.NeedsFull = 22
number_of code.SamplesTooFew = 23
number_of code.RecordingMalformed = 24
number_of code.NotSound = 29

-- a value that is given is what `f` says of it; an error, the number of its refusal
abbrev pub says : {V B : Type 0} → (V → B) → Result V Refusal → Answer B
says f (Ok v) = given (f v)
says f (Err e) = refused (number_of e)
