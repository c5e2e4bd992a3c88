-- A refusal's number lies between 1 and 29, so no refusal is a count, and its halves are told apart. Assumes nothing.
use mathlib.Core.Path.{◌≡◌}
use Prim.Native.Nat.{ℕ, ◌/◌, ◌%◌, ◌≤◌, ◌<◌}
use native.Mathlib.Omega.{arith}
use Rattle.rules.specs.Refusals.{number_of}
use Rattle.rules.specs.Entries.{REFUSAL}
use Rattle.rules.specs.declared.refusal.Refusal.{Refusal}
use Rattle.rules.specs.declared.refusal.Refusal.TheVariants as code
use Rattle.text.specs.Refused.{answer_of}
use Rattle.text.specs.declared.refusal.RefusedAt.{RefusedAt}

pub numbered : (r : Refusal) → (1 ≤ number_of r) × (number_of r ≤ 29)
numbered code.Malformed = (omega arith, omega arith)
numbered code.LineTooMany = (omega arith, omega arith)
numbered code.NoTop = (omega arith, omega arith)
numbered code.NotLive = (omega arith, omega arith)
numbered code.DangledOrRoot = (omega arith, omega arith)
numbered code.HasChild = (omega arith, omega arith)
numbered code.NoSlot = (omega arith, omega arith)
numbered code.ScopesFull = (omega arith, omega arith)
numbered code.BindingsFull = (omega arith, omega arith)
numbered code.NameMissing = (omega arith, omega arith)
numbered code.NameMoved = (omega arith, omega arith)
numbered code.NotOwned = (omega arith, omega arith)
numbered code.HandleUnknown = (omega arith, omega arith)
numbered code.NotHeld = (omega arith, omega arith)
numbered code.NeverWritten = (omega arith, omega arith)
numbered code.HandlesFull = (omega arith, omega arith)
numbered code.MemoryTooShort = (omega arith, omega arith)
numbered code.NoAddress = (omega arith, omega arith)
numbered code.NotInitialised = (omega arith, omega arith)
numbered code.AddressTooHigh = (omega arith, omega arith)
numbered code.NeedUnknown = (omega arith, omega arith)
numbered code.NeedsFull = (omega arith, omega arith)
numbered code.SamplesTooFew = (omega arith, omega arith)
numbered code.RecordingMalformed = (omega arith, omega arith)
numbered code.NotSound = (omega arith, omega arith)

-- a line of 32 bits
module _ (e : RefusedAt) (line : e.line < 4294967296) where
  pub number-half : answer_of e / REFUSAL ≡ number_of e.refusal
  number-half = omega (arith, line)

  pub line-half : answer_of e % REFUSAL ≡ e.line
  line-half = omega (arith, line)
