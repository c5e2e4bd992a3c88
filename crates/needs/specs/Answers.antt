-- What an answer gives, in the values of document 01; and what a call on a need did and said. Assumes nothing.
use Rattle.std.proofs.Math.Option.{Option}
use Rattle.std.specs.Prelude.{List, ℕ, Result, Ok, Err, Some, None}
use Rattle.std.specs.Prelude as code
use Rattle.rules.specs.Notation.{Answer, given, refused}
use Rattle.rules.specs.Needs as rule
use Rattle.rules.specs.Refusals.{says}
use Rattle.rules.specs.Options.{option_of}
use Rattle.rules.specs.declared.refusal.Refusal.{Refusal}
use Rattle.slots.specs.declared.SlotAddress.{SlotAddress}
use Rattle.needs.specs.Kinds.{address_of, need_of, Plain}
use Rattle.needs.specs.declared.Address.{Address}
use Rattle.needs.specs.declared.Need.{Need}
use Rattle.needs.specs.declared.Output.{Output}
use Rattle.needs.specs.declared.Output.TheVariants as output
use Rattle.needs.specs.declared.Run.{Run}

-- ---- what is given

-- a run that is handed out is plain
abbrev pub PlainRun : Result Run Refusal → Type 0
PlainRun (Ok r) = Plain r
PlainRun (Err e) = Unit

-- the slot, if any
abbrev pub slot_of : code.Option SlotAddress → Option ℕ
slot_of = option_of (λ a. a.0)

abbrev pub output_of : Output → rule.Output
output_of (output.Keep a) = rule.keep a.0
output_of output.Discard = rule.discard

-- ".. (as output: discard)"
abbrev pub output_from : code.Option SlotAddress → Output
output_from (Some a) = output.Keep a
output_from None = output.Discard

-- the address, if any
abbrev pub tried_address : code.Option Address → Option rule.Address
tried_address = option_of address_of

-- ---- what a call on a need did and said: a refusal leaves the need as it was

pub record SeenNeed (A : Type 0) : Type 0 where
  pub need : rule.Need
  pub says : Answer A

abbrev pub told_need : {A : Type 0} → rule.Need → Answer (A × rule.Need) → SeenNeed A
told_need d (given x) = record { need = x.1; says = given x.0 }
told_need d (refused n) = record { need = d; says = refused n }

abbrev pub seen_taken : Need × Result Address Refusal → SeenNeed rule.Address
seen_taken r = record { need = need_of r.0; says = says address_of r.1 }

abbrev pub seen_assigned : Need × code.Option SlotAddress → rule.Assignment
seen_assigned r = record { need = need_of r.0; copy_to = slot_of r.1 }
