-- What the public entries promise: "29 first", with all that was handed in as it was; else what the rule gives, in a sound state.
-- Assumes nothing.
use Rattle.std.specs.Prelude.{◌≡◌, List, ℕ, Result, Err}
use Rattle.std.specs.Prelude as code
use Rattle.std.proofs.Math.Option.{Option}
use Rattle.rules.specs.Notation.{Answer}
use Rattle.rules.specs.Needs as rule
use Rattle.rules.specs.Refusals.{says}
use Rattle.rules.specs.declared.refusal.Refusal.{Refusal}
use Rattle.rules.specs.declared.refusal.Refusal.TheVariants.{NotSound}
use Rattle.slots.specs.declared.SlotAddress.{SlotAddress}
use Rattle.scopes.specs.View.{view, Seen}
use Rattle.scopes.specs.Sound.{Sound}
use Rattle.scopes.specs.declared.Scopes.{Scopes}
use Rattle.needs.specs.Kinds.{address_of, run_of}
use Rattle.needs.specs.Answers.{PlainRun, slot_of, output_of}
use Rattle.needs.specs.declared.Address.{Address}
use Rattle.needs.specs.declared.Need.{Need}
use Rattle.needs.specs.declared.Output.{Output}
use Rattle.needs.specs.declared.Run.{Run}
use Rattle.allocations.specs.Outcomes.{SeenBoth, seen_both}
use Rattle.soundness.specs.Canonical.{Good}
use Rattle.allocator.specs.declared.Outcome.{Outcome}

-- An entry was handed the state s and left r: the refusal where s isn't sound, else what `Gives` says.
pub data Checked {R : Type 0} (s : Scopes) (refusal : R) (Gives : R → Type 0) (r : R) : Type 0 where
  turned : (Good s → ⊥) → r ≡ refusal → Checked s refusal Gives r
  taken : Good s → Gives r → Checked s refusal Gives r

-- ---- what is left where the state isn't sound, and where the rule gives x; `f` is what a value is in the rules

abbrev pub unsound : {T : Type 0} → Scopes → Outcome T
unsound s = record { state = s; answer = Err NotSound }

-- what a call did and said
abbrev pub seen : {T A : Type 0} → (T → A) → Outcome T → Seen A
seen f r = record { next = view r.state; says = says f r.answer }

abbrev pub Call : {T A : Type 0} → (T → A) → Scopes → Seen A → Outcome T → Type 0
Call f s x r = Checked s (unsound s) (λ o. (seen f o ≡ x) × Sound o.state) r

-- a question
abbrev pub Asked : {T A : Type 0} → (T → A) → Scopes → Answer A → Result T Refusal → Type 0
Asked f s x r = Checked s (Err NotSound) (λ o. says f o ≡ x) r

abbrev pub AddressCall : Scopes → Seen rule.Address → Outcome Address → Type 0
AddressCall s x r = Call address_of s x r

abbrev pub RunCall : Scopes → Seen (List rule.Address) → Outcome Run → Type 0
RunCall s x r = Checked s (unsound s) (λ o. (seen run_of o ≡ x) × PlainRun o.answer × Sound o.state) r

-- ---- with a need, which too is left as it was

abbrev pub seen_with : {T A : Type 0} → (T → A) → Outcome T × Need → SeenBoth A
seen_with f r = seen_both (r.0.state, r.1) (says f r.0.answer)

abbrev pub NeedCall : {T A : Type 0} → (T → A) → Scopes → Need → SeenBoth A → Outcome T × Need → Type 0
NeedCall f s d x r = Checked s (unsound s, d) (λ o. (seen_with f o ≡ x) × Sound o.0.state) r

abbrev pub SlotCall : Scopes → Need → SeenBoth (Option ℕ) → Outcome (code.Option SlotAddress) × Need → Type 0
SlotCall s d x r = NeedCall slot_of s d x r

abbrev pub OutputCall : Scopes → Need → SeenBoth rule.Output → Outcome Output × Need → Type 0
OutputCall s d x r = NeedCall output_of s d x r

abbrev pub FreeCall : Scopes → Need → SeenBoth (Unit {0}) → Outcome (Unit {0}) × Need → Type 0
FreeCall s d x r = NeedCall (λ u. u) s d x r
