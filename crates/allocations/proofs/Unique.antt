-- Any two results that a promise admits are equal: the view tells the state, and what the rules see tells the need and the answer.
-- Assumes nothing.
use mathlib.Core.Path.{◌≡◌, sym, ap, ◌∙◌}
use mathlib.Core.Option.{Option}
use mathlib.Core.List.{List}
use Prim.Native.Nat.{ℕ}
use Rattle.std.specs.Prelude as code
use Rattle.std.specs.Prelude.{Result}
use Rattle.rules.specs.Refusals.{says}
use Rattle.rules.specs.declared.refusal.Refusal.{Refusal}
use Rattle.rules.specs.Needs as rule
use Rattle.rules.proofs.Says.{says-one}
use Rattle.slots.specs.declared.SlotAddress.{SlotAddress}
use Rattle.scopes.specs.View.{view, Seen}
use Rattle.scopes.specs.Sound.{Sound, Typed}
use Rattle.scopes.specs.declared.Scopes as state
use Rattle.scopes.proofs.Unique.{same-state}
use Rattle.needs.specs.Kinds.{address_of, run_of}
use Rattle.needs.specs.Answers.{PlainRun, slot_of, output_of}
use Rattle.needs.specs.declared.Address.{Address}
use Rattle.needs.specs.declared.Need.{Need}
use Rattle.needs.specs.declared.Output.{Output}
use Rattle.needs.specs.declared.Run.{Run}
use Rattle.needs.proofs.Unique.{need-one, address-says-one, run-says-one, slot-says-one, output-says-one}
use Rattle.allocations.specs.Outcomes.{SeenBoth, seen_both}

-- a state of the declared type that is sound
pub record Proper (s : state.Scopes) : Type 0 where
  pub typed : Typed s
  pub sound : Sound s

state-one : (s t : state.Scopes) → Proper s → Proper t → view s ≡ view t → s ≡ t
state-one s t h k e = same-state s t h.sound k.sound h.typed k.typed e

-- ---- the state that is left, and the answer

abbrev pub Left : Type 0 → Type 0
Left X = state.Scopes × Result X Refusal

abbrev pub seen_left : {A X : Type 0} → (X → A) → Left X → Seen A
seen_left f r = record { next = view r.0; says = says f r.1 }

module _ {A X : Type 0} (f : X → A) (x : Seen A) (r q : Left X) (one : says f r.1 ≡ says f q.1 → r.1 ≡ q.1) where
  pub admits : Proper r.0 → Proper q.0 → seen_left f r ≡ x → seen_left f q ≡ x → r ≡ q
  admits hr hq er eq =
      let e : seen_left f r ≡ seen_left f q = er ∙ sym eq in
      let s : r.0 ≡ q.0 = state-one r.0 q.0 hr hq (ap (λ (y : Seen A). y.next) e) in
      let a : r.1 ≡ q.1 = one (ap (λ (y : Seen A). y.says) e) in
      λ i. (s i, a i)

pub admits-address : (x : Seen rule.Address) (r q : Left Address) → Proper r.0 → Proper q.0 → seen_left address_of r ≡ x → seen_left address_of q ≡ x → r ≡ q
admits-address x r q = admits address_of x r q (address-says-one r.1 q.1)

pub admits-run : (x : Seen (List rule.Address)) (r q : Left Run) → Proper r.0 → Proper q.0 → PlainRun r.1 → PlainRun q.1 → seen_left run_of r ≡ x → seen_left run_of q ≡ x → r ≡ q
admits-run x r q hr hq pr pq = admits run_of x r q (run-says-one r.1 q.1 pr pq) hr hq

-- ---- the state and the need that are left, and the answer

abbrev pub LeftBoth : Type 0 → Type 0
LeftBoth X = (state.Scopes × Need) × Result X Refusal

abbrev pub seen_left_both : {A X : Type 0} → (X → A) → LeftBoth X → SeenBoth A
seen_left_both f r = seen_both r.0 (says f r.1)

module _ {A X : Type 0} (f : X → A) (x : SeenBoth A) (r q : LeftBoth X) (one : says f r.1 ≡ says f q.1 → r.1 ≡ q.1) where
  pub admits-both : Proper r.0.0 → Proper q.0.0 → seen_left_both f r ≡ x → seen_left_both f q ≡ x → r ≡ q
  admits-both hr hq er eq =
      let e : seen_left_both f r ≡ seen_left_both f q = er ∙ sym eq in
      let s : r.0.0 ≡ q.0.0 = state-one r.0.0 q.0.0 hr hq (ap (λ (y : SeenBoth A). y.next) e) in
      let d : r.0.1 ≡ q.0.1 = need-one r.0.1 q.0.1 (ap (λ (y : SeenBoth A). y.need) e) in
      let a : r.1 ≡ q.1 = one (ap (λ (y : SeenBoth A). y.says) e) in
      λ i. ((s i, d i), a i)

pub admits-slot : (x : SeenBoth (Option ℕ)) (r q : LeftBoth (code.Option SlotAddress)) → Proper r.0.0 → Proper q.0.0 → seen_left_both slot_of r ≡ x → seen_left_both slot_of q ≡ x → r ≡ q
admits-slot x r q = admits-both slot_of x r q (slot-says-one r.1 q.1)

pub admits-output : (x : SeenBoth rule.Output) (r q : LeftBoth Output) → Proper r.0.0 → Proper q.0.0 → seen_left_both output_of r ≡ x → seen_left_both output_of q ≡ x → r ≡ q
admits-output x r q = admits-both output_of x r q (output-says-one r.1 q.1)

pub admits-free : (x : SeenBoth (Unit {0})) (r q : LeftBoth (Unit {0})) → Proper r.0.0 → Proper q.0.0 → seen_left_both (λ u. u) r ≡ x → seen_left_both (λ u. u) q ≡ x → r ≡ q
admits-free x r q = admits-both (λ u. u) x r q (says-one (λ u. u) (λ v w e. e) r.1 q.1)
