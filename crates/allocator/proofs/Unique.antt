-- Any two results that an entry's promise admits are equal, as structs: one law, and what it says of each kind of result. The facts `Typed`
-- are those of the declared type, which every state has. Assumes nothing.
use mathlib.Core.Path.{◌≡◌, sym, ap, ◌∙◌}
use mathlib.Core.Option.{Option}
use mathlib.Core.List.{List}
use Prim.Native.Nat.{ℕ}
use Rattle.std.specs.Prelude as code
use Rattle.std.specs.Prelude.{Result}
use Rattle.rules.specs.Notation.{Answer}
use Rattle.rules.specs.Needs as need
use Rattle.rules.specs.Scopes as rule
use Rattle.rules.specs.Refusals.{says}
use Rattle.rules.specs.declared.refusal.Refusal.{Refusal}
use Rattle.rules.proofs.Says.{says-one}
use Rattle.slots.specs.declared.SlotAddress.{SlotAddress}
use Rattle.scopes.specs.View.{view, id_of, bound_to, Seen}
use Rattle.scopes.specs.Sound.{Sound, Typed}
use Rattle.scopes.specs.declared.Bound.{Bound}
use Rattle.scopes.specs.declared.ScopeId.{ScopeId}
use Rattle.scopes.specs.declared.Scopes.{Scopes}
use Rattle.scopes.proofs.Unique.{same-state, id-one, bound-one}
use Rattle.soundness.proofs.Agrees.{good-sound}
use Rattle.needs.specs.Kinds.{address_of, run_of}
use Rattle.needs.specs.Answers.{slot_of, output_of}
use Rattle.needs.specs.declared.Address.{Address}
use Rattle.needs.specs.declared.Need.{Need}
use Rattle.needs.specs.declared.Output.{Output}
use Rattle.needs.specs.declared.Run.{Run}
use Rattle.needs.proofs.Unique.{address-one, slot-one, output-one, run-says-one}
use Rattle.allocations.specs.Outcomes.{SeenBoth}
use Rattle.allocations.proofs.Unique.{Proper, admits, admits-both}
use Rattle.allocator.specs.Entries.{Checked, turned, taken, seen, Call, Asked, AddressCall, RunCall, NeedCall, SlotCall, OutputCall, FreeCall}
use Rattle.allocator.specs.Drained.{SeenDrain, seen_drain, DrainCall}
use Rattle.allocator.specs.declared.Outcome.{Outcome}

-- where the state isn't sound both are the refusal, and where it is, what the rule gives tells them
pub checked-one : {R : Type 0} {s : Scopes} {refusal : R} {Gives : R → Type 0} {r q : R} → (Gives r → Gives q → r ≡ q) → Checked s refusal Gives r → Checked s refusal Gives q → r ≡ q
checked-one one (turned n e) (turned m f) = e ∙ sym f
checked-one one (turned n e) (taken g k) = absurd (n g)
checked-one one (taken g h) (turned m f) = absurd (m g)
checked-one one (taken g h) (taken f k) = one h k

abbrev proper : {t : Scopes} → Typed t → Sound t → Proper t
proper h k = record { typed = h; sound = k }

-- ---- a state and an answer: values are told by what they are in the rules

module _ {T A : Type 0} (f : T → A) where
  -- two results with this answer each
  told : (r q : Outcome T) (x : Seen A) → (says f r.answer ≡ says f q.answer → r.answer ≡ q.answer) → Typed r.state → Typed q.state
      → (seen f r ≡ x) × Sound r.state → (seen f q ≡ x) × Sound q.state → r ≡ q
  told r q x one tr tq h k =
      let e = admits f x (r.state, r.answer) (q.state, q.answer) one (proper tr h.1) (proper tq k.1) h.0 k.0 in
      λ i. record { state = (e i).0; answer = (e i).1 }

  module _ (each : (v w : T) → f v ≡ f w → v ≡ w) where
    pub call-one : (s : Scopes) (x : Seen A) (r q : Outcome T) → Typed r.state → Typed q.state → Call f s x r → Call f s x q → r ≡ q
    call-one s x r q tr tq = checked-one (told r q x (says-one f each r.answer q.answer) tr tq)

    pub asked-one : (s : Scopes) (x : Answer A) (r q : Result T Refusal) → Asked f s x r → Asked f s x q → r ≡ q
    asked-one s x r q = checked-one (λ e g. says-one f each r q (e ∙ sym g))

    pub need-call-one : (s : Scopes) (d : Need) (x : SeenBoth A) (r q : Outcome T × Need) → Typed r.0.state → Typed q.0.state → NeedCall f s d x r → NeedCall f s d x q → r ≡ q
    need-call-one s d x r q tr tq =
        checked-one
        (λ h k.
        let e = admits-both f x ((r.0.state, r.1), r.0.answer) ((q.0.state, q.1), q.0.answer) (says-one f each r.0.answer q.0.answer) (proper tr h.1) (proper tq k.1) h.0 k.0 in
        λ i. (record { state = (e i).0.0; answer = (e i).1 }, (e i).0.1))

-- ---- the calls of `scope`: an id, nothing, or what a name is bound to

pub id-call-one : (s : Scopes) (x : Seen rule.Id) (r q : Outcome ScopeId) → Typed r.state → Typed q.state → Call id_of s x r → Call id_of s x q → r ≡ q
id-call-one = call-one id_of id-one

pub done-call-one : (s : Scopes) (x : Seen (Unit {0})) (r q : Outcome (Unit {0})) → Typed r.state → Typed q.state → Call (λ u. u) s x r → Call (λ u. u) s x q → r ≡ q
done-call-one = call-one (λ u. u) (λ v w e. e)

pub bound-call-one : (s : Scopes) (x : Seen (ℕ × ℕ)) (r q : Outcome Bound) → Typed r.state → Typed q.state → Call bound_to s x r → Call bound_to s x q → r ≡ q
bound-call-one = call-one bound_to bound-one

pub id-asked-one : (s : Scopes) (x : Answer rule.Id) (r q : Result ScopeId Refusal) → Asked id_of s x r → Asked id_of s x q → r ≡ q
id-asked-one = asked-one id_of id-one

pub bound-asked-one : (s : Scopes) (x : Answer (ℕ × ℕ)) (r q : Result Bound Refusal) → Asked bound_to s x r → Asked bound_to s x q → r ≡ q
bound-asked-one = asked-one bound_to bound-one

-- ---- "All leave state .. unchanged": where the rule's next state is the one that came in, so is the record

pub unchanged : {R : Type 0} {s : Scopes} {refusal : R} {Gives : R → Type 0} {r : R} (state : R → Scopes) → Typed s → Typed (state r) → state refusal ≡ s
    → (Gives r → (view (state r) ≡ view s) × Sound (state r)) → Checked s refusal Gives r → state r ≡ s
unchanged state ts tr e same (turned n q) = ap state q ∙ e
unchanged {s = s} {r = r} state ts tr e same (taken g h) =
    same-state (state r) s (same h).1 (good-sound s ts.sized.live ts.sized.bindings g) tr ts (same h).0

-- ---- addresses, runs, needs

pub address-call-one : (s : Scopes) (x : Seen need.Address) (r q : Outcome Address) → Typed r.state → Typed q.state → AddressCall s x r → AddressCall s x q → r ≡ q
address-call-one = call-one address_of address-one

pub run-call-one : (s : Scopes) (x : Seen (List need.Address)) (r q : Outcome Run) → Typed r.state → Typed q.state → RunCall s x r → RunCall s x q → r ≡ q
run-call-one s x r q tr tq = checked-one (λ h k. told run_of r q x (run-says-one r.answer q.answer h.1 k.1) tr tq (h.0, h.2) (k.0, k.2))

pub slot-call-one : (s : Scopes) (d : Need) (x : SeenBoth (Option ℕ)) (r q : Outcome (code.Option SlotAddress) × Need) → Typed r.0.state → Typed q.0.state → SlotCall s d x r → SlotCall s d x q → r ≡ q
slot-call-one = need-call-one slot_of slot-one

pub output-call-one : (s : Scopes) (d : Need) (x : SeenBoth need.Output) (r q : Outcome Output × Need) → Typed r.0.state → Typed q.0.state → OutputCall s d x r → OutputCall s d x q → r ≡ q
output-call-one = need-call-one output_of output-one

pub free-call-one : (s : Scopes) (d : Need) (x : SeenBoth (Unit {0})) (r q : Outcome (Unit {0}) × Need) → Typed r.0.state → Typed q.0.state → FreeCall s d x r → FreeCall s d x q → r ≡ q
free-call-one = need-call-one (λ u. u) (λ v w e. e)

-- ---- drain: the numbers that were lent too

pub drain-call-one : (s : Scopes) (lent : List ℕ) (x : SeenDrain) (r q : Outcome ℕ × List ℕ) → Typed r.0.state → Typed q.0.state → DrainCall s lent x r → DrainCall s lent x q → r ≡ q
drain-call-one s lent x r q tr tq =
    checked-one
    (λ h k.
    let e : seen_drain r ≡ seen_drain q = h.0 ∙ sym k.0 in
    let t : r.0.state ≡ q.0.state = same-state r.0.state q.0.state h.1 k.1 tr tq (ap (λ (y : SeenDrain). y.next) e) in
    let a : r.0.answer ≡ q.0.answer = says-one (λ n. n) (λ v w g. g) r.0.answer q.0.answer (ap (λ (y : SeenDrain). y.says) e) in
    λ i. (record { state = t i; answer = a i }, (e i).lent))
