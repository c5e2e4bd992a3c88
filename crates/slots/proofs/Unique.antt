-- A state is told by its view, and an answer by what it says: so any two results that a promise admits are equal, as structs. Assumes nothing.
use mathlib.Core.Path.{◌≡◌, refl, sym, ap, ◌∙◌}
use mathlib.Core.Bool.{Bool}
use mathlib.Core.Option.{Option, none, some}
use Prim.Native.Nat.{ℕ, ◌^◌, ◌<◌}
use native.Mathlib.Omega.{arith}
use mir.Syntax.{w64}
use mir.Val.{Fits}
use Rattle.std.specs.Prelude.{Result}
use Rattle.rules.specs.Notation.{Answer, given, refused}
use Rattle.rules.specs.Sizes.{base}
use Rattle.rules.specs.Sound.{sound_slots}
use Rattle.rules.specs.Slots as rule
use Rattle.rules.specs.declared.refusal.Refusal.{Refusal}
use Rattle.rules.proofs.Says.{says-one}
use Rattle.rules.proofs.Tells.{decided}
use Rattle.slots.specs.Promises.{view, place_says, remove_says, SeenSlots, seen_placing, seen_removing, placed_or7, removal, checked, Typed, Promised, FreshPromise, InsertPromise, InsertLowestPromise, PushPromise, RemovePromise}
use Rattle.slots.specs.declared.Slots.{Slots}
use Rattle.slots.specs.declared.SlotAddress.{SlotAddress}
use Rattle.slots.specs.declared.Placing.{Placing}
use Rattle.slots.specs.declared.Removing.{Removing}
use Rattle.slots.proofs.Occupied.{halves-ext}

-- a number that fits 64 bits
pub wide_of : {x : ℕ} → Fits w64 x → x < 2 ^ 64
wide_of f = f.fits

pub same-state : (s t : Slots) → Typed s.halves → Typed t.halves → view s ≡ view t → s ≡ t
same-state s t p q e =
    let h : s.halves ≡ t.halves = halves-ext s.halves t.halves (p.long ∙ sym q.long) p.wide q.wide (ap (λ (v : rule.Slots). v.occupied) e) in
    λ i. record { halves = h i; segments = (e i).segments; head = (e i).head }

-- ---- answers

differ : {A B : Type 0} {a : A} {n : ℕ} → given a ≡ refused n → B
differ e = absurd (let z : ◌≡◌ {A = ℕ} 0 1 = cc in omega arith)

same-place : (a b : Result SlotAddress Refusal) → place_says a ≡ place_says b → a ≡ b
same-place = says-one (λ a. a.0) (λ a b e. λ i. record { 0 = e i })

same-remove : (a b : Result Bool Refusal) → remove_says a ≡ remove_says b → a ≡ b
same-remove = says-one (λ b. b) (λ a b e. e)

-- ---- results: y is what the rules say, of either insert or of push

place-one : (y : SeenSlots ℕ) (r q : Placing) → Promised (seen_placing r) y r.state.halves → Promised (seen_placing q) y q.state.halves → r ≡ q
place-one y r q p o =
    let e : seen_placing r ≡ seen_placing q = p.shows ∙ sym o.shows in
    let s : r.state ≡ q.state = same-state r.state q.state p.typed o.typed (ap (λ (v : SeenSlots ℕ). v.next) e) in
    let a : r.answer ≡ q.answer = same-place r.answer q.answer (ap (λ (v : SeenSlots ℕ). v.says) e) in
    λ i. record { state = s i; answer = a i }

pub insert-one : (s : Slots) (r q : Placing) → InsertPromise s r → InsertPromise s q → r ≡ q
insert-one s r q = place-one _ r q

pub insert-lowest-one : (s : Slots) (r q : Placing) → InsertLowestPromise s r → InsertLowestPromise s q → r ≡ q
insert-lowest-one s r q = place-one _ r q

pub push-one : (s : Slots) (r q : Placing) → PushPromise s r → PushPromise s q → r ≡ q
push-one s r q = place-one _ r q

pub remove-one : (s : Slots) (a : SlotAddress) (r q : Removing) → RemovePromise s a r → RemovePromise s a q → r ≡ q
remove-one s a r q p o =
    let e : seen_removing r ≡ seen_removing q = p.shows ∙ sym o.shows in
    let t : r.state ≡ q.state = same-state r.state q.state p.typed o.typed (ap (λ (v : SeenSlots Bool). v.next) e) in
    let b : r.answer ≡ q.answer = same-remove r.answer q.answer (ap (λ (v : SeenSlots Bool). v.says) e) in
    λ i. record { state = t i; answer = b i }

pub fresh-one : (r q : Slots) → FreshPromise r → FreshPromise q → r ≡ q
fresh-one r q p o = same-state r q p.typed o.typed (p.shows ∙ sym o.shows)

-- ---- a refusal leaves the state as it was, as a struct

module _ (s : Slots) (t : Typed s.halves) (n : ℕ) where
  kept-view : {A : Type 0} (x : SeenSlots A) → (x.says ≡ refused n → x.next ≡ view s) → (checked base.segments (view s) x).says ≡ refused n → (checked base.segments (view s) x).next ≡ view s
  unfolding checked
  kept-view x f e =
      decided (sound_slots base.segments (view s))
      (λ y. rw (y, checked) (f (rw (y, checked) at e)))
      (λ y. rw (y, checked))

  placed-kept : (o : Option rule.Placed) → (placed_or7 (view s) o).says ≡ refused n → (placed_or7 (view s) o).next ≡ view s
  placed-kept none e = refl
  placed-kept (some p) e = differ e

  kept : {A : Type 0} (says : Answer A) (x : SeenSlots A) (u : Slots) → (x.says ≡ refused n → x.next ≡ view s)
      → Promised (record { next = view u; says = says }) (checked base.segments (view s) x) u.halves → says ≡ refused n → u ≡ s
  kept {A = A} says x u f p e =
      same-state u s p.typed t (ap (λ (v : SeenSlots A). v.next) p.shows ∙ kept-view x f (sym (ap (λ (v : SeenSlots A). v.says) p.shows) ∙ e))

  placing-kept : (r : Placing) (o : Option rule.Placed) → Promised (seen_placing r) (checked base.segments (view s) (placed_or7 (view s) o)) r.state.halves
      → place_says r.answer ≡ refused n → r.state ≡ s
  placing-kept r o = kept (place_says r.answer) (placed_or7 (view s) o) r.state (placed-kept o)

  pub insert-kept : (r : Placing) → InsertPromise s r → place_says r.answer ≡ refused n → r.state ≡ s
  insert-kept r = placing-kept r (rule.insert base.segments (view s))

  pub insert-lowest-kept : (r : Placing) → InsertLowestPromise s r → place_says r.answer ≡ refused n → r.state ≡ s
  insert-lowest-kept r = placing-kept r (rule.insert_lowest base.segments (view s))

  pub push_kept : (r : Placing) → PushPromise s r → place_says r.answer ≡ refused n → r.state ≡ s
  push_kept r = placing-kept r (rule.push base.segments (view s))

  pub remove-kept : (a : SlotAddress) (r : Removing) → RemovePromise s a r → remove_says r.answer ≡ refused n → r.state ≡ s
  remove-kept a r = kept (remove_says r.answer) (removal a.0 (view s)) r.state (λ e. differ e)
