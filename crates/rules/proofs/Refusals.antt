-- The number of a refusal is from 1 to 22, and its line is that of a frame. Assumes nothing.
use mathlib.Core.Path.{◌≡◌, refl, sym, subst, ◌∙◌}
use mathlib.Core.Bool.{Bool, true, false, ◌&&◌}
use mathlib.Core.Option.{Option, none, some}
use mathlib.Core.List.{List, [], ◌∷◌}
use Prim.Native.Nat.{ℕ, zero, suc, ◌+◌, ◌≤◌, ◌<◌}
use native.Mathlib.Omega.{arith}
use lib.Dec.{leb}
use lib.ListN.{length}
use Rattle.rules.specs.Notation.{Answer, given, refused, ◌>>=◌, refuse◌when◌, refuse◌unless◌, provided◌then◌else◌}
use Rattle.rules.specs.Sizes.{Room}
use Rattle.rules.specs.Slots.{Placement}
use Rattle.rules.specs.Scopes.{Scopes, Found, open_child, allocate, poppable, last_poppable, dangle_scope, restore_scope, bind_in, get_name, take_name}
use Rattle.rules.specs.Needs.{Kind, give_back, Need, defer, at, ignore, freed_need, output_of}
use Rattle.rules.specs.Frames.{Remembered, State, Frame, child, pop, dangle, restore, pop_last, alloc, alloc_in, linear, define, get, take_from, free, free_quietly, forget, drain, write, read, read_name, new_defer, new_assigned, new_ignore, alloc_need, output_need, drop_need, Line, Step, step, allot, hand_back, free_as, free_handle, add_need, allot_need, free_own, Outcome, accepted, refused_at, before, onward, steps}
use Rattle.rules.proofs.Tells.{tells-and, tells-le}
use Rattle.rules.proofs.Demand3.{next-frame, no-frame}

-- ---- the number

abbrev low : ℕ → Bool
low n = leb 1 n && leb n 22

record Numbered {A : Type 0} (m : Answer A) : Type 0 where
  at : (n : ℕ) → m ≡ refused n → low n ≡ true

num-given : {A : Type 0} {a : A} → Numbered (given a)
num-given = record { at = λ n e. absurd (let z : ◌≡◌ {A = ℕ} 0 1 = cc in omega arith) }

num-by : {A : Type 0} (n : ℕ) → low n ≡ true → Numbered {A = A} (refused n)
num-by n h = record { at = λ m e. let q : n ≡ m = cc in subst (λ (k : ℕ). low k ≡ true) q h }

num-then : {A B : Type 0} {m : Answer A} {f : A → Answer B} → Numbered m → ((a : A) → Numbered (f a)) → Numbered (m >>= f)
unfolding ◌>>=◌
num-then {m = given a} h k = k a
num-then {m = refused n} h k = num-by n (h.at n refl)

num-when : {B : Type 0} (n : ℕ) {b : Bool} (f : Unit {0} → Answer B) → low n ≡ true → (b ≡ false → Numbered (f tt)) → Numbered ((refuse n when b) >>= f)
unfolding ◌>>=◌ refuse◌when◌
num-when n {b = true} f h k = num-by n h
num-when n {b = false} f h k = k refl

num-unless : {A B : Type 0} (n : ℕ) {o : Option A} {f : A → Answer B} → low n ≡ true → ((a : A) → o ≡ some a → Numbered (f a)) → Numbered ((refuse n unless o) >>= f)
unfolding ◌>>=◌ refuse◌unless◌
num-unless n {o = none} h k = num-by n h
num-unless n {o = some a} h k = k a refl

num-if : {B : Type 0} {b : Bool} {m n : Answer B} → (b ≡ true → Numbered m) → (b ≡ false → Numbered n) → Numbered (provided b then m else n)
unfolding provided◌then◌else◌
num-if {b = true} x y = x refl
num-if {b = false} x y = y refl

module _ (room : Room) (place : Placement) where
  num-child : (c : Scopes) → Numbered (open_child room c)
  unfolding open_child
  num-child c = num-unless 3 refl λ _ _. num-unless 8 refl λ _ _. num-given

  num-pop : (o : Option Found) (c : Scopes) → Numbered (poppable room o c)
  unfolding poppable
  num-pop o c = num-unless 4 refl λ _ _. num-when 5 _ refl (λ _. num-when 6 _ refl λ _. num-given)

  num-last : (c : Scopes) → Numbered (last_poppable room c)
  unfolding last_poppable
  num-last c = num-unless 3 refl λ _ _. num-unless 3 refl λ _ _. num-when 6 _ refl λ _. num-given

  num-dangle : (o : Option Found) (c : Scopes) → Numbered (dangle_scope o c)
  unfolding dangle_scope
  num-dangle o c = num-unless 4 refl λ _ _. num-when 5 _ refl λ _. num-given

  num-restore : (o : Option Found) (c : Scopes) → Numbered (restore_scope o c)
  unfolding restore_scope
  num-restore o c = num-unless 4 refl λ _ _. num-when 5 _ refl λ _. num-given

  num-allot : (k : Found) (kind : Kind) (n : ℕ) (s : State) → Numbered (allot room place k kind n s)
  unfolding allot allocate
  num-allot k kind n s = num-when 16 _ refl (λ _. num-then (num-unless 7 refl λ _ _. num-given) λ _. num-given)

  num-bind : (t : Found) (name a h : ℕ) (c : Scopes) → Numbered (bind_in room t name a h c)
  unfolding bind_in
  num-bind t name a h c = num-when 9 _ refl λ _. num-given

  num-get : (name : ℕ) (c : Scopes) → Numbered (get_name room name c)
  unfolding get_name
  num-get name c = num-unless 3 refl λ _ _. num-unless 10 refl λ _ _. num-when 11 _ refl λ _. num-given

  num-take : (name : ℕ) (c : Scopes) → Numbered (take_name room name c)
  unfolding take_name
  num-take name c = num-then (num-get name c) λ _. num-given

  num-free-as : (k : Kind) (dangles : Bool) (h : ℕ) (s : State) → Numbered (free_as k dangles h s)
  unfolding free_as hand_back give_back
  num-free-as k dangles h s =
      num-if (λ _. num-when 14 _ refl λ _. num-then (num-unless 12 refl λ _ _. num-when 12 _ refl λ _. num-given) λ _. num-given) (λ _. num-given)

  num-free : (dangles : Bool) (h : ℕ) (s : State) → Numbered (free_handle dangles h s)
  unfolding free_handle
  num-free dangles h s = num-when 13 _ refl (λ _. num-free-as (s.handles h).kind dangles h s)

  num-add : (x : Remembered) (s : State) → Numbered (add_need room x s)
  unfolding add_need
  num-add x s = num-when 22 _ refl λ _. num-given

  num-allot-need : (n : ℕ) (s : State) (d : Need) → Numbered (allot_need room place n s d)
  unfolding allot_need
  num-allot-need n s (defer id) = num-unless 4 refl λ k _. num-then (num-allot k _ 1 s) λ _. num-given
  num-allot-need n s (at a) = num-given
  num-allot-need n s ignore = num-given
  num-allot-need n s freed_need = num-given

  num-output : (d : Need) → Numbered (output_of d)
  unfolding output_of
  num-output (defer id) = num-by 18 refl
  num-output (at a) = num-given
  num-output ignore = num-given
  num-output freed_need = num-by 18 refl

  num-own : (h : ℕ) (s : State) (d : Need) → Numbered (free_own h s d)
  unfolding free_own
  num-own h s (defer id) = num-given
  num-own h s (at a) = num-if (λ _. num-free-as a.kind true h s) (λ _. num-given)
  num-own h s ignore = num-given
  num-own h s freed_need = num-given

  numbers : (s : State) (f : Frame) → Numbered (step room place s f)
  unfolding step
  numbers s child = num-then (num-child s.scopes) λ _. num-given
  numbers s (pop n) = num-then (num-pop _ s.scopes) λ _. num-given
  numbers s (dangle n) = num-then (num-dangle _ s.scopes) λ _. num-given
  numbers s (restore n) = num-then (num-restore _ s.scopes) λ _. num-given
  numbers s pop_last = num-then (num-last s.scopes) λ _. num-given
  numbers s alloc = num-unless 3 refl λ t _. num-then (num-allot t _ 1 s) λ _. num-given
  numbers s (alloc_in n) = num-unless 4 refl λ t _. num-then (num-allot t _ 1 s) λ _. num-given
  numbers s (linear zero) = num-unless 3 refl λ _ _. num-given
  numbers s (linear (suc n)) = num-unless 3 refl λ t _. num-then (num-allot t _ (suc n) s) λ _. num-given
  numbers s (define name h) = num-unless 3 refl λ t _. num-when 13 _ refl (λ _. num-then (num-bind t name _ h s.scopes) λ _. num-given)
  numbers s (get name) = num-then (num-get name s.scopes) λ _. num-given
  numbers s (take_from name) = num-then (num-take name s.scopes) λ _. num-given
  numbers s (free h) = num-then (num-free true h s) λ _. num-given
  numbers s (free_quietly h) = num-then (num-free false h s) λ _. num-given
  numbers s (forget h) = num-when 13 _ refl λ _. num-given
  numbers s drain = num-given
  numbers s (write h v) = num-when 13 _ refl (λ _. num-when 14 _ refl λ _. num-given)
  numbers s (read h) = num-when 13 _ refl (λ _. num-when 14 _ refl (λ _. num-when 15 _ refl λ _. num-given))
  numbers s (read_name name) = num-then (num-get name s.scopes) λ _. num-when 14 _ refl (λ _. num-when 15 _ refl λ _. num-given)
  numbers s (new_defer n) = num-unless 4 refl λ _ _. num-then (num-add _ s) λ _. num-given
  numbers s (new_assigned h) = num-when 13 _ refl (λ _. num-then (num-add _ s) λ _. num-given)
  numbers s new_ignore = num-then (num-add _ s) λ _. num-given
  numbers s (alloc_need n) = num-when 21 _ refl (λ _. num-then (num-allot-need n s _) λ _. num-given)
  numbers s (output_need n) = num-when 21 _ refl (λ _. num-then (num-output _) λ _. num-given)
  numbers s (drop_need n) = num-when 21 _ refl (λ _. num-then (num-own _ s _) λ _. num-given)

  -- ---- and the line, of a script

  abbrev Stops : ℕ → ℕ → ℕ → ℕ → Type 0
  Stops n i j end = (low n ≡ true) × (i ≤ j) × (j < end)

  pub behind : (ls : List Line) (o : Outcome) (n j : ℕ) → before ls o ≡ refused_at n j → o ≡ refused_at n j
  behind ls (accepted more size) n j e = absurd (let z : ◌≡◌ {A = ℕ} 0 1 = cc in omega arith)
  behind ls (refused_at m k) n j e = e

  stops : (fs : List Frame) (i : ℕ) (s : State) (n j : ℕ) → steps room place i s fs ≡ refused_at n j → Stops n i j (i + length fs)
  unfolding onward
  stops [] i s n j e = let q = no-frame room place i s in absurd (let z : ◌≡◌ {A = ℕ} 0 1 = cc in omega arith)
  stops (f ∷ fs) i s n j e = go (step room place s f) refl (sym (next-frame room place i s f fs) ∙ e) (λ t q. stops fs (suc i) t n j q)
    where
      go : (a : Step) → step room place s f ≡ a → onward i a (λ t. steps room place (suc i) t fs) ≡ refused_at n j
          → ((t : State) → steps room place (suc i) t fs ≡ refused_at n j → Stops n (suc i) j (suc i + length fs)) → Stops n i j (i + suc (length fs))
      go (refused m) p q ih = let a : m ≡ n = cc in let b : i ≡ j = cc in (subst (λ (k : ℕ). low k ≡ true) a ((numbers s f).at m p), omega arith, omega arith)
      go (given r) p q ih = let h = ih r.1 (behind r.0 (steps room place (suc i) r.1 fs) n j q) in (h.0, omega (arith, h.1), omega (arith, h.2))

  pub refused-within : (fs : List Frame) (i : ℕ) (s : State) (n j : ℕ) → steps room place i s fs ≡ refused_at n j → (1 ≤ n) × (n ≤ 22) × (j < i + length fs)
  refused-within fs i s n j e = let k = stops fs i s n j e in let b = (tells-and (tells-le 1 n) (tells-le n 22)).holds k.0 in (b.0, b.1, k.2)

  -- what is refused from line i on is refused there or later
  pub refused-from : (fs : List Frame) (i : ℕ) (s : State) (n j : ℕ) → steps room place i s fs ≡ refused_at n j → i ≤ j
  refused-from fs i s n j e = (stops fs i s n j e).1
