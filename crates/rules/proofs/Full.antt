-- W-211: "In edition 2, an alloc past 3 and 16 is refused by 7 exactly if every slot is held." Assumes nothing.
use mathlib.Core.Path.{◌≡◌, refl, ap, subst, ◌∙◌}
use mathlib.Core.Bool.{Bool, true, false, not}
use mathlib.Core.Option.{Option, none, some}
use Prim.Native.Nat.{ℕ, ◌+◌, ◌*◌, ◌<◌}
use native.Mathlib.Omega.{arith}
use lib.Dec.{ltb}
use borrow.Author.Tests.{le-ltb, not-false}
use Rattle.rules.specs.Notation.{given, refused, ◌>>=◌, refuse◌when◌, refuse◌unless◌}
use Rattle.rules.specs.Sizes.{Room}
use Rattle.rules.specs.Slots.{Slots, lowest_of_all, insert_lowest, edition2}
use Rattle.rules.specs.Scopes.{Found, top_scope, allocate}
use Rattle.rules.specs.Needs.{local}
use Rattle.rules.specs.Frames.{alloc, State, allot, step}
use Rattle.rules.specs.Editions.{EverySlotHeld, SevenIfFull, SevenExactlyIfFull}
use Rattle.rules.proofs.Chains.{unless-some, unless-none, when_false, refused-on}
use Rattle.rules.proofs.Searches.{first-none, first-is-none}
use Rattle.rules.proofs.Sound.{StateSound}
use Rattle.rules.proofs.HandleTests.{tells-state}
use Rattle.rules.proofs.Held.{held-occupied}

-- no slot is lowest exactly if every slot is occupied
none-clear : (m : ℕ) (s : Slots) → ((a : ℕ) → a < 128 * m → s.occupied a ≡ true) → lowest_of_all m s ≡ none
unfolding lowest_of_all
none-clear m s h = first-is-none (λ a. not (s.occupied a)) 0 (128 * m) (λ a _ l. ap not (h a (omega arith)))

all-occupied : (m : ℕ) (s : Slots) → lowest_of_all m s ≡ none → (a : ℕ) → a < 128 * m → s.occupied a ≡ true
unfolding lowest_of_all
all-occupied m s e a l = not-false (s.occupied a) (first-none (λ b. not (s.occupied b)) 0 (128 * m) e a (omega arith) (omega arith))

module _ (room : Room) (s : State) where
  abbrev slots : Slots
  slots = s.scopes.slots

  full-refused : (t : Found) → top_scope s.scopes ≡ some t → s.handed < room.handles → lowest_of_all room.segments slots ≡ none
      → step room (edition2 room.segments) s alloc ≡ refused 7
  unfolding step allot allocate edition2 insert_lowest
  full-refused t top handle e =
      let seven : allot room (edition2 room.segments) t local 1 s ≡ refused 7 =
      when_false 16 _ (le-ltb room.handles (s.handed + 1) (omega arith)) ∙ refused-on 7 _ (unless-none 7 _ (rw (e, insert_lowest))) in
      unless-some 3 _ top ∙ refused-on 7 _ seven

  -- where a slot is clear the step is given, or refused by 3 or 16
  clear-other : (a : ℕ) → lowest_of_all room.segments slots ≡ some a → {X : Type 0} → step room (edition2 room.segments) s alloc ≡ refused 7 → X
  unfolding step allot allocate edition2 insert_lowest ◌>>=◌ refuse◌when◌ refuse◌unless◌
  clear-other a e {X = X} r = go (top_scope s.scopes) (ltb room.handles (s.handed + 1)) refl refl
    where
      go : (o : Option Found) (b : Bool) → top_scope s.scopes ≡ o → ltb room.handles (s.handed + 1) ≡ b → X
      go none b q p = absurd (let z : refused 3 ≡ refused 7 = rw (q, step) at r in let y : ◌≡◌ {A = ℕ} 3 7 = cc in omega arith)
      go (some t) true q p = absurd (let z : refused 16 ≡ refused 7 = rw (q, p, step, allot) at r in let y : ◌≡◌ {A = ℕ} 16 7 = cc in omega arith)
      go (some t) false q p = absurd (let z : given _ ≡ refused 7 = rw (q, p, e, step, allot, allocate, insert_lowest) at r in let y : ◌≡◌ {A = ℕ} 0 1 = cc in omega arith)

  seven-if-full : StateSound room s → SevenIfFull room s
  unfolding EverySlotHeld
  seven-if-full ok = record {
    refuses = λ past held.
        full-refused past.owner past.top past.handle
        (none-clear room.segments slots
        (λ a l. let h = held a l in subst (λ (b : ℕ). slots.occupied b ≡ true) h.3 (held-occupied room s ok h.0 h.1 h.2)));
    only = λ r. by-lowest r (lowest_of_all room.segments slots) refl;
  }
    where
      by-lowest : step room (edition2 room.segments) s alloc ≡ refused 7 → (o : Option ℕ) → lowest_of_all room.segments slots ≡ o → EverySlotHeld room s
      by-lowest r (some a) e = clear-other a e r
      by-lowest r none e = λ a l. let h = ok.handles.holder a l (all-occupied room.segments slots e a l) in (h.handle, h.below, h.held, h.address)

pub seven-exactly-if-full : (room : Room) → SevenExactlyIfFull room
unfolding SevenExactlyIfFull
seven-exactly-if-full room s h = seven-if-full room s ((tells-state room s).holds h)
