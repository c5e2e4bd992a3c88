-- W-206: a larger room places the slots where the smaller one did, and a step that the smaller one doesn't refuse by 7 or 16 is the same there.
-- Assumes nothing.
use mathlib.Core.Path.{◌≡◌, refl, sym, ◌∙◌}
use mathlib.Core.Bool.{Bool, true, false, not, true≢false}
use mathlib.Core.Option.{Option, none, some}
use Prim.Native.Nat.{ℕ, zero, suc, ◌+◌, ◌*◌, ◌-◌, max, ◌≤◌, ◌<◌}
use native.Mathlib.Omega.{arith}
use lib.Dec.{eqb, ltb}
use borrow.Author.Tests.{eqb-false, ne_eqb, ltb-false, le-ltb}
use Rattle.rules.specs.Notation.{Answer, given, refused, ◌>>=◌, refuse◌when◌, refuse◌unless◌, past_last}
use Rattle.rules.specs.Sizes.{Room}
use Rattle.rules.specs.Slots.{Slots, Placed, Placement, first_with_clear, insert_new, insert, past_greatest, push_run, edition1, lowest_of_all, insert_lowest, edition2, vacant, take_run, exactly, Place, by_head, lowest, exactly_at, placing}
use Rattle.rules.specs.Scopes.{Found, by_id, by_number, has_child, open_child, allocate, poppable, last_poppable, bind_in, get_name, take_name}
use Rattle.rules.specs.Needs.{Kind, Need, defer, at, ignore, freed_need}
use Rattle.rules.specs.Frames.{Frame, child, pop, dangle, restore, pop_last, alloc, alloc_in, linear, define, get, take_from, free, free_quietly, forget, drain, write, read, read_name, new_defer, new_assigned, new_ignore, alloc_need, output_need, drop_need, State, allot, set_need, add_need, allot_need, step}
use Rattle.rules.specs.Rooms.{may_now_pass}
use Rattle.rules.proofs.Chains.{All, all-given, all_then, none-some}
use Rattle.rules.proofs.Tells.{is_false, clash}
use Rattle.rules.proofs.Sound.{SlotsSound}
use Rattle.rules.proofs.Searches.{first_found, first-is}
use Rattle.rules.proofs.Editions.{vacant-tells}

-- ---- placements

-- where nothing from n on passes, the last that passes is looked for below n
past-short : (f : ℕ → Bool) (n k : ℕ) → ((a : ℕ) → n ≤ a → a < n + k → f a ≡ false) → past_last f (n + k) ≡ past_last f n
unfolding past_last
past-short f n zero h = let e : n + 0 ≡ n = omega arith in rw e
past-short f n (suc k) h =
    let e : n + suc k ≡ suc (n + k) = omega arith in
    rw (e, h (n + k) (omega arith) (omega arith), past_last) (past-short f n k (λ a l r. h a l (omega arith)))

-- slots that are sound in n segments and in m, which are no fewer
module _ (n m : ℕ) (le : n ≤ m) (s : Slots) (here : SlotsSound n s) (there : SlotsSound m s) where
  -- a place that is found in n segments is found in m
  abbrev FoundToo : Option Placed → Option Placed → Type 0
  FoundToo o o' = (x : Placed) → o ≡ some x → o' ≡ some x

  new-too : FoundToo (insert_new n s) (insert_new m s)
  unfolding insert_new
  new-too x e = go (eqb s.segments n) refl
    where
      go : (b : Bool) → eqb s.segments n ≡ b → insert_new m s ≡ some x
      go true q = none-some (rw (q, insert_new) at e)
      go false q =
          let ne : s.segments ≡ m → ⊥ = λ z. omega (arith, here.segments, eqb-false s.segments n q) in
          rw (ne_eqb s.segments m ne, insert_new) (rw (q, insert_new) at e)

  insert-too : FoundToo (insert n s) (insert m s)
  unfolding insert
  insert-too x e = go (first_with_clear s) refl
    where
      go : (o : Option ℕ) → first_with_clear s ≡ o → insert m s ≡ some x
      go (some g) q = rw (q, insert) (rw (q, insert) at e)
      go none q = rw (q, insert) (new-too x (rw (q, insert) at e))

  past_same : past_greatest m s ≡ past_greatest n s
  unfolding past_greatest
  past_same =
      let e : 128 * m ≡ 128 * n + 128 * (m - n) = omega arith in
      rw e (past-short s.occupied (128 * n) (128 * (m - n)) (λ a l r. is_false (s.occupied a) (λ q. omega (arith, here.segments, there.low a (omega arith) q))))

  run-too : (k : ℕ) → FoundToo (push_run n k s) (push_run m k s)
  unfolding push_run
  run-too k x e = go (ltb (128 * n) (past_greatest n s + k)) refl
    where
      go : (b : Bool) → ltb (128 * n) (past_greatest n s + k) ≡ b → push_run m k s ≡ some x
      go true q = none-some (rw (q, push_run) at e)
      go false q =
          let fits : ltb (128 * m) (past_greatest n s + k) ≡ false = le-ltb (128 * m) (past_greatest n s + k) (omega (arith, ltb-false (128 * n) (past_greatest n s + k) q)) in
          rw (past_same, fits, push_run) (rw past_same (rw (q, push_run) at e))

  lowest-too : FoundToo (insert_lowest n s) (insert_lowest m s)
  unfolding insert_lowest lowest_of_all
  lowest-too x e = go (lowest_of_all n s) refl
    where
      go : (o : Option ℕ) → lowest_of_all n s ≡ o → insert_lowest m s ≡ some x
      go none q = none-some (rw (q, insert_lowest) at e)
      go (some a) q =
          let f = first_found (λ b. not (s.occupied b)) 0 (128 * n) a q in
          let g : lowest_of_all m s ≡ some a = first-is (λ b. not (s.occupied b)) 0 (128 * m) a (record { low = f.low; high = omega (arith, f.high); before = f.before; passes = f.passes }) in
          rw (g, insert_lowest) (rw (q, insert_lowest) at e)

  exactly-too : (a k : ℕ) → FoundToo (exactly n a k s) (exactly m a k s)
  unfolding exactly
  exactly-too a k x e = go (vacant n a k s) refl
    where
      go : (b : Bool) → vacant n a k s ≡ b → exactly m a k s ≡ some x
      go false q = none-some (rw (q, exactly) at e)
      go true q =
          let w = (vacant-tells n a k s).holds q in
          let v : vacant m a k s ≡ true = (vacant-tells m a k s).shows (omega (arith, w.0), w.1) in
          rw (v, exactly) (rw (q, exactly) at e)

  by-one-too : (k : ℕ) (o o' : Option Placed) → FoundToo o o' → FoundToo (elim (eqb k 1) [ true ↦ o | false ↦ push_run n k s ]) (elim (eqb k 1) [ true ↦ o' | false ↦ push_run m k s ])
  by-one-too k o o' h = go (eqb k 1)
    where
      go : (b : Bool) → FoundToo (elim b [ true ↦ o | false ↦ push_run n k s ]) (elim b [ true ↦ o' | false ↦ push_run m k s ])
      go true = h
      go false = run-too k

  pub placing-too : (p : Place) (k : ℕ) → FoundToo (placing n p k s) (placing m p k s)
  unfolding placing edition1 edition2
  placing-too by_head k = by-one-too k (insert n s) (insert m s) insert-too
  placing-too lowest k = by-one-too k (insert_lowest n s) (insert_lowest m s) lowest-too
  placing-too (exactly_at a) k = exactly-too a k

  -- slots that only m segments have at an address lie past the n
  pub exactly-past : (a k : ℕ) (x : Placed) → placing n (exactly_at a) k s ≡ none → placing m (exactly_at a) k s ≡ some x → 128 * n < x.address + k
  unfolding placing exactly
  exactly-past a k x e d = go (vacant n a k s) (vacant m a k s) refl refl
    where
      go : (b b' : Bool) → vacant n a k s ≡ b → vacant m a k s ≡ b' → 128 * n < x.address + k
      go true b' q q' = none-some (sym (rw (q, exactly) at e))
      go false false q q' = none-some (rw (q', exactly) at d)
      go false true q q' =
          let here-not : a + k ≤ 128 * n → ⊥ = λ l. true≢false (sym ((vacant-tells n a k s).shows (l, ((vacant-tells m a k s).holds q').1)) ∙ q) in
          let y : some (record { address = a; next = take_run a k s }) ≡ some x = rw (q', exactly) at d in
          let z : a ≡ x.address = cc in
          omega (arith, here-not)

-- ---- answers

-- what the larger room answers where the smaller one answers x: the same, or anything where x is a refusal by 7 or 16; P holds of what 7 turns into
pub data Follows {A : Type 0} (P : A → Type 0) : Answer A → Answer A → Type 0 where
  same : (x : Answer A) → Follows P x x
  lifted : (n : ℕ) (y : Answer A) → may_now_pass n ≡ true → (n ≡ 7 → All P y) → Follows P (refused n) y

follows_on : {A B : Type 0} {P : B → Type 0} (x : Answer A) {f g : A → Answer B} → ((a : A) → Follows P (f a) (g a)) → Follows P (x >>= f) (x >>= g)
unfolding ◌>>=◌
follows_on (given a) h = h a
follows_on (refused n) h = same (refused n)

-- what is given is handed on as it is, in either room
follows_then : {A B : Type 0} {P : A → Type 0} {Q : B → Type 0} {x y : Answer A} (f : A → B) → Follows P x y → ((a : A) → P a → Q (f a)) → Follows Q (x >>= λ a. given (f a)) (y >>= λ a. given (f a))
unfolding ◌>>=◌
follows_then f (same x) h = same _
follows_then f (lifted n y l w) h = lifted n _ l (λ e. all_then λ a d. all-given (h a ((w e).at a d)))

follows-unless : {A : Type 0} {P : A → Type 0} (o o' : Option A) → ((a : A) → o ≡ some a → o' ≡ some a) → ((a : A) → o ≡ none → o' ≡ some a → P a) → Follows P (refuse 7 unless o) (refuse 7 unless o')
unfolding refuse◌unless◌
follows-unless (some a) o' h k = rw (h a refl) (same (given a))
follows-unless none none h k = same _
follows-unless none (some a) h k = lifted 7 _ refl (λ _. all-given (k a refl refl))

follows-when : {B : Type 0} {P : B → Type 0} (b b' : Bool) {x y : Answer B} → (b ≡ false → b' ≡ false) → Follows P x y → Follows P ((refuse 16 when b) >>= λ _. x) ((refuse 16 when b') >>= λ _. y)
unfolding ◌>>=◌ refuse◌when◌
follows-when true b' h w = lifted 16 _ refl (λ e. absurd (omega arith))
follows-when false true h w = clash refl (h refl)
follows-when false false h w = w

-- ---- a step

-- the room with more segments and handles, of another size and text
abbrev pub grown : Room → ℕ → ℕ → ℕ → ℕ → Room
grown room segments handles size text =
    record { segments = segments; scopes = room.scopes; bindings = room.bindings; handles = handles; needs = room.needs; lines = room.lines; size = size; text = text }

module _ (small : Room) (segments handles size text : ℕ) (more : small.handles ≤ handles) (p q : Placement) (s : State)
    (places : (n : ℕ) (x : Placed) → p n s.scopes.slots ≡ some x → q n s.scopes.slots ≡ some x)
    (Far : ℕ → Type 0) (far : (n : ℕ) (x : Placed) → p n s.scopes.slots ≡ none → q n s.scopes.slots ≡ some x → Far (max s.scopes.size (x.address + n))) where
  abbrev large : Room
  large = grown small segments handles size text

  allot-follows : (k : Found) (kind : Kind) (n : ℕ) → Follows (λ r. Far r.1.scopes.size) (allot small p k kind n s) (allot large q k kind n s)
  unfolding allot allocate
  allot-follows k kind n =
      follows-when (ltb small.handles (s.handed + n)) (ltb handles (s.handed + n)) (λ e. le-ltb handles (s.handed + n) (omega (arith, ltb-false small.handles (s.handed + n) e)))
      (follows_then _ (follows_then _ (follows-unless (p n s.scopes.slots) (q n s.scopes.slots) (places n) (far n)) (λ x h. h)) (λ r h. h))

  need-follows : (n : ℕ) (d : Need) → Follows (λ r. Far r.1.scopes.size) (allot_need small p n s d) (allot_need large q n s d)
  unfolding allot_need by_id set_need
  need-follows n (defer id) = follows_on _ λ k. follows_then _ (allot-follows k _ 1) (λ r h. h)
  need-follows n (at a) = same _
  need-follows n ignore = same _
  need-follows n freed_need = same _

  -- Far of the size that a step leaves where only the larger room has the slots
  pub step_follows : (f : Frame) → Follows (λ r. Far r.1.scopes.size) (step small p s f) (step large q s f)
  unfolding step by_number has_child open_child poppable last_poppable bind_in get_name take_name add_need
  step_follows child = same _
  step_follows (pop n) = same _
  step_follows (dangle n) = same _
  step_follows (restore n) = same _
  step_follows pop_last = same _
  step_follows alloc = follows_on _ λ t. follows_then _ (allot-follows t _ 1) (λ r h. h)
  step_follows (alloc_in n) = follows_on _ λ k. follows_then _ (allot-follows k _ 1) (λ r h. h)
  step_follows (linear zero) = same _
  step_follows (linear (suc n)) = follows_on _ λ t. follows_then _ (allot-follows t _ (suc n)) (λ r h. h)
  step_follows (define name h) = same _
  step_follows (get name) = same _
  step_follows (take_from name) = same _
  step_follows (free h) = same _
  step_follows (free_quietly h) = same _
  step_follows (forget h) = same _
  step_follows drain = same _
  step_follows (write h x) = same _
  step_follows (read h) = same _
  step_follows (read_name name) = same _
  step_follows (new_defer n) = same _
  step_follows (new_assigned h) = same _
  step_follows new_ignore = same _
  step_follows (alloc_need n) = follows_on _ λ _. follows_then _ (need-follows n (s.needs n).need) (λ r h. h)
  step_follows (output_need n) = same _
  step_follows (drop_need n) = same _
