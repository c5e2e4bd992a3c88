-- 06 alloc and 08 linear, case by case: 3, 16, 7 and what was granted. Assumes nothing.
use mathlib.Core.Path.{◌≡◌, refl, sym, ap, subst, ◌∙◌}
use mathlib.Core.Option.{Option, none, some}
use mathlib.Core.List.{List}
use Prim.Native.Nat.{ℕ, zero, suc, ◌+◌, ◌≤◌, ◌<◌}
use native.Mathlib.Omega.{arith}
use lib.ListN.{length}
use Rattle.std.specs.Prelude.{Ok, Err}
use Rattle.rules.specs.Notation.{Answer, given, refused, ◌>>=◌}
use Rattle.rules.specs.Refusals.{number_of}
use Rattle.rules.specs.declared.refusal.Refusal.{Refusal}
use Rattle.rules.specs.declared.refusal.Refusal.TheVariants.{HandlesFull}
use Rattle.rules.specs.Sizes.{base, HANDLES, SLOTS}
use Rattle.rules.specs.Slots.{Placement, Place, placing}
use Rattle.rules.specs.Scopes as rule
use Rattle.rules.specs.Scopes.{Found, allocate}
use Rattle.rules.specs.Needs.{Kind, local, run_kind}
use Rattle.rules.specs.Frames.{State, Frame, alloc, linear, step}
use Rattle.rules.proofs.Chains.{unless-some, unless-none, refused-on, none-some}
use Rattle.rules.proofs.Tells.{clash}
use Rattle.slots.specs.declared.SlotAddress.{SlotAddress}
use Rattle.scopes.specs.View.{view, found_at, Seen, told}
use Rattle.scopes.specs.Steps.{Becomes, Whole}
use Rattle.scopes.specs.Leaves.{Tops}
use Rattle.scopes.specs.declared.Scopes.{Scopes}
use Rattle.handles.specs.Handles.{state_of, HandsOut}
use Rattle.handles.specs.declared.Handles.{Handles}
use Rattle.frames.specs.Steps.{Stands, Works, stepped}
use Rattle.frames.specs.declared.steps.Adds.TheVariants.{NoSlot, Slot}
use Rattle.frames.proofs.Told.{given-refused, unless-ok, unless-err}
use Rattle.frames.proofs.Moving.{over-same, works-refused}
use Rattle.frames.proofs.Handling.{handed-few}
use Rattle.frames.proofs.Allotting.{answered-below, asked, full, none-left, allots}

-- ---- a run's answer, as that of its allocation

abbrev run_start : ℕ × rule.Scopes → Option ℕ × rule.Scopes
run_start r = (some r.0, r.1)

abbrev pub Told : {B : Type 0} → rule.Scopes → rule.Scopes → Answer B → Answer (B × rule.Scopes) → Type 0
Told {B} c d a m = ◌≡◌ {A = Seen B} (record { next = d; says = a }) (told (λ (x : B). x) c m)

module _ (c d : rule.Scopes) (m : Answer (ℕ × rule.Scopes)) where
  run-given : (a : ℕ) → Told c d (given (some a)) (m >>= λ r. given (run_start r)) → Told c d (given a) m
  unfolding ◌>>=◌
  run-given a e = go m refl
    where
      go : (k : Answer (ℕ × rule.Scopes)) → m ≡ k → Told c d (given a) m
      go (given x) q =
          let z = e ∙ ap (λ (k : Answer (ℕ × rule.Scopes)). told (λ (x : Option ℕ). x) c (k >>= λ r. given (run_start r))) q in
          let says : given (some a) ≡ given (some x.0) = ap (λ (y : Seen (Option ℕ)). y.says) z in
          let next : d ≡ x.1 = ap (λ (y : Seen (Option ℕ)). y.next) z in
          let same : a ≡ x.0 = cc in
          (λ t. record { next = next t; says = given (same t) }) ∙ ap (told (λ (x : ℕ). x) c) (sym q)
      go (refused n) q = given-refused (ap (λ (y : Seen (Option ℕ)). y.says) (e ∙ ap (λ (k : Answer (ℕ × rule.Scopes)). told (λ (x : Option ℕ). x) c (k >>= λ r. given (run_start r))) q))

  run-refused : (n : ℕ) → Told c d (refused n) (m >>= λ r. given (run_start r)) → Told c d (refused n) m
  unfolding ◌>>=◌
  run-refused n e = go m refl
    where
      go : (k : Answer (ℕ × rule.Scopes)) → m ≡ k → Told c d (refused n) m
      go (given x) q = given-refused (sym (ap (λ (y : Seen (Option ℕ)). y.says) (e ∙ ap (λ (k : Answer (ℕ × rule.Scopes)). told (λ (x : Option ℕ). x) c (k >>= λ r. given (run_start r))) q)))
      go (refused k) q =
          let z = e ∙ ap (λ (k : Answer (ℕ × rule.Scopes)). told (λ (x : Option ℕ). x) c (k >>= λ r. given (run_start r))) q in
          let says : refused n ≡ refused k = ap (λ (y : Seen (Option ℕ)). y.says) z in
          let next : d ≡ c = ap (λ (y : Seen (Option ℕ)). y.next) z in
          let same : n ≡ k = cc in
          (λ t. record { next = next t; says = refused (same t) }) ∙ ap (told (λ (x : ℕ). x) c) (sym q)

  run-none : Told c d (given none) (m >>= λ r. given (run_start r)) → ⊥
  unfolding ◌>>=◌
  run-none e = go m refl
    where
      go : (k : Answer (ℕ × rule.Scopes)) → m ≡ k → ⊥
      go (given x) q =
          let says : given none ≡ given (some x.0) = ap (λ (y : Seen (Option ℕ)). y.says) (e ∙ ap (λ (k : Answer (ℕ × rule.Scopes)). told (λ (x : Option ℕ). x) c (k >>= λ r. given (run_start r))) q) in
          let same : ◌≡◌ {A = Option ℕ} none (some x.0) = cc in
          none-some same
      go (refused k) q = given-refused (ap (λ (y : Seen (Option ℕ)). y.says) (e ∙ ap (λ (k : Answer (ℕ × rule.Scopes)). told (λ (x : Option ℕ). x) c (k >>= λ r. given (run_start r))) q))

module _ (p : Place) {s : Scopes} {handles : Handles} (stands : Stands s handles) where
  abbrev c : rule.Scopes
  c = view s

  abbrev standing : State
  standing = state_of c handles

  abbrev place : Placement
  place = placing base.segments p

  -- ---- refused by an operation, and granted

  left-works : (f : Frame) (op : ℕ) (e : Refusal) {s' : Scopes} → s' ≡ s → Whole s' → step base place standing f ≡ refused (number_of e) → (drained : List ℕ) → Works place f op s handles (Err e) s' handles drained
  left-works f op e same whole q drained =
      record { does = q; stays = λ _. (same, refl); whole = whole; few = tt; handles-length = stands.handles-length; holders-length = stands.holders-length }

  granted-works : (f : Frame) (op : ℕ) (a : SlotAddress) {s' : Scopes} {handles' : Handles} → Whole s' → length handles'.table ≡ HANDLES → length handles'.holders ≡ SLOTS → (drained : List ℕ)
      → step base place standing f ≡ stepped op (Ok (Slot a)) (state_of (view s') handles') drained → Works place f op s handles (Ok (Slot a)) s' handles' drained
  granted-works f op a whole long long' drained q = record { does = q; stays = λ q. clash q refl; whole = whole; few = tt; handles-length = long; holders-length = long' }

  -- ---- alloc

  pub alloc-3 : (e : Refusal) → Tops s (Err e) → (drained : List ℕ) → Works place alloc 0x06 s handles (Err e) s handles drained
  unfolding step
  alloc-3 e t drained = let n = unless-err 3 (rule.top_scope c) e t.is in works-refused stands alloc 0x06 e (unless-none 3 _ n.0 ∙ ap refused (sym n.1)) drained

  module _ {i : ℕ} (t : Tops s (Ok i)) where
    top : rule.top_scope c ≡ some (found_at s i)
    top = unless-ok 3 (rule.top_scope c) t.is

    alloc-as : step base place standing alloc ≡ asked p stands (found_at s i) local 1 0x06
    unfolding step
    alloc-as = unless-some 3 _ top

    alloc-told : {d : rule.Scopes} {a : Answer ℕ} → Told c d a (rule.alloc_top place c) → Told c d a (allocate place (found_at s i) 1 c)
    unfolding rule.alloc_top
    alloc-told e = e ∙ ap (told (λ (x : ℕ). x) c) (unless-some 3 _ top)

    pub alloc-16 : HANDLES ≤ handles.handed → (drained : List ℕ) → Works place alloc 0x06 s handles (Err HandlesFull) s handles drained
    alloc-16 l drained = works-refused stands alloc 0x06 HandlesFull (alloc-as ∙ refused-on 16 _ (full p stands (found_at s i) local 1 (omega arith))) drained

    module _ (l : handles.handed < HANDLES) where
      pub alloc-7 : (e : Refusal) {s' : Scopes} → Becomes s s' (refused (number_of e)) (λ c. told (λ a. a) c (rule.alloc_top place c)) → (drained : List ℕ) → Works place alloc 0x06 s handles (Err e) s' handles drained
      alloc-7 e b drained = left-works alloc 0x06 e (b.kept refl) b.whole (alloc-as ∙ none-left p stands (found_at s i) local 1 (omega arith) e (alloc-told b.is) 0x06) drained

      module _ {s' : Scopes} (a : SlotAddress) (b : Becomes s s' (given a.0) (λ c. told (λ a. a) c (rule.alloc_top place c))) where
        pub alloc-low : a.0 + 1 ≤ SLOTS
        alloc-low = answered-below p stands (found_at s i) 1 a (alloc-told b.is)

        pub alloc-works : (handles' : Handles) → HandsOut handles 1 a.0 local handles' → (drained : List ℕ) → Works place alloc 0x06 s handles (Ok (Slot a)) s' handles' drained
        alloc-works handles' h drained =
            granted-works alloc 0x06 a b.whole h.handles-length h.holders-length drained
            (alloc-as ∙ allots p stands (found_at s i) local 1 (omega arith) s' handles' a (alloc-told b.is) h 0x06 drained)

  -- ---- linear

  pub linear-3 : (n : ℕ) (e : Refusal) → Tops s (Err e) → (drained : List ℕ) → Works place (linear n) 0x08 s handles (Err e) s handles drained
  unfolding step
  linear-3 zero e t drained = let n = unless-err 3 (rule.top_scope c) e t.is in works-refused stands (linear zero) 0x08 e (unless-none 3 _ n.0 ∙ ap refused (sym n.1)) drained
  linear-3 (suc n) e t drained = let n' = unless-err 3 (rule.top_scope c) e t.is in works-refused stands (linear (suc n)) 0x08 e (unless-none 3 _ n'.0 ∙ ap refused (sym n'.1)) drained

  module _ {i : ℕ} (t : Tops s (Ok i)) where
    linear-as : (n : ℕ) → step base place standing (linear (suc n)) ≡ asked p stands (found_at s i) (run_kind (suc n)) (suc n) 0x08
    unfolding step
    linear-as n = unless-some 3 _ (top t)

    run-told : (n : ℕ) {d : rule.Scopes} {a : Answer (Option ℕ)} → Told c d a (rule.alloc_run place (suc n) c) → Told c d a (allocate place (found_at s i) (suc n) c >>= λ r. given (run_start r))
    unfolding rule.alloc_run
    run-told n e = e ∙ ap (told (λ (x : Option ℕ). x) c) (unless-some 3 _ (top t))

    none-told : {d : rule.Scopes} {a : Answer (Option ℕ)} → Told c d a (rule.alloc_run place zero c) → Told c d a (given (none, c))
    unfolding rule.alloc_run
    none-told e = e ∙ ap (told (λ (x : Option ℕ). x) c) (unless-some 3 _ (top t))

    pub linear-16 : (n : ℕ) → HANDLES < handles.handed + n → (drained : List ℕ) → Works place (linear n) 0x08 s handles (Err HandlesFull) s handles drained
    linear-16 zero l drained = absurd (omega (arith, handed-few stands))
    linear-16 (suc n) l drained = works-refused stands (linear (suc n)) 0x08 HandlesFull (linear-as n ∙ refused-on 16 _ (full p stands (found_at s i) (run_kind (suc n)) (suc n) l)) drained

    pub linear-7 : (n : ℕ) → handles.handed + n ≤ HANDLES → (e : Refusal) {s' : Scopes} → Becomes s s' (refused (number_of e)) (λ c. told (λ a. a) c (rule.alloc_run place n c)) → (drained : List ℕ)
        → Works place (linear n) 0x08 s handles (Err e) s' handles drained
    linear-7 zero fits e b drained = given-refused (sym (ap (λ (z : Seen (Option ℕ)). z.says) (none-told b.is)))
    linear-7 (suc n) fits e b drained =
        left-works (linear (suc n)) 0x08 e (b.kept refl) b.whole
        (linear-as n ∙ none-left p stands (found_at s i) (run_kind (suc n)) (suc n) fits e (run-refused c _ _ (number_of e) (run-told n b.is)) 0x08) drained

    -- no slot where none was asked for
    pub linear-none : (n : ℕ) {s' : Scopes} → Becomes s s' (given none) (λ c. told (λ a. a) c (rule.alloc_run place n c)) → (drained : List ℕ) → Works place (linear n) 0x08 s handles (Ok NoSlot) s' handles drained
    unfolding step
    linear-none zero {s'} b drained = record {
      does = unless-some 3 _ (top t) ∙ ap (λ (u : State). stepped 0x08 (Ok NoSlot) u drained) (over-same s s' handles drained c (view s') (ap (λ (z : Seen (Option ℕ)). z.next) (none-told b.is)) refl);
      stays = λ q. clash q refl;
      whole = b.whole;
      few = tt;
      handles-length = stands.handles-length;
      holders-length = stands.holders-length;
    }
    linear-none (suc n) b drained = absurd (run-none c _ _ (run-told n b.is))

    pub linear-low : (n : ℕ) {s' : Scopes} (a : SlotAddress) → Becomes s s' (given (some a.0)) (λ c. told (λ a. a) c (rule.alloc_run place n c)) → a.0 + n ≤ SLOTS
    linear-low zero a b = let says : given (some a.0) ≡ given none = ap (λ (z : Seen (Option ℕ)). z.says) (none-told b.is) in let same : ◌≡◌ {A = Option ℕ} none (some a.0) = cc in none-some same
    linear-low (suc n) a b = answered-below p stands (found_at s i) (suc n) a (run-given c _ _ a.0 (run-told n b.is))

    pub linear-works : (n : ℕ) → handles.handed + n ≤ HANDLES → {s' : Scopes} (a : SlotAddress) → Becomes s s' (given (some a.0)) (λ c. told (λ a. a) c (rule.alloc_run place n c)) → (m : ℕ) (k : Kind) → m ≡ n → k ≡ run_kind n
        → (handles' : Handles) → HandsOut handles m a.0 k handles' → (drained : List ℕ) → Works place (linear n) 0x08 s handles (Ok (Slot a)) s' handles' drained
    linear-works zero fits a b m k is is' handles' h drained = let says : given (some a.0) ≡ given none = ap (λ (z : Seen (Option ℕ)). z.says) (none-told b.is) in let same : ◌≡◌ {A = Option ℕ} none (some a.0) = cc in none-some same
    linear-works (suc n) fits {s'} a b m k is is' handles' h drained =
        let hands : HandsOut handles (suc n) a.0 (run_kind (suc n)) handles'
        = subst (λ (i : ℕ). HandsOut handles i a.0 (run_kind (suc n)) handles') is (subst (λ (x : Kind). HandsOut handles m a.0 x handles') is' h) in
        granted-works (linear (suc n)) 0x08 a b.whole h.handles-length h.holders-length drained
        (linear-as n ∙ allots p stands (found_at s i) (run_kind (suc n)) (suc n) fits s' handles' a (run-given c _ _ a.0 (run-told n b.is)) hands 0x08 drained)
