-- A slot in the scope of an id, and its handle: 4, 16, 7, and what was granted. Assumes nothing.
use mathlib.Core.Path.{◌≡◌, refl, sym, ap, subst, ◌∙◌}
use mathlib.Core.Bool.{true, false}
use mathlib.Core.Option.{Option, none, some}
use mathlib.Core.List.{List}
use Prim.Native.Nat.{ℕ, ◌+◌, ◌≤◌, ◌<◌}
use native.Mathlib.Omega.{arith}
use lib.ListN.{get_or}
use Rattle.std.specs.Prelude.{Ok, Err}
use Rattle.std.specs.Prelude as code
use Rattle.std.specs.Option.{is_some}
use Rattle.rules.specs.Notation.{Answer, given, refused, refuse◌unless◌}
use Rattle.rules.specs.Refusals.{number_of}
use Rattle.rules.specs.declared.refusal.Refusal.{Refusal}
use Rattle.rules.specs.declared.refusal.Refusal.TheVariants.{NotLive, HandlesFull}
use Rattle.rules.specs.Sizes.{base, HANDLES, SLOTS}
use Rattle.rules.specs.Slots.{Place, Placement, placing}
use Rattle.rules.specs.Scopes as rule
use Rattle.rules.specs.Scopes.{Found, allocate, by_id, by_number}
use Rattle.rules.specs.Needs.{scope}
use Rattle.rules.specs.Frames.{State, alloc_in, step}
use Rattle.rules.proofs.Chains.{unless-some, unless-none, refused-on}
use Rattle.rules.proofs.Naming.{id-is as found-id}
use Rattle.rules.proofs.Tells.{clash}
use Rattle.slots.specs.declared.SlotAddress.{SlotAddress}
use Rattle.scopes.specs.View.{view, id_of, found_at, told, replied}
use Rattle.scopes.specs.Steps.{Becomes}
use Rattle.scopes.specs.Leaves.{Means}
use Rattle.scopes.specs.declared.Scopes.{Scopes}
use Rattle.scopes.specs.declared.ScopeId.{ScopeId}
use Rattle.handles.specs.Handles.{kind_in, state_of, HandsOut}
use Rattle.handles.specs.declared.Handles.{Handles}
use Rattle.frames.specs.Steps.{Stands, Works, allotted_in, AllotsOne}
use Rattle.frames.specs.declared.steps.Adds.TheVariants.{Slot}
use Rattle.frames.proofs.Moving.{comes-refused, works-refused, numbered-is, numbered-none}
use Rattle.frames.proofs.Allotting.{answered-below, asked, full, none-left, allots}
use Rattle.frames.proofs.Allocations.{Told}

id-is : (c : rule.Scopes) (id : rule.Id) (k : Found) → by_id base c id ≡ some k → id ≡ rule.id_of k
id-is c id k e = let t = found-id base c id k e in λ u. record { index = sym t.0 u; number = sym t.1 u }

-- whether a scope was found
pub found-none : {s : Scopes} {o : Option Found} (r : code.Option ℕ) → Means s o r → is_some r ≡ false → o ≡ none
found-none code.None m q = sym m.is
found-none (code.Some i) m q = clash refl q

pub found-some : {s : Scopes} {o : Option Found} (r : code.Option ℕ) → Means s o r → is_some r ≡ true → (k : Found) × (o ≡ some k)
found-some code.None m q = clash q refl
found-some {s} (code.Some i) m q = (found_at s i, sym m.is)

module _ (p : Place) {s : Scopes} {handles : Handles} (stands : Stands s handles) (id : ScopeId) where
  abbrev c : rule.Scopes
  c = view s

  abbrev standing : State
  standing = state_of c handles

  abbrev place : Placement
  place = placing base.segments p

  pub in-4 : by_id base c (id_of id) ≡ none → AllotsOne place (id_of id) s handles (Err NotLive) s handles
  unfolding allotted_in
  in-4 e = record { comes = λ o drained. comes-refused stands _ o NotLive (unless-none 4 _ e) drained; hands = λ q. clash refl q }

  module _ (k : Found) (e : by_id base c (id_of id) ≡ some k) where
    in-as : (o : ℕ) → allotted_in place (id_of id) o standing ≡ asked p stands k (scope (id_of id)) 1 o
    unfolding allotted_in
    in-as o = unless-some 4 _ e

    in-told : {d : rule.Scopes} {a : Answer ℕ} → Told c d a (rule.alloc_in place (by_id base c (id_of id)) c) → Told c d a (allocate place k 1 c)
    unfolding rule.alloc_in
    in-told q = q ∙ ap (told (λ (x : ℕ). x) c) (unless-some 4 _ e)

    pub in-16 : HANDLES ≤ handles.handed → AllotsOne place (id_of id) s handles (Err HandlesFull) s handles
    in-16 l = record { comes = λ o drained. comes-refused stands _ o HandlesFull (in-as o ∙ refused-on 16 _ (full p stands k (scope (id_of id)) 1 (omega arith))) drained; hands = λ q. clash refl q }

    module _ (l : handles.handed < HANDLES) where
      pub in-7 : (x : Refusal) {s' : Scopes} → Becomes s s' (refused (number_of x)) (λ c. told (λ a. a) c (rule.alloc_in place (by_id base c (id_of id)) c)) → AllotsOne place (id_of id) s handles (Err x) s' handles
      in-7 x b = record {
        comes = λ o drained. record {
          does = in-as o ∙ none-left p stands k (scope (id_of id)) 1 (omega arith) x (in-told b.is) o;
          stays = λ _. (b.kept refl, refl);
          whole = b.whole;
          few = tt;
          handles-length = stands.handles-length;
          holders-length = stands.holders-length;
        };
        hands = λ q. clash refl q;
      }

      module _ {s' : Scopes} (a : SlotAddress) (b : Becomes s s' (given a.0) (λ c. told (λ a. a) c (rule.alloc_in place (by_id base c (id_of id)) c))) where
        pub in-low : a.0 + 1 ≤ SLOTS
        in-low = answered-below p stands k 1 a (in-told b.is)

        pub in-granted : (handles' : Handles) → HandsOut handles 1 a.0 (scope (id_of id)) handles' → AllotsOne place (id_of id) s handles (Ok (Slot a)) s' handles'
        in-granted handles' h = record {
          comes = λ o drained. record {
            does = in-as o ∙ allots p stands k (scope (id_of id)) 1 (omega arith) s' handles' a (in-told b.is) h o drained;
            stays = λ q. clash q refl;
            whole = b.whole;
            few = tt;
            handles-length = h.handles-length;
            holders-length = h.holders-length;
          };
          hands = λ _.
              let next : handles.handed + 0 ≡ handles.handed = omega arith in
              (l, subst (λ (i : ℕ). kind_in (get_or handles'.table i 0) ≡ scope (id_of id)) next (h.kinds 0 (omega arith)));
        }

  -- 07, where `id` is the id that the number n means, which the code has as m
  pub in-by-number : (n : ℕ) {m : ℕ} → m ≡ n → given (id_of id) ≡ replied rule.id_of (refuse 4 unless (by_number base c m)) → step base place standing (alloc_in n) ≡ allotted_in place (id_of id) 0x07 standing
  unfolding step allotted_in
  in-by-number n {m} same is = go (by_number base c n) refl
    where
      meant : by_id base c (id_of id) ≡ by_number base c n
      meant = numbered-is s m (Ok id) is id refl ∙ ap (by_number base c) same

      go : (x : Option Found) → by_number base c n ≡ x → step base place standing (alloc_in n) ≡ allotted_in place (id_of id) 0x07 standing
      go none q = unless-none 4 _ q ∙ sym (unless-none 4 _ (meant ∙ q))
      go (some k) q =
          unless-some 4 _ q
          ∙ (λ t. asked p stands k (scope (sym (id-is c (id_of id) k (meant ∙ q)) t)) 1 0x07)
          ∙ sym (unless-some 4 _ (meant ∙ q))

-- 07 of a number that no scope has
pub in-unnumbered : (p : Place) {s : Scopes} {handles : Handles} → Stands s handles → (n : ℕ) {m : ℕ} → m ≡ n → (e : Refusal) → refused (number_of e) ≡ replied rule.id_of (refuse 4 unless (by_number base (view s) m)) → (drained : List ℕ)
    → Works (placing base.segments p) (alloc_in n) 0x07 s handles (Err e) s handles drained
unfolding step
in-unnumbered p {s} stands n {m} same e is drained =
    let z = numbered-none s m (Err e) is e refl in
    works-refused stands (alloc_in n) 0x07 e (unless-none 4 _ (ap (by_number base (view s)) (sym same) ∙ z.0) ∙ ap refused (sym z.1)) drained
