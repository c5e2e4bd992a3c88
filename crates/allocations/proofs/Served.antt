-- A need over a state: an address is asked for on its behalf, as output too, or its address is freed. Assumes nothing.
use mathlib.Core.Path.{◌≡◌, refl, sym, ap, ◌∙◌}
use mathlib.Core.Bool.{true}
use mathlib.Core.Logic.{◌⊎◌}
use mathlib.Core.Option.{Option, none, some}
use Rattle.std.proofs.Common.{⊎_elim}
use Prim.Native.Nat.{ℕ}
use Rattle.std.specs.Prelude as code
use Rattle.std.specs.Prelude.{Some, None}
use Rattle.rules.specs.Notation.{Answer, given, refused, ◌>>=◌}
use Rattle.rules.specs.Sizes.{base}
use Rattle.rules.specs.Slots.{Placement}
use Rattle.rules.specs.Scopes.{Scopes, Id}
use Rattle.rules.specs.Needs as rule
use Rattle.scopes.specs.View.{view, id_of, Seen, told, replied}
use Rattle.scopes.specs.Steps.{Whole, Becomes}
use Rattle.scopes.specs.declared.Scopes as state
use Rattle.scopes.specs.declared.ScopeId.{ScopeId}
use Rattle.slots.specs.declared.SlotAddress.{SlotAddress}
use Rattle.needs.specs.Kinds.{kind_of, address_of, need_of}
use Rattle.needs.specs.Answers.{slot_of, output_of, output_from}
use Rattle.needs.specs.declared.Address.{Address}
use Rattle.needs.specs.declared.Need.{Need}
use Rattle.needs.specs.declared.Need.TheVariants as need
use Rattle.allocations.specs.Outcomes.{SeenBoth, told_both, BothBecome, allocated_slot, allocated_output, done_freeing, allocation_by, output_by, freeing_need}
use Rattle.allocations.proofs.Goes.{refusal-replied, not-refused}

-- the need was asked for, or answered, where no state was
module _ {A : Type 0} {s : state.Scopes} (whole : Whole s) where
  pub stay : {d e : Need} {x : A} {f : rule.Need → Scopes → SeenBoth A}
      → f (need_of d) (view s) ≡ record { next = view s; need = need_of e; says = given x } → BothBecome (s, d) (s, e) (given x) f
  stay {x = x} e = record { is = sym e; whole = whole; kept = not-refused x }

-- ---- allocating

-- the need n, once an address was asked for on its behalf
abbrev served : rule.Need → Seen rule.Address → SeenBoth (Option ℕ)
served n s = elim s.says [
  | given a ↦ record { next = s.next; need = rule.at a; says = given (some a.slot) }
  | refused m ↦ record { next = s.next; need = n; says = refused m }
]

served-told : (place : Placement) (id : Id) (c : Scopes)
    → served (rule.defer id) (told (λ a. a) c (rule.alloc_address_in base place id c)) ≡ allocation_by place (rule.defer id) c
unfolding rule.allocate_need ◌>>=◌
served-told place id c = go (rule.alloc_address_in base place id c)
  where
    go : (m : Answer (rule.Address × Scopes))
        → served (rule.defer id) (told (λ a. a) c m) ≡ told_both allocated_slot c (rule.defer id) (m >>= λ r. given (record { need = rule.at r.0; scopes = r.1; slot = some r.0.slot }))
    go (given x) = refl
    go (refused n) = refl

-- the need d is deferred to the scope i
module _ {s t : state.Scopes} (place : Placement) (i : ScopeId) (d : Need) (is : d ≡ need.Defer i) where
  pub served-given : (a : Address) → Becomes s t (given (address_of a)) (λ c. told (λ b. b) c (rule.alloc_address_in base place (id_of i) c))
      → BothBecome (s, d) (t, need.Address a) (given (some a.slot.0)) (allocation_by place)
  served-given a h =
      record {
        is = ap (served (rule.defer (id_of i))) h.is ∙ served-told place (id_of i) (view s) ∙ sym (ap (λ (x : Need). allocation_by place (need_of x) (view s)) is);
        whole = h.whole;
        kept = not-refused (some a.slot.0);
      }

  pub served-refused : (n : ℕ) → Becomes s t (refused n) (λ c. told (λ b. b) c (rule.alloc_address_in base place (id_of i) c))
      → BothBecome (s, d) (t, d) (refused n) (allocation_by place)
  served-refused n h =
      record {
        is = ap (λ (x : Need). record { next = view t; need = need_of x; says = refused n }) is ∙ ap (served (rule.defer (id_of i))) h.is ∙ served-told place (id_of i) (view s)
            ∙ sym (ap (λ (x : Need). allocation_by place (need_of x) (view s)) is);
        whole = h.whole;
        kept = λ e. λ j. (h.kept e j, d);
      }

module _ {s : state.Scopes} (whole : Whole s) (place : Placement) (d : Need) where
  -- an address is allocated already
  pub has-address : (a b : Address) → d ≡ need.Address a → address_of b ≡ rule.address a.slot.0 (rule.allocated_kind (kind_of a.kind))
      → BothBecome (s, d) (s, need.Address b) (given (some b.slot.0)) (allocation_by place)
  unfolding rule.allocate_need
  has-address a b is e =
      stay whole
      (ap (λ (x : Need). allocation_by place (need_of x) (view s)) is
      ∙ ap (λ (x : rule.Address). record { next = view s; need = rule.at x; says = given (some x.slot) }) (sym e))

  pub wants-none : (d ≡ need.Ignore) ⊎ (d ≡ need.Freed) → BothBecome (s, d) (s, d) (given none) (allocation_by place)
  unfolding rule.allocate_need
  wants-none = ⊎_elim (λ e. stay whole (rw e)) (λ e. stay whole (rw e))

-- ---- as output

pub output-of-from : (o : code.Option SlotAddress) → output_of (output_from o) ≡ rule.as_output (slot_of o)
output-of-from (Some a) = refl
output-of-from None = refl

abbrev as_seen : SeenBoth (Option ℕ) → SeenBoth rule.Output
as_seen s = record { next = s.next; need = s.need; says = replied rule.as_output s.says }

output-told : (c : Scopes) (n : rule.Need) (m : Answer rule.Allocated) → as_seen (told_both allocated_slot c n m) ≡ told_both allocated_output c n m
output-told c n (given x) = refl
output-told c n (refused k) = refl

pub as-output : {x y : state.Scopes × Need} (place : Placement) (a : Answer (Option ℕ)) → BothBecome x y a (allocation_by place)
    → BothBecome x y (replied rule.as_output a) (output_by place)
as-output {x} place a h =
    record {
      is = ap as_seen h.is ∙ output-told (view x.0) (need_of x.1) (rule.allocate_need base place (need_of x.1) (view x.0));
      whole = h.whole;
      kept = λ e. h.kept (refusal-replied rule.as_output a e);
    }

-- ---- freeing

-- the need n, once its address was freed
abbrev rid : rule.Need → Seen rule.Address → SeenBoth (Unit {0})
rid n s = elim s.says [
  | given a ↦ record { next = s.next; need = rule.freed_need; says = given tt }
  | refused m ↦ record { next = s.next; need = n; says = refused m }
]

rid-told : (a : rule.Address) (c : Scopes) → rid (rule.at a) (told (λ b. b) c (rule.free_address true a c)) ≡ freeing_need (rule.at a) c
unfolding rule.free_need ◌>>=◌
rid-told a c = go (rule.free_address true a c)
  where
    go : (m : Answer (rule.Address × Scopes)) → rid (rule.at a) (told (λ b. b) c m) ≡ told_both done_freeing c (rule.at a) (m >>= λ r. given (rule.freed_need, r.1))
    go (given x) = refl
    go (refused n) = refl

-- the need d is the address a
module _ {s t : state.Scopes} (a : Address) (d : Need) (is : d ≡ need.Address a) where
  pub rid-given : (b : rule.Address) → Becomes s t (given b) (λ c. told (λ b. b) c (rule.free_address true (address_of a) c))
      → BothBecome (s, d) (t, need.Freed) (given tt) freeing_need
  rid-given b h =
      record {
        is = ap (rid (rule.at (address_of a))) h.is ∙ rid-told (address_of a) (view s) ∙ sym (ap (λ (x : Need). freeing_need (need_of x) (view s)) is);
        whole = h.whole;
        kept = not-refused (tt {0});
      }

  pub rid-refused : (n : ℕ) → Becomes s t (refused n) (λ c. told (λ b. b) c (rule.free_address true (address_of a) c))
      → BothBecome (s, d) (t, d) (refused n) freeing_need
  rid-refused n h =
      record {
        is = ap (λ (x : Need). record { next = view t; need = need_of x; says = refused n }) is ∙ ap (rid (rule.at (address_of a))) h.is ∙ rid-told (address_of a) (view s)
            ∙ sym (ap (λ (x : Need). freeing_need (need_of x) (view s)) is);
        whole = h.whole;
        kept = λ e. λ j. (h.kept e j, d);
      }

-- a need that has no address
pub rid-none : {s : state.Scopes} → Whole s → (d : Need) → ((a : Address) → d ≡ need.Address a → ⊥) → BothBecome (s, d) (s, need.Freed) (given tt) freeing_need
unfolding rule.free_need
rid-none whole (need.Defer i) n = stay whole refl
rid-none whole (need.Address a) n = absurd (n a refl)
rid-none whole need.Ignore n = stay whole refl
rid-none whole need.Freed n = stay whole refl
