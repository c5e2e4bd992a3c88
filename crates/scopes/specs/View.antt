-- The state as the rules see it, and what an operation did and said in the rules' terms. Assumes nothing.
use Rattle.std.specs.Prelude.{ℕ, ◌+◌, ◌*◌, ◌/◌, ◌%◌, max, Bool, true, false, List, map, replicate, take, ◌==◌, nat_lt, slice_index, slice_index_or}
use Rattle.std.proofs.Math.Option.{Option, none, some}
use Rattle.rules.specs.Notation.{Answer, given, refused, ◌▹◌}
use Rattle.rules.specs.Sizes.{BINDINGS, HALVES, LINKS, SCOPES, SLOTS, DANGLING, WORD}
use Rattle.rules.specs.AddressSets.{added_all, without_all, run}
use Rattle.rules.specs.Scopes as rule
use Rattle.slots.specs.Halves.{occ, slots_of}
use Rattle.slots.specs.Spots.{filled}
use Rattle.links.specs.Follow.{lists}
use Rattle.scopes.specs.declared.Scopes.{Scopes}
use Rattle.scopes.specs.declared.ScopeId.{ScopeId}
use Rattle.scopes.specs.declared.Bound.{Bound}
use Rattle.slots.specs.declared.SlotAddress.{SlotAddress}

-- ---- the state

-- the lists: those of the scopes, and at DANGLING the dangling list
abbrev pub list_of : List ℕ → ℕ → List ℕ
list_of links = lists SLOTS links

-- an index below SCOPES, or none
abbrev pub index : ℕ → Option ℕ
index n = elim (nat_lt n SCOPES) [ true ↦ some n | false ↦ none ]

abbrev pub only_if : Bool → rule.Scope → Option rule.Scope
only_if true k = some k
only_if false k = none

abbrev pub scope_at : List Bool → List ℕ → List ℕ → (ℕ → List ℕ) → ℕ → rule.Scope
scope_at dangled parent number owned i =
    record { number = slice_index number i; parent = index (slice_index parent i); dangled = slice_index_or dangled i false; owned = owned i }

abbrev pub scopes_from : List Bool → List Bool → List ℕ → List ℕ → (ℕ → List ℕ) → ℕ → Option rule.Scope
scopes_from live dangled parent number owned i = only_if (slice_index_or live i false) (scope_at dangled parent number owned i)

-- A binding in one number, from the low end: moved 1 bit, then handle, address and name, 16 bits each, then the scope. What each part is counted in:
abbrev pub HANDLE_PART : ℕ
HANDLE_PART = 2

abbrev pub ADDRESS_PART : ℕ
ADDRESS_PART = WORD * HANDLE_PART

abbrev pub NAME_PART : ℕ
NAME_PART = WORD * ADDRESS_PART

abbrev pub SCOPE_PART : ℕ
SCOPE_PART = WORD * NAME_PART

abbrev pub binding : ℕ → rule.Binding
binding b =
    record {
      scope = b / SCOPE_PART;
      name = b / NAME_PART % WORD;
      address = b / ADDRESS_PART % WORD;
      handle = b / HANDLE_PART % WORD;
      moved = (b % 2 == 1);
    }

abbrev pub bindings_of : List ℕ → ℕ → List rule.Binding
bindings_of bindings n = map binding (take n bindings)

abbrev pub view : Scopes → rule.Scopes
view s =
    record {
      slots = slots_of s.halves s.segments s.head;
      live = scopes_from s.live s.dangled s.parent s.number (list_of s.links);
      top = index s.top;
      counter = s.counter;
      bindings = bindings_of s.bindings s.count;
      dangling = list_of s.links DANGLING;
      size = s.size;
    }

-- where every number is 0: no state yet
abbrev pub blank : Scopes
blank =
    record {
      halves = replicate HALVES 0;
      links = replicate LINKS 0;
      owner = replicate SLOTS 0;
      live = replicate SCOPES false;
      dangled = replicate SCOPES false;
      parent = replicate SCOPES 0;
      number = replicate SCOPES 0;
      bindings = replicate BINDINGS 0;
      count = 0;
      segments = 0;
      head = 0;
      top = 0;
      counter = 0;
      size = 0;
    }

abbrev pub id_of : ScopeId → rule.Id
id_of i = record { index = i.index; number = i.number }

-- the scope at index i, and where it was found
abbrev pub scope_of : Scopes → ℕ → rule.Scope
scope_of s i = scope_at s.dangled s.parent s.number (list_of s.links) i

abbrev pub found_at : Scopes → ℕ → rule.Found
found_at s i = record { index = i; scope = scope_of s i }

-- ---- what the results of the operations say, in the rules' terms

abbrev pub address_of : SlotAddress → ℕ
address_of a = a.0

-- what a name is bound to: an address and a handle
abbrev pub bound_to : Bound → ℕ × ℕ
bound_to b = (b.address.0, b.handle.0)

abbrev pub target : rule.Binding → ℕ × ℕ
target b = (b.address, b.handle)

-- ---- what an operation did and said

pub record Seen (B : Type 0) : Type 0 where
  pub next : rule.Scopes
  pub says : Answer B

-- the same of a rule's answer, in the state c; "All leave state and lent memory unchanged"
abbrev pub told : {A B : Type 0} → (A → B) → rule.Scopes → Answer (A × rule.Scopes) → Seen B
told f c (given x) = record { next = x.1; says = given (f x.0) }
told f c (refused n) = record { next = c; says = refused n }

-- where the rule gives the next state alone
abbrev pub told_only : rule.Scopes → Answer rule.Scopes → Seen (Unit {0})
told_only c (given x) = record { next = x; says = given tt }
told_only c (refused n) = record { next = c; says = refused n }

-- a question's answer
abbrev pub replied : {A B : Type 0} → (A → B) → Answer A → Answer B
replied f (given x) = given (f x)
replied f (refused n) = refused n

-- what the n slots from a on leave, given to the scope at index k; L and H stay
abbrev pub run_for : Scopes → ℕ → ℕ → ℕ → rule.Scopes
run_for s k a n =
    view s
    ▹ rule.slots≔ (record { occupied = filled a n (occ s.halves); segments = s.segments; head = s.head })
    ▹ rule.set_scope (found_at s k) (rule.owned≔ (added_all (run a n) (list_of s.links k)) (scope_of s k))
    ▹ rule.dangling≔ (without_all (run a n) (list_of s.links DANGLING))
    ▹ rule.size≔ (max s.size (a + n))
