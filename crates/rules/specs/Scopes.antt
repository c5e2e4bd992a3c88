-- Document 01, "Scopes". Refusals stand in the order of "Order"; those that only a script gives (13 to 16) are in Frames.
-- Assumes nothing.
use Rattle.std.specs.Prelude.{Bool, true, false, not, ◌&&◌, ◌||◌, List, [], ◌∷◌, ℕ, zero, suc, ◌+◌, ◌-◌, ◌%◌, max, length, eqb, ltb, leb}
use Rattle.std.proofs.Math.Option.{Option, none, some}
use Rattle.rules.specs.Notation.{Answer, given, ◌>>=◌, refuse◌when◌, refuse◌unless◌, is_some, ◌▹◌, put, first}
use Rattle.rules.specs.Sizes.{Room, COUNTERS}
use Rattle.rules.specs.Slots.{Slots, fresh_slots, Placement, remove_all}
use Rattle.rules.specs.AddressSets.{added_all, without_all, run}

-- ---- the state

-- "An id is an index and a counter number."
pub record Id : Type 0 where
  pub index : ℕ
  pub number : ℕ

-- "Each live scope has a parent, a mark "dangled", .. and a list of owned addresses in the order added." Root has no parent.
pub record Scope : Type 0 where
  pub number : ℕ
  pub parent : Option ℕ
  pub dangled : Bool
  pub owned : List ℕ

-- A binding of the live scope at index `scope`. "A binding remembers its handle": in a script; elsewhere 0 stands there.
pub record Binding : Type 0 where
  pub scope : ℕ
  pub name : ℕ
  pub address : ℕ
  pub handle : ℕ
  pub moved : Bool

-- `live` has the live scopes by index; `bindings` those of all scopes, in the order in which they were defined
pub record Scopes : Type 0 where
  pub slots : Slots
  pub live : ℕ → Option Scope
  pub top : Option ℕ
  pub counter : ℕ
  pub bindings : List Binding
  pub dangling : List ℕ
  pub size : ℕ

-- c with one part changed
abbrev pub slots≔ : Slots → Scopes → Scopes
slots≔ x c = record { slots = x; live = c.live; top = c.top; counter = c.counter; bindings = c.bindings; dangling = c.dangling; size = c.size }

abbrev pub live≔ : (ℕ → Option Scope) → Scopes → Scopes
live≔ x c = record { slots = c.slots; live = x; top = c.top; counter = c.counter; bindings = c.bindings; dangling = c.dangling; size = c.size }

abbrev pub top≔ : Option ℕ → Scopes → Scopes
top≔ x c = record { slots = c.slots; live = c.live; top = x; counter = c.counter; bindings = c.bindings; dangling = c.dangling; size = c.size }

abbrev pub counter≔ : ℕ → Scopes → Scopes
counter≔ x c = record { slots = c.slots; live = c.live; top = c.top; counter = x; bindings = c.bindings; dangling = c.dangling; size = c.size }

abbrev pub bindings≔ : List Binding → Scopes → Scopes
bindings≔ x c = record { slots = c.slots; live = c.live; top = c.top; counter = c.counter; bindings = x; dangling = c.dangling; size = c.size }

abbrev pub dangling≔ : List ℕ → Scopes → Scopes
dangling≔ x c = record { slots = c.slots; live = c.live; top = c.top; counter = c.counter; bindings = c.bindings; dangling = x; size = c.size }

abbrev pub size≔ : ℕ → Scopes → Scopes
size≔ x c = record { slots = c.slots; live = c.live; top = c.top; counter = c.counter; bindings = c.bindings; dangling = c.dangling; size = x }

abbrev pub dangled≔ : Bool → Scope → Scope
dangled≔ x k = record { number = k.number; parent = k.parent; dangled = x; owned = k.owned }

abbrev pub owned≔ : List ℕ → Scope → Scope
owned≔ x k = record { number = k.number; parent = k.parent; dangled = k.dangled; owned = x }

abbrev pub moved≔ : Bool → Binding → Binding
moved≔ x b = record { scope = b.scope; name = b.name; address = b.address; handle = b.handle; moved = x }

abbrev pub new_scope : ℕ → Option ℕ → Scope
new_scope n p = record { number = n; parent = p; dangled = false; owned = [] }

-- "Root is (0, 0). The child counter starts at 1": fresh, root alone is live, and is the top.
unfoldable pub fresh_scopes : Scopes
fresh_scopes =
    record {
      slots = fresh_slots;
      live = λ i. elim i [ zero ↦ some (new_scope 0 none) | suc j ↦ none ];
      top = some 0;
      counter = 1;
      bindings = [];
      dangling = [];
      size = 0;
    }

-- ---- which scope is meant

-- a live scope and its index
pub record Found : Type 0 where
  pub index : ℕ
  pub scope : Scope

abbrev pub found : ℕ → Option Scope → Option Found
found i none = none
found i (some k) = some (record { index = i; scope = k })

-- the top, if there is one
unfoldable pub top_scope : Scopes → Option Found
top_scope c = elim c.top [ none ↦ none | some i ↦ found i (c.live i) ]

abbrev pub has_number : ℕ → Option Scope → Bool
has_number n none = false
has_number n (some k) = eqb k.number n

-- a library call names a scope by its id; none where it isn't live, or its number differs
unfoldable pub by_id : Room → Scopes → Id → Option Found
by_id room c id =
    elim (ltb id.index room.scopes && has_number id.number (c.live id.index)) [
      | true ↦ found id.index (c.live id.index)
      | false ↦ none
    ]

-- a script names it by its number ("shared by two live scopes: the lower index")
unfoldable pub by_number : Room → Scopes → ℕ → Option Found
by_number room c n = elim (first (λ i. has_number n (c.live i)) 0 room.scopes) [ none ↦ none | some i ↦ found i (c.live i) ]

abbrev pub id_of : Found → Id
id_of k = record { index = k.index; number = k.scope.number }

abbrev pub child_of : ℕ → Option Scope → Bool
child_of i none = false
child_of i (some k) = elim k.parent [ none ↦ false | some p ↦ eqb p i ]

unfoldable pub has_child : Room → Scopes → ℕ → Bool
has_child room c i = is_some (first (λ j. child_of i (c.live j)) 0 room.scopes)

-- the live scope k, changed to x
unfoldable pub set_scope : Found → Scope → Scopes → Scopes
set_scope k x c = c ▹ live≔ (put c.live k.index (some x))

-- ---- child

-- "is 32 bits wide, and goes from 4,294,967,295 back to 0"
abbrev pub after_counter : ℕ → ℕ
after_counter n = (n + 1) % COUNTERS

-- "The index is the lowest free one from 1 to 63 (our rule).": 3, 8.
-- "child: parent is the top; becomes top."
unfoldable pub open_child : Room → Scopes → Answer (Id × Scopes)
open_child room c = do
  _ ← refuse 3 unless (top_scope c)
  i ← refuse 8 unless (first (λ j. not (is_some (c.live j))) 1 (room.scopes - 1))
  given (
    record { index = i; number = c.counter },
    c
        ▹ live≔ (put c.live i (some (new_scope c.counter c.top)))
        ▹ top≔ (some i)
        ▹ counter≔ (after_counter c.counter),
  )

-- ---- alloc, alloc in s, linear n

-- "the owner's list gains the address; it leaves the dangling list; size becomes max(size, address + 1)": n addresses, for the owner k; 7.
unfoldable pub allocate : Placement → Found → ℕ → Scopes → Answer (ℕ × Scopes)
allocate place k n c = do
  p ← refuse 7 unless (place n c.slots)
  given (
    p.address,
    c
        ▹ slots≔ p.next
        ▹ set_scope k (k.scope ▹ owned≔ (added_all (run p.address n) k.scope.owned))
        ▹ dangling≔ (without_all (run p.address n) c.dangling)
        ▹ size≔ (max c.size (p.address + n)),
  )

-- alloc: 3, 7
unfoldable pub alloc_top : Placement → Scopes → Answer (ℕ × Scopes)
alloc_top place c = do
  t ← refuse 3 unless (top_scope c)
  allocate place t 1 c

-- alloc in s: 4, 7
unfoldable pub alloc_in : Placement → Option Found → Scopes → Answer (ℕ × Scopes)
alloc_in place s c = do
  k ← refuse 4 unless s
  allocate place k 1 c

-- "linear n: 0 gives an empty run with no address; 1 acts as alloc; n ≥ 2 pushes n times, owner top, refused (7) exactly if g + n > 1,024. Size
-- and the dangling list follow as for alloc.": 3, 7; what 1,024 is in the room is for the placement to say
unfoldable pub alloc_run : Placement → ℕ → Scopes → Answer (Option ℕ × Scopes)
alloc_run place zero c = do
  _ ← refuse 3 unless (top_scope c)
  given (none, c)
alloc_run place (suc n) c = do
  t ← refuse 3 unless (top_scope c)
  r ← allocate place t (suc n) c
  given (some r.0, r.1)

-- ---- pop s, pop last

-- the bindings of the other scopes
unfoldable pub unbound : ℕ → List Binding → List Binding
unbound i [] = []
unbound i (b ∷ l) = elim (eqb b.scope i) [ true ↦ unbound i l | false ↦ b ∷ unbound i l ]

-- "its addresses are removed from the slots in list order, each put at the end of the dangling list unless there; bindings go;
-- top becomes its parent, even if s wasn't top."
unfoldable pub closed : Found → Scopes → Scopes
closed k c =
    c
    ▹ slots≔ (remove_all k.scope.owned c.slots)
    ▹ dangling≔ (added_all k.scope.owned c.dangling)
    ▹ live≔ (put c.live k.index none)
    ▹ bindings≔ (unbound k.index c.bindings)
    ▹ top≔ k.scope.parent

-- pop: 4, 5, 6; the scope that is to be closed
unfoldable pub poppable : Room → Option Found → Scopes → Answer Found
poppable room s c = do
  k ← refuse 4 unless s
  _ ← refuse 5 when (k.scope.dangled || eqb k.index 0)
  _ ← refuse 6 when (has_child room c k.index)
  given k

unfoldable pub pop_scope : Room → Option Found → Scopes → Answer Scopes
pop_scope room s c = do
  k ← poppable room s c
  given (closed k c)

-- "pop last does this to root; then there is no top": 3, 6
unfoldable pub last_poppable : Room → Scopes → Answer Found
last_poppable room c = do
  _ ← refuse 3 unless (top_scope c)
  k ← refuse 3 unless (found 0 (c.live 0))
  _ ← refuse 6 when (has_child room c 0)
  given k

unfoldable pub pop_last_scope : Room → Scopes → Answer Scopes
pop_last_scope room c = do
  k ← last_poppable room c
  given (closed k c)

-- ---- dangle s, restore s

-- "marks it, top becomes its parent": 4, 5
unfoldable pub dangle_scope : Option Found → Scopes → Answer Scopes
dangle_scope s c = do
  k ← refuse 4 unless s
  _ ← refuse 5 when (k.scope.dangled || eqb k.index 0)
  given (c ▹ set_scope k (k.scope ▹ dangled≔ true) ▹ top≔ k.scope.parent)

-- "unmarks it, top becomes s": 4, 5
unfoldable pub restore_scope : Option Found → Scopes → Answer Scopes
restore_scope s c = do
  k ← refuse 4 unless s
  _ ← refuse 5 when (not k.scope.dangled || eqb k.index 0)
  given (c ▹ set_scope k (k.scope ▹ dangled≔ false) ▹ top≔ (some k.index))

-- ---- define

abbrev pub is_for : ℕ → ℕ → Binding → Bool
is_for i name b = eqb b.scope i && eqb b.name name

-- the binding of a name in the scope at index i
unfoldable pub bound_in : ℕ → ℕ → List Binding → Option Binding
bound_in i name [] = none
bound_in i name (b ∷ l) = elim (is_for i name b) [ true ↦ some b | false ↦ bound_in i name l ]

-- the binding x in the place of its scope's and name's, or at the end
unfoldable pub rebound : Binding → List Binding → List Binding
rebound x [] = x ∷ []
rebound x (b ∷ l) = elim (is_for x.scope x.name b) [ true ↦ x ∷ l | false ↦ b ∷ rebound x l ]

-- "binds in the top, replacing an equal name there and its moved mark"; 9: "256 bindings and the name isn't in top"
unfoldable pub bind_in : Room → Found → ℕ → ℕ → ℕ → Scopes → Answer Scopes
bind_in room t name address handle c = do
  _ ← refuse 9 when (leb room.bindings (length c.bindings) && not (is_some (bound_in t.index name c.bindings)))
  given (c ▹ bindings≔ (rebound (record { scope = t.index; name = name; address = address; handle = handle; moved = false }) c.bindings))

-- define: 3, 9; a library call has no handle, and 0 stands there
abbrev pub define_name : Room → (name address handle : ℕ) → Scopes → Answer Scopes
define_name room name address handle c = do
  t ← refuse 3 unless (top_scope c)
  bind_in room t name address handle c

-- ---- get, take

-- "a name is looked for in the top scope, then in its parent, up to root; the nearest binding decides": at most n scopes, from i on
unfoldable pub lookup : ℕ → Scopes → ℕ → Option ℕ → Option Binding
lookup zero c name i = none
lookup (suc n) c name none = none
lookup (suc n) c name (some i) =
    elim (c.live i) [
      | none ↦ none
      | some k ↦ elim (bound_in i name c.bindings) [
        | some b ↦ some b
        | none ↦ lookup n c name k.parent
      ]
    ]

-- get: 3, 10, 11
unfoldable pub get_name : Room → ℕ → Scopes → Answer Binding
get_name room name c = do
  _ ← refuse 3 unless (top_scope c)
  b ← refuse 10 unless (lookup room.scopes c name c.top)
  _ ← refuse 11 when b.moved
  given b

-- "take marks it moved": 3, 10, 11
unfoldable pub take_name : Room → ℕ → Scopes → Answer (Binding × Scopes)
take_name room name c = do
  b ← get_name room name c
  given (b, c ▹ bindings≔ (rebound (b ▹ moved≔ true) c.bindings))

-- ---- drain

-- "answers the dangling list in order and empties it"
unfoldable pub drain_dangling : Scopes → List ℕ × Scopes
drain_dangling c = (c.dangling, c ▹ dangling≔ [])
