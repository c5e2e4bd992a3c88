-- Document 01, "Addresses and needs": library calls, without handles. Assumes nothing.
use Rattle.std.specs.Prelude.{Bool, true, false, not, ◌&&◌, List, [], ◌∷◌, map, reverse, ℕ, eqb}
use Rattle.std.proofs.Math.Option.{Option, none, some}
use Rattle.rules.specs.Notation.{Answer, given, refused, ◌>>=◌, refuse◌when◌, refuse◌unless◌, provided◌then◌else◌, ◌▹◌}
use Rattle.rules.specs.Sizes.{Room}
use Rattle.rules.specs.Slots.{Placement, remove}
use Rattle.rules.specs.AddressSets.{member, added, without, run}
use Rattle.rules.specs.Scopes.{Id, Scopes, slots≔, dangling≔, owned≔, Found, top_scope, by_id, set_scope, alloc_top, alloc_in, alloc_run}

-- ---- kinds

-- "An address carries a kind: Local, Dangling, Assigned, Freed, or Scope with the scope's id inside."
pub data Kind : Type 0 where
  local dangling assigned freed : Kind
  scope : Id → Kind

pub record Address : Type 0 where
  pub slot : ℕ
  pub kind : Kind

abbrev pub address : ℕ → Kind → Address
address a k = record { slot = a; kind = k }

-- "a run of n ≥ 2 Dangling, a run of 1 Local"
unfoldable pub run_kind : ℕ → Kind
run_kind n = provided (eqb n 1) then local else dangling

-- "Allocating it turns Dangling into Local."
abbrev pub allocated_kind : Kind → Kind
allocated_kind local = local
allocated_kind dangling = local
allocated_kind assigned = assigned
allocated_kind freed = freed
allocated_kind (scope i) = scope i

abbrev pub is_freed : Kind → Bool
is_freed local = false
is_freed dangling = false
is_freed assigned = false
is_freed freed = true
is_freed (scope i) = false

abbrev pub is_dangling : Kind → Bool
is_dangling local = false
is_dangling dangling = true
is_dangling assigned = false
is_dangling freed = false
is_dangling (scope i) = false

-- ---- alloc, alloc in s, linear n

-- "alloc gives Local": 3, 7
unfoldable pub alloc_address : Placement → Scopes → Answer (Address × Scopes)
alloc_address place c = do
  r ← alloc_top place c
  given (address r.0 local, r.1)

-- 4, 7
unfoldable pub alloc_address_in : Room → Placement → Id → Scopes → Answer (Address × Scopes)
alloc_address_in room place id c = do
  r ← alloc_in place (by_id room c id) c
  given (address r.0 (scope id), r.1)

-- the addresses of a run of n; none where it is empty
abbrev pub run_from : ℕ → Option ℕ → List Address
run_from n none = []
run_from n (some a) = map (λ b. address b (run_kind n)) (run a n)

-- 3, 7
unfoldable pub alloc_addresses : Placement → ℕ → Scopes → Answer (List Address × Scopes)
alloc_addresses place n c = do
  r ← alloc_run place n c
  given (run_from n r.0, r.1)

-- ---- freeing

abbrev pub is_scope : Id → Option Found → Bool
is_scope id none = false
is_scope id (some t) = eqb t.index id.index && eqb t.scope.number id.number

-- "Local and Dangling give the slot back ..; Scope only if its scope is top, else nothing more; Assigned nothing more."
unfoldable pub goes_back : Scopes → Kind → Bool
goes_back c local = true
goes_back c dangling = true
goes_back c assigned = false
goes_back c freed = false
goes_back c (scope id) = is_scope id (top_scope c)

-- "Giving back takes the address out of the owner's list and, unless freed without dangling, puts it on the dangling list.": 12
unfoldable pub give_back : Bool → ℕ → Scopes → Answer Scopes
give_back dangles a c = do
  t ← refuse 12 unless (top_scope c)
  _ ← refuse 12 when (not (member a t.scope.owned))
  given (c
      ▹ slots≔ (remove a c.slots)
      ▹ set_scope t (t.scope ▹ owned≔ (without a t.scope.owned))
      ▹ dangling≔ (elim dangles [ true ↦ added a c.dangling | false ↦ c.dangling ]))

-- "Freeing makes any kind Freed .. Freeing Freed is refused (13).": 13, then where the slot goes back 12
unfoldable pub free_address : Bool → Address → Scopes → Answer (Address × Scopes)
free_address dangles a c = do
  _ ← refuse 13 when (is_freed a.kind)
  d ← provided (goes_back c a.kind) then give_back dangles a.slot c else given c
  given (address a.slot freed, d)

-- "forget makes the kind Freed and keeps the slot."
unfoldable pub forget_address : Address → Address
forget_address a = address a.slot freed

unfoldable pub free_each : Bool → List Address → Scopes → Answer Scopes
free_each dangles [] c = given c
free_each dangles (a ∷ more) c = do
  r ← free_address dangles a c
  free_each dangles more r.1

-- "A run is freed last address first; if any freeing in that order would be refused, the first one's number is given and nothing changes."
unfoldable pub free_run : Bool → List Address → Scopes → Answer (List Address × Scopes)
free_run dangles l c = do
  d ← free_each dangles (reverse l) c
  given (map forget_address l, d)

unfoldable pub forget_run : List Address → List Address
forget_run l = map forget_address l

-- ---- needs

-- "A need is Defer (a scope), Address, Ignore or Freed."
pub data Need : Type 0 where
  defer : Id → Need
  at : Address → Need
  ignore freed_need : Need

pub record Allocated : Type 0 where
  pub need : Need
  pub scopes : Scopes
  pub slot : Option ℕ

-- "Allocating turns Defer into a Scope address by alloc in, acts on an Address as above, and answers none otherwise ..": 4, 7
unfoldable pub allocate_need : Room → Placement → Need → Scopes → Answer Allocated
allocate_need room place (defer id) c = do
  r ← alloc_address_in room place id c
  given (record { need = at r.0; scopes = r.1; slot = some r.0.slot })
allocate_need room place (at a) c = given (record { need = at (address a.slot (allocated_kind a.kind)); scopes = c; slot = some a.slot })
allocate_need room place ignore c = given (record { need = ignore; scopes = c; slot = none })
allocate_need room place freed_need c = given (record { need = freed_need; scopes = c; slot = none })

pub data Output : Type 0 where
  keep : ℕ → Output
  discard : Output

-- ".. (as output: discard)"
abbrev pub as_output : Option ℕ → Output
as_output none = discard
as_output (some a) = keep a

-- "output: keep, discard for Ignore, else 18."
unfoldable pub output_of : Need → Answer Output
output_of (defer id) = refused 18
output_of (at a) = given (keep a.slot)
output_of ignore = given discard
output_of freed_need = refused 18

-- "addr, into_addr: 18 unless Address"
unfoldable pub addr_of : Need → Answer Address
addr_of (defer id) = refused 18
addr_of (at a) = given a
addr_of ignore = refused 18
addr_of freed_need = refused 18

-- "into_addr leaves the need Freed."
unfoldable pub into_addr : Need → Answer (Address × Need)
into_addr d = do
  a ← addr_of d
  given (a, freed_need)

-- "try_as_addr: a need's Dangling address gives 19; Defer, Ignore, Freed give none."
unfoldable pub try_as_addr : Need → Answer (Option Address)
try_as_addr (defer id) = given none
try_as_addr (at a) = do
  _ ← refuse 19 when (is_dangling a.kind)
  given (some a)
try_as_addr ignore = given none
try_as_addr freed_need = given none

-- the need afterwards, and where x is to be copied, if anywhere
pub record Assignment : Type 0 where
  pub need : Need
  pub copy_to : Option ℕ

-- "assign from x: Defer becomes Assigned x; an Address other than x answers "copy x to it"; else nothing."
unfoldable pub assign_from : ℕ → Need → Assignment
assign_from x (defer id) = record { need = at (address x assigned); copy_to = none }
assign_from x (at a) = record { need = at a; copy_to = provided (eqb a.slot x) then none else some a.slot }
assign_from x ignore = record { need = ignore; copy_to = none }
assign_from x freed_need = record { need = freed_need; copy_to = none }

-- "free: frees an Address; all become Freed.": 13, 12
unfoldable pub free_need : Need → Scopes → Answer (Need × Scopes)
free_need (defer id) c = given (freed_need, c)
free_need (at a) c = do
  r ← free_address true a c
  given (freed_need, r.1)
free_need ignore c = given (freed_need, c)
free_need freed_need c = given (freed_need, c)
