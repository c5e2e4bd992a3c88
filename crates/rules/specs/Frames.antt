-- Document 01, "Script frames" and "Numbers given back", and of document 02 W-201, "Needs in scripts", and the frame of W-205, "Recorded
-- counters through a script": one frame, and a script. Refusals stand in the order of "Order" and of W-201.
-- Assumes nothing.
use Rattle.std.specs.Prelude.{Bool, true, false, not, ◌&&◌, ◌||◌, List, [], ◌∷◌, ◌++◌, ℕ, zero, suc, ◌+◌, ◌-◌, length, eqb, ltb, leb}
use Rattle.std.proofs.Math.Option.{Option, none, some}
use Rattle.rules.specs.Notation.{Answer, given, refused, ◌>>=◌, refuse◌when◌, refuse◌unless◌, provided◌then◌else◌, is_some, or_else, ◌▹◌, put, first}
use Rattle.rules.specs.Sizes.{Room}
use Rattle.rules.specs.Slots.{Placement}
use Rattle.rules.specs.AddressSets.{member}
use Rattle.rules.specs.Scopes.{Scopes, fresh_scopes, Found, id_of, top_scope, by_id, by_number, open_child, allocate, closed, poppable, last_poppable, dangle_scope, restore_scope, bind_in, get_name, take_name, drain_dangling}
use Rattle.rules.specs.Needs.{Kind, local, dangling, assigned, freed, scope, run_kind, allocated_kind, is_freed, goes_back, give_back, Need, defer, at, ignore, freed_need, Output, keep, discard, output_of}

-- ---- frames

-- what a write stores: 10 the value that stands in the frame, 14 of W-205 "the next recorded sample"
pub data Source : Type 0 where
  constant : ℕ → Source
  next_sample : Source

-- "One frame a line": 01, 02, .. 12 in this order, where `write` is 10 and 14; then 20 to 25 of W-201
pub data Frame : Type 0 where
  child : Frame
  pop dangle restore : ℕ → Frame
  pop_last alloc : Frame
  alloc_in linear : ℕ → Frame
  define : ℕ → ℕ → Frame
  get take_from free free_quietly forget : ℕ → Frame
  drain : Frame
  write : ℕ → Source → Frame
  read read_name : ℕ → Frame
  new_defer new_assigned : ℕ → Frame
  new_ignore : Frame
  alloc_need output_need drop_need : ℕ → Frame

-- ---- handles

-- an allocation, as its handle knows it
pub record Handle : Type 0 where
  pub address : ℕ
  pub kind : Kind
  -- "An allocation is held until its slot is given back or its owner popped."
  pub held : Bool
  pub written : Bool

abbrev pub kind≔ : Kind → Handle → Handle
kind≔ x h = record { address = h.address; kind = x; held = h.held; written = h.written }

abbrev pub held≔ : Bool → Handle → Handle
held≔ x h = record { address = h.address; kind = h.kind; held = x; written = h.written }

abbrev pub written≔ : Bool → Handle → Handle
written≔ x h = record { address = h.address; kind = h.kind; held = h.held; written = x }

-- ---- needs

-- 01's need, and the handle that it remembers; 0 stands there where it has no address
pub record Remembered : Type 0 where
  pub need : Need
  pub handle : ℕ

abbrev pub no_need : Remembered
no_need = record { need = freed_need; handle = 0 }

abbrev pub is_scope_kind : Kind → Bool
is_scope_kind local = false
is_scope_kind dangling = false
is_scope_kind assigned = false
is_scope_kind freed = false
is_scope_kind (scope id) = true

-- "The first 23 on a deferred need takes the next handle, which belongs to the need": the address is then a Scope address. That of a
-- need by 21 is Assigned.
abbrev pub owns : Need → Bool
owns (defer id) = false
owns (at a) = is_scope_kind a.kind
owns ignore = false
owns freed_need = false

abbrev pub is_gone : Need → Bool
is_gone (defer id) = false
is_gone (at a) = false
is_gone ignore = false
is_gone freed_need = true

-- ---- the state

-- where a script stands: the scopes, the handles that were handed out, from 0 on, and the needs, "numbered from 0"
pub record State : Type 0 where
  pub scopes : Scopes
  pub handles : ℕ → Handle
  pub handed : ℕ
  pub needs : ℕ → Remembered
  pub needed : ℕ

abbrev pub scopes≔ : Scopes → State → State
scopes≔ x s = record { scopes = x; handles = s.handles; handed = s.handed; needs = s.needs; needed = s.needed }

abbrev pub handles≔ : (ℕ → Handle) → State → State
handles≔ x s = record { scopes = s.scopes; handles = x; handed = s.handed; needs = s.needs; needed = s.needed }

abbrev pub handed≔ : ℕ → State → State
handed≔ x s = record { scopes = s.scopes; handles = s.handles; handed = x; needs = s.needs; needed = s.needed }

abbrev pub needs≔ : (ℕ → Remembered) → State → State
needs≔ x s = record { scopes = s.scopes; handles = s.handles; handed = s.handed; needs = x; needed = s.needed }

abbrev pub needed≔ : ℕ → State → State
needed≔ x s = record { scopes = s.scopes; handles = s.handles; handed = s.handed; needs = s.needs; needed = x }

unfoldable pub start : State
start =
    record {
      scopes = fresh_scopes;
      handles = λ h. record { address = 0; kind = freed; held = false; written = false };
      handed = 0;
      needs = λ n. no_need;
      needed = 0;
    }

-- the handle h, changed to x
unfoldable pub set_handle : ℕ → Handle → State → State
set_handle h x s = s ▹ handles≔ (put s.handles h x)

-- 13: "handle unknown"
unfoldable pub unknown : State → ℕ → Bool
unknown s h = leb s.handed h

-- 13: ".. for 09, 0c, 0d, 0e also Freed"
unfoldable pub spent : State → ℕ → Bool
spent s h = unknown s h || is_freed (s.handles h).kind

-- h is the handle of the need x
abbrev pub keeps : Remembered → ℕ → Bool
keeps x h = owns x.need && eqb x.handle h

-- h belongs to a need
unfoldable pub belongs : State → ℕ → Bool
belongs s h = is_some (first (λ n. keeps (s.needs n) h) 0 s.needed)

-- ".. it may be written and read, but 0c, 0d and 0e on it give 13": for these, unknown, Freed, or a need's
unfoldable pub barred : State → ℕ → Bool
barred s h = spent s h || belongs s h

-- "Handles count from 0 in the order handed out, n for a run, never used again": n of them, for the n slots from a on
unfoldable pub grant : ℕ → ℕ → ℕ → Kind → (ℕ → Handle) → ℕ → Handle
grant next n a k f h =
    elim (leb next h && ltb h (next + n)) [
      | true ↦ record { address = a + (h - next); kind = k; held = true; written = false }
      | false ↦ f h
    ]

-- the handles of these slots are held no more
unfoldable pub let_go : List ℕ → (ℕ → Handle) → ℕ → Handle
let_go gone f h = elim (member (f h).address gone) [ true ↦ f h ▹ held≔ false | false ↦ f h ]

-- ---- what several frames do

-- n slots for the owner k, and n handles: 16, 7
unfoldable pub allot : Room → Placement → Found → Kind → ℕ → State → Answer (ℕ × State)
allot room place k kind n s = do
  _ ← refuse 16 when (ltb room.handles (s.handed + n))
  r ← allocate place k n s.scopes
  given (
    r.0,
    s
        ▹ scopes≔ r.1
        ▹ handles≔ (grant s.handed n r.0 kind s.handles)
        ▹ handed≔ (s.handed + n),
  )

-- the scope k is closed, and its allocations are held no more
unfoldable pub close : Found → State → State
close k s = s ▹ scopes≔ (closed k s.scopes) ▹ handles≔ (let_go k.scope.owned s.handles)

-- the slot of h goes back: 14, 12
unfoldable pub hand_back : Bool → ℕ → State → Answer State
hand_back dangles h s = do
  _ ← refuse 14 when (not (s.handles h).held)
  c ← give_back dangles (s.handles h).address s.scopes
  given (s ▹ scopes≔ c ▹ set_handle h (s.handles h ▹ held≔ false ▹ kind≔ freed))

-- h, as an address of kind k, becomes Freed: where a slot goes back 14, 12
unfoldable pub free_as : Kind → Bool → ℕ → State → Answer State
free_as k dangles h s =
    provided (goes_back s.scopes k)
    then hand_back dangles h s
    else given (s ▹ set_handle h (s.handles h ▹ kind≔ freed))

-- "free 13, then where a slot goes back 14, 12"
unfoldable pub free_handle : Bool → ℕ → State → Answer State
free_handle dangles h s = do
  _ ← refuse 13 when (barred s h)
  free_as (s.handles h).kind dangles h s

-- ---- what 20 to 25 do

unfoldable pub set_need : ℕ → Remembered → State → State
set_need n x s = s ▹ needs≔ (put s.needs n x)

-- "Needs are numbered from 0, at most 64 in a script."; 22: "a 65th need"
unfoldable pub add_need : Room → Remembered → State → Answer State
add_need room x s = do
  _ ← refuse 22 when (leb room.needs s.needed)
  given (s ▹ set_need s.needed x ▹ needed≔ (s.needed + 1))

-- 21: "need unknown or freed"
unfoldable pub lost : State → ℕ → Bool
lost s n = leb s.needed n || is_gone (s.needs n).need

-- 01: "Allocating turns Defer into a Scope address by alloc in, acts on an Address as above, and answers none otherwise ..": the last argument
-- is the need n. "on 23 of a deferred need 4 (its scope has closed), 16, 7"
unfoldable pub allot_need : Room → Placement → ℕ → State → Need → Answer (Option ℕ × State)
allot_need room place n s (defer id) = do
  k ← refuse 4 unless (by_id room s.scopes id)
  r ← allot room place k (scope id) 1 s
  given (some r.0, r.1 ▹ set_need n (record { need = at (record { slot = r.0; kind = scope id }); handle = s.handed }))
allot_need room place n s (at a) =
    given (some a.slot, s ▹ set_need n (record { need = at (record { slot = a.slot; kind = allocated_kind a.kind }); handle = (s.needs n).handle }))
allot_need room place n s ignore = given (none, s)
allot_need room place n s freed_need = given (none, s)

-- 01: "free: frees an Address"; the handle h that belongs to a need becomes Freed with it: 14, 12. A script's need has a Scope address or an
-- Assigned one, of which nothing is freed.
unfoldable pub free_own : ℕ → State → Need → Answer State
free_own h s (defer id) = given s
free_own h s (at a) = provided (is_scope_kind a.kind) then free_as a.kind true h s else given s
free_own h s ignore = given s
free_own h s freed_need = given s

-- "the address, or `ffff` for none or discard"
abbrev pub slot_shown : Option ℕ → ℕ
slot_shown o = or_else o 0xffff

abbrev pub output_shown : Output → ℕ
output_shown (keep a) = a
output_shown discard = 0xffff

-- ---- lines of the list

-- 10 and 14 store at an address; 11 and 12 load; any other opcode shows what it adds
pub data Line : Type 0 where
  stores : ℕ → Source → Line
  loads : ℕ → ℕ → Line
  shows : ℕ → List ℕ → Line

-- a frame's lines and the state after it
abbrev pub Step : Type 0
Step = Answer (List Line × State)

abbrev pub one_line : Line → State → Step
one_line l s = given (l ∷ [], s)

-- "01 adds its number; 06, 07, 0a, 0b add the address; 08 the first address or `ffff`; 0f a count and the addresses; 10 is address
-- and value; 11 and 12 the address; others the opcode only."
module _ (room : Room) (place : Placement) where
  unfoldable pub step : State → Frame → Step
  step s child = do
    r ← open_child room s.scopes
    one_line (shows 0x01 (r.0.number ∷ [])) (s ▹ scopes≔ r.1)
  step s (pop n) = do
    k ← poppable room (by_number room s.scopes n) s.scopes
    one_line (shows 0x02 []) (close k s)
  step s (dangle n) = do
    c ← dangle_scope (by_number room s.scopes n) s.scopes
    one_line (shows 0x03 []) (s ▹ scopes≔ c)
  step s (restore n) = do
    c ← restore_scope (by_number room s.scopes n) s.scopes
    one_line (shows 0x04 []) (s ▹ scopes≔ c)
  step s pop_last = do
    k ← last_poppable room s.scopes
    one_line (shows 0x05 []) (close k s)
  step s alloc = do
    t ← refuse 3 unless (top_scope s.scopes)
    r ← allot room place t local 1 s
    one_line (shows 0x06 (r.0 ∷ [])) r.1
  step s (alloc_in n) = do
    k ← refuse 4 unless (by_number room s.scopes n)
    r ← allot room place k (scope (id_of k)) 1 s
    one_line (shows 0x07 (r.0 ∷ [])) r.1
  step s (linear zero) = do
    _ ← refuse 3 unless (top_scope s.scopes)
    one_line (shows 0x08 (0xffff ∷ [])) s
  step s (linear (suc n)) = do
    t ← refuse 3 unless (top_scope s.scopes)
    r ← allot room place t (run_kind (suc n)) (suc n) s
    one_line (shows 0x08 (r.0 ∷ [])) r.1
  step s (define name h) = do
    t ← refuse 3 unless (top_scope s.scopes)
    _ ← refuse 13 when (spent s h)
    c ← bind_in room t name (s.handles h).address h s.scopes
    one_line (shows 0x09 []) (s ▹ scopes≔ c)
  step s (get name) = do
    b ← get_name room name s.scopes
    one_line (shows 0x0a (b.address ∷ [])) s
  step s (take_from name) = do
    r ← take_name room name s.scopes
    one_line (shows 0x0b (r.0.address ∷ [])) (s ▹ scopes≔ r.1)
  step s (free h) = do
    t ← free_handle true h s
    one_line (shows 0x0c []) t
  step s (free_quietly h) = do
    t ← free_handle false h s
    one_line (shows 0x0d []) t
  step s (forget h) = do
    _ ← refuse 13 when (barred s h)
    one_line (shows 0x0e []) (s ▹ set_handle h (s.handles h ▹ kind≔ freed))
  step s drain =
      let r : List ℕ × Scopes = drain_dangling s.scopes in
      one_line (shows 0x0f (length r.0 ∷ r.0)) (s ▹ scopes≔ r.1)
  -- "A write makes a Dangling handle Local."; W-205: 14 "is refused as 10 is; its list line is `14` and the address"
  step s (write h x) = do
    _ ← refuse 13 when (unknown s h)
    _ ← refuse 14 when (not (s.handles h).held)
    one_line (stores (s.handles h).address x) (s ▹ set_handle h (s.handles h ▹ written≔ true ▹ kind≔ (allocated_kind (s.handles h).kind)))
  step s (read h) = do
    _ ← refuse 13 when (unknown s h)
    _ ← refuse 14 when (not (s.handles h).held)
    _ ← refuse 15 when (not (s.handles h).written)
    one_line (loads 0x11 (s.handles h).address) s
  step s (read_name name) = do
    b ← get_name room name s.scopes
    _ ← refuse 14 when (not (s.handles b.handle).held)
    _ ← refuse 15 when (not (s.handles b.handle).written)
    one_line (loads 0x12 (s.handles b.handle).address) s
  -- W-201: "20 to 22 answer the need's number; 23 and 24 the address, or `ffff` for none or discard." 22 comes "after 4 or 13".
  step s (new_defer n) = do
    k ← refuse 4 unless (by_number room s.scopes n)
    t ← add_need room (record { need = defer (id_of k); handle = 0 }) s
    one_line (shows 0x20 (s.needed ∷ [])) t
  -- "Frame 21 takes any known handle, Freed or not."
  step s (new_assigned h) = do
    _ ← refuse 13 when (unknown s h)
    t ← add_need room (record { need = at (record { slot = (s.handles h).address; kind = assigned }); handle = h }) s
    one_line (shows 0x21 (s.needed ∷ [])) t
  step s new_ignore = do
    t ← add_need room (record { need = ignore; handle = 0 }) s
    one_line (shows 0x22 (s.needed ∷ [])) t
  -- "21 need unknown or freed, checked first"
  step s (alloc_need n) = do
    _ ← refuse 21 when (lost s n)
    r ← allot_need room place n s (s.needs n).need
    one_line (shows 0x23 (slot_shown r.0 ∷ [])) r.1
  -- "on 24 then 18"
  step s (output_need n) = do
    _ ← refuse 21 when (lost s n)
    o ← output_of (s.needs n).need
    one_line (shows 0x24 (output_shown o ∷ [])) s
  -- "on 25 then 14, 12"
  step s (drop_need n) = do
    _ ← refuse 21 when (lost s n)
    t ← free_own (s.needs n).handle s (s.needs n).need
    one_line (shows 0x25 []) (t ▹ set_need n no_need)

-- ---- scripts

-- "The list has one line a frame, then `90` and the size. .. A refusal is answered as a number and a line (from 0 ..)"
pub data Outcome : Type 0 where
  accepted : List Line → ℕ → Outcome
  refused_at : ℕ → ℕ → Outcome

abbrev pub before : List Line → Outcome → Outcome
before ls (accepted more size) = accepted (ls ++ more) size
before ls (refused_at n i) = refused_at n i

-- line i is refused, or its lines stand before those of what follows
unfoldable pub onward : ℕ → Step → (State → Outcome) → Outcome
onward i (refused n) rest = refused_at n i
onward i (given r) rest = before r.0 (rest r.1)

module _ (room : Room) (place : Placement) where
  unfoldable pub steps : ℕ → State → List Frame → Outcome
  steps i s [] = accepted [] s.scopes.size
  steps i s (f ∷ fs) = onward i (step room place s f) (λ t. steps (suc i) t fs)
