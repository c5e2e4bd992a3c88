-- The handles of a script as the code keeps them: a number for each handle, and for each slot the handle that took it last.
-- Assumes nothing.
use Rattle.std.specs.Prelude.{◌≡◌, ◌⊎◌, Bool, true, false, ◌&&◌, List, ℕ, ◌+◌, ◌*◌, ◌/◌, ◌%◌, ◌≤◌, ◌<◌, get_or, set, eqb, length, replicate, Result, Ok, Err}
use Rattle.rules.specs.Sizes.{HANDLES, SLOTS, WORD, COUNTERS}
use Rattle.rules.specs.declared.refusal.Refusal.{Refusal}
use Rattle.rules.specs.declared.refusal.Refusal.TheVariants.{HandleUnknown}
use Rattle.rules.specs.Scopes.{Id, Scopes}
use Rattle.rules.specs.Needs.{is_freed, Kind, local, dangling, assigned, freed, scope}
use Rattle.rules.specs.Frames.{Handle, no_need, State}
use Rattle.slots.specs.Halves.{occ}
use Rattle.slots.specs.declared.SlotAddress.{SlotAddress}
use Rattle.scopes.specs.declared.ScopeId.{ScopeId}
use Rattle.needs.specs.declared.AddressKind.{AddressKind}
use Rattle.needs.specs.declared.AddressKind.TheVariants as kind
use Rattle.needs.specs.Kinds.{kind_of}
use Rattle.handles.specs.declared.Handle.{Handle as Handle'}
use Rattle.handles.specs.declared.Handles.{Handles}

-- A handle in one number, from the low end: written 1 bit, kind 3 bits, slot 16, index 8 and number 32 of a Scope kind. 0 is a handle that was never
-- handed out. What each part is counted in, and below what it is where that is no whole width:
abbrev pub KIND_PART : ℕ
KIND_PART = 2

abbrev pub KINDS : ℕ
KINDS = 8

abbrev pub SLOT_PART : ℕ
SLOT_PART = KINDS * KIND_PART

abbrev pub INDEX_PART : ℕ
INDEX_PART = WORD * SLOT_PART

abbrev pub INDEXES : ℕ
INDEXES = 256

abbrev pub NUMBER_PART : ℕ
NUMBER_PART = INDEXES * INDEX_PART

abbrev pub slot_in : ℕ → ℕ
slot_in b = b / SLOT_PART % SLOTS

abbrev pub id_in : ℕ → Id
id_in b = record { index = b / INDEX_PART % INDEXES; number = b / NUMBER_PART % COUNTERS }

abbrev pub kind_by : Bool → Bool → Bool → Bool → Id → Kind
kind_by true _ _ _ id = local
kind_by false true _ _ id = dangling
kind_by false false true _ id = assigned
kind_by false false false true id = scope id
kind_by false false false false id = freed

abbrev pub kind_coded : ℕ → Id → Kind
kind_coded k id = kind_by (eqb k 1) (eqb k 2) (eqb k 3) (eqb k 4) id

abbrev pub kind_in : ℕ → Kind
kind_in b = kind_coded (b / KIND_PART % KINDS) (id_in b)

-- slot a is occupied, and the handle that took it last is h
abbrev pub held_by : (halves holders : List ℕ) → ℕ → ℕ → Bool
held_by halves holders a h = occ halves a && eqb (get_or holders a 0) h

-- "An allocation is held until its slot is given back or its owner popped": its slot is occupied, and no later handle took it
abbrev pub handle_at : (ℕ → Bool) → Handles → ℕ → Handle
handle_at occupied t h =
    let b : ℕ = get_or t.table h 0 in
    record {
      address = slot_in b;
      kind = kind_in b;
      held = occupied (slot_in b) && eqb (get_or t.holders (slot_in b) 0) h;
      written = eqb (b % 2) 1;
    }

-- where a script without needs stands
abbrev pub state_of : Scopes → Handles → State
state_of c t = record { scopes = c; handles = handle_at c.slots.occupied t; handed = t.handed; needs = λ n. no_need; needed = 0 }

-- where no handle was handed out
abbrev pub fresh_handles : Handles
fresh_handles = record { table = replicate HANDLES 0; holders = replicate SLOTS 0; handed = 0 }

-- no more handles than there is room for, and both tables as long as their types say
pub record Tables (t : Handles) : Type 0 where
  pub most : t.handed ≤ HANDLES
  pub long : length t.table ≡ HANDLES
  pub holders-long : length t.holders ≡ SLOTS

-- the number b is this handle
pub record Coded (b : ℕ) (x : Handle') : Type 0 where
  pub slot : slot_in b ≡ x.address.slot.0
  pub kind : kind_in b ≡ kind_of x.address.kind
  pub written : eqb (b % 2) 1 ≡ x.written

-- a new handle, which isn't written
abbrev pub unwritten : SlotAddress → AddressKind → Handle'
unwritten slot k = record { address = record { slot = slot; kind = k }; written = false }

-- the same handle, with its kind Freed
abbrev pub freed_as : Handle' → Handle'
freed_as x = record { address = record { slot = x.address.slot; kind = kind.Freed }; written = x.written }

-- the code of a kind, and the id of a Scope kind, (0, 0) for the others
abbrev pub code_of_kind : AddressKind → ℕ
code_of_kind kind.Local = 1
code_of_kind kind.Dangling = 2
code_of_kind kind.Assigned = 3
code_of_kind kind.Freed = 0
code_of_kind (kind.Scope id) = 4

abbrev pub no_id : ScopeId
no_id = record { index = 0; number = 0 }

abbrev pub id_of_kind : AddressKind → ScopeId
id_of_kind kind.Local = no_id
id_of_kind kind.Dangling = no_id
id_of_kind kind.Assigned = no_id
id_of_kind kind.Freed = no_id
id_of_kind (kind.Scope id) = id

-- ---- of the handle h: known as x, and what is said of it where it isn't, or is spent

abbrev pub KnownAs : Handles → ℕ → Handle' → Type 0
KnownAs t h x = (h < t.handed) × Coded (get_or t.table h 0) x

abbrev pub Knows : Handles → ℕ → Result Handle' Refusal → Type 0
Knows t h (Ok x) = KnownAs t h x
Knows t h (Err e) = (t.handed ≤ h) × (e ≡ HandleUnknown)

abbrev pub KnowsUnspent : Handles → ℕ → Result Handle' Refusal → Type 0
KnowsUnspent t h (Ok x) = KnownAs t h x × (is_freed (kind_of x.address.kind) ≡ false)
KnowsUnspent t h (Err e) = ((t.handed ≤ h) ⊎ (is_freed (kind_in (get_or t.table h 0)) ≡ true)) × (e ≡ HandleUnknown)

-- its number is b now; .. the number of the handle x
abbrev pub with_number : Handles → ℕ → ℕ → Handles
with_number t h b = record { table = set t.table h b; holders = t.holders; handed = t.handed }

abbrev pub SetsTo : Handles → ℕ → Handle' → Handles → Type 0
SetsTo t h x t' = (b : ℕ) × (Coded b x × (t' ≡ with_number t h b))

-- ---- the next n handles, for the n slots from a on

pub record HandsOut (t : Handles) (n a : ℕ) (kind : Kind) (t' : Handles) : Type 0 where
  pub slots : (i : ℕ) → i < n → slot_in (get_or t'.table (t.handed + i) 0) ≡ a + i
  pub kinds : (i : ℕ) → i < n → kind_in (get_or t'.table (t.handed + i) 0) ≡ kind
  pub unwritten : (i : ℕ) → i < n → eqb (get_or t'.table (t.handed + i) 0 % 2) 1 ≡ false
  pub others : (g : ℕ) → (g < t.handed) ⊎ (t.handed + n ≤ g) → get_or t'.table g 0 ≡ get_or t.table g 0
  pub holds : (i : ℕ) → i < n → get_or t'.holders (a + i) 0 ≡ t.handed + i
  pub held-others : (b : ℕ) → (b < a) ⊎ (a + n ≤ b) → get_or t'.holders b 0 ≡ get_or t.holders b 0
  pub handed : t'.handed ≡ t.handed + n
  pub handles-length : length t'.table ≡ HANDLES
  pub holders-length : length t'.holders ≡ SLOTS
