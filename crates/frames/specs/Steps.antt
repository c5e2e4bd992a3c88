-- One step of the code as a step of the rules: what it adds to the list, and where the script stands then. Assumes nothing.
use Rattle.std.specs.Prelude.{◌≡◌, Bool, true, false, not, List, [], ◌∷◌, ℕ, ◌≤◌, ◌<◌, length, get_or, take, Result, Ok, Err}
use Rattle.std.specs.Result.{is_err}
use Rattle.std.proofs.Math.Option.{none}
use Rattle.rules.specs.Notation.{Answer, refused, ◌>>=◌, refuse◌when◌, refuse◌unless◌}
use Rattle.rules.specs.Refusals.{number_of}
use Rattle.rules.specs.declared.refusal.Refusal.{Refusal}
use Rattle.rules.specs.Sizes.{base, HANDLES, SLOTS, WORD}
use Rattle.rules.specs.Slots.{Placement}
use Rattle.rules.specs.Scopes as scope
use Rattle.rules.specs.Needs.{scope as in_scope}
use Rattle.rules.specs.Frames as rules
use Rattle.rules.specs.Frames.{stores, loads, shows, one_line}
use Rattle.rules.proofs.Sound.{StateSound}
use Rattle.scopes.specs.declared.Scopes.{Scopes}
use Rattle.scopes.specs.View.{view}
use Rattle.scopes.specs.Steps.{Whole}
use Rattle.handles.specs.Handles.{kind_in, state_of}
use Rattle.handles.specs.declared.Handles.{Handles}
use Rattle.frames.specs.declared.steps.Source.{Source}
use Rattle.frames.specs.declared.steps.Source.TheVariants.{Constant, NextSample}
use Rattle.frames.specs.declared.steps.Adds.{Adds}
use Rattle.frames.specs.declared.steps.Adds.TheVariants.{Nothing, Slot, NoSlot, Number, Store, Load, Drained}

-- ---- what a step adds to the list, of opcode o; a drain's addresses are the first of `drained`

abbrev pub source_of : Source → rules.Source
source_of (Constant v) = rules.constant v
source_of NextSample = rules.next_sample

-- "01 adds its number; 06, 07, 0a, 0b add the address; 08 the first address or `ffff`"
abbrev pub line_of : ℕ → Adds → List ℕ → rules.Line
line_of o Nothing drained = shows o []
line_of o (Slot a) drained = shows o (a.0 ∷ [])
line_of o NoSlot drained = shows o (0xffff ∷ [])
line_of o (Number n) drained = shows o (n ∷ [])
line_of o (Store a x) drained = stores a.0 (source_of x)
line_of o (Load a) drained = loads o a.0
line_of o (Drained n) drained = shows 0x0f (n ∷ take n drained)

-- its line and the next state, or the number of its refusal
abbrev pub stepped : ℕ → Result Adds Refusal → rules.State → List ℕ → rules.Step
stepped o (Ok adds) t drained = one_line (line_of o adds drained) t
stepped o (Err e) t drained = refused (number_of e)

-- a drain's addresses stand in a table of SLOTS
abbrev pub Few : Result Adds Refusal → Type 0
Few (Ok Nothing) = Unit {0}
Few (Ok (Slot a)) = Unit {0}
Few (Ok NoSlot) = Unit {0}
Few (Ok (Number n)) = Unit {0}
Few (Ok (Store a x)) = Unit {0}
Few (Ok (Load a)) = Unit {0}
Few (Ok (Drained n)) = n ≤ SLOTS
Few (Err e) = Unit {0}

-- ---- steps

-- freeing with dangling is 0c, without it 0d
abbrev pub freeing : Bool → ℕ → rules.Frame
freeing true h = rules.free h
freeing false h = rules.free_quietly h

abbrev pub free_code : Bool → ℕ
free_code true = 0x0c
free_code false = 0x0d

-- where a script stands
pub record Stands (s : Scopes) (handles : Handles) : Type 0 where
  pub whole : Whole s
  pub state : StateSound base (state_of (view s) handles)
  pub counted : s.counter < WORD
  pub handles-length : length handles.table ≡ HANDLES
  pub holders-length : length handles.holders ≡ SLOTS

-- gives no slot: the step of a frame that asks for none is said by this placement, and is the same by any (`any_place` of the rules)
unfoldable pub nowhere : Placement
nowhere n slots = none

-- a refused step leaves the state, both tables of handles and their count as they were
abbrev pub RefusedStays : Scopes → Handles → Result Adds Refusal → Scopes → Handles → Type 0
RefusedStays s handles r s' handles' = is_err r ≡ true → (s' ≡ s) × (handles' ≡ handles)

-- The frame f, of opcode o, leads from the state s and its handles to s' and theirs, and its answer is r, as the rules say where slots go
-- by `place`. A refused step leaves them.
pub record Works (place : Placement) (f : rules.Frame) (o : ℕ) (s : Scopes) (handles : Handles) (r : Result Adds Refusal) (s' : Scopes) (handles' : Handles) (drained : List ℕ) : Type 0 where
  pub does : rules.step base place (state_of (view s) handles) f ≡ stepped o r (state_of (view s') handles') drained
  pub stays : RefusedStays s handles r s' handles'
  pub whole : Whole s'
  pub few : Few r
  pub handles-length : length handles'.table ≡ HANDLES
  pub holders-length : length handles'.holders ≡ SLOTS

-- m, which several frames have a use for, comes from the state s and its handles to s' and theirs, with a line of opcode o; refused, it
-- leaves them
pub record Comes (s : Scopes) (handles : Handles) (m : rules.Step) (o : ℕ) (r : Result Adds Refusal) (s' : Scopes) (handles' : Handles) (drained : List ℕ) : Type 0 where
  pub does : m ≡ stepped o r (state_of (view s') handles') drained
  pub stays : RefusedStays s handles r s' handles'
  pub whole : Whole s'
  pub few : Few r
  pub handles-length : length handles'.table ≡ HANDLES
  pub holders-length : length handles'.holders ≡ SLOTS

-- a slot in the scope of that id, and its handle: 4, 16, 7; the line shows the address
unfoldable pub allotted_in : Placement → scope.Id → ℕ → rules.State → rules.Step
allotted_in place id o t = do
  k ← refuse 4 unless (scope.by_id base t.scopes id)
  x ← rules.allot base place k (in_scope id) 1 t
  one_line (shows o (x.0 ∷ [])) x.1

-- something was freed, or it was refused; the line has the opcode alone
abbrev pub freed_then : ℕ → Answer rules.State → rules.Step
freed_then o m = m >>= λ t. one_line (shows o []) t

-- 14, 15, then the load
abbrev pub loading : ℕ → rules.State → ℕ → rules.Step
loading o t h = do
  _ ← refuse 14 when (not (t.handles h).held)
  _ ← refuse 15 when (not (t.handles h).written)
  one_line (loads o (t.handles h).address) t

-- ---- what the functions promise

-- the frame f leads there, where slots go by `place`, whatever the table of drained slots has
abbrev pub LeadsBy : Placement → rules.Frame → ℕ → Scopes → Handles → Result Adds Refusal → Scopes → Handles → Type 0
LeadsBy place f o s handles r s' handles' = (drained : List ℕ) → Works place f o s handles r s' handles' drained

-- .. by a frame that asks for no slot
abbrev pub Leads : rules.Frame → ℕ → Scopes → Handles → Result Adds Refusal → Scopes → Handles → Type 0
Leads f o s handles r s' handles' = LeadsBy nowhere f o s handles r s' handles'

-- .. by a frame that looks at no handle, and leaves whichever there are
abbrev pub LeadsAlone : rules.Frame → ℕ → Scopes → Result Adds Refusal → Scopes → Type 0
LeadsAlone f o s r s' = (handles : Handles) → Stands s handles → Leads f o s handles r s' handles

-- .. by a frame that looks at no state, and leaves whichever there is
abbrev pub MarksHandles : rules.Frame → ℕ → Handles → Result Adds Refusal → Handles → Type 0
MarksHandles f o handles r handles' = (s : Scopes) → Stands s handles → Leads f o s handles r s handles'

-- the frame f, of opcode o, loads what handle h holds: 14, 15
abbrev pub LoadsOf : rules.Frame → ℕ → Scopes → Handles → ℕ → Type 0
LoadsOf f o s handles h = rules.step base nowhere (state_of (view s) handles) f ≡ loading o (state_of (view s) handles) h

-- the step of whatever frame does that
abbrev pub LoadsOn : Scopes → Handles → ℕ → Result Adds Refusal → Type 0
LoadsOn s handles h r = (f : rules.Frame) (o : ℕ) → LoadsOf f o s handles h → Leads f o s handles r s handles

-- one slot was asked for in the scope of that id; the handle that was handed out is the next one, and of that scope
pub record AllotsOne (place : Placement) (id : scope.Id) (s : Scopes) (handles : Handles) (r : Result Adds Refusal) (s' : Scopes) (handles' : Handles) : Type 0 where
  pub comes : (o : ℕ) (drained : List ℕ) → Comes s handles (allotted_in place id o (state_of (view s) handles)) o r s' handles' drained
  pub hands : is_err r ≡ false → (handles.handed < HANDLES) × (kind_in (get_or handles'.table handles.handed 0) ≡ in_scope id)

-- something was freed by m, which may be refused
abbrev pub Frees : (rules.State → Answer rules.State) → Scopes → Handles → Result Adds Refusal → Scopes → Handles → Type 0
Frees m s handles r s' handles' = (o : ℕ) (drained : List ℕ) → Comes s handles (freed_then o (m (state_of (view s) handles))) o r s' handles' drained
