-- Document 01, "A state handed in is sound .. if ..": the facts behind the tests of specs/Sound, each a record over only the parts that it
-- speaks of. A table is spoken of below the room alone. Tests shows that the tests tell them. Assumes nothing.
use mathlib.Core.Path.{◌≡◌}
use mathlib.Core.Bool.{Bool, true, false}
use mathlib.Core.Option.{Option, none, some}
use mathlib.Core.List.{List, [], ◌∷◌}
use Prim.Native.Nat.{ℕ, ◌*◌, ◌≤◌, ◌<◌}
use lib.ListN.{length}
use Rattle.rules.specs.Notation.{is_some}
use Rattle.rules.specs.Sizes.{Room}
use Rattle.rules.specs.Slots.{Slots}
use Rattle.rules.specs.AddressSets.{member}
use Rattle.rules.specs.Scopes.{Scope, Binding, Scopes, bound_in}
use Rattle.rules.specs.Needs.{Need, defer, at, ignore, freed_need}
use Rattle.rules.specs.Frames.{Handle, Remembered, owns, State}
use Rattle.rules.specs.Sound.{owned_by}
use Rattle.rules.proofs.Sets.{Once, Within}

-- P holds of everything on the list
pub data Every {A : Type 0} (P : A → Type 0) : List A → Type 0 where
  every-nil : Every P []
  every : {a : A} {l : List A} → P a → Every P l → Every P (a ∷ l)

-- ---- slots: n segments at most

-- "L is at most 8 and H below 8; no slot from segment L on is occupied": 8 is n
pub record SlotsSound (n : ℕ) (s : Slots) : Type 0 where
  pub segments : s.segments ≤ n
  pub head : s.head < n
  pub low : (a : ℕ) → a < 128 * n → s.occupied a ≡ true → a < 128 * s.segments

-- ---- scopes: n of them at most

abbrev pub IsLive : ℕ → (ℕ → Option Scope) → ℕ → Type 0
IsLive n live i = (i < n) × (is_some (live i) ≡ true)

-- "top is live, or nothing is"
pub record TopSound (n : ℕ) (live : ℕ → Option Scope) (top : Option ℕ) : Type 0 where
  pub is_live : (i : ℕ) → top ≡ some i → IsLive n live i
  pub no-live : top ≡ none → (i : ℕ) → i < n → is_some (live i) ≡ false

-- from i over live scopes to root, which is (0, 0) and has no parent
pub data LeadsToRoot (n : ℕ) (live : ℕ → Option Scope) : ℕ → Type 0 where
  root : {i : ℕ} (k : Scope) → live i ≡ some k → k.parent ≡ none → i ≡ 0 → k.number ≡ 0 → LeadsToRoot n live i
  up : {i : ℕ} (k : Scope) (p : ℕ) → live i ≡ some k → k.parent ≡ some p → (i ≡ 0 → ⊥) → p < n → LeadsToRoot n live p → LeadsToRoot n live i

-- "every live scope's parents are live and lead to root"
abbrev pub Rooted : ℕ → (ℕ → Option Scope) → Type 0
Rooted n live = (i : ℕ) → i < n → is_some (live i) ≡ true → LeadsToRoot n live i

-- ---- owned addresses: m slots, n lists

-- the list that a stands on
pub record Owner (n : ℕ) (lists : ℕ → List ℕ) (a : ℕ) : Type 0 where
  pub index : ℕ
  pub below : index < n
  pub has : member a (lists index) ≡ true

-- "each occupied slot is once on one live scope's list and no other slot is on any"
pub record OwnedSound (m n : ℕ) (occupied : ℕ → Bool) (lists : ℕ → List ℕ) : Type 0 where
  pub once : (i : ℕ) → i < n → Once (lists i)
  pub within : (i : ℕ) → i < n → Within m (lists i)
  pub taken : (i a : ℕ) → i < n → member a (lists i) ≡ true → occupied a ≡ true
  pub apart : (i j a : ℕ) → i < n → j < n → member a (lists i) ≡ true → member a (lists j) ≡ true → i ≡ j
  pub owner : (a : ℕ) → a < m → occupied a ≡ true → Owner n lists a

-- the list of the scope at each index; empty where none is live
abbrev pub lists_of : (ℕ → Option Scope) → ℕ → List ℕ
lists_of live i = owned_by (live i)

-- "the dangling list repeats nothing and holds only clear slots"
pub record DanglingSound (m : ℕ) (occupied : ℕ → Bool) (dangling : List ℕ) : Type 0 where
  pub once : Once dangling
  pub within : Within m dangling
  pub clear : (a : ℕ) → member a dangling ≡ true → occupied a ≡ false

-- ---- bindings: most of them at most

pub data BindsOnce : List Binding → Type 0 where
  binds-nil : BindsOnce []
  binds : {b : Binding} {l : List Binding} → bound_in b.scope b.name l ≡ none → BindsOnce l → BindsOnce (b ∷ l)

-- "no scope binds a name twice"; every binding is one of a live scope
pub record BindingsSound (n most : ℕ) (live : ℕ → Option Scope) (bindings : List Binding) : Type 0 where
  pub once : BindsOnce bindings
  pub of_live : Every (λ b. IsLive n live b.scope) bindings
  pub few : length bindings ≤ most

-- ---- size: at most `most`

-- "size is above every occupied slot and at most 1,024", which is `most`
pub record SizeSound (m most : ℕ) (occupied : ℕ → Bool) (size : ℕ) : Type 0 where
  pub above : (a : ℕ) → a < m → occupied a ≡ true → a < size
  pub fits : size ≤ most

-- ---- the whole

pub record Sound (room : Room) (c : Scopes) : Type 0 where
  pub slots : SlotsSound room.segments c.slots
  pub top : TopSound room.scopes c.live c.top
  pub rooted : Rooted room.scopes c.live
  pub owned : OwnedSound (128 * room.segments) room.scopes c.slots.occupied (lists_of c.live)
  pub dangling : DanglingSound (128 * room.segments) c.slots.occupied c.dangling
  pub bindings : BindingsSound room.scopes room.bindings c.live c.bindings
  pub size : SizeSound (128 * room.segments) room.size c.slots.occupied c.size

-- ---- with handles: `handed` of them, `most` at most

-- the handle that holds slot a
pub record Holder (handed : ℕ) (handles : ℕ → Handle) (a : ℕ) : Type 0 where
  pub handle : ℕ
  pub below : handle < handed
  pub held : (handles handle).held ≡ true
  pub address : (handles handle).address ≡ a

-- "held handles and occupied slots match one to one by address". Of a handle that is not held nothing is said.
pub record HandlesSound (m most : ℕ) (occupied : ℕ → Bool) (handles : ℕ → Handle) (handed : ℕ) : Type 0 where
  pub few : handed ≤ most
  pub within : (h : ℕ) → h < handed → (handles h).held ≡ true → (handles h).address < m
  pub taken : (h : ℕ) → h < handed → (handles h).held ≡ true → occupied (handles h).address ≡ true
  pub apart : (g h : ℕ) → g < handed → h < handed → (handles g).held ≡ true → (handles h).held ≡ true → (handles g).address ≡ (handles h).address → g ≡ h
  pub holder : (a : ℕ) → a < m → occupied a ≡ true → Holder handed handles a

-- "bindings agree with their handles"
abbrev pub Agrees : (ℕ → Handle) → ℕ → Binding → Type 0
Agrees handles handed b = (b.handle < handed) × ((handles b.handle).address ≡ b.address)

-- the same of a need that remembers h
abbrev pub NeedAgrees : (ℕ → Handle) → ℕ → ℕ → Need → Type 0
NeedAgrees handles handed h (defer id) = Unit {0}
NeedAgrees handles handed h (at a) = (h < handed) × ((handles h).address ≡ a.slot)
NeedAgrees handles handed h ignore = Unit {0}
NeedAgrees handles handed h freed_need = Unit {0}

-- needs agree with their handles, and a handle belongs to one need at most: `needed` of them, `most` at most
pub record NeedsSound (most : ℕ) (handles : ℕ → Handle) (handed : ℕ) (needs : ℕ → Remembered) (needed : ℕ) : Type 0 where
  pub few : needed ≤ most
  pub agree : (n : ℕ) → n < needed → NeedAgrees handles handed (needs n).handle (needs n).need
  pub apart : (i j : ℕ) → i < needed → j < needed → owns (needs i).need ≡ true → owns (needs j).need ≡ true → (needs i).handle ≡ (needs j).handle → i ≡ j

pub record StateSound (room : Room) (s : State) : Type 0 where
  pub scopes : Sound room s.scopes
  pub handles : HandlesSound (128 * room.segments) room.handles s.scopes.slots.occupied s.handles s.handed
  pub agreeing : Every (Agrees s.handles s.handed) s.scopes.bindings
  pub needing : NeedsSound room.needs s.handles s.handed s.needs s.needed
