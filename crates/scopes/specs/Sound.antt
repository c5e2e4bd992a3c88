-- What holds of every state that the operations hand out. Each part speaks only of the arrays that it names, so that an operation
-- that leaves those alone hands the part on as it is. Unused records and cells have one fixed content. Assumes nothing.
use Rattle.std.specs.Prelude.{◌≡◌, ℕ, ◌*◌, ◌^◌, ◌<◌, ◌≤◌, Bool, true, false, ◌≢◌, ◌⊎◌, List, [], ◌∷◌, length, get_or, ◌==◌, nat_lt, slice_index, slice_index_or}
use Rattle.rules.specs.Sizes.{BINDINGS, HALVES, LINKS, LISTS, SCOPES, SEGMENTS, SLOTS}
use Rattle.rules.specs.AddressSets.{member}
use Rattle.rules.specs.Scopes as rule
use Rattle.slots.specs.Halves.{occ}
use Rattle.links.specs.Links.{Held}
use Rattle.scopes.specs.View.{list_of, bindings_of}
use Rattle.scopes.specs.declared.Scopes.{Scopes}

-- "L is at most 8 and H below 8; no slot from segment L on is occupied"
pub record Slotted (halves : List ℕ) (segments head : ℕ) : Type 0 where
  pub most : segments ≤ SEGMENTS
  pub front : head < SEGMENTS
  pub none : (a : ℕ) → 128 * segments ≤ a → a < SLOTS → occ halves a ≡ false

-- the cells hold the lists, and each address is on the list that its owner says (LISTS: on none)
pub record Ringed (links owner : List ℕ) : Type 0 where
  pub rings : Held SLOTS LISTS links (list_of links)
  pub tells : (a i : ℕ) → a < SLOTS → i < LISTS → member a (list_of links i) ≡ (slice_index owner a == i)
  pub most : (a : ℕ) → a < SLOTS → slice_index owner a ≤ LISTS

-- "each occupied slot is once on one live scope's list and no other slot is on any"; "size is above every occupied slot and at most 1,024", with W-206 4,096
pub record Owned (halves owner : List ℕ) (live : List Bool) (size : ℕ) : Type 0 where
  pub taken : (a : ℕ) → a < SLOTS → occ halves a ≡ nat_lt (slice_index owner a) SCOPES
  pub alive : (a : ℕ) → a < SLOTS → slice_index owner a < SCOPES → slice_index_or live (slice_index owner a) false ≡ true
  pub above : (a : ℕ) → a < SLOTS → slice_index owner a < SCOPES → a < size
  pub most : size ≤ SLOTS

-- from i over live scopes to root, which has no parent
pub data LeadsToRoot (live : List Bool) (parent : List ℕ) : ℕ → Type 0 where
  root : get_or live 0 false ≡ true → slice_index parent 0 ≡ SCOPES → LeadsToRoot live parent 0
  up : {i : ℕ} → i ≢ 0 → slice_index_or live i false ≡ true → LeadsToRoot live parent (slice_index parent i) → LeadsToRoot live parent i

-- "top is live, or nothing is; every live scope's parents are live and lead to root"; root is (0, 0)
pub record Rooted (live dangled : List Bool) (parent number : List ℕ) (top : ℕ) : Type 0 where
  pub topped : ((top < SCOPES) × (slice_index_or live top false ≡ true)) ⊎ ((top ≡ SCOPES) × ((i : ℕ) → i < SCOPES → slice_index_or live i false ≡ false))
  pub leads : (i : ℕ) → slice_index_or live i false ≡ true → LeadsToRoot live parent i
  pub dead : (i : ℕ) → i < SCOPES → slice_index_or live i false ≡ false → (slice_index_or dangled i false ≡ false) × (slice_index parent i ≡ SCOPES) × (slice_index number i ≡ 0)
  pub first : get_or number 0 0 ≡ 0

-- P of each binding
abbrev pub Each : (rule.Binding → Type 0) → List rule.Binding → Type 0
Each P [] = Unit
Each P (b ∷ l) = P b × Each P l

-- "no scope binds a name twice"
abbrev pub BoundOnce : List rule.Binding → Type 0
BoundOnce [] = Unit
BoundOnce (b ∷ l) = Each (λ x. rule.is_for b.scope b.name x ≡ false) l × BoundOnce l

-- the bindings are those of live scopes; places from `count` on hold 0
pub record Named (bindings : List ℕ) (live : List Bool) (count : ℕ) : Type 0 where
  pub most : count ≤ BINDINGS
  pub alive : Each (λ b. slice_index_or live b.scope false ≡ true) (bindings_of bindings count)
  pub once : BoundOnce (bindings_of bindings count)
  pub clear : (j : ℕ) → count ≤ j → slice_index bindings j ≡ 0

pub record Sound (s : Scopes) : Type 0 where
  pub slotted : Slotted s.halves s.segments s.head
  pub ringed : Ringed s.links s.owner
  pub owned : Owned s.halves s.owner s.live s.size
  pub rooted : Rooted s.live s.dangled s.parent s.number s.top
  pub named : Named s.bindings s.live s.count

-- ---- what the types of the arrays say

-- their lengths
pub record Sized (s : Scopes) : Type 0 where
  pub halves : length s.halves ≡ HALVES
  pub links : length s.links ≡ LINKS
  pub owner : length s.owner ≡ SLOTS
  pub live : length s.live ≡ SCOPES
  pub dangled : length s.dangled ≡ SCOPES
  pub parent : length s.parent ≡ SCOPES
  pub number : length s.number ≡ SCOPES
  pub bindings : length s.bindings ≡ BINDINGS

-- and that a half has 64 bits
pub record Typed (s : Scopes) : Type 0 where
  pub sized : Sized s
  pub halves : (i : ℕ) → slice_index s.halves i < 2 ^ 64
