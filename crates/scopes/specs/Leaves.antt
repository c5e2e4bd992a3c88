-- What the leaves answer: functions that borrow some of the arrays. Assumes nothing.
use Rattle.std.specs.Prelude.{◌≡◌, ℕ, ◌%◌, ◌<◌, ◌≤◌, Bool, true, false, not, ◌&&◌, ◌||◌, ◌≢◌, List, [], ◌∷◌, ◌++◌, length, take, ◌==◌, nat_lt, slice_index, slice_index_or, slice_set, Result, IfOk, IfSome, MatchOption}
use Rattle.std.specs.Prelude as code
use Rattle.std.proofs.Math.Option.{Option, none, some}
use Rattle.rules.specs.Sizes.{base, BINDINGS, SCOPES}
use Rattle.rules.specs.Notation.{Answer, given, ◌>>=◌, refuse◌when◌, refuse◌unless◌, first, is_some}
use Rattle.rules.specs.Refusals.{says}
use Rattle.rules.specs.Options.{option_of}
use Rattle.rules.specs.declared.refusal.Refusal.{Refusal}
use Rattle.rules.specs.Scopes as rule
use Rattle.scopes.specs.View.{index, binding, bindings_of, view, found_at}
use Rattle.scopes.specs.Steps.{LentArray, ReadArray, Lives}
use Rattle.scopes.specs.declared.Scopes.{Scopes}

-- ---- which scope

abbrev pub is_free : List Bool → ℕ → Bool
is_free live j = not (slice_index_or live j false)

abbrev pub has_number : List Bool → List ℕ → ℕ → ℕ → Bool
has_number live number n j = slice_index_or live j false && slice_index number j == n

abbrev pub child_of : List Bool → List ℕ → ℕ → ℕ → Bool
child_of live parent i j = slice_index_or live j false && slice_index parent j == i

-- a live scope has i as its parent
abbrev pub has_child : List Bool → List ℕ → ℕ → Bool
has_child live parent i = is_some (first (child_of live parent i) 0 SCOPES)

-- no live scope has i as its parent
abbrev pub NoChild : List Bool → List ℕ → ℕ → Type 0
NoChild live parent i = (j : ℕ) → slice_index_or live j false ≡ true → slice_index parent j ≢ i

-- r is the index of the scope that was found, which is live
pub record Means (s : Scopes) (found : Option rule.Found) (r : code.Option ℕ) : Type 0 where
  pub is : option_of (found_at s) r ≡ found
  pub lives : IfSome r (Lives s)

abbrev pub differs : Bool → Bool → Bool
differs true b = not b
differs false b = b

-- the scope that pop and dangle (`mark` false) or restore (`mark` true) mean: 4 where there is none, 5 where it is root or its mark differs
abbrev pub meant : Bool → Option rule.Found → Answer rule.Found
meant mark o = do
  k ← refuse 4 unless o
  _ ← refuse 5 when (differs mark k.scope.dangled || k.index == 0)
  given k

-- r is its index, or why it is refused
pub record Admits (s : Scopes) (mark : Bool) (o : Option rule.Found) (r : Result ℕ Refusal) : Type 0 where
  pub is : says (found_at s) r ≡ meant mark o
  pub lives : IfOk r (Lives s)
  pub inner : IfOk r (λ i. i ≢ 0)

-- r is the index of the top: 3
pub record Tops (s : Scopes) (r : Result ℕ Refusal) : Type 0 where
  pub is : says (found_at s) r ≡ (refuse 3 unless (rule.top_scope (view s)))
  pub top : IfOk r (λ i. i ≡ s.top)
  pub lives : IfOk r (Lives s)

-- ---- which binding

-- place r has the binding of `name` in the scope at index i
pub record There (bindings : List ℕ) (count i name r : ℕ) : Type 0 where
  pub inside : r < count
  pub is : rule.bound_in i name (bindings_of bindings count) ≡ some (binding (slice_index bindings r))
  pub in_scope : (binding (slice_index bindings r)).scope ≡ i
  pub of-name : (binding (slice_index bindings r)).name ≡ name
  pub replaced : (b : ℕ) → (binding b).scope ≡ i → (binding b).name ≡ name → bindings_of (slice_set bindings r b) count ≡ rule.rebound (binding b) (bindings_of bindings count)

pub record Missing (bindings : List ℕ) (count i name : ℕ) : Type 0 where
  pub is : rule.bound_in i name (bindings_of bindings count) ≡ none
  pub appended : (b : ℕ) → (binding b).scope ≡ i → (binding b).name ≡ name → rule.rebound (binding b) (bindings_of bindings count) ≡ bindings_of bindings count ++ (binding b ∷ [])

-- r is the place of the binding, or BINDINGS
pub record Spot (bindings : List ℕ) (count i name r : ℕ) : Type 0 where
  pub most : r ≤ BINDINGS
  pub there : r < BINDINGS → There bindings count i name r
  pub missing : BINDINGS ≤ r → Missing bindings count i name

-- .. the same as an option of the code
abbrev pub Spots : List ℕ → ℕ → ℕ → ℕ → code.Option ℕ → Type 0
Spots bindings count i name r = MatchOption r (Missing bindings count i name) (There bindings count i name)

-- the binding at place j
abbrev pub binding_at : Scopes → ℕ → rule.Binding
binding_at s j = binding (slice_index s.bindings j)

-- for each scope, the list has the place of the binding of `name` there, or BINDINGS
abbrev pub Placed : List ℕ → ℕ → ℕ → List ℕ → Type 0
Placed bindings count name places = (i : ℕ) → i < SCOPES → Spot bindings count i name (slice_index places i)

-- what such a list has for a scope, as an option of the code
abbrev pub place_in : ℕ → code.Option ℕ
place_in r = elim (nat_lt r BINDINGS) [ true ↦ code.Some r | false ↦ code.None ]

-- the binding at j is of `name`, in the scope at index i
abbrev pub binds : List ℕ → ℕ → ℕ → ℕ → Bool
binds bindings name i j = rule.is_for i name (binding (slice_index bindings j))

-- r is the first place from `from` up to `to` that passes, or BINDINGS
pub record Earliest (f : ℕ → Bool) (from to r : ℕ) : Type 0 where
  pub most : r ≤ BINDINGS
  pub inside : r < BINDINGS → (from ≤ r) × (r < to) × (f r ≡ true)
  pub before : (j : ℕ) → from ≤ j → j < to → j < r → f j ≡ false

-- for each scope, the list has the first place from `from` up to `to` of a binding of `name`, or BINDINGS
abbrev pub Noted : List ℕ → ℕ → ℕ → ℕ → List ℕ → Type 0
Noted bindings name from to places = (i : ℕ) → i < SCOPES → Earliest (binds bindings name i) from to (slice_index places i)

-- where `places` had the first ones from `to` on, it has those from `from` on then
abbrev pub NotesFrom : (places : LentArray ℕ) (bindings : ReadArray ℕ) → (from to name : ℕ) → Type 0
NotesFrom places bindings from to name =
    (length places.exit.now ≡ SCOPES) × ((count : ℕ) → to ≤ count → count ≤ BINDINGS → Noted bindings.entry.now name to count places.entry.now
    → Noted bindings.entry.now name from count places.exit.now)

-- r is the place of the nearest binding of `name`, from the scope at index i upwards, over `left` scopes at most
pub record Nearest (s : Scopes) (name i left : ℕ) (r : code.Option ℕ) : Type 0 where
  pub is : option_of (binding_at s) r ≡ rule.lookup left (view s) name (index i)
  pub spot : IfSome r (λ j. (k : ℕ) × There s.bindings s.count k name j)

-- r is the place of the binding that get and take mean, or why it is refused: 3, 10, 11
pub record Readable (s : Scopes) (name : ℕ) (r : Result ℕ Refusal) : Type 0 where
  pub is : says (binding_at s) r ≡ rule.get_name base name (view s)
  pub spot : IfOk r (λ j. (k : ℕ) × There s.bindings s.count k name j)
  pub unmoved : IfOk r (λ j. slice_index s.bindings j % 2 ≢ 1)

-- of `count` bindings those of scope i are gone, and r are left, in their order
abbrev pub Unbinds : LentArray ℕ → (count i r : ℕ) → Type 0
Unbinds bindings count i r =
    (r ≤ count) × (bindings_of bindings.exit.now r ≡ rule.unbound i (bindings_of bindings.entry.now count)) × (length bindings.exit.now ≡ BINDINGS)

-- from r on there are zeros, if there were from `count` on
abbrev pub ClearsFrom : LentArray ℕ → (count r : ℕ) → Type 0
ClearsFrom bindings count r = ((j : ℕ) → count ≤ j → slice_index bindings.entry.now j ≡ 0) → (j : ℕ) → r ≤ j → slice_index bindings.exit.now j ≡ 0

-- the places from `from` up to `to` hold 0, and the others what they held
pub record Wiped (old : List ℕ) (from to : ℕ) (new : List ℕ) : Type 0 where
  pub long : length new ≡ BINDINGS
  pub front : take from new ≡ take from old
  pub zeros : (k : ℕ) → from ≤ k → k < to → slice_index new k ≡ 0
  pub ahead : (k : ℕ) → to ≤ k → slice_index new k ≡ slice_index old k
