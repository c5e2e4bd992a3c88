-- What an operation promises of the state that it is lent, as it was and as it is left. Assumes nothing.
use Rattle.std.specs.Prelude.{◌≡◌, ℕ, ◌+◌, ◌<◌, ◌≤◌, max, Bool, true, false, List, [], length, take, slice_index, slice_index_or}
use Rattle.std.specs.Borrow.{Bor, MutBor}
use denote.Triple.Both.{Both}
use Rattle.rules.specs.Notation.{Answer, given, refused, ◌>>=◌, refuse◌when◌}
use Rattle.rules.specs.Sizes.{base, SCOPES, SEGMENTS, SLOTS}
use Rattle.rules.specs.Scopes as rule
use Rattle.scopes.specs.View.{list_of, found_at, view, Seen, run_for}
use Rattle.scopes.specs.Sound.{Sound, Sized}
use Rattle.scopes.specs.declared.Scopes.{Scopes}

-- an array that is lent: as it came in, and as it is left
abbrev pub LentArray : Type 0 → Type 0
LentArray A = Both (MutBor (List A)) (MutBor (List A))

-- an array that is lent to be read only
abbrev pub ReadArray : Type 0 → Type 0
ReadArray A = Both (Bor (List A)) (Bor (List A))

-- sound, and its arrays as long as their types say
pub record Whole (s : Scopes) : Type 0 where
  pub sound : Sound s
  pub sized : Sized s

abbrev pub is_refusal : {B : Type 0} → Answer B → Bool
is_refusal (given x) = false
is_refusal (refused n) = true

-- the state s becomes the whole state t, with this answer; both are what `f` tells of s as the rules see it. A refusal leaves s.
pub record Becomes {B : Type 0} (s t : Scopes) (answer : Answer B) (f : rule.Scopes → Seen B) : Type 0 where
  pub is : record { next = view t; says = answer } ≡ f (view s)
  pub whole : Whole t
  pub kept : is_refusal answer ≡ true → t ≡ s

-- scope k is live
abbrev pub Lives : Scopes → ℕ → Type 0
Lives s k = (k < SCOPES) × (slice_index_or s.live k false ≡ true)

-- ---- slots for a scope

-- s with all segments, and this size: as long as slots are handed out
abbrev pub roomy : Scopes → ℕ → Scopes
roomy s size = record s { segments = SEGMENTS; size = size }

-- the n slots from a on, which were clear, went to scope k; L and H have still to be set
pub record Handed (s : Scopes) (k a n : ℕ) (t : Scopes) (size : ℕ) : Type 0 where
  pub is : view (roomy t size) ≡ run_for (roomy s size) k a n
  pub whole : Whole (roomy t size)

-- what handing out the n slots from a on to scope k comes to
abbrev pub Takes : Scopes → ℕ → ℕ → ℕ → Scopes → Type 0
Takes s k a n t = Handed s k a n t (max s.size (a + n))

-- the top owns the slot a
abbrev pub TopOwns : Scopes → ℕ → Type 0
TopOwns s a = (a < SLOTS) × (s.top < SCOPES) × (slice_index s.owner a ≡ s.top)

-- ---- closing

-- list i is empty then, and closing scope i comes to the same as before
pub record Empties (s : Scopes) (i : ℕ) (t : Scopes) : Type 0 where
  pub none : list_of t.links i ≡ []
  pub closes : rule.closed (found_at t i) (view t) ≡ rule.closed (found_at s i) (view s)
  pub scopes : (t.live ≡ s.live) × (t.parent ≡ s.parent)
  pub whole : Whole t

-- what closing the scope k comes to: 6
abbrev pub shut : rule.Found → rule.Scopes → Answer rule.Scopes
shut k c = do
  _ ← refuse 6 when (rule.has_child base c k.index)
  given (rule.closed k c)

-- ---- draining

-- the dangling list of s is empty then, and its addresses are the first n of `out`
pub record Drains (s t : Scopes) (n : ℕ) (out : List ℕ) : Type 0 where
  pub next : view t ≡ (rule.drain_dangling (view s)).1
  pub first : take n out ≡ (rule.drain_dangling (view s)).0
  pub whole : Whole t

-- the lent list stays as it was from place n on
abbrev pub KeepsFrom : LentArray ℕ → ℕ → Type 0
KeepsFrom out n = ((k : ℕ) → n ≤ k → slice_index out.exit.now k ≡ slice_index out.entry.now k) × (length out.exit.now ≡ SLOTS) × (n ≤ SLOTS)
