-- The states that the figures are made over, as the rules see them. Assumes nothing.
use Rattle.std.specs.Prelude.{◌≡◌, true, false, [], ℕ, suc, ◌-◌, ◌≤◌, ◌<◌, leb, ltb, length}
use Rattle.std.proofs.Math.Option.{none, some}
use Rattle.rules.specs.Notation.{is_some}
use Rattle.rules.specs.Sizes.{BINDINGS, SCOPES, SLOTS}
use Rattle.rules.specs.AddressSets.{member}
use Rattle.rules.specs.Scopes.{Scopes, new_scope, child_of, bound_in}
use Rattle.rules.specs.Sound.{owned_by}

-- Root is the top and owns nothing, nothing dangles, and the first slot is clear and the next to be given: H is 0, and L at most 1.
pub record Idle (c : Scopes) : Type 0 where
  pub top : c.top ≡ some 0
  pub root : c.live 0 ≡ some (new_scope 0 none)
  pub dangling : c.dangling ≡ []
  pub clear : c.slots.occupied 0 ≡ false
  pub head : c.slots.head ≡ 0
  pub segments : c.slots.segments ≤ 1

-- Scopes up to i, slots below n, names below m.
pub record Filled (i n m : ℕ) (c : Scopes) : Type 0 where
  -- the scopes up to i are live and no others, each but root a child of the one before; the last is the top
  pub live : (j : ℕ) → j < SCOPES → is_some (c.live j) ≡ leb j i
  pub line : (j : ℕ) → j < i → child_of j (c.live (suc j)) ≡ true
  pub top : c.top ≡ some i
  -- the slots below n are occupied and no others, all on the top's list
  pub slots : (a : ℕ) → a < SLOTS → c.slots.occupied a ≡ ltb a n
  pub owned : (a : ℕ) → a < n → member a (owned_by (c.live i)) ≡ true
  -- there are m bindings, and the top binds the names below m and no others
  pub count : length c.bindings ≡ m
  pub names : (x : ℕ) → is_some (bound_in i x c.bindings) ≡ ltb x m

-- as many scopes, slots and bindings as there can be
abbrev pub Full : Scopes → Type 0
Full c = Filled (SCOPES - 1) SLOTS BINDINGS c
