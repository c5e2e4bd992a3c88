-- The one way in which a state is written: what the rules do not see of it has a fixed content. Assumes nothing.
use Rattle.std.specs.Prelude.{◌≡◌, Bool, true, false, List, [], ℕ, ◌≤◌, ◌<◌, get_or}
use Rattle.rules.specs.Sizes.{base, BINDINGS, SCOPES}
use Rattle.rules.specs.Sound.{sound}
use Rattle.scopes.specs.View.{list_of, view}
use Rattle.scopes.specs.Sound.{Ringed}
use Rattle.scopes.specs.declared.Scopes.{Scopes}

-- what stands in the record of a closed scope
pub record Blank (links : List ℕ) (dangled : List Bool) (parent number : List ℕ) (i : ℕ) : Type 0 where
  pub unmarked : get_or dangled i false ≡ false
  pub no-parent : get_or parent i 0 ≡ SCOPES
  pub no_number : get_or number i 0 ≡ 0
  pub no-list : list_of links i ≡ []

pub record Canonical (s : Scopes) : Type 0 where
  -- the link cells hold LISTS lists and nothing else, and the owner table says on which of them each address is (LISTS: on none)
  pub cells : Ringed s.links s.owner
  pub closed : (i : ℕ) → i < SCOPES → get_or s.live i false ≡ false → Blank s.links s.dangled s.parent s.number i
  -- no parent is SCOPES, and no top is SCOPES
  pub parents : (i : ℕ) → i < SCOPES → get_or s.parent i 0 ≤ SCOPES
  pub top : s.top ≤ SCOPES
  -- the bindings are the first `count` places, and the others hold 0
  pub count : s.count ≤ BINDINGS
  pub past : (j : ℕ) → s.count ≤ j → get_or s.bindings j 0 ≡ 0

-- a state handed in is sound: 01's test says yes of what the rules see, and the record is written in the one way that it can be
abbrev pub Good : Scopes → Type 0
Good s = (sound base (view s) ≡ true) × Canonical s
