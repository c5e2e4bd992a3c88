-- What the promise of a test says: it answers yes exactly where a fact holds. Assumes nothing.
use Rattle.std.specs.Prelude.{◌≡◌, Bool, true}

-- the answer r tells whether P
pub record Tells (r : Bool) (P : Type 0) : Type 0 where
  pub holds : r ≡ true → P
  pub shows : P → r ≡ true
