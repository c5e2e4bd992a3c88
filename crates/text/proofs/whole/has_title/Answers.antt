-- `has_title` meets its contract. Assumes nothing.
use mathlib.Core.Path.{◌≡◌, refl, sym}
use mathlib.Core.Bool.{Bool, true, false, true≢false}
use mathlib.Core.List.{List, ◌++◌}
use Prim.Native.Nat.{ℕ}
use lib.Dec.{eqb}
use lib.ListN.{drop}
use Rattle.std.specs.Int.{from_bool}
use Rattle.std.proofs.lemmas.Slice.Eq.{starts_is}
use Rattle.std.proofs.lemmas.Bool.Decides.{Decides-eqb}
use Rattle.text.specs.Titles.{Titles}
use Rattle.text.proofs.Titling.{title_bytes, title-yes, title-no}
use Rattle.text.proofs.whole.has_title.Goals as goal

told : (s : List ℕ) (r : Bool) → (r ≡ true → s ≡ title_bytes ++ drop 7 s) × ((t : List ℕ) → s ≡ title_bytes ++ t → r ≡ true) → Titles s (from_bool r)
told s true h = title-yes s (drop 7 s) (h.0 refl)
told s false h = title-no s (λ t e. true≢false (sym (h.1 t e)))

pub returns : goal.returns
returns c = told c.args.s.now _ (starts_is {E = eqb} Decides-eqb c.args.s.now title_bytes _ c.starts_with.ensures.value)
