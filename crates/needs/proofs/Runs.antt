-- A run: its addresses forgotten, and the kind of a run that is handed out. Assumes nothing.
use mathlib.Core.Path.{◌≡◌, refl, sym, ap}
use mathlib.Core.Bool.{Bool, true, false}
use mathlib.Core.List.{List, [], ◌∷◌, map}
use Prim.Native.Nat.{ℕ}
use lib.Dec.{eqb}
use Rattle.rules.specs.Notation.{provided◌then◌else◌}
use Rattle.rules.specs.AddressSets.{run}
use Rattle.rules.specs.Needs as need
use Rattle.needs.specs.Kinds.{kind_of, addresses}
use Rattle.needs.specs.Inner.{kind_for}
use Rattle.needs.specs.declared.AddressKind.TheVariants as kind

-- addresses of one kind
abbrev pub of_kind : need.Kind → List ℕ → List need.Address
of_kind k = map (λ b. need.address b k)

pub forget-kind : (k : need.Kind) (l : List ℕ) → of_kind need.freed l ≡ map need.forget_address (of_kind k l)
unfolding need.forget_address
forget-kind k [] = refl
forget-kind k (a ∷ l) = ap (λ (t : List need.Address). need.address a need.freed ∷ t) (forget-kind k l)

pub forget-empty : (k : need.Kind) (a n : ℕ) → n ≡ 0 → [] ≡ map need.forget_address (addresses k a n)
unfolding run
forget-empty k a n e = sym (ap (λ (i : ℕ). map need.forget_address (addresses k a i)) e)

pub kind-for : (n : ℕ) → kind_of (kind_for n) ≡ need.run_kind n
unfolding need.run_kind provided◌then◌else◌
kind-for n = go (eqb n 1)
  where
    go : (b : Bool) → kind_of (elim b [ true ↦ kind.Local | false ↦ kind.Dangling ]) ≡ provided b then need.local else need.dangling
    go true = refl
    go false = refl
