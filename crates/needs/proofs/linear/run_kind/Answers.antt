use mathlib.Core.Path.{◌≡◌, sym, ap, ◌∙◌}
use mathlib.Core.Bool.{Bool, true, false}
use Prim.Native.Nat.{ℕ}
use lib.Dec.{eqb}
use borrow.Author.Tests.{eq-eqb, ne_eqb}
use Rattle.rules.specs.Needs as need
use Rattle.needs.specs.Kinds.{kind_of}
use Rattle.needs.specs.Inner.{kind_for}
use Rattle.needs.specs.declared.AddressKind.TheVariants.{Local, Dangling}
use Rattle.needs.proofs.Runs.{kind-for}
use Rattle.needs.proofs.linear.run_kind.Goals as goal

-- what is tested tells the kind, and the kind is the rule's
both : (n : ℕ) (b : Bool) → eqb n 1 ≡ b → (elim b [ true ↦ Local | false ↦ Dangling ] ≡ kind_for n) × (kind_of (elim b [ true ↦ Local | false ↦ Dangling ]) ≡ need.run_kind n)
both n b e =
    let k : elim b [ true ↦ Local | false ↦ Dangling ] ≡ kind_for n = sym (ap (λ (x : Bool). elim x [ true ↦ Local | false ↦ Dangling ]) e) in
    (k, ap kind_of k ∙ kind-for n)

pub returns-then-n-eq1 : goal.returns-then-n-eq1
returns-then-n-eq1 c = both _ true (eq-eqb _ 1 c.if-n-eq1.true)

pub returns-else-n-eq1 : goal.returns-else-n-eq1
returns-else-n-eq1 c = both _ false (ne_eqb _ 1 c.if-n-eq1.false)
