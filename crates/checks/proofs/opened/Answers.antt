-- `opened` meets its contract. Assumes nothing.
use mathlib.Core.Path.{sym, subst}
use native.Mathlib.Omega.{arith}
use borrow.Author.Rules.{rules}
use Rattle.checks.specs.States.{Filled}
use Rattle.checks.proofs.Told.{next}
use Rattle.checks.proofs.Filling.{fresh-filled, child-more}
use Rattle.checks.proofs.opened.Goals as goal

pub loop-i-init : goal.loop-i-init
loop-i-init c = (record { sound = c.fresh-s.ensures.1; sized = search rules }, subst (Filled 0 0 0) (sym c.fresh-s.ensures.0) fresh-filled)

pub loop-i-preserved : goal.loop-i-preserved
loop-i-preserved c =
    let o = c.child.ensures in
    (o.whole, next (Filled _ 0 0) _ _ (λ i. i) o.is (child-more _ _ c.loop-i.invariant.1 (omega arith)))
