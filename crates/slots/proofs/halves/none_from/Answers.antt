-- `halves::none_from`. The loop's invariant: `none` tells whether every slot from segment `from` up to half i is clear. Assumes nothing.
use mathlib.Core.Path.{refl}
use native.Mathlib.Omega.{arith}
use Rattle.rules.proofs.Tells.{tells_as}
use Rattle.slots.proofs.Occupied.{look-below, look-on}
use Rattle.slots.proofs.halves.none_from.Goals as goal
use Rattle.slots.proofs.halves.none_from.Goals.{then-from-i, else-from-i}

pub loop-i-init : goal.loop-i-init
loop-i-init c = record { holds = λ _ a l h. absurd (omega (arith, h)); shows = λ _. refl }

pub loop-i-preserved : goal.loop-i-preserved
loop-i-preserved c =
    let l = c.loop-i in
    elim c.if-from-i.branch [
      | then-from-i w ↦ rw w.none-is (look-on c.args.halves.now _ l.i l.none w.has_set.result (omega (arith, w.if-from-i.true)) w.has_set.ensures l.invariant)
      | else-from-i w ↦ rw w.none-is (look-below c.args.halves.now _ l.i l.none (omega (arith, w.if-from-i.false)) l.invariant)
    ]

pub returns : goal.returns
returns c = tells_as c.loop-i.invariant (λ all a x y. all a x (omega (arith, y))) (λ all a x y. all a x (omega (arith, y)))
