-- `links::clear` meets its contract. The loop's invariant: the ends of the first i lists are set, and every address has the mark. Assumes nothing.
use mathlib.Core.Path.{◌≡◌}
use native.Mathlib.Omega.{arith}
use Rattle.rules.specs.Sizes.{LISTS, SLOTS}
use Rattle.links.proofs.Empty.{emptied-start, emptied-step, emptied-held}
use Rattle.links.proofs.clear.Goals as goal

pub loop-i-init : goal.loop-i-init
loop-i-init c = emptied-start SLOTS LISTS

pub returns : goal.returns
returns c =
    let e : c.loop-i.i ≡ LISTS = omega arith in
    emptied-held SLOTS LISTS _ (rw e at c.loop-i.invariant)
