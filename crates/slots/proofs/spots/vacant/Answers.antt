-- The slots of a run are clear and below the room. Assumes nothing.
use mathlib.Core.Path.{sym}
use Prim.Native.Nat.{◌+◌}
use native.Mathlib.Omega.{arith}
use Rattle.rules.proofs.Tells.{clash, tells-no, tells-yes}
use Rattle.slots.specs.Halves.{occ}
use Rattle.slots.proofs.Going.{clear-on, among}
use Rattle.slots.proofs.spots.vacant.Goals as goal

pub returns-then-a-many-gt-SLOTS : goal.returns-then-a-many-gt-SLOTS
returns-then-a-many-gt-SLOTS c = tells-no (λ v. omega (arith, v.0, c.if-a-many-gt-SLOTS.true))

pub loop-b-init : goal.loop-b-init
loop-b-init c = λ j l h. absurd (omega (arith, l, h))

pub returns-then-occupied : goal.returns-then-occupied
returns-then-occupied c = tells-no (λ v. clash (sym c.if-occupied.ensures) (among (occ c.args.halves.now) c.args.a c.args.many v c.loop-b.b c.loop-b.auto.b c.loop-b-test.true))

pub loop-b-preserved : goal.loop-b-preserved
loop-b-preserved c = clear-on (occ c.args.halves.now) c.args.a c.loop-b.b c.loop-b.invariant (sym c.if-occupied.ensures)

pub returns : goal.returns
returns c = tells-yes (omega (arith, c.if-a-many-gt-SLOTS.false), λ i l. c.loop-b.invariant (c.args.a + i) (omega (arith, l)) (omega (arith, l)))
