-- One slot from a segment on, or a run past the greatest. Assumes nothing.
use mathlib.Core.Path.{sym}
use Prim.Native.Nat.{◌*◌, ◌-◌}
use native.Mathlib.Omega.{arith}
use Rattle.rules.specs.Sizes.{SLOTS}
use Rattle.slots.specs.Halves.{occ, slots_of}
use Rattle.slots.proofs.Finds.{clear_of, past_of}
use Rattle.slots.proofs.Going.{one-none, one-some, run-none, run-some}
use Rattle.slots.proofs.spots.from_on.Goals as goal

pub returns-in_err-a : goal.returns-in_err-a
returns-in_err-a c = rw c.from_residual.ensures (one-none (slots_of c.args.halves.now c.args.segments c.args.head) c.args.many c.args.from c.if-many-eq1.true c.in_err-a.ensures)

pub taken-requires : goal.taken-requires
taken-requires c = (omega (arith, (clear_of (occ c.args.halves.now) (128 * c.args.from) (SLOTS - 128 * c.args.from) c.in_ok-a.a (sym c.in_ok-a.ensures)).high), omega arith)

pub returns-then-many-eq1 : goal.returns-then-many-eq1
returns-then-many-eq1 c = one-some (slots_of c.args.halves.now c.args.segments c.args.head) c.args.many c.args.from _ _ c.if-many-eq1.true c.in_ok-a.ensures c.taken.ensures

pub overflow_add-g : goal.overflow_add-g
overflow_add-g c = omega (arith, (past_of (occ c.args.halves.now) SLOTS _ c.past_greatest-g.ensures).high)

pub returns-then-g-many-gt-SLOTS : goal.returns-then-g-many-gt-SLOTS
returns-then-g-many-gt-SLOTS c =
    run-none (slots_of c.args.halves.now c.args.segments c.args.head) c.args.many c.args.from _ c.past_greatest-g.ensures c.if-many-eq1.false c.if-g-many-gt-SLOTS.true

pub returns : goal.returns
returns c =
    run-some (slots_of c.args.halves.now c.args.segments c.args.head) c.args.many c.args.from _ c.past_greatest-g.ensures c.if-many-eq1.false _
    c.requires.1 c.if-g-many-gt-SLOTS.false c.pushed.ensures
