use mathlib.Core.Path.{refl}
use mathlib.Core.Logic.{⊎_elim}
use native.Mathlib.Omega.{arith}
use Rattle.rules.specs.Frames as frame
use Rattle.rules.specs.Text.{rowed, frame_table}
use Rattle.text.specs.Lines.{frame_of}
use Rattle.text.specs.Shapes.{shape_of, frame_shapes}
use Rattle.frames.proofs.Handling.{handed-few}
use Rattle.frames.proofs.Beside.{needed-few}
use Rattle.frames.proofs.Reading.{drain-works}
use Rattle.dispatch.proofs.Opcodes.{by-place, with-needs, plain-by-place, plainly, has-opcode}
use Rattle.dispatch.proofs.step.Goals as goal

pub forget_beside-requires : goal.forget_beside-requires
forget_beside-requires c = (handed-few c.requires.stands, needed-few c.requires)

pub defer-requires : goal.defer-requires
defer-requires c = needed-few c.requires

pub assigned-requires : goal.assigned-requires
assigned-requires c = (handed-few c.requires.stands, needed-few c.requires)

pub ignore-requires : goal.ignore-requires
ignore-requires c = needed-few c.requires

pub output-requires : goal.output-requires
output-requires c = needed-few c.requires

pub returns-in-1-clause-steps_on : goal.returns-in-1-clause-steps_on
unfolding frame_of rowed frame_table shape_of frame_shapes
returns-in-1-clause-steps_on c = plainly c.args.f 0x01 frame.child c.in-1.is refl c.requires refl refl (c.child.ensures c.args.script.now.handles c.requires.stands c.args.drained.now)

pub returns-in-2-clause-steps_on : goal.returns-in-2-clause-steps_on
unfolding frame_of rowed frame_table shape_of frame_shapes
returns-in-2-clause-steps_on c = plainly c.args.f 0x02 (frame.pop c.args.f.a) c.in-2.is refl c.requires refl refl (c.pop.ensures c.args.script.now.handles c.requires.stands c.args.drained.now)

pub returns-in-3-clause-steps_on : goal.returns-in-3-clause-steps_on
unfolding frame_of rowed frame_table shape_of frame_shapes
returns-in-3-clause-steps_on c = plainly c.args.f 0x03 (frame.dangle c.args.f.a) c.in-3.is refl c.requires refl refl (c.dangle.ensures c.args.script.now.handles c.requires.stands c.args.drained.now)

pub returns-in-4-clause-steps_on : goal.returns-in-4-clause-steps_on
unfolding frame_of rowed frame_table shape_of frame_shapes
returns-in-4-clause-steps_on c = plainly c.args.f 0x04 (frame.restore c.args.f.a) c.in-4.is refl c.requires refl refl (c.restore.ensures c.args.script.now.handles c.requires.stands c.args.drained.now)

pub returns-in-5-clause-steps_on : goal.returns-in-5-clause-steps_on
unfolding frame_of rowed frame_table shape_of frame_shapes
returns-in-5-clause-steps_on c = plainly c.args.f 0x05 frame.pop_last c.in-5.is refl c.requires refl refl (c.pop_last.ensures c.args.script.now.handles c.requires.stands c.args.drained.now)

pub returns-in-6-clause-steps_on : goal.returns-in-6-clause-steps_on
unfolding frame_of rowed frame_table shape_of frame_shapes
returns-in-6-clause-steps_on c = plain-by-place c.args.f 0x06 frame.alloc c.in-6.is refl c.requires refl (c.alloc.ensures c.args.drained.now)

pub returns-in-7-clause-steps_on : goal.returns-in-7-clause-steps_on
unfolding frame_of rowed frame_table shape_of frame_shapes
returns-in-7-clause-steps_on c = plain-by-place c.args.f 0x07 (frame.alloc_in c.args.f.a) c.in-7.is refl c.requires refl (c.alloc_in.ensures c.args.drained.now)

pub returns-in-8-clause-steps_on : goal.returns-in-8-clause-steps_on
unfolding frame_of rowed frame_table shape_of frame_shapes
returns-in-8-clause-steps_on c = plain-by-place c.args.f 0x08 (frame.linear c.args.f.a) c.in-8.is refl c.requires refl (c.linear.ensures c.args.drained.now)

pub returns-in-9-clause-steps_on : goal.returns-in-9-clause-steps_on
unfolding frame_of rowed frame_table shape_of frame_shapes
returns-in-9-clause-steps_on c = plainly c.args.f 0x09 (frame.define c.args.f.a c.args.f.b) c.in-9.is refl c.requires refl refl (c.define.ensures c.args.drained.now)

pub returns-in-10-clause-steps_on : goal.returns-in-10-clause-steps_on
unfolding frame_of rowed frame_table shape_of frame_shapes
returns-in-10-clause-steps_on c = plainly c.args.f 0x0a (frame.get c.args.f.a) c.in-10.is refl c.requires refl refl (c.get.ensures c.args.script.now.handles c.requires.stands c.args.drained.now)

pub returns-in-11-clause-steps_on : goal.returns-in-11-clause-steps_on
unfolding frame_of rowed frame_table shape_of frame_shapes
returns-in-11-clause-steps_on c = plainly c.args.f 0x0b (frame.take_from c.args.f.a) c.in-11.is refl c.requires refl refl (c.take.ensures c.args.script.now.handles c.requires.stands c.args.drained.now)

pub returns-in-12-clause-steps_on : goal.returns-in-12-clause-steps_on
unfolding frame_of rowed frame_table shape_of frame_shapes
returns-in-12-clause-steps_on c = with-needs c.args.f 0x0c (frame.free c.args.f.a) c.in-12.is refl refl (c.free_beside.ensures.leads c.args.drained.now)

pub returns-in-13-clause-steps_on : goal.returns-in-13-clause-steps_on
unfolding frame_of rowed frame_table shape_of frame_shapes
returns-in-13-clause-steps_on c = with-needs c.args.f 0x0d (frame.free_quietly c.args.f.a) c.in-13.is refl refl (c.free_beside-in-13.ensures.leads c.args.drained.now)

pub returns-in-14-clause-steps_on : goal.returns-in-14-clause-steps_on
unfolding frame_of rowed frame_table shape_of frame_shapes
returns-in-14-clause-steps_on c = with-needs c.args.f 0x0e (frame.forget c.args.f.a) c.in-14.is refl refl (c.forget_beside.ensures.leads c.args.script.now.scopes c.requires c.args.drained.now)

pub returns-in-15-clause-steps_on : goal.returns-in-15-clause-steps_on
unfolding frame_of rowed frame_table shape_of frame_shapes
returns-in-15-clause-steps_on c =
    plainly c.args.f 0x0f frame.drain c.in-15.is refl c.requires refl refl
    (drain-works c.requires.stands c.drain-count.new.out c.drain-count.ensures.drains c.drain-count.ensures.keeps_from.1 c.drain-count.ensures.keeps_from.2)

pub returns-in-16-clause-steps_on : goal.returns-in-16-clause-steps_on
unfolding frame_of rowed frame_table shape_of frame_shapes
returns-in-16-clause-steps_on c = plainly c.args.f 0x10 (frame.write c.args.f.a (frame.constant c.args.f.b)) c.in-16.is refl c.requires refl refl (c.write.ensures.leads 0x10 c.args.drained.now)

pub returns-in-17-clause-steps_on : goal.returns-in-17-clause-steps_on
unfolding frame_of rowed frame_table shape_of frame_shapes
returns-in-17-clause-steps_on c = plainly c.args.f 0x11 (frame.read c.args.f.a) c.in-17.is refl c.requires refl refl (c.read.ensures c.args.drained.now)

pub returns-in-18-clause-steps_on : goal.returns-in-18-clause-steps_on
unfolding frame_of rowed frame_table shape_of frame_shapes
returns-in-18-clause-steps_on c = plainly c.args.f 0x12 (frame.read_name c.args.f.a) c.in-18.is refl c.requires refl refl (c.read_name.ensures c.args.drained.now)

pub returns-in-20-clause-steps_on : goal.returns-in-20-clause-steps_on
unfolding frame_of rowed frame_table shape_of frame_shapes
returns-in-20-clause-steps_on c = plainly c.args.f 0x14 (frame.write c.args.f.a frame.next_sample) c.in-20.is refl c.requires refl refl (c.write-in-20.ensures.leads 0x14 c.args.drained.now)

pub returns-in-32-clause-steps_on : goal.returns-in-32-clause-steps_on
unfolding frame_of rowed frame_table shape_of frame_shapes
returns-in-32-clause-steps_on c = with-needs c.args.f 0x20 (frame.new_defer c.args.f.a) c.in-32.is refl refl (c.defer.ensures c.args.script.now.handles c.requires c.args.drained.now)

pub returns-in-33-clause-steps_on : goal.returns-in-33-clause-steps_on
unfolding frame_of rowed frame_table shape_of frame_shapes
returns-in-33-clause-steps_on c = with-needs c.args.f 0x21 (frame.new_assigned c.args.f.a) c.in-33.is refl refl (c.assigned.ensures c.args.script.now.scopes c.requires c.args.drained.now)

pub returns-in-34-clause-steps_on : goal.returns-in-34-clause-steps_on
unfolding frame_of rowed frame_table shape_of frame_shapes
returns-in-34-clause-steps_on c = with-needs c.args.f 0x22 frame.new_ignore c.in-34.is refl refl (c.ignore.ensures c.args.script.now.scopes c.args.script.now.handles c.requires c.args.drained.now)

pub returns-in-35-clause-steps_on : goal.returns-in-35-clause-steps_on
unfolding frame_of rowed frame_table shape_of frame_shapes
returns-in-35-clause-steps_on c = by-place c.args.f 0x23 (frame.alloc_need c.args.f.a) c.in-35.is refl (c.allocate.ensures c.args.drained.now)

pub returns-in-36-clause-steps_on : goal.returns-in-36-clause-steps_on
unfolding frame_of rowed frame_table shape_of frame_shapes
returns-in-36-clause-steps_on c = with-needs c.args.f 0x24 (frame.output_need c.args.f.a) c.in-36.is refl refl (c.output.ensures c.requires c.args.drained.now)

pub returns-in-37-clause-steps_on : goal.returns-in-37-clause-steps_on
unfolding frame_of rowed frame_table shape_of frame_shapes
returns-in-37-clause-steps_on c = with-needs c.args.f 0x25 (frame.drop_need c.args.f.a) c.in-37.is refl refl (c.free_need.ensures.leads c.args.drained.now)

pub returns-in_default-clause-steps_on : goal.returns-in_default-clause-steps_on
returns-in_default-clause-steps_on c =
    λ g e.
    ⊎_elim
    (λ l. absurd (omega (arith, l.0, l.1)))
    (λ w. ⊎_elim (λ l. absurd (omega (arith, l))) (λ l. absurd (omega (arith, l.0, l.1))) w)
    (has-opcode c.args.f g e)
