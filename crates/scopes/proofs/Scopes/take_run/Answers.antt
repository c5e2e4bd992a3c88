-- Clear slots go to a scope. Assumes nothing.
use Rattle.std.proofs.Common.{refl}
use Rattle.scopes.specs.View.{list_of}
use Rattle.scopes.proofs.Runs.{running_none, running-on, handed}
use Rattle.scopes.proofs.Scopes.take_run.Goals as goal

pub loop-b-init : goal.loop-b-init
loop-b-init c = running_none c.args.self.now c.args.k c.args.a c.args.many c.requires.0 c.requires.1 c.requires.2 _ refl

pub loop-b-preserved : goal.loop-b-preserved
loop-b-preserved c =
    let r = c.loop-b.invariant in
    running-on _ c.args.k c.args.a c.args.many c.requires.1.0 c.requires.2.0 _ c.loop-b.b r c.loop-b-test.true c.occupy.new.halves c.place.new.t c.occupy.ensures.halves_len c.place.ensures.long c.occupy.ensures.halves_after
    (c.place.ensures.placed (list_of c.loop-b.self.links) r.sound.ringed.rings)

pub returns : goal.returns
returns c = handed c.args.self.now c.args.k c.args.a c.args.many c.requires.1.0 c.requires.2.0 c.loop-b.self c.loop-b.b _ c.loop-b.invariant c.loop-b-test.false
