-- Slots for scope k, by any placement. Assumes nothing.
use Rattle.std.proofs.Common.{arith}
use Rattle.slots.specs.Spots.{place_of}
use Rattle.scopes.proofs.Becoming.{refuses}
use Rattle.scopes.proofs.Allocs.{slots-sound, alloc-full, alloc-vacant, alloc_gives}
use Rattle.scopes.proofs.Scopes.alloc_at.Goals as goal

pub choose-requires : goal.choose-requires
choose-requires c = (slots-sound c.args.self.now c.requires.0.sound.slotted, c.requires.2, c.requires.3)

pub returns-in_default : goal.returns-in_default
returns-in_default c = refuses c.args.self.now _ _ c.requires.0 (alloc-full c.args.self.now c.args.k (place_of c.args.place) c.args.many c.in_default.ensures)

pub overflow_add-a : goal.overflow_add-a
overflow_add-a c =
    let v = alloc-vacant c.args.self.now c.args.k (place_of c.args.place) c.args.many c.in-Some.spot c.in-Some.ensures c.requires.0.sound in
    omega (arith, v.0)

pub take_run-requires : goal.take_run-requires
take_run-requires c = (c.requires.0, c.requires.1, alloc-vacant c.args.self.now c.args.k (place_of c.args.place) c.args.many c.in-Some.spot c.in-Some.ensures c.requires.0.sound)

pub returns : goal.returns
returns c = alloc_gives c.args.self.now c.args.k (place_of c.args.place) c.args.many c.in-Some.spot c.in-Some.ensures c.requires.0.sound c.take_run.new.self _ c.max-size.ensures c.take_run.ensures
