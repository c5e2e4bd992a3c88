-- The dangling list is handed out. Assumes nothing.
use Rattle.std.proofs.Common.{arith}
use Rattle.rules.specs.Sizes.{SCOPES}
use Rattle.scopes.specs.View.{list_of}
use Rattle.scopes.proofs.Closes.{Turn, ended}
use Rattle.scopes.proofs.Drains.{draining-none, draining-turn, on, draining-on, draining-less, drained}
use Rattle.scopes.proofs.Scopes.drain.Goals as goal
use Rattle.scopes.proofs.Scopes.drain.Goals.{In-Some}

-- a is the first of the list
first : (c : In-Some) → Turn c.loop-a.self SCOPES c.in-Some.a
first c = draining-turn _ _ _ _ _ _ c.loop-a.invariant c.in-Some.ensures

pub loop-a-init : goal.loop-a-init
loop-a-init c = let h = c.requires.0 in draining-none c.args.self.now _ h.sound h.sized c.requires.1

pub overflow_cast-out : goal.overflow_cast-out
overflow_cast-out c = let u = first c in omega (arith, u.small)

pub unlink-requires-clause-bounds : goal.unlink-requires-clause-bounds
unlink-requires-clause-bounds c = (first (goal.at.unlink-requires-clause-bounds c).In-Some).small

pub unlink-requires-clause-held : goal.unlink-requires-clause-held
unlink-requires-clause-held c =
    let g = c.loop-a.invariant in
    (list_of c.loop-a.self.links, g.sound.ringed.rings, on _ _ _ _ _ _ g (first (goal.at.unlink-requires-clause-held c).In-Some))

pub bounds-self-a : goal.bounds-self-a
bounds-self-a c = (first (goal.at.bounds-self-a c).In-Some).small

pub loop-a-smaller : goal.loop-a-smaller
loop-a-smaller c =
    let g = c.loop-a.invariant in
    let u = first (goal.at.loop-a-smaller c).In-Some in
    draining-less _ _ _ _ _ _ g u c.unlink.new.t c.unlink.ensures.long (c.unlink.ensures.unlinked (list_of c.loop-a.self.links) g.sound.ringed.rings (on _ _ _ _ _ _ g u))

pub loop-a-preserved : goal.loop-a-preserved
loop-a-preserved c =
    let g = c.loop-a.invariant in
    let u = first (goal.at.loop-a-preserved c).In-Some in
    draining-on _ _ _ _ _ _ g u c.unlink.new.t c.unlink.ensures.long (c.unlink.ensures.unlinked (list_of c.loop-a.self.links) g.sound.ringed.rings (on _ _ _ _ _ _ g u))

pub returns : goal.returns
returns c =
    let g = c.loop-a.invariant in
    record {
      drains = drained _ _ _ _ _ g (ended _ g.sound SCOPES (omega arith) c.in_default.ensures);
      keeps_from = (g.kept, g.long, omega (arith, g.room));
    }
