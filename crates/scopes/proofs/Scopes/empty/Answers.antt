-- The addresses of a scope go to the dangling list. Assumes nothing.
use Rattle.std.proofs.Common.{arith}
use Rattle.scopes.specs.View.{list_of}
use Rattle.scopes.proofs.Closes.{Turn, ended, closing-turn, closing-on, closing-less}
use Rattle.scopes.proofs.Scopes.empty.Goals as goal
use Rattle.scopes.proofs.Scopes.empty.Goals.{In-Some}

-- a is the first of the list
first : (c : In-Some) → Turn c.loop-a.self c.args.i c.in-Some.a
first c = closing-turn c.args.i _ _ _ c.requires.1.0 c.loop-a.invariant c.in-Some.ensures

pub vacate-requires : goal.vacate-requires
vacate-requires c = (first (goal.at.vacate-requires c).In-Some).small

pub place-requires-clause-bounds : goal.place-requires-clause-bounds
place-requires-clause-bounds c = (omega arith, (first (goal.at.place-requires-clause-bounds c).In-Some).small)

pub bounds-self-a : goal.bounds-self-a
bounds-self-a c = (first (goal.at.bounds-self-a c).In-Some).small

pub loop-a-smaller : goal.loop-a-smaller
loop-a-smaller c =
    let g = c.loop-a.invariant in
    closing-less _ _ _ _ c.requires.1.0 g (first (goal.at.loop-a-smaller c).In-Some) c.vacate.new.halves c.place.new.t c.vacate.ensures.halves_len c.place.ensures.long
    c.vacate.ensures.halves_after (c.place.ensures.placed (list_of c.loop-a.self.links) g.sound.ringed.rings)

pub loop-a-preserved : goal.loop-a-preserved
loop-a-preserved c =
    let g = c.loop-a.invariant in
    closing-on _ _ _ _ c.requires.1.0 g (first (goal.at.loop-a-preserved c).In-Some) c.vacate.new.halves c.place.new.t c.vacate.ensures.halves_len c.place.ensures.long
    c.vacate.ensures.halves_after (c.place.ensures.placed (list_of c.loop-a.self.links) g.sound.ringed.rings)

pub returns : goal.returns
returns c =
    let g = c.loop-a.invariant in
    record {
      none = ended _ g.sound c.args.i (omega (arith, c.requires.1.0)) c.in_default.ensures;
      closes = g.closes;
      scopes = g.scopes;
      whole = record { sound = g.sound; sized = g.sized };
    }
