-- `rings::rounds` meets its contract. Assumes nothing.
use mathlib.Core.Path.{sym, ◌∙◌}
use borrow.Author.Count.{below_more}
use borrow.Author.Rules.{rules}
use Rattle.rules.specs.Sizes.{LISTS, SLOTS}
use Rattle.soundness.proofs.Marked.{marks-more}
use Rattle.soundness.proofs.rings.rounds.Goals as goal

pub loop-i-preserved : goal.loop-i-preserved
loop-i-preserved c =
    let s = c.args.s.now in
    let l = c.loop-i in
    record {
      each = below_more _ _ l.invariant.each (sym c.ring.ensures.value ∙ c.if-not-ring.false);
      marks = marks-more SLOTS LISTS s.links l.i l.marks _ l.invariant.marks (search rules) (c.ring.ensures.marked c.if-not-ring.false);
    }
