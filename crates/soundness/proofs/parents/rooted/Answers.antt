-- `parents::rooted` meets its contract. Assumes nothing.
use borrow.Author.Count.{below_more}
use borrow.Author.Rules.{rules}
use Rattle.rules.proofs.Tells.{tells-yes}
use Rattle.soundness.proofs.Climbs.{known-none}
use Rattle.soundness.proofs.Places.{rooted-of}
use Rattle.soundness.proofs.parents.rooted.Goals as goal

pub loop-i-init : goal.loop-i-init
loop-i-init c = record { each = search rules; known = known-none c.args.s.now.live c.args.s.now.parent }

pub loop-i-preserved : goal.loop-i-preserved
loop-i-preserved c =
    let s = c.args.s.now in
    record {
      each = below_more _ _ c.loop-i.invariant.each (c.rooted_at.ensures.tells.holds c.if-not-rooted_at.false);
      known = c.rooted_at.ensures.known;
    }

pub returns : goal.returns
returns c = let s = c.args.s.now in tells-yes (rooted-of s.live s.dangled s.parent s.number s.top (search rules) (search rules) (search rules) (search rules))
