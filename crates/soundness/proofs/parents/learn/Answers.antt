-- `parents::learn` meets its contract. Assumes nothing.
use borrow.Author.Rules.{rules}
use Rattle.soundness.proofs.Climbs.{leads-below}
use Rattle.soundness.proofs.parents.learn.Goals as goal

pub bounds-known-k : goal.bounds-known-k
bounds-known-k c = leads-below _ _ (search rules) _ c.loop-step.invariant.leads

pub bounds-known-k-in-loop-step : goal.bounds-known-k-in-loop-step
bounds-known-k-in-loop-step c = leads-below _ _ (search rules) _ c.loop-step.invariant.leads

pub bounds-s-k : goal.bounds-s-k
bounds-s-k c = leads-below _ _ (search rules) _ c.loop-step.invariant.leads
