-- `bindings::distinct` meets its contract. Assumes nothing.
use native.Mathlib.Omega.{arith}
use lib.ListN.{replicate}
use borrow.Author.Rules.{rules}
use Rattle.rules.specs.Sizes.{WORD}
use Rattle.soundness.proofs.Meets.{met-none, met-more, unlike, distinct_more}
use Rattle.soundness.proofs.bindings.distinct.Goals as goal

pub loop-j-init : goal.loop-j-init
loop-j-init c = record { names = search rules; bound = search rules; met = met-none c.args.s.now.bindings (replicate WORD 0); distinct = search rules }

pub loop-j-preserved : goal.loop-j-preserved
loop-j-preserved c =
    let b = c.args.s.now.bindings in
    let l = c.loop-j in
    let k = c.place-k.result in
    let placed = rw c.name-name.ensures at c.place-k.ensures in
    record {
      names = search rules;
      bound = search rules;
      met = rw c.name-name.ensures (met-more b l.places l.scopes l.j k l.invariant.met placed c.set_bit.result (omega arith) (omega arith) c.set_bit.ensures);
      distinct = distinct_more b l.j l.invariant.distinct (unlike b l.places l.scopes l.j k l.invariant.met placed (search rules));
    }
