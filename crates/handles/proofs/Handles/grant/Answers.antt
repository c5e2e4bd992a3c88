use mathlib.Core.Path.{refl}
use Prim.Native.Nat.{◌+◌}
use native.Mathlib.Omega.{arith}
use lib.ListN.{length-set}
use borrow.Author.Rules.{rules}
use Rattle.handles.proofs.Grants.{hands_more, hands_none, hands-all}
use Rattle.handles.proofs.Handles.grant.Goals as goal

pub loop-i-init : goal.loop-i-init
loop-i-init c = record { hands = hands_none _ _ _; same = refl; long = search rules; holders-long = search rules }

pub loop-i-preserved : goal.loop-i-preserved
loop-i-preserved c =
    let l = c.loop-i.invariant in
    let coded = rw c.new.ensures at c.packed.ensures in
    record {
      hands = hands_more l.hands c.packed.result (c.loop-i.self.handed + c.loop-i.i) (omega arith) (omega arith) (omega arith) coded.slot coded.kind coded.written;
      same = l.same;
      long = simp length-set l.long;
      holders-long = simp length-set l.holders-long;
    }

pub returns : goal.returns
returns c = let l = c.loop-i.invariant in hands-all c.loop-i.i _ (omega arith) (omega arith) c.from-a.ensures l.same l.long l.holders-long l.hands
