use Rattle.std.proofs.Common.{ℕ, sym, ap, subst, arith}
use Rattle.slots.specs.Promises.{SeenSlots}
use Rattle.bare.specs.Bare.{pairs_sum}
use Rattle.bare.proofs.Runs.{Sound, removed-sound, inserted-sound, pair-shown, pair-summed, summed-start, summed-turn, summed-end}
use Rattle.bare.proofs.pairs.bare_pairs_by_value.Goals as goal

pub loop-i-init : goal.loop-i-init
unfolding pairs_sum
loop-i-init c = record { sound = c.half_full-s.ensures.sound; left = summed-start _ _ _ _ c.half_full-s.ensures.filled }

pub loop-i-preserved : goal.loop-i-preserved
loop-i-preserved c =
    let l = c.loop-i in
    let e = pair-shown _ _ _ _ _ l.invariant.sound c.remove-q.ensures.shows c.insert-p.ensures.shows in
    let n = ap (λ (x : SeenSlots ℕ). x.next) e in
    record {
      sound = subst Sound (sym n) (inserted-sound _ (removed-sound _ _ l.invariant.sound));
      left = summed-turn _ _ _ _ _ _ _ _ _ (omega arith) n c.next-a.ensures (pair-summed l.sum _ _ _ c.address_of-sum.ensures e) l.invariant.left;
    }

pub returns : goal.returns
returns c = summed-end _ _ _ _ _ _ (omega arith) c.loop-i.invariant.left
