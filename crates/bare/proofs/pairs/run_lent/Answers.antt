use Rattle.std.proofs.Common.{ℕ, sym, refl, ap, ◌∙◌, subst, arith, rules}
use Rattle.slots.specs.Promises.{SeenSlots}
use Rattle.bare.proofs.Runs.{Sound, removed-sound, inserted-sound, inserted-of, pair-summed, summed-start, summed-turn, summed-end}
use Rattle.bare.proofs.pairs.run_lent.Goals as goal

pub loop-i-init : goal.loop-i-init
loop-i-init c = record { below = search rules; long = search rules; sound = c.requires; left = summed-start _ _ _ _ refl }

pub take_out-requires-clause-sound : goal.take_out-requires-clause-sound
take_out-requires-clause-sound c = c.loop-i.invariant.sound

pub take_out-requires-clause-bounds : goal.take_out-requires-clause-bounds
take_out-requires-clause-bounds c = (omega arith, c.loop-i.invariant.long)

pub put_in-given-requires-clause-sound : goal.put_in-given-requires-clause-sound
put_in-given-requires-clause-sound c = subst Sound (sym c.take_out.ensures.removed) (removed-sound _ _ c.loop-i.invariant.sound)

pub loop-i-preserved : goal.loop-i-preserved
loop-i-preserved c =
    let l = c.loop-i in
    let e = c.put_in-given.ensures.inserted ∙ inserted-of _ _ _ (rw c.from.ensures at c.take_out.ensures.removed) in
    let n = ap (λ (x : SeenSlots ℕ). x.next) e in
    record {
      below = omega (arith, c.next-a.ensures);
      long = c.put_in-given.ensures.long;
      sound = subst Sound (sym n) (inserted-sound _ (removed-sound _ _ l.invariant.sound));
      left = summed-turn _ _ _ _ _ _ _ _ _ (omega arith) n c.next-a.ensures (pair-summed l.sum _ _ _ c.address_of-sum.ensures e) l.invariant.left;
    }

pub returns : goal.returns
returns c = summed-end _ _ _ _ _ _ (omega arith) c.loop-i.invariant.left
