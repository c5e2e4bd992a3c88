use Rattle.std.proofs.Common.{ℕ, sym, ap, subst, arith}
use Rattle.slots.specs.Promises.{SeenSlots}
use Rattle.bare.specs.Bare.{HALF, inserts, half_full}
use Rattle.bare.proofs.Runs.{Sound, fresh-sound, inserted-sound, unchecked, inserts-turn, inserts-end}
use Rattle.bare.proofs.pairs.half_full.Goals as goal

pub loop-i-init : goal.loop-i-init
unfolding half_full
loop-i-init c = record { sound = subst Sound (sym c.fresh-s.ensures.shows) fresh-sound; left = ap (inserts HALF) c.fresh-s.ensures.shows }

pub loop-i-preserved : goal.loop-i-preserved
loop-i-preserved c =
    let l = c.loop-i.invariant in
    let n = ap (λ (x : SeenSlots ℕ). x.next) (unchecked _ _ _ l.sound c.insert-p.ensures.shows) in
    record { sound = subst Sound (sym n) (inserted-sound _ l.sound); left = inserts-turn _ _ _ (omega arith) n l.left }

pub returns-clause-filled : goal.returns-clause-filled
returns-clause-filled c = inserts-end _ _ (omega arith) c.loop-i.invariant.left

pub returns-clause-sound : goal.returns-clause-sound
returns-clause-sound c = c.loop-i.invariant.sound
