-- `owners::owned` meets its contract. Assumes nothing.
use borrow.Author.Rules.{rules}
use mathlib.Core.Path.{refl}
use Rattle.std.proofs.lemmas.Iterator.{cases_from_all, YieldsList-from_range}
use Rattle.rules.specs.Sizes.{SLOTS}
use Rattle.rules.proofs.Tells.{tells_as}
use Rattle.soundness.specs.Parts.{OwnedAt}
use Rattle.soundness.proofs.Tested.{all-below}
use Rattle.soundness.proofs.Places.{owned-of, of-owned}
use Rattle.soundness.proofs.owners.owned.Goals as goal

pub returns-then-s-le-SLOTS : goal.returns-then-s-le-SLOTS
returns-then-s-le-SLOTS c =
    let s = c.args.s.now in
    tells_as
    (all-below (OwnedAt s.halves s.owner s.live s.size) SLOTS c.all.result (cases_from_all _ _ _ (OwnedAt s.halves s.owner s.live s.size) (λ a. OwnedAt s.halves s.owner s.live s.size a → ⊥) c.all.ensures.ran (YieldsList-from_range 0 SLOTS SLOTS refl refl) (λ x q k. search rules) (λ x q k. search rules)))
    (owned-of s.halves s.owner s.live s.size c.if-s-le-SLOTS.true)
    (of-owned s.halves s.owner s.live s.size)
