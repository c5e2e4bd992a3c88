-- `rings::ringed` meets its contract. Assumes nothing.
use mathlib.Core.Path.{refl}
use Prim.Native.Nat.{ℕ}
use lib.ListN.{replicate, get_or-replicate}
use borrow.Author.Rules.{rules}
use Rattle.std.proofs.lemmas.Iterator.{cases_from_all, YieldsList-from_range}
use Rattle.rules.specs.Sizes.{LISTS, SLOTS}
use Rattle.rules.proofs.Tells.{tells_as}
use Rattle.soundness.specs.Parts.{MarkedAt}
use Rattle.soundness.proofs.Tested.{fails-with, all-below}
use Rattle.soundness.proofs.Marked.{marks-none, rounds-of, marks-of, ringed-from}
use Rattle.soundness.proofs.rings.ringed.Goals as goal

pub rounds-requires : goal.rounds-requires
rounds-requires c = marks-none SLOTS LISTS c.args.s.now.links (replicate {A = ℕ} SLOTS LISTS) (search rules) (λ a h. get_or-replicate {A = ℕ} SLOTS a LISTS 0 h)

pub returns-else-rounds : goal.returns-else-rounds
returns-else-rounds c = fails-with c.rounds.ensures.tells c.if-rounds.false (rounds-of c.args.s.now.links c.args.s.now.owner)

pub returns-then-rounds : goal.returns-then-rounds
returns-then-rounds c =
    let links = c.args.s.now.links in
    let owner = c.args.s.now.owner in
    tells_as
    (all-below (MarkedAt SLOTS LISTS links owner) SLOTS c.all.result (cases_from_all _ _ _ (MarkedAt SLOTS LISTS links owner) (λ a. MarkedAt SLOTS LISTS links owner a → ⊥) c.all.ensures.ran (YieldsList-from_range 0 SLOTS SLOTS refl refl) (λ x q k. search rules) (λ x q k. search rules)))
    (ringed-from links owner (c.rounds.ensures.tells.holds c.if-rounds.true))
    (marks-of links owner)
