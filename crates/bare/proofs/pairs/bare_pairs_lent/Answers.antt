use Rattle.std.proofs.Common.{ap, ◌∙◌}
use Rattle.rules.specs.Slots.{Slots}
use Rattle.bare.specs.Bare.{summed, pairs_sum}
use Rattle.bare.proofs.pairs.bare_pairs_lent.Goals as goal

pub returns : goal.returns
unfolding pairs_sum
returns c = c.run_lent.ensures ∙ ap (λ (s : Slots). summed c.args.stride c.args.n 0 s 0) c.half_full.ensures.filled
