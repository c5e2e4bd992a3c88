use mathlib.Core.Path.{sym, ap, ◌∙◌}
use mathlib.Core.Option.{some}
use Prim.Native.Nat.{ℕ}
use Rattle.slots.proofs.Counts.{full-half, lowest-by-count}
use Rattle.slots.proofs.half.lowest_clear.Goals as goal

pub returns-then-h-eq18446744073709551615 : goal.returns-then-h-eq18446744073709551615
returns-then-h-eq18446744073709551615 c = sym (full-half c.args.h c.if-h-eq18446744073709551615.true)

pub returns : goal.returns
returns c = ap (λ (x : ℕ). some x) c.trailing_ones.ensures ∙ sym (lowest-by-count c.args.h c.ranges.h.fits c.if-h-eq18446744073709551615.false)
