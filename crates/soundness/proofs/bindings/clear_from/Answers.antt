-- `bindings::clear_from` meets its contract. Assumes nothing.
use mathlib.Core.Path.{◌≡◌, refl}
use mathlib.Core.Logic.{◌≢◌, by_cases}
use borrow.Author.Rules.{rules}
use Prim.Native.Nat.{◌-◌}
use native.Mathlib.Decide.{dec_lt}
use native.Mathlib.Omega.{arith}
use lib.ListN.{get_or, get_or-eq_default}
use Rattle.std.proofs.lemmas.Iterator.{cases_from_all, YieldsList-from_range}
use Rattle.rules.specs.Sizes.{BINDINGS}
use Rattle.rules.proofs.Tells.{tells_as}
use Rattle.soundness.proofs.Tested.{all-between}
use Rattle.soundness.proofs.bindings.clear_from.Goals as goal

pub returns : goal.returns
returns c =
    let s = c.args.s.now in
    tells_as
    (all-between (λ j. get_or s.bindings j 0 ≡ 0) s.count (BINDINGS - s.count) c.all.result (cases_from_all _ _ _ (λ j. get_or s.bindings j 0 ≡ 0) (λ j. get_or s.bindings j 0 ≢ 0) c.all.ensures.ran (YieldsList-from_range s.count BINDINGS (BINDINGS - s.count) refl refl) (λ x q k. search rules) (λ x q k. search rules)))
    (λ h j l. by_cases (dec_lt j BINDINGS) (λ b. h j l (omega arith)) (λ b. get_or-eq_default s.bindings 0 (omega arith)))
    (λ h j l _. h j l)
