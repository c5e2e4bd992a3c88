-- `sized` meets its contract. Assumes nothing.
use mathlib.Core.Path.{◌≡◌, refl, sym, ap, ◌∙◌}
use mathlib.Core.Bool.{Bool, true, false}
use Prim.Native.Nat.{ℕ, ◌≤◌, ◌<◌}
use native.Mathlib.Omega.{arith}
use borrow.Author.Tests.{le-leb, lt-leb}
use Rattle.rules.specs.Sizes.{base, SLOTS}
use Rattle.text.specs.Refused.{good, bad}
use Rattle.text.specs.Whole.{sized, size_listing}
use Rattle.text.proofs.Texts.{stopped}
use Rattle.text.proofs.whole.sized.Goals.{then-size-gt-SLOTS-via-then-size-gt-SLOTS, then-size-gt-SLOTS-via-else-size-gt-SLOTS+then-not-last}
use Rattle.text.proofs.whole.sized.Goals as goal

too_large : (n : ℕ) (last : Bool) (i : ℕ) → SLOTS < n → size_listing base n last i ≡ bad 1 i
unfolding base
too_large n false i h = refl
too_large n true i h = rw (lt-leb n SLOTS h)

pub returns-then-size-gt-SLOTS : goal.returns-then-size-gt-SLOTS
unfolding base
returns-then-size-gt-SLOTS c =
    stopped _ _ c.new.ensures _
    (elim c.then-size-gt-SLOTS.branch [
      | then-size-gt-SLOTS-via-then-size-gt-SLOTS w ↦ too_large c.args.n c.args.last c.args.i (omega (arith, c.from-size.ensures, w.if-size-gt-SLOTS.true))
      | then-size-gt-SLOTS-via-else-size-gt-SLOTS+then-not-last w ↦ rw w.if-not-last.true
    ])

pub returns : goal.returns
unfolding base
returns c =
    let h : c.args.n ≤ SLOTS = omega (arith, c.from-size.ensures, c.if-size-gt-SLOTS.false) in
    ap (λ (k : ℕ). good (sized k c.args.i)) c.from-size.ensures ∙ sym (rw (c.if-not-last.false, le-leb c.args.n SLOTS h))
