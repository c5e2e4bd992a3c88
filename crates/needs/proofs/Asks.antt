-- What a kind and a need answer, by their case and by what was tested there. Assumes nothing.
use mathlib.Core.Path.{◌≡◌, sym, ap}
use mathlib.Core.Bool.{true, false}
use mathlib.Core.Option.{Option, none, some}
use Prim.Native.Nat.{ℕ}
use lib.Dec.{eqb}
use Rattle.rules.specs.Notation.{Answer, given, refused, ◌>>=◌}
use Rattle.rules.specs.Needs as rule
use Rattle.rules.proofs.Chains.{if-true, if-false, when_true, when_false}
use Rattle.needs.specs.Answers.{told_need}

-- ---- try_as_addr

module _ (a : rule.Address) where
  pub tried-dangling : rule.is_dangling a.kind ≡ true → refused 19 ≡ rule.try_as_addr (rule.at a)
  unfolding rule.try_as_addr
  tried-dangling e = sym (when_true 19 _ e)

  pub tried_other : rule.is_dangling a.kind ≡ false → given (some a) ≡ rule.try_as_addr (rule.at a)
  unfolding rule.try_as_addr
  tried_other e = sym (when_false 19 _ e)

-- ---- into_addr

-- from what `addr` says of the need
pub taken : (d : rule.Need) (m : Answer rule.Address) → m ≡ rule.addr_of d → told_need d (m >>= λ a. given (a, rule.freed_need)) ≡ told_need d (rule.into_addr d)
unfolding rule.into_addr
taken d m e = ap (λ (m : Answer rule.Address). told_need d (m >>= λ a. given (a, rule.freed_need))) e

-- ---- assign from x

abbrev leaving : rule.Need → Option ℕ → rule.Assignment
leaving d o = record { need = d; copy_to = o }

module _ (a : rule.Address) (x : ℕ) where
  pub assign-same : eqb a.slot x ≡ true → leaving (rule.at a) none ≡ rule.assign_from x (rule.at a)
  unfolding rule.assign_from
  assign-same e = ap (leaving (rule.at a)) (sym (if-true none (some a.slot) e))

  pub assign_other : eqb a.slot x ≡ false → leaving (rule.at a) (some a.slot) ≡ rule.assign_from x (rule.at a)
  unfolding rule.assign_from
  assign_other e = ap (leaving (rule.at a)) (sym (if-false none (some a.slot) e))
