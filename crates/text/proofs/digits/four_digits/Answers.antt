-- `four_digits` meets its contract. Assumes nothing.
use Prim.Native.Nat.{◌+◌, ◌/◌, ◌^◌}
use native.Mathlib.Omega.{arith}
use lib.Bits.{bit_and}
use Rattle.text.proofs.Four.{mixed, digits_of, values-in, letters-in}
use Rattle.text.proofs.digits.four_digits.Goals as goal

pub overflow_mul-values : goal.overflow_mul-values
overflow_mul-values c = omega (arith, letters-in (c.args.bytes / 2 ^ 6))

pub overflow_add-values : goal.overflow_add-values
overflow_add-values c = omega (arith, c.requires, letters-in (c.args.bytes / 2 ^ 6))

pub overflow_add-letters : goal.overflow_add-letters
overflow_add-letters c = omega (arith, values-in (mixed c.args.bytes))

pub overflow_add-values-2 : goal.overflow_add-values-2
overflow_add-values-2 c = omega (arith, values-in (mixed c.args.bytes))

pub overflow_mul-letters : goal.overflow_mul-letters
overflow_mul-letters c = omega (arith, letters-in ((bit_and (mixed c.args.bytes) 0x0f0f0f0f + 0x06060606) / 2 ^ 4))

pub overflow_add-values-3 : goal.overflow_add-values-3
overflow_add-values-3 c = omega (arith, values-in (mixed c.args.bytes), letters-in ((bit_and (mixed c.args.bytes) 0x0f0f0f0f + 0x06060606) / 2 ^ 4))

pub overflow_mul-pairs : goal.overflow_mul-pairs
overflow_mul-pairs c = omega (arith, values-in (mixed c.args.bytes))

pub overflow_add-pairs : goal.overflow_add-pairs
overflow_add-pairs c = omega (arith, values-in (mixed c.args.bytes))

pub returns : goal.returns
returns c = λ a b x d p. digits_of (mixed c.args.bytes) c.args.bytes a b x d p c.if-values-letters.false
