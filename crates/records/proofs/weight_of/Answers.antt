-- `weight_of` meets its contract. Assumes nothing.
use mathlib.Core.Path.{sym}
use native.Mathlib.Omega.{arith}
use Rattle.text.proofs.Values.{digit-none}
use Rattle.records.proofs.Digits.{value-none}
use Rattle.records.proofs.weight_of.Goals as goal

pub returns-in-None : goal.returns-in-None
returns-in-None c = (sym (value-none c.args.c (digit-none c.args.c c.in-None.ensures)), omega arith)
