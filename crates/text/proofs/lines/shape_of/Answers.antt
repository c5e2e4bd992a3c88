-- `shape_of` meets its contract: the code's rows and the table of specs/ agree at every opcode, by one computed test for each column.
-- Assumes nothing.
use mathlib.Core.Path.{◌≡◌, refl}
use mathlib.Core.Bool.{Bool, true, false}
use Prim.Native.Nat.{ℕ, ◌*◌, ◌/◌, ◌%◌, ◌^◌, ◌<◌}
use native.Mathlib.Omega.{arith}
use Rattle.rules.specs.Notation.{all_below}
use Rattle.text.specs.Shapes.{frame_shapes, shape_of, row_of}
use Rattle.text.specs.declared.lines.TextKind.{TextKind}
use Rattle.text.specs.declared.lines.TextKind.TheVariants as kind
use Rattle.text.proofs.Computed.{same_at}
use Rattle.text.proofs.lines.shape_of.Goals as goal

-- the digit of an opcode in its row
abbrev digit_of : TextKind → ℕ → ℕ
digit_of which o = row_of which (o / 16) / 2 ^ (4 * (o % 16)) % 16

shaped : (which : TextKind) (o : ℕ) → o < 256 → digit_of which o ≡ shape_of which o
unfolding row_of shape_of frame_shapes all_below
shaped kind.List o h = same_at (digit_of kind.List) (shape_of kind.List) 256 refl o h
shaped kind.Script o h = same_at (digit_of kind.Script) (shape_of kind.Script) 256 refl o h

read-row : (which : TextKind) (o r : ℕ) → o < 256 → r ≡ row_of which (o / 16) → r / 2 ^ (4 * (o % 16)) % 16 ≡ shape_of which o
read-row which o r h e = rw e (shaped which o h)

pub returns : goal.returns
returns c = read-row c.args.kind c.args.opcode _ (omega arith) c.row_of-row.ensures
