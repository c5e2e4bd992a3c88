-- The table of opcodes: the shape of each opcode's operands in scripts and in lists. Assumes nothing.
use Rattle.std.specs.Prelude.{Bool, true, false, List, [], ◌∷◌, ℕ, ◌+◌, ◌-◌, eqb, Option, Some, None}
use Rattle.text.specs.declared.lines.Frame.{Frame}
use Rattle.text.specs.declared.lines.TextKind.{TextKind}
use Rattle.text.specs.declared.lines.TextKind.TheVariants as kind

abbrev pub pick : {A : Type 0} → Bool → A → A → A
pick true a b = a
pick false a b = b

-- ---- rows: 0 no such opcode, 1 no operand, 2 one, 3 two, 4 a count and as many operands

-- an opcode, and the shape of its operands in scripts and in lists
pub record Shaped : Type 0 where
  pub opcode : ℕ
  pub script : ℕ
  pub list : ℕ

abbrev shaped : ℕ → ℕ → ℕ → Shaped
shaped o s l = record { opcode = o; script = s; list = l }

abbrev pub column : TextKind → Shaped → ℕ
column kind.Script w = w.script
column kind.List w = w.list

abbrev pub shape_in : TextKind → List Shaped → ℕ → ℕ
shape_in k [] o = 0
shape_in k (w ∷ ws) o = elim (eqb w.opcode o) [ true ↦ column k w | false ↦ shape_in k ws o ]

unfoldable pub frame_shapes : List Shaped
frame_shapes =
    shaped 0x01 1 2
    ∷ shaped 0x02 2 1
    ∷ shaped 0x03 2 1
    ∷ shaped 0x04 2 1
    ∷ shaped 0x05 1 1
    ∷ shaped 0x06 1 2
    ∷ shaped 0x07 2 2
    ∷ shaped 0x08 2 2
    ∷ shaped 0x09 3 1
    ∷ shaped 0x0a 2 2
    ∷ shaped 0x0b 2 2
    ∷ shaped 0x0c 2 1
    ∷ shaped 0x0d 2 1
    ∷ shaped 0x0e 2 1
    ∷ shaped 0x0f 1 4
    ∷ shaped 0x10 3 3
    ∷ shaped 0x11 2 2
    ∷ shaped 0x12 2 2
    ∷ shaped 0x14 2 2
    ∷ shaped 0x20 2 2
    ∷ shaped 0x21 2 2
    ∷ shaped 0x22 1 2
    ∷ shaped 0x23 2 2
    ∷ shaped 0x24 2 2
    ∷ shaped 0x25 2 1
    ∷ []

abbrev pub size_shape : Shaped
size_shape = shaped 0x90 0 2

-- the whole table
abbrev pub shapes : List Shaped
shapes = size_shape ∷ frame_shapes

-- the shape of an opcode, in a list or in a script
unfoldable pub shape_of : TextKind → ℕ → ℕ
shape_of k o = shape_in k shapes o

-- the code's row of the opcodes with this first digit: a digit for each, the last for the first
unfoldable pub row_of : TextKind → ℕ → ℕ
row_of kind.Script h = pick (eqb h 0) 0x1222223221122210 (pick (eqb h 1) 0x20223 (pick (eqb h 2) 0x222122 0))
row_of kind.List h = pick (eqb h 0) 0x4111221222111120 (pick (eqb h 1) 0x20223 (pick (eqb h 2) 0x122222 (pick (eqb h 9) 0x2 0)))

-- ---- what a line comes to, of its opcode, how many operands it has and the first two

abbrev pub frame : ℕ → ℕ → ℕ → Frame
frame o a b = record { opcode = o; a = a; b = b }

-- what a line comes to: the frame that it is, or none where it is malformed
abbrev pub Reading : Type 0
Reading = Option Frame

abbrev pub fit : ℕ → ℕ → ℕ → Bool
fit d k a = pick (eqb d 4) (eqb k (a + 1)) (pick (eqb d 0) false (eqb k (d - 1)))

abbrev pub read_as : ℕ → ℕ → ℕ → ℕ → ℕ → Reading
read_as d o k a b = pick (fit d k a) (Some (frame o a b)) None
