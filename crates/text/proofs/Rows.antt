-- The table of opcodes: each row of the rules' tables comes to what our row's shape says of the opcode and the operands, and a whole
-- line to what the table says of its digits. Assumes nothing.
use mathlib.Core.Path.{◌≡◌, refl, sym, ap, ◌∙◌}
use mathlib.Core.Bool.{Bool, true, false}
use mathlib.Core.List.{List, [], ◌∷◌}
use mathlib.Core.Option.{Option, none, some}
use Prim.Native.Nat.{ℕ, suc, ◌-◌, ◌<◌}
use native.Mathlib.Omega.{arith}
use native.Mathlib.Numerals.{add-one}
use lib.Dec.{eqb, eqb-suc-suc}
use lib.ListN.{length, get_or, take}
use borrow.Author.Tests.{ne_eqb, eqb-true}
use Rattle.rules.specs.Frames as rules
use Rattle.rules.specs.Frames.{child, pop, dangle, restore, pop_last, alloc, alloc_in, linear, define, get, take_from, free, free_quietly, forget, drain, constant, next_sample, write, read, read_name, new_defer, new_assigned, new_ignore, alloc_need, output_need, drop_need, stores, loads, shows}
use Rattle.rules.specs.Text.{Raw, raw, Row, rowed, line_of, frame_table, line_table, size_table, with0, with1, with2, counted, bare, adding}
use Rattle.text.specs.Shapes.{pick, Reading, Shaped, column, shape_in, frame_shapes, size_shape, shapes, shape_of, frame, fit, read_as}
use Rattle.text.specs.Lines.{ended, code_of, frame_of, framed, frame_reading, lined, sized_or, line_reading, reading_of}
use Rattle.text.specs.declared.lines.Frame.{Frame}
use Rattle.std.specs.declared.option.Option.TheVariants.{Some, None}
use Rattle.text.specs.declared.lines.TextKind.{TextKind}
use Rattle.text.specs.declared.lines.TextKind.TheVariants as kind

-- ---- one row, and the rows after it

shape-here : (which : TextKind) (w : Shaped) (ws : List Shaped) (o : ℕ) → eqb w.opcode o ≡ true → shape_in which (w ∷ ws) o ≡ column which w
shape-here which w ws o e = rw (e, shape_in)

shape-there : (which : TextKind) (w : Shaped) (ws : List Shaped) (o : ℕ) → eqb w.opcode o ≡ false → shape_in which (w ∷ ws) o ≡ shape_in which ws o
shape-there which w ws o e = rw (e, shape_in)

rowed-here : {A : Type 0} (w : Row A) (ws : List (Row A)) (r : Raw) → eqb w.opcode r.opcode ≡ true → rowed (w ∷ ws) r ≡ w.made r.operands
unfolding rowed
rowed-here w ws r e = rw (e, rowed)

rowed-there : {A : Type 0} (w : Row A) (ws : List (Row A)) (r : Raw) → eqb w.opcode r.opcode ≡ false → rowed (w ∷ ws) r ≡ rowed ws r
unfolding rowed
rowed-there w ws r e = rw (e, rowed)

-- what operands come to at a shape
abbrev pub as_shape : ℕ → ℕ → List ℕ → Reading
as_shape d o l = read_as d o (length l) (get_or l 0 0) (get_or l 1 0)

more : (n m : ℕ) (x y : Reading) → m < n → pick (eqb n m) x y ≡ y
more n m x y h = rw (ne_eqb n m (λ e. omega (arith, e)))

-- ---- a table of the rules whose rows have our shapes; `show` is what the reader answers of what a row makes

module _ {A : Type 0} (which : TextKind) (show : Option A → Reading) where
  -- `other`: a row of ours for an opcode that the rules' table hasn't
  pub data Sames : List (Row A) → List Shaped → Type 0 where
    no_rows : Sames [] []
    rows : {w : Row A} {k : Shaped} {ws : List (Row A)} {ks : List Shaped} → w.opcode ≡ k.opcode → ((l : List ℕ) → show (w.made l) ≡ as_shape (column which k) k.opcode l) → Sames ws ks → Sames (w ∷ ws) (k ∷ ks)
    other : {k : Shaped} {ws : List (Row A)} {ks : List Shaped} → column which k ≡ 0 → shape_in which ks k.opcode ≡ 0 → Sames ws ks → Sames ws (k ∷ ks)

  pub by_rows : show none ≡ None → {ws : List (Row A)} {ks : List Shaped} → Sames ws ks → (r : Raw) → show (rowed ws r) ≡ as_shape (shape_in which ks r.opcode) r.opcode r.operands
  unfolding rowed
  by_rows z no_rows r = z
  by_rows z (rows {w = w} {k = k} {ws = ws} {ks = ks} code made rest) r = go (eqb w.opcode r.opcode) refl (by_rows z rest r)
    where
      go : (b : Bool) → eqb w.opcode r.opcode ≡ b → show (rowed ws r) ≡ as_shape (shape_in which ks r.opcode) r.opcode r.operands
          → show (rowed (w ∷ ws) r) ≡ as_shape (shape_in which (k ∷ ks) r.opcode) r.opcode r.operands
      go true e ih =
          let q : eqb k.opcode r.opcode ≡ true = ap (λ (n : ℕ). eqb n r.opcode) (sym code) ∙ e in
          ap show (rowed-here w ws r e) ∙ made r.operands
          ∙ ap (λ (o : ℕ). as_shape (column which k) o r.operands) (eqb-true k.opcode r.opcode q)
          ∙ ap (λ (d : ℕ). as_shape d r.opcode r.operands) (sym (shape-here which k ks r.opcode q))
      go false e ih =
          let q : eqb k.opcode r.opcode ≡ false = ap (λ (n : ℕ). eqb n r.opcode) (sym code) ∙ e in
          ap show (rowed-there w ws r e) ∙ ih
          ∙ ap (λ (d : ℕ). as_shape d r.opcode r.operands) (sym (shape-there which k ks r.opcode q))
  by_rows z (other {k = k} {ws = ws} {ks = ks} none_here none-there rest) r = by_rows z rest r ∙ ap (λ (d : ℕ). as_shape d r.opcode r.operands) (go (eqb k.opcode r.opcode) refl)
    where
      go : (b : Bool) → eqb k.opcode r.opcode ≡ b → shape_in which ks r.opcode ≡ shape_in which (k ∷ ks) r.opcode
      go true e =
          ap (shape_in which ks) (sym (eqb-true k.opcode r.opcode e)) ∙ none-there ∙ sym none_here ∙ sym (shape-here which k ks r.opcode e)
      go false e = sym (shape-there which k ks r.opcode e)

-- rows of no, one and two operands
module _ {A : Type 0} (show : Option A → Reading) (z : show none ≡ None) (o : ℕ) where
  none_of : (x : A) → show (some x) ≡ Some (frame o 0 0) → (l : List ℕ) → show (with0 x l) ≡ as_shape 1 o l
  none_of x e [] = e
  none_of x e (a ∷ l) = z ∙ sym (more (suc (length l)) 0 _ None (omega arith))

  one_of : (f : ℕ → A) → ((a : ℕ) → show (some (f a)) ≡ Some (frame o a 0)) → (l : List ℕ) → show (with1 f l) ≡ as_shape 2 o l
  one_of f e [] = z
  one_of f e (a ∷ []) = e a
  one_of f e (a ∷ b ∷ l) = z ∙ sym (more (suc (suc (length l))) 1 _ None (omega arith))

  two-of : (f : ℕ → ℕ → A) → ((a b : ℕ) → show (some (f a b)) ≡ Some (frame o a b)) → (l : List ℕ) → show (with2 f l) ≡ as_shape 3 o l
  two-of f e [] = z
  two-of f e (a ∷ []) = z
  two-of f e (a ∷ b ∷ []) = e a b
  two-of f e (a ∷ b ∷ c ∷ l) = z ∙ sym (more (suc (suc (suc (length l)))) 2 _ None (omega arith))

-- ---- scripts

bare-frame : (o : ℕ) (x : rules.Frame) → code_of x ≡ frame o 0 0 → (l : List ℕ) → framed (with0 x l) ≡ as_shape 1 o l
bare-frame o x e = none_of framed refl o x (ap Some e)

frame-of-one : (o : ℕ) (f : ℕ → rules.Frame) → ((a : ℕ) → code_of (f a) ≡ frame o a 0) → (l : List ℕ) → framed (with1 f l) ≡ as_shape 2 o l
frame-of-one o f e = one_of framed refl o f (λ a. ap Some (e a))

script-rows : Sames kind.Script framed frame_table shapes
unfolding frame_table frame_shapes
script-rows =
    other refl refl
    (rows refl (bare-frame 0x01 _ refl)
    (rows refl (frame-of-one 0x02 _ (λ a. refl))
    (rows refl (frame-of-one 0x03 _ (λ a. refl))
    (rows refl (frame-of-one 0x04 _ (λ a. refl))
    (rows refl (bare-frame 0x05 _ refl)
    (rows refl (bare-frame 0x06 _ refl)
    (rows refl (frame-of-one 0x07 _ (λ a. refl))
    (rows refl (frame-of-one 0x08 _ (λ a. refl))
    (rows refl (two-of framed refl 0x09 _ (λ a b. refl))
    (rows refl (frame-of-one 0x0a _ (λ a. refl))
    (rows refl (frame-of-one 0x0b _ (λ a. refl))
    (rows refl (frame-of-one 0x0c _ (λ a. refl))
    (rows refl (frame-of-one 0x0d _ (λ a. refl))
    (rows refl (frame-of-one 0x0e _ (λ a. refl))
    (rows refl (bare-frame 0x0f _ refl)
    (rows refl (two-of framed refl 0x10 _ (λ a b. refl))
    (rows refl (frame-of-one 0x11 _ (λ a. refl))
    (rows refl (frame-of-one 0x12 _ (λ a. refl))
    (rows refl (frame-of-one 0x14 _ (λ a. refl))
    (rows refl (frame-of-one 0x20 _ (λ a. refl))
    (rows refl (frame-of-one 0x21 _ (λ a. refl))
    (rows refl (bare-frame 0x22 _ refl)
    (rows refl (frame-of-one 0x23 _ (λ a. refl))
    (rows refl (frame-of-one 0x24 _ (λ a. refl))
    (rows refl (frame-of-one 0x25 _ (λ a. refl))
    no_rows)))))))))))))))))))))))))

-- ---- lists

bare-line : (o : ℕ) (l : List ℕ) → lined (bare o l) ≡ as_shape 1 o l
bare-line o = none_of lined refl o (shows o []) refl

adding-line : (o : ℕ) (l : List ℕ) → lined (adding o l) ≡ as_shape 2 o l
adding-line o = one_of lined refl o (λ a. shows o (a ∷ [])) (λ a. refl)

counted-line : (o : ℕ) (l : List ℕ) → lined (counted o l) ≡ as_shape 4 o l
counted-line o [] = refl
counted-line o (n ∷ l) = rw (add-one, eqb-suc-suc) (go (eqb (length l) n))
  where
    go : (b : Bool) → lined (elim b [ true ↦ some (shows o (n ∷ l)) | false ↦ none ]) ≡ pick b (Some (frame o n (get_or l 0 0))) None
    go true = refl
    go false = refl

line-rows : Sames kind.List lined line_table frame_shapes
unfolding line_table frame_shapes
line-rows =
    rows refl (adding-line 0x01)
    (rows refl (bare-line 0x02)
    (rows refl (bare-line 0x03)
    (rows refl (bare-line 0x04)
    (rows refl (bare-line 0x05)
    (rows refl (adding-line 0x06)
    (rows refl (adding-line 0x07)
    (rows refl (adding-line 0x08)
    (rows refl (bare-line 0x09)
    (rows refl (adding-line 0x0a)
    (rows refl (adding-line 0x0b)
    (rows refl (bare-line 0x0c)
    (rows refl (bare-line 0x0d)
    (rows refl (bare-line 0x0e)
    (rows refl (counted-line 0x0f)
    (rows refl (two-of lined refl 0x10 _ (λ a b. refl))
    (rows refl (one_of lined refl 0x11 (loads 0x11) (λ a. refl))
    (rows refl (one_of lined refl 0x12 (loads 0x12) (λ a. refl))
    (rows refl (one_of lined refl 0x14 _ (λ a. refl))
    (rows refl (adding-line 0x20)
    (rows refl (adding-line 0x21)
    (rows refl (adding-line 0x22)
    (rows refl (adding-line 0x23)
    (rows refl (adding-line 0x24)
    (rows refl (bare-line 0x25)
    no_rows))))))))))))))))))))))))

-- the size line, whose opcode is no other's
abbrev show_size : Option ℕ → Reading
show_size n = sized_or n None

size-row : Sames kind.List show_size size_table (size_shape ∷ [])
unfolding size_table
size-row = rows refl (one_of show_size refl 0x90 (λ n. n) (λ n. refl)) no_rows

not-size : (r : Raw) → eqb 0x90 r.opcode ≡ true → lined (rowed line_table r) ≡ None
unfolding frame_shapes
not-size r e = by_rows kind.List lined refl line-rows r ∙ ap (λ (o : ℕ). as_shape (shape_in kind.List frame_shapes o) r.opcode r.operands) (sym (eqb-true 0x90 r.opcode e))

on-size : (n : Option ℕ) (x : Reading) → x ≡ None → sized_or n x ≡ show_size n
on-size none x e = e
on-size (some n) x e = refl

list-line : (r : Raw) → sized_or (rowed size_table r) (lined (rowed line_table r)) ≡ as_shape (shape_in kind.List shapes r.opcode) r.opcode r.operands
unfolding size_table rowed
list-line r = go (eqb 0x90 r.opcode) refl
  where
    go : (b : Bool) → eqb 0x90 r.opcode ≡ b → sized_or (rowed size_table r) (lined (rowed line_table r)) ≡ as_shape (shape_in kind.List shapes r.opcode) r.opcode r.operands
    go true e =
        on-size (rowed size_table r) _ (not-size r e)
        ∙ by_rows kind.List show_size refl size-row r
        ∙ ap (λ (d : ℕ). as_shape d r.opcode r.operands) (shape-here kind.List size_shape [] r.opcode e ∙ sym (shape-here kind.List size_shape frame_shapes r.opcode e))
    go false e =
        ap (λ (n : Option ℕ). sized_or n (lined (rowed line_table r))) (rowed-there (record { opcode = 0x90; made = with1 (λ n. n) }) [] r e)
        ∙ by_rows kind.List lined refl line-rows r
        ∙ ap (λ (d : ℕ). as_shape d r.opcode r.operands) (sym (shape-there kind.List size_shape frame_shapes r.opcode e))

-- ---- a line that LF ends, by its digits

pub reading-raw : (which : TextKind) (t : List ℕ) (r : Raw) → raw t ≡ some r → reading_of which (ended t) ≡ as_shape (shape_of which r.opcode) r.opcode r.operands
unfolding frame_reading line_reading line_of shape_of
reading-raw kind.Script t r e = rw (e, line_of) (by_rows kind.Script framed refl script-rows r)
reading-raw kind.List t r e = rw (e, line_of) (list-line r)

pub reading-none : (which : TextKind) (t : List ℕ) → raw t ≡ none → reading_of which (ended t) ≡ None
unfolding frame_reading line_reading line_of
reading-none kind.Script t e = rw (e, line_of)
reading-none kind.List t e = rw (e, line_of)

-- a line that no LF ends
pub reading-open : (which : TextKind) (t : List ℕ) → reading_of which (record { text = t; ended = false }) ≡ None
unfolding frame_reading line_reading line_of
reading-open kind.Script t = refl
reading-open kind.List t = refl

-- ---- records of frames: each of the 25 opcodes is one frame of the rules

pub frame-code : (f : rules.Frame) → frame_of (code_of f) ≡ some f
unfolding frame_of rowed frame_table shape_of frame_shapes
frame-code child = refl
frame-code (pop s) = refl
frame-code (dangle s) = refl
frame-code (restore s) = refl
frame-code pop_last = refl
frame-code alloc = refl
frame-code (alloc_in s) = refl
frame-code (linear n) = refl
frame-code (define name h) = refl
frame-code (get name) = refl
frame-code (take_from name) = refl
frame-code (free h) = refl
frame-code (free_quietly h) = refl
frame-code (forget h) = refl
frame-code drain = refl
frame-code (write h (constant v)) = refl
frame-code (write h next_sample) = refl
frame-code (read h) = refl
frame-code (read_name name) = refl
frame-code (new_defer s) = refl
frame-code (new_assigned h) = refl
frame-code new_ignore = refl
frame-code (alloc_need n) = refl
frame-code (output_need n) = refl
frame-code (drop_need n) = refl

-- the opcode of a record's frame is the record's
pub opcode-told : (f : Frame) (g : rules.Frame) → frame_of f ≡ some g → (code_of g).opcode ≡ f.opcode
unfolding frame_of shape_of
opcode-told f g e =
    let l = take (shape_of kind.Script f.opcode - 1) (f.a ∷ f.b ∷ []) in
    go (fit (shape_of kind.Script f.opcode) (length l) (get_or l 0 0)) (get_or l 0 0) (get_or l 1 0) (sym (ap framed e) ∙ by_rows kind.Script framed refl script-rows (record { opcode = f.opcode; operands = l }))
  where
    go : (fits : Bool) (a b : ℕ) → Some (code_of g) ≡ pick fits (Some (frame f.opcode a b)) None → (code_of g).opcode ≡ f.opcode
    go true a b q = let x : code_of g ≡ frame f.opcode a b = cc in ap (λ (y : Frame). y.opcode) x
    go false a b q = absurd (let z : ◌≡◌ {A = ℕ} 0 1 = cc in omega arith)

-- no two frames have one record
pub code_one : (f g : rules.Frame) → code_of f ≡ code_of g → f ≡ g
code_one f g e = let q : some f ≡ some g = sym (frame-code f) ∙ ap frame_of e ∙ frame-code g in cc
