-- Entries are obeyed, one at a time: what remains does the rest. Assumes nothing.
use mathlib.Core.Path.{◌≡◌, refl, sym, ap, subst, ◌∙◌}
use mathlib.Core.List.{List, [], ◌∷◌, ◌++◌, append_assoc, append-nil}
use Prim.Native.Nat.{ℕ, ◌+◌, ◌*◌, ◌≤◌}
use native.Mathlib.Omega.{arith}
use lib.ListN.{length, take, drop, set, length-append, take-append-drop}
use lib.Seq.{take_at, drop_at, drop-drop, length-take-le}
use Rattle.rules.specs.Frames.{shows}
use Rattle.rules.specs.Text.{hex2, hex4, hexes, line_text}
use Rattle.rules.specs.Entries.{load_text, over_front}
use Rattle.text.specs.Writing.{over}
use Rattle.text.proofs.Over.{over_nothing}
use Rattle.machine.specs.Entries.{loads_of, entries_of}
use Rattle.machine.specs.Work.{cell_at, stored_of, printed_of, obey_cells, obey_text, loads_in, Reach, Reaches}
use Rattle.machine.specs.declared.entries.Entry.{Entry}
use Rattle.machine.specs.declared.entries.Entry.TheVariants.{Skip, Store, Sample, Load}
use Rattle.machine.proofs.Rows.{left, left-start}

-- ---- one entry

pub load_line : (v : ℕ) → line_text (shows 0xa0 (v ∷ [])) ≡ load_text v
unfolding line_text hexes hex2 hex4 load_text
load_line v = refl

pub printed-length : (x : Entry) (cells : List ℕ) → length (printed_of x cells) ≡ 7 * loads_of x
unfolding load_text hex2 hex4
printed-length Skip cells = refl
printed-length (Store a v) cells = refl
printed-length (Sample a) cells = refl
printed-length (Load a) cells = refl

pub reached : {x y : Entry} (m : ℕ) → x ≡ y → Reach m x → Reach m y
reached m e r = subst (Reach m) e r

pub roomed : {x y : Entry} (w m : ℕ) → x ≡ y → w + 7 * loads_of x ≤ m → w + 7 * loads_of y ≤ m
roomed w m e r = subst (λ (z : Entry). w + 7 * loads_of z ≤ m) e r

-- what an entry leaves, of what it is
abbrev pub After : Entry → List ℕ → List ℕ → ℕ → ℕ → List ℕ → List ℕ → Type 0
After x cells out w w' cells' out' = (w' ≡ w + 7 * loads_of x) × ((cells' ≡ stored_of x cells) × (out' ≡ over out w (printed_of x cells)))

pub after : {x y : Entry} (cells out : List ℕ) (w w' : ℕ) (cells' out' : List ℕ) → x ≡ y → After y cells out w w' cells' out' → After x cells out w w' cells' out'
after cells out w w' cells' out' e h = subst (λ (z : Entry). After z cells out w w' cells' out') (sym e) h

pub quiet : {x : Entry} (y : Entry) (cells out : List ℕ) (w : ℕ) → x ≡ y → loads_of y ≡ 0 → printed_of y cells ≡ [] → (cells' : List ℕ) → cells' ≡ stored_of y cells → After x cells out w w cells' out
quiet y cells out w e l p cells' s = after cells out w w cells' out e (omega (arith, l), (s, rw p (over_nothing out w)))

pub loaded : {x : Entry} (a v : ℕ) (cells out : List ℕ) (w w' : ℕ) (out' : List ℕ) → x ≡ Load a → v ≡ cell_at cells a → w' ≡ w + 3 + 4 * 1
    → out' ≡ over out w (line_text (shows 0xa0 (v ∷ []))) → After x cells out w w' cells out'
loaded a v cells out w w' out' e q n h = after cells out w w' cells out' e (omega (arith, n), (refl, h ∙ ap (over out w) (load_line v ∙ ap load_text q)))

-- ---- a run of entries: es remain of es₀

pub record Doing (es₀ : List Entry) (cells₀ out₀ : List ℕ) (es : List Entry) (w : ℕ) (cells out : List ℕ) : Type 0 where
  pub reach : Reaches (length cells₀) es
  pub same-cells : length cells ≡ length cells₀
  pub same_out : length out ≡ length out₀
  pub count : w + 7 * loads_in es ≡ 7 * loads_in es₀
  pub cells-then : obey_cells cells es ≡ obey_cells cells₀ es₀
  pub text-then : take w out ++ obey_text cells es ≡ obey_text cells₀ es₀
  pub rest : drop w out ≡ drop w out₀

module _ (es₀ : List Entry) (cells₀ out₀ : List ℕ) (es : List Entry) (w : ℕ) (cells out : List ℕ) (room : 7 * loads_in es₀ ≤ length out₀) (g : Doing es₀ cells₀ out₀ es w cells out) where
  module _ (x : Entry) (es' : List Entry) (here : es ≡ x ∷ es') where
    counted : loads_in es ≡ loads_of x + loads_in es'
    unfolding loads_in
    counted = rw here

    pub doing-reach : Reach (length cells) x
    unfolding Reaches
    doing-reach = rw g.same-cells (rw here at g.reach).0

    pub doing-room : w + 7 * loads_of x ≤ length out
    doing-room = omega (arith, counted, g.count, g.same_out, room)

    pub doing_step : (w' : ℕ) (cells' out' : List ℕ) → After x cells out w w' cells' out' → length cells' ≡ length cells → length out' ≡ length out
        → Doing es₀ cells₀ out₀ es' w' cells' out'
    unfolding Reaches obey_cells obey_text over
    doing_step w' cells' out' a lc lo =
        let text : List ℕ = printed_of x cells in
        let fits : w ≤ length out = omega (arith, counted, g.count, g.same_out, room) in
        let lt : length text ≡ 7 * loads_of x = printed-length x cells in
        let lp : length (take w out ++ text) ≡ w' = length-append (take w out) text ∙ omega (arith, length-take-le w out fits, lt, a.0) in
        let tk : take w' out' ≡ take w out ++ text = ap (take w') a.1.1 ∙ take_at (take w out ++ text) (drop (w + length text) out) w' lp in
        let dk : drop w' out' ≡ drop (w + length text) out = ap (drop w') a.1.1 ∙ drop_at (take w out ++ text) (drop (w + length text) out) w' lp in
        let ew : w + length text ≡ w' = omega (arith, lt, a.0) in
        record {
          reach = (rw here at g.reach).1;
          same-cells = lc ∙ g.same-cells;
          same_out = lo ∙ g.same_out;
          count = omega (arith, counted, g.count, a.0);
          cells-then = rw a.1.0 (rw here at g.cells-then);
          text-then = rw (tk, append_assoc, a.1.0) (rw here at g.text-then);
          rest = dk ∙ sym (drop-drop (length text) w out) ∙ ap (drop (length text)) g.rest ∙ drop-drop (length text) w out₀ ∙ ap (λ (m : ℕ). drop m out₀) ew;
        }

  module _ (here : es ≡ []) where
    pub doing-count : w ≡ 7 * loads_in es₀
    unfolding loads_in
    doing-count = omega (arith, g.count, ap loads_in here)

    pub doing-cells : cells ≡ obey_cells cells₀ es₀
    unfolding obey_cells
    doing-cells = rw here at g.cells-then

    pub doing-out : out ≡ obey_text cells₀ es₀ ++ drop (7 * loads_in es₀) out₀
    unfolding obey_text
    doing-out =
        let a : take w out ≡ obey_text cells₀ es₀ = rw (here, append-nil) at g.text-then in
        sym (take-append-drop w out) ∙ rw (a, g.rest, doing-count)

-- ---- over n lines of a table

abbrev pub Obeying : (t : List ℕ) (n : ℕ) (cells₀ out₀ : List ℕ) (i w : ℕ) (cells out : List ℕ) → Type 0
Obeying t n cells₀ out₀ i w cells out = Doing (entries_of t 0 n) cells₀ out₀ (left t n i) w cells out

pub obeying-start : (t : List ℕ) (n : ℕ) (cells out : List ℕ) → Reaches (length cells) (entries_of t 0 n) → Obeying t n cells out 0 0 cells out
obeying-start t n cells out r = subst (λ (es : List Entry). Doing (entries_of t 0 n) cells out es 0 cells out) (sym (left-start t n)) (record {
  reach = r;
  same-cells = refl;
  same_out = refl;
  count = omega arith;
  cells-then = refl;
  text-then = refl;
  rest = refl;
})

-- ---- four bytes over the front

pub four-set : (l : List ℕ) (a b c d : ℕ) → 4 ≤ length l → set (set (set (set l 0 a) 1 b) 2 c) 3 d ≡ over_front (a ∷ b ∷ c ∷ d ∷ []) l
four-set [] a b c d h = absurd (omega arith)
four-set (w ∷ []) a b c d h = absurd (omega arith)
four-set (w ∷ x ∷ []) a b c d h = absurd (omega arith)
four-set (w ∷ x ∷ y ∷ []) a b c d h = absurd (omega arith)
four-set (w ∷ x ∷ y ∷ z ∷ l) a b c d h = refl
