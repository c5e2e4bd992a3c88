-- The table shows each line's first number, so that the loop over it is the rules' run over the list's own addresses. Assumes nothing.
use mathlib.Core.Path.{◌≡◌, refl, sym, ap, ◌∙◌}
use mathlib.Core.Bool.{Bool, true, false}
use mathlib.Core.Option.{Option, none, some}
use mathlib.Core.List.{List, [], ◌∷◌, ◌++◌, map, map-append, append_assoc}
use Prim.Native.Nat.{ℕ, zero, suc, ◌/◌, ◌%◌, ◌≤◌, ◌<◌}
use native.Mathlib.Numerals.{add-one}
use native.Mathlib.Omega.{arith}
use lib.Dec.{eqb, ltb, leb}
use lib.ListN.{length, get_or, drop}
use lib.Seq.{drop-drop}
use borrow.Author.Tests.{lt-ltb, le-ltb}
use Rattle.rules.specs.Notation.{given, refused}
use Rattle.rules.specs.Sizes.{Room, base}
use Rattle.rules.specs.Slots.{Place, exactly_at, placing}
use Rattle.rules.specs.Frames.{State, start, Frame, Line, step, Step, refused_at, before, onward}
use Rattle.rules.specs.Text.{Split, split, line_of, line_table, size_table, operands_of, opcode_of, Titled, titled, title, Script, frames, read_script, Listed, listed, unlisted, line_before, size_at, size_or, list_from, under_title, read_list}
use Rattle.rules.specs.Suppliers.{shown_first, as_shown, shown_steps}
use Rattle.rules.proofs.ReadExact.{not_listed}
use Rattle.rules.proofs.OneLine.{one_line_lem}
use Rattle.rules.proofs.Tells.{decided}
use Rattle.text.specs.Shapes.{pick, frame, Reading}
use Rattle.text.specs.Lines.{lined, sized_or, line_reading, unpacked}
use Rattle.text.specs.Table.{readings}
use Rattle.text.specs.Titles.{place_by, Titles}
use Rattle.text.specs.declared.lines.Frame as code
use Rattle.std.specs.declared.option.Option.TheVariants.{Some, None}
use Rattle.translate.specs.Whole.{shown_at, steps_at, walk_from, walked}
use Rattle.translate.proofs.Titled.{titles-length}
use Rattle.supplier.specs.Judged.{Read, frames_of, TheList, over_lines}

-- ---- the lines of a list that is read, as readings

abbrev linings : List Line → List Reading
linings ls = map (λ l. lined (some l)) ls

-- the size line stands behind the lines
abbrev read_as : List Line → ℕ → List Reading
read_as ls size = linings ls ++ (Some (frame 0x90 size 0) ∷ [])

module _ (room : Room) where
  lines-read : (ks : List Split) (i : ℕ) (ls : List Line) (size : ℕ) → list_from room i ks ≡ listed ls size → map line_reading ks ≡ read_as ls size
  unfolding list_from line_reading
  lines-read [] i ls size e = not_listed e
  lines-read (k ∷ ks) i ls size e = go (line_of size_table k) (line_of line_table k) (eqb i room.lines) e (lines-read ks (suc i))
    where
      last : (n : ℕ) (rest : List Split) → size_at room i n rest ≡ listed ls size → Some (frame 0x90 n 0) ∷ map line_reading rest ≡ read_as ls size
      last n [] x = decided (leb n room.size)
          (λ q.
          let y : listed [] n ≡ listed ls size = rw (q, size_at) at x in
          let a : [] ≡ ls = cc in
          let b : n ≡ size = cc in
          λ u. read_as (a u) (b u))
          (λ q. not_listed (rw (q, size_at) at x))
      last n (r ∷ rest) x = not_listed x

      on : (l : Line) (r : Listed) → list_from room (suc i) ks ≡ r → line_before i (some l) r ≡ listed ls size
          → ((ms : List Line) (n : ℕ) → list_from room (suc i) ks ≡ listed ms n → map line_reading ks ≡ read_as ms n) → lined (some l) ∷ map line_reading ks ≡ read_as ls size
      on l (unlisted m j) q x ih = not_listed x
      on l (listed ms n) q x ih =
          let a : l ∷ ms ≡ ls = cc in
          let b : n ≡ size = cc in
          ap (λ (t : List Reading). lined (some l) ∷ t) (ih ms n q) ∙ (λ u. read_as (a u) (b u))

      go : (z : Option ℕ) (o : Option Line) (b : Bool)
          → size_or room i z ks (elim b [ true ↦ unlisted 2 i | false ↦ line_before i o (list_from room (suc i) ks) ]) ≡ listed ls size
          → ((ms : List Line) (n : ℕ) → list_from room (suc i) ks ≡ listed ms n → map line_reading ks ≡ read_as ms n) → sized_or z (lined o) ∷ map line_reading ks ≡ read_as ls size
      go (some n) o b x ih = last n ks x
      go none o true x ih = not_listed x
      go none none false x ih = not_listed x
      go none (some l) false x ih = on l (list_from room (suc i) ks) refl x ih

  under-read : (above : List Line) (r : Listed) (rs : List Reading) (ls : List Line) (size : ℕ) → ((ms : List Line) (n : ℕ) → r ≡ listed ms n → rs ≡ read_as ms n) → under_title above r ≡ listed ls size
      → linings above ++ rs ≡ read_as ls size
  under-read above (unlisted m j) rs ls size h e = not_listed e
  under-read above (listed ms n) rs ls size h e =
      let a : above ++ ms ≡ ls = cc in
      let b : n ≡ size = cc in
      ap (λ (t : List Reading). linings above ++ t) (h ms n refl)
      ∙ sym (append_assoc (linings above) (linings ms) (Some (frame 0x90 n 0) ∷ []))
      ∙ ap (λ (t : List Reading). t ++ (Some (frame 0x90 n 0) ∷ [])) (sym (map-append (λ l. lined (some l)) above ms))
      ∙ (λ u. read_as (a u) (b u))

  list-readings : (list : List ℕ) (ls : List Line) (size : ℕ) → read_list room list ≡ listed ls size → readings list ≡ read_as ls size
  unfolding read_list readings
  list-readings list ls size e =
      let t : Titled = titled (split list) in
      let i : ℕ = length (title t.place) in
      under-read (title t.place) (list_from room i t.rest) (map line_reading t.rest) ls size (λ ms n q. lines-read t.rest i ms n q) e

-- ---- a row of the table

none_left : {P : Type 0} (i : ℕ) (l : Line) (more : List Line) → drop i [] ≡ l ∷ more → P
none_left zero l more e = absurd (let z : ◌≡◌ {A = ℕ} 0 1 = cc in omega arith)
none_left (suc i) l more e = absurd (let z : ◌≡◌ {A = ℕ} 0 1 = cc in omega arith)

nth-reading : (ls : List Line) (rs : List Reading) (i : ℕ) (l : Line) (more : List Line) → drop i ls ≡ l ∷ more → get_or (linings ls ++ rs) i None ≡ lined (some l)
nth-reading [] rs i l more e = none_left i l more e
nth-reading (m ∷ ms) rs zero l more e = let z : m ≡ l = cc in ap (λ (x : Line). lined (some x)) z
nth-reading (m ∷ ms) rs (suc i) l more e = nth-reading ms rs i l more e

drop-none : (ls : List Line) (i : ℕ) → drop i ls ≡ [] → length ls ≤ i
drop-none [] i e = omega arith
drop-none (l ∷ ls) zero e = absurd (let z : ◌≡◌ {A = ℕ} 0 1 = cc in omega arith)
drop-none (l ∷ ls) (suc i) e = omega (arith, drop-none ls i e)

drop-some : (ls : List Line) (i : ℕ) (l : Line) (more : List Line) → drop i ls ≡ l ∷ more → i < length ls
drop-some [] i l more e = none_left i l more e
drop-some (m ∷ ms) zero l more e = omega arith
drop-some (m ∷ ms) (suc i) l more e = omega (arith, drop-some ms i l more e)

first-number : (row : ℕ) (l : Line) → Some (unpacked row) ≡ lined (some l) → row / 0x10000 % 0x10000 ≡ get_or (operands_of l) 0 0
first-number row l e =
    let f : unpacked row ≡ frame (opcode_of l) (get_or (operands_of l) 0 0) (get_or (operands_of l) 1 0) = cc in
    ap (λ (x : code.Frame). x.a) f

module _ (list rows : List ℕ) (size : ℕ) (t : TheList list rows size) where
  row_first : (i : ℕ) → pick (ltb i (length rows)) (get_or rows i 0 / 0x10000 % 0x10000) 0xffff ≡ shown_first (drop i t.all)
  row_first i = go (drop i t.all) refl
    where
      go : (rest : List Line) → drop i t.all ≡ rest → pick (ltb i (length rows)) (get_or rows i 0 / 0x10000 % 0x10000) 0xffff ≡ shown_first rest
      go [] e = rw (le-ltb i (length rows) (omega (arith, t.many, drop-none t.all i e)))
      go (l ∷ more) e =
          let h : i < length rows = omega (arith, t.many, drop-some t.all i l more e) in
          rw (lt-ltb i (length rows) h)
          (first-number (get_or rows i 0) l (t.rows_are i h ∙ ap (λ (x : List Reading). get_or x i None) (list-readings base list t.all size t.reads) ∙ nth-reading t.all _ i l more e))

  -- ---- the loop

  pub shown-at : (i : ℕ) → shown_at rows i ≡ exactly_at (shown_first (drop i t.all))
  shown-at i = ap exactly_at (row_first i)

  abbrev by : ℕ → Place
  by = shown_at rows

  steps-shown : (fs : List Frame) (i : ℕ) (s : State) → steps_at by i s fs ≡ shown_steps base i s fs (drop i t.all)
  unfolding steps_at shown_steps as_shown onward
  steps-shown [] i s = refl
  steps-shown (f ∷ fs) i s =
      ap (λ (p : Place). onward i (step base (placing base.segments p) s f) (λ u. steps_at by (suc i) u fs)) (shown-at i)
      ∙ go (step base (as_shown base (drop i t.all)) s f) refl (steps-shown fs (suc i))
    where
      go : (a : Step) → step base (as_shown base (drop i t.all)) s f ≡ a → ((u : State) → steps_at by (suc i) u fs ≡ shown_steps base (suc i) u fs (drop (suc i) t.all))
          → onward i a (λ u. steps_at by (suc i) u fs)
          ≡ elim a [ refused n ↦ refused_at n i | given r ↦ before r.0 (shown_steps base (suc i) r.1 fs (drop (length r.0) (drop i t.all))) ]
      go (refused n) q ih = refl
      go (given r) q ih =
          let one : length r.0 ≡ 1 = (one_line_lem base (as_shown base (drop i t.all)) s f).at r q in
          let next : drop (suc i) t.all ≡ drop (length r.0) (drop i t.all) =
          ap (λ (n : ℕ). drop n t.all) (sym (add-one i)) ∙ sym (drop-drop 1 i t.all) ∙ ap (λ (n : ℕ). drop n (drop i t.all)) (sym one) in
          ap (before r.0) (ih r.1 ∙ ap (shown_steps base (suc i) r.1 fs) next)

  pub walked-shown : (script : List ℕ) (n : ℕ) → Titles script n → Read script → walked by n script ≡ over_lines script t.all
  unfolding walked over_lines read_script
  walked-shown script n k read =
      let q : place_by n ≡ (read_script base script).place = sym (ap (λ (x : Titled). x.place) k.is) in
      let fs : List Frame = frames_of (read_script base script).script in
      let m : n ≡ length (title (read_script base script).place) = sym (titles-length n k.most) ∙ ap (λ (p : Place). length (title p)) q in
      ap (λ (r : Script). before (title (place_by n)) (walk_from by n start r)) (read.reads ∙ ap frames (sym (ap frames_of read.reads)))
      ∙ ap (before (title (place_by n))) (steps-shown fs n start)
      ∙ (λ u. before (title (q u)) (shown_steps base (m u) start fs (drop (m u) t.all)))
