-- The table of a list's lines, one line at a time. Assumes nothing.
use mathlib.Core.Path.{◌≡◌, sym, ap, ◌∙◌}
use mathlib.Core.Bool.{true}
use mathlib.Core.List.{List, ◌∷◌, map}
use Prim.Native.Nat.{ℕ, zero, suc, ◌+◌, ◌*◌, ◌/◌, ◌%◌, ◌≤◌, ◌<◌}
use native.Mathlib.Omega.{arith}
use lib.ListN.{length, get_or, set, drop, length-set}
use lib.Seq.{get_or-set_same, get_or-set_other, get_or-drop, drop-drop}
use borrow.Author.Tests.{lt-ltb}
use Rattle.rules.specs.Text.{split}
use Rattle.rules.proofs.Tables.{by_eqb}
use Rattle.text.specs.Shapes.{frame, Reading}
use Rattle.text.specs.Lines.{line_reading, unpacked, Took}
use Rattle.text.specs.Titles.{title_number, Titles, title_in}
use Rattle.text.specs.Table.{readings, RowsFor, Rows, Tabled}
use Rattle.text.specs.declared.lines.Frame.{Frame}
use Rattle.std.specs.declared.option.Option.TheVariants.{Some, None}
use Rattle.std.specs.declared.result.Result.{Result}
use Rattle.std.specs.declared.result.Result.TheVariants.{Ok, Err}
use Rattle.text.specs.declared.lines.TakenLine.{TakenLine}
use Rattle.text.specs.declared.lines.TextKind.TheVariants as kind
use Rattle.text.specs.declared.whole.Listing.{Listing}
use Rattle.text.specs.declared.refusal.RefusedAt.{RefusedAt}
use Rattle.text.proofs.Splits.{took-wide}

-- ---- a line as one number

pub packs : (f : Frame) → f.opcode < 256 → f.a < 65536 → f.b < 65536 → unpacked (f.opcode * 4294967296 + f.a * 65536 + f.b) ≡ f
packs f ho ha hb =
    let n : ℕ = f.opcode * 4294967296 + f.a * 65536 + f.b in
    let high : n / 4294967296 ≡ f.opcode = omega (arith, ha, hb) in
    let mid : n / 65536 ≡ f.opcode * 65536 + f.a = omega (arith, hb) in
    let o : n / 4294967296 % 256 ≡ f.opcode = ap (λ (k : ℕ). k % 256) high ∙ omega (arith, ho) in
    let a : n / 65536 % 65536 ≡ f.a = ap (λ (k : ℕ). k % 65536) mid ∙ omega (arith, ha) in
    let b : n % 65536 ≡ f.b = omega (arith, hb) in
    λ u. frame (o u) (a u) (b u)

-- ---- the table, before line i, which begins at p

pub record Filling (s t : List ℕ) (p i : ℕ) : Type 0 where
  pub rest : drop i (readings s) ≡ map line_reading (split (drop p s))
  pub rows : Rows s t i
  pub fits : i ≤ length t
  pub behind : 3 * i ≤ p

-- there is a row for the title
pub title-room : (s t : List ℕ) (n : ℕ) → RowsFor s t → Titles s n → n ≤ length t
title-room s t zero h k = omega arith
title-room s t (suc n) h k = let row = h 0 (omega arith) (omega (arith, k.within)) in omega (arith, k.most, row)

-- behind the title
pub filling-start : (s t : List ℕ) (n : ℕ) → Titles s n → n ≤ length t → Filling s (title_in n t) (7 * n) n
unfolding readings
filling-start s t zero k h = record { rest = rw k.is; rows = λ j l. absurd (omega arith); fits = omega arith; behind = omega arith }
filling-start s t (suc zero) k h = record { rest = rw k.is; rows = row; fits = omega (arith, length-set t 0 title_number); behind = omega arith }
  where
    row : (j : ℕ) → j < 1 → Some (unpacked (get_or (set t 0 title_number) j 0)) ≡ get_or (readings s) j None
    row zero l = rw (k.is, get_or-set_same t 0 title_number 0 h)
    row (suc j) l = absurd (omega arith)
filling-start s t (suc (suc n)) k h = absurd (omega (arith, k.most))

get_d_at : (rs : List Reading) (i : ℕ) (x : Reading) (more : List Reading) → drop i rs ≡ x ∷ more → get_or rs i None ≡ x
get_d_at rs i x more e = let z : i + 0 ≡ i = omega arith in ap (λ (n : ℕ). get_or rs n None) (sym z) ∙ sym (get_or-drop i rs 0 None) ∙ ap (λ (l : List Reading). get_or l 0 None) e

-- line i goes into row i, as the number c
module _ (s t : List ℕ) (p i : ℕ) (g : Filling s t p i) (k : TakenLine) (took : Took line_reading s p k) (f : Frame) (is : k.frame ≡ Some f) (c : ℕ) (packed : unpacked c ≡ f)
    (room : i < length t) where
  one : Some (unpacked c) ≡ k.frame
  one = ap Some packed ∙ sym is

  here : drop i (readings s) ≡ k.frame ∷ map line_reading (split (drop k.next s))
  here = g.rest ∙ rw (took.here, took.as_read)

  filling-row : (j : ℕ) → j < i + 1 → Some (unpacked (get_or (set t i c) j 0)) ≡ get_or (readings s) j None
  filling-row j l =
      by_eqb i j
      (λ e.
      let same : get_or (set t i c) j 0 ≡ c = ap (λ (n : ℕ). get_or (set t i c) n 0) (sym e) ∙ get_or-set_same t i c 0 room in
      ap (λ (n : ℕ). Some (unpacked n)) same ∙ one ∙ sym (get_d_at (readings s) i k.frame _ here) ∙ ap (λ (n : ℕ). get_or (readings s) n None) e)
      (λ ne. ap (λ (n : ℕ). Some (unpacked n)) (get_or-set_other t i j c 0 (λ e. ne (sym e))) ∙ g.rows j (omega (arith, l, ne)))

  pub filling-on : Filling s (set t i c) k.next (i + 1)
  filling-on = record {
    rest = sym (drop-drop 1 i (readings s)) ∙ ap (drop 1) here;
    rows = filling-row;
    fits = omega (arith, length-set t i c, room);
    behind = omega (arith, g.behind, took-wide kind.List s p k took f is);
  }

-- at the end
pub tabled-read : (s t : List ℕ) (n : ℕ) (r : Result Listing RefusedAt) → ((l : Listing) → r ≡ Ok l → n ≡ l.lines) → Rows s t n → n ≤ length t → Tabled s t r
tabled-read s t n r same h l = record { rows = λ a q j k. h j (omega (arith, k, same a q)); fits = λ a q. omega (arith, l, same a q) }

pub tabled-unread : (s t : List ℕ) (e : RefusedAt) (r : Result Listing RefusedAt) → r ≡ Err e → Tabled s t r
tabled-unread s t e r q = record { rows = λ a w. cc; fits = λ a w. cc }
