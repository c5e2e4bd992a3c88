-- A list that is written reads back as the same lines and size. Assumes nothing.
use mathlib.Core.Path.{◌≡◌, refl, sym, ap, subst, ◌∙◌}
use mathlib.Core.Bool.{Bool, true, false}
use mathlib.Core.Option.{none, some}
use mathlib.Core.List.{List, [], ◌∷◌, ◌++◌, append_assoc}
use Prim.Native.Nat.{ℕ, suc, ◌+◌, ◌≤◌, ◌<◌}
use native.Mathlib.Omega.{arith}
use lib.Dec.{eqb, ltb}
use lib.ListN.{length}
use borrow.Author.Tests.{ne_eqb, le-leb}
use Rattle.rules.specs.Sizes.{Room}
use Rattle.rules.specs.Slots.{Place, by_head, lowest, exactly_at}
use Rattle.rules.specs.Frames.{Line, shows}
use Rattle.rules.specs.Text.{digit, hex2, hex4, hexes, split, onto, Row, rowed, line_of, opcode_of, operands_of, line_text, list_text, line_table, size_table, listed, size_at, list_from, title_table, Titled, titled, title, under_title, read_list}
use Rattle.rules.proofs.Chains.{none-some}
use Rattle.rules.proofs.Digits.{Fit, fit-nil, fit, raw-line}

-- ---- lines

digit-plain : (n : ℕ) → eqb (digit n) 10 ≡ false
unfolding digit
digit-plain n = go (ltb n 10) refl
  where
    go : (b : Bool) → ltb n 10 ≡ b → eqb (digit n) 10 ≡ false
    go true e = ne_eqb (digit n) 10 (λ q. let r : digit n ≡ 48 + n = rw (e, digit) in omega arith)
    go false e = ne_eqb (digit n) 10 (λ q. let r : digit n ≡ 87 + n = rw (e, digit) in omega arith)

-- text without LF
data Plain : List ℕ → Type 0 where
  plain-nil : Plain []
  plain : {c : ℕ} {t : List ℕ} → eqb c 10 ≡ false → Plain t → Plain (c ∷ t)

plain-hexes : (l : List ℕ) → Plain (hexes l)
unfolding hexes hex4
plain-hexes [] = plain-nil
plain-hexes (a ∷ l) = plain (digit-plain _) (plain (digit-plain _) (plain (digit-plain _) (plain (digit-plain _) (plain-hexes l))))

plain-line : (o : ℕ) (l : List ℕ) → Plain (hex2 o ++ hexes l)
unfolding hex2
plain-line o l = plain (digit-plain _) (plain (digit-plain _) (plain-hexes l))

split-line : {t : List ℕ} → Plain t → (cs : List ℕ) → split (t ++ (10 ∷ cs)) ≡ record { text = t; ended = true } ∷ split cs
unfolding split
split-line plain-nil cs = refl
split-line (plain {c = c} {t = t} e p) cs = rw (e, split) (ap (onto c) (split-line p cs))

split_text : (o : ℕ) (l cs : List ℕ) → split ((hex2 o ++ (hexes l ++ (10 ∷ []))) ++ cs) ≡ record { text = hex2 o ++ hexes l; ended = true } ∷ split cs
split_text o l cs =
    let e : (hex2 o ++ (hexes l ++ (10 ∷ []))) ++ cs ≡ (hex2 o ++ hexes l) ++ (10 ∷ cs) = simp append_assoc in
    ap split e ∙ split-line (plain-line o l) cs

split-end : (o : ℕ) (l : List ℕ) → split (hex2 o ++ (hexes l ++ (10 ∷ []))) ≡ record { text = hex2 o ++ hexes l; ended = true } ∷ []
unfolding split
split-end o l = ap split (sym (append_assoc (hex2 o) (hexes l) (10 ∷ []))) ∙ split-line (plain-line o l) []

line-of : {A : Type 0} (t : List (Row A)) (o : ℕ) (l : List ℕ) → o < 256 → Fit l
    → line_of t (record { text = hex2 o ++ hexes l; ended = true }) ≡ rowed t (record { opcode = o; operands = l })
unfolding line_of
line-of t o l h f = rw (raw-line o l h f, line_of)

-- ---- lists

-- a line that reads back: it fits its digits, its row makes it, and it is no size line
pub record FitLine (l : Line) : Type 0 where
  pub small : opcode_of l < 256
  pub fits : Fit (operands_of l)
  pub reads : rowed line_table (record { opcode = opcode_of l; operands = operands_of l }) ≡ some l
  pub other : eqb 0x90 (opcode_of l) ≡ false

pub data FitLines : List Line → Type 0 where
  no_lines : FitLines []
  lines : {l : Line} {ls : List Line} → FitLine l → FitLines ls → FitLines (l ∷ ls)

size-read : (size : ℕ) → size < 65536 → line_of size_table (record { text = hex2 0x90 ++ hexes (size ∷ []); ended = true }) ≡ some size
unfolding rowed size_table
size-read size h = line-of size_table 0x90 (size ∷ []) (omega arith) (fit h fit-nil)

no_size : (l : Line) → FitLine l → line_of size_table (record { text = hex2 (opcode_of l) ++ hexes (operands_of l); ended = true }) ≡ none
unfolding rowed size_table
no_size l f = line-of size_table (opcode_of l) (operands_of l) f.small f.fits ∙ rw (f.other, rowed)

line_read : (l : Line) → FitLine l → line_of line_table (record { text = hex2 (opcode_of l) ++ hexes (operands_of l); ended = true }) ≡ some l
line_read l f = line-of line_table (opcode_of l) (operands_of l) f.small f.fits ∙ f.reads

pub reads-back : (room : Room) {ls : List Line} → FitLines ls → (i size : ℕ) → i + length ls ≤ room.lines → size ≤ room.size → room.size < 65536
    → list_from room i (split (list_text ls size)) ≡ listed ls size
unfolding list_text line_text list_from
reads-back room no_lines i size h s m = rw (split-end 0x90 (size ∷ []), size-read size (omega arith), le-leb size room.size s, size_at)
reads-back room (lines {l = l} {ls = ls} f fs) i size h s m =
    rw (split_text (opcode_of l) (operands_of l) (list_text ls size), no_size l f, ne_eqb i room.lines (λ e. omega arith), line_read l f, reads-back room fs (suc i) size (omega arith) s m)

-- ---- under a title

no-title : (l : Line) → FitLine l → line_of title_table (record { text = hex2 (opcode_of l) ++ hexes (operands_of l); ended = true }) ≡ none
unfolding rowed title_table line_table
no-title l f =
    line-of title_table (opcode_of l) (operands_of l) f.small f.fits
    ∙ rw (ne_eqb 0xf0 (opcode_of l) (λ e. none-some (subst (λ (o : ℕ). rowed line_table (record { opcode = o; operands = operands_of l }) ≡ some l) (sym e) f.reads)), rowed)

untitled : {ls : List Line} → FitLines ls → (size : ℕ) → size < 65536 → titled (split (list_text ls size)) ≡ record { place = by_head; rest = split (list_text ls size) }
unfolding list_text line_text titled rowed title_table
untitled no_lines size h = rw (split-end 0x90 (size ∷ []), line-of title_table 0x90 (size ∷ []) (omega arith) (fit h fit-nil), titled)
untitled (lines {l = l} {ls = ls} f fs) size h = rw (split_text (opcode_of l) (operands_of l) (list_text ls size), no-title l f, titled)

titled-text : (ls : List Line) (size : ℕ) → titled (split (list_text (shows 0xf0 (2 ∷ []) ∷ ls) size)) ≡ record { place = lowest; rest = split (list_text ls size) }
unfolding list_text line_text titled rowed title_table
titled-text ls size = rw (split_text 0xf0 (2 ∷ []) (list_text ls size), line-of title_table 0xf0 (2 ∷ []) (omega arith) (fit (omega arith) fit-nil), titled)

-- a list without a title reads back
untitled-back : (room : Room) {ls : List Line} → FitLines ls → (size : ℕ) → length ls ≤ room.lines → size ≤ room.size → room.size < 65536 → read_list room (list_text ls size) ≡ listed ls size
unfolding read_list
untitled-back room f size h s m =
    ap (λ (t : Titled). under_title (title t.place) (list_from room (length (title t.place)) t.rest)) (untitled f size (omega arith))
    ∙ ap (under_title []) (reads-back room f 0 size (omega arith) s m)

-- a list under the title of its edition reads back
pub title-back : (room : Room) (p : Place) {ls : List Line} → FitLines ls → (size : ℕ) → length (title p) + length ls ≤ room.lines → size ≤ room.size → room.size < 65536
    → read_list room (list_text (title p ++ ls) size) ≡ listed (title p ++ ls) size
unfolding read_list
title-back room by_head f size h s m = untitled-back room f size (omega arith) s m
title-back room (exactly_at a) f size h s m = untitled-back room f size (omega arith) s m
title-back room lowest {ls = ls} f size h s m =
    ap (λ (t : Titled). under_title (title t.place) (list_from room (length (title t.place)) t.rest)) (titled-text ls size)
    ∙ ap (under_title (shows 0xf0 (2 ∷ []) ∷ [])) (reads-back room f 1 size h s m)
