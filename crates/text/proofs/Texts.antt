-- A whole text, one line at a time: what remains gives the same answer. Assumes nothing.
use mathlib.Core.Path.{◌≡◌, refl, ap, ◌∙◌, sym}
use mathlib.Core.Bool.{Bool, true, false, true≢false}
use mathlib.Core.List.{List, [], ◌∷◌}
use mathlib.Core.Option.{Option, none, some}
use Prim.Native.Nat.{ℕ, suc, ◌+◌, ◌/◌, ◌%◌, ◌≤◌, ◌<◌}
use native.Mathlib.Omega.{arith}
use native.Mathlib.Numerals.{add-one}
use lib.Dec.{eqb, leb, ltb}
use lib.ListN.{length, drop}
use borrow.Author.Tests.{eq-eqb, ne_eqb, ltb-true, ltb-false}
use Rattle.rules.proofs.Tells.{decided}
use Rattle.std.specs.Option.{is_some}
use Rattle.rules.specs.Sizes.{Room}
use Rattle.rules.specs.Frames as rules
use Rattle.rules.specs.Frames.{Line}
use Rattle.rules.specs.Text.{Split, split, line_of, frame_table, line_table, size_table, Script, frames, unread, frame_before, script_from, Listed, listed, unlisted, line_before, size_at, size_or, list_from}
use Rattle.text.specs.Shapes.{pick, Reading}
use Rattle.text.specs.Lines.{framed, frame_reading, lined, sized_or, line_reading, Took}
use Rattle.text.specs.Whole.{of_script, script_left, sized, of_listed, size_listing, line_then}
use Rattle.text.specs.declared.lines.Frame.{Frame}
use Rattle.std.specs.declared.option.Option.TheVariants.{Some, None}
use Rattle.text.specs.declared.lines.TakenLine.{TakenLine}
use Rattle.text.specs.declared.whole.Listing.{Listing}
use Rattle.rules.specs.Refusals.{number_of}
use Rattle.text.specs.declared.refusal.RefusedAt.{RefusedAt}
use Rattle.text.specs.Refused.{Checked, good, bad}
use Rattle.text.proofs.Splits.{is_nil, split-end, last_line}
use Rattle.text.proofs.Told.{told, told_line, told-other}

-- ---- what is refused

pub stopped : {A : Type 0} (e d : RefusedAt) → e ≡ d → (x : Checked A) → x ≡ bad (number_of d.refusal) d.line → bad (number_of e.refusal) e.line ≡ x
stopped {A = A} e d q x h = let f : RefusedAt → Checked A = λ r. bad (number_of r.refusal) r.line in ap f q ∙ sym h

-- ---- scripts

abbrev frame_then : ℕ → Reading → Checked ℕ → Checked ℕ
frame_then i None rest = bad 1 i
frame_then i (Some f) rest = rest

before-frame : (i : ℕ) (o : Option rules.Frame) (r : Script) → of_script i (frame_before i o r) ≡ frame_then i (framed o) (of_script (suc i) r)
before-frame i none r = refl
before-frame i (some f) (frames fs) = ap good (omega arith)
before-frame i (some f) (unread n j) = refl

module _ (room : Room) (s : List ℕ) (p i : ℕ) where
  pub script-end : length s ≤ p → script_left room s p i ≡ good i
  unfolding script_from
  script-end h = rw (split-end s p h) (ap good (omega arith))

  pub script-late : p < length s → i ≡ room.lines → script_left room s p i ≡ bad 2 i
  unfolding script_from
  script-late h e = go (split (drop p s)) (last_line s p (omega arith) ∙ ne_eqb p (length s) (λ q. omega (arith, q)))
    where
      go : (ls : List Split) → is_nil ls ≡ false → of_script i (script_from room i ls) ≡ bad 2 i
      go [] q = absurd (true≢false q)
      go (l ∷ ls) q = rw (eq-eqb i room.lines e, script_from)

  module _ (t : TakenLine) (k : Took frame_reading s p t) (h : i ≡ room.lines → ⊥) where
    script-step : script_left room s p i ≡ frame_then i t.frame (script_left room s t.next (i + 1))
    unfolding script_from frame_reading
    script-step = rw (k.here, k.as_read, ne_eqb i room.lines h, script_from, add-one) (before-frame i (line_of frame_table k.line) _)

    pub script-bad : is_some t.frame ≡ false → script_left room s p i ≡ bad 1 i
    script-bad e = script-step ∙ go t.frame e
      where
        go : (x : Reading) → is_some x ≡ false → frame_then i x (script_left room s t.next (i + 1)) ≡ bad 1 i
        go None e = refl
        go (Some f) e = absurd (true≢false e)

    pub script-on : is_some t.frame ≡ true → script_left room s p i ≡ script_left room s t.next (i + 1)
    script-on e = script-step ∙ go t.frame e
      where
        go : (x : Reading) → is_some x ≡ true → frame_then i x (script_left room s t.next (i + 1)) ≡ script_left room s t.next (i + 1)
        go None e = absurd (true≢false (sym e))
        go (Some f) e = refl

-- ---- lists

-- the size line, whose line is last or not
size-line : (room : Room) (i n : ℕ) (ls : List Split) → of_listed i (size_at room i n ls) ≡ size_listing room n (is_nil ls) i
size-line room i n [] = go (leb n room.size)
  where
    go : (b : Bool) → of_listed i (elim b [ true ↦ listed [] n | false ↦ unlisted 1 i ]) ≡ pick b (good (sized n i)) (bad 1 i)
    go true = let e : i + 0 ≡ i = omega arith in ap (λ (k : ℕ). good (sized n k)) e
    go false = refl
size-line room i n (l ∷ ls) = refl

before-line : (i : ℕ) (x : Line) (r : Listed) → of_listed i (line_before i (some x) r) ≡ of_listed (suc i) r
before-line i x (listed ls size) = ap (λ (k : ℕ). good (sized size k)) (omega arith)
before-line i x (unlisted n j) = refl

bad-line : (i : ℕ) (r : Listed) (b : Bool) → of_listed i (elim b [ true ↦ unlisted 2 i | false ↦ line_before i none r ]) ≡ pick b (bad 2 i) (bad 1 i)
bad-line i r true = refl
bad-line i r false = refl

good-line : (i : ℕ) (x : Line) (r : Listed) (b : Bool) → of_listed i (elim b [ true ↦ unlisted 2 i | false ↦ line_before i (some x) r ]) ≡ pick b (bad 2 i) (of_listed (suc i) r)
good-line i x r true = refl
good-line i x r false = before-line i x r

-- line i of a list, before the lines ls
one_line_lem : (room : Room) (i : ℕ) (l : Split) (ls : List Split)
    → of_listed i (list_from room i (l ∷ ls)) ≡ line_then room i (is_nil ls) (line_reading l) (of_listed (suc i) (list_from room (suc i) ls))
unfolding list_from line_reading
one_line_lem room i l ls = go (line_of size_table l) (line_of line_table l) (told_line l)
  where
    go : (a : Option ℕ) (b : Option Line) → ((x : Line) → b ≡ some x → told x ≡ true)
        → of_listed i (size_or room i a ls (elim (eqb i room.lines) [ true ↦ unlisted 2 i | false ↦ line_before i b (list_from room (suc i) ls) ]))
        ≡ line_then room i (is_nil ls) (sized_or a (lined b)) (of_listed (suc i) (list_from room (suc i) ls))
    go (some n) b t = size-line room i n ls
    go none none t = bad-line i (list_from room (suc i) ls) (eqb i room.lines)
    go none (some x) t = rw (told-other x (t x refl)) (good-line i x (list_from room (suc i) ls) (eqb i room.lines))

module _ (room : Room) (s : List ℕ) (p i : ℕ) where
  abbrev list_left : ℕ → ℕ → Checked Listing
  list_left p i = of_listed i (list_from room i (split (drop p s)))

  pub list-end : length s ≤ p → list_left p i ≡ bad 1 i
  unfolding list_from
  list-end h = rw (split-end s p h)

  module _ (t : TakenLine) (k : Took line_reading s p t) where
    abbrev rest : Checked Listing
    rest = list_left t.next (i + 1)

    abbrev last : Bool
    last = eqb t.next (length s)

    list-step : list_left p i ≡ line_then room i last t.frame rest
    list-step = rw (k.here, k.as_read, ← last_line s t.next k.within, add-one) (one_line_lem room i k.line (split (drop t.next s)))

    pub list-bad : t.frame ≡ None → (i ≡ room.lines → ⊥) → list_left p i ≡ bad 1 i
    list-bad q early = list-step ∙ rw q (rw (ne_eqb i room.lines early))

    pub list-size : (f : Frame) → t.frame ≡ Some f → f.opcode ≡ 0x90 → list_left p i ≡ size_listing room f.a last i
    list-size f q o = list-step ∙ rw q (rw (eq-eqb f.opcode 0x90 o))

    -- another line
    module _ (other : (f : Frame) → t.frame ≡ Some f → f.opcode ≡ 0x90 → ⊥) where
      pub list-late : i ≡ room.lines → list_left p i ≡ bad 2 i
      list-late e = list-step ∙ go t.frame refl
        where
          go : (x : Reading) → t.frame ≡ x → line_then room i last x rest ≡ bad 2 i
          go None q = rw (eq-eqb i room.lines e)
          go (Some f) q = rw (ne_eqb f.opcode 0x90 (other f q), eq-eqb i room.lines e)

      pub list_on : (f : Frame) → t.frame ≡ Some f → (i ≡ room.lines → ⊥) → list_left p i ≡ list_left t.next (i + 1)
      list_on f q early = list-step ∙ rw q (rw (ne_eqb f.opcode 0x90 (other f q), ne_eqb i room.lines early))

-- the size line tells which line it is
pub sized-at : (room : Room) (n i : ℕ) (last : Bool) (l : Listing) → size_listing room n last i ≡ good l → i ≡ l.lines
sized-at room n i false l e = cc
sized-at room n i true l e = go (leb n room.size) e
  where
    go : (x : Bool) → pick x (good (sized n i)) (bad 1 i) ≡ good l → i ≡ l.lines
    go true e = let q : sized n i ≡ l = cc in ap (λ (x : Listing). x.lines) q
    go false e = cc
