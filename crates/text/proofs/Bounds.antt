-- How far the reading of a text goes: numbers 1 and 2, a line no later than the last that can be, no more lines than there is room for, and
-- a size no greater. Assumes nothing.
use mathlib.Core.Path.{◌≡◌, refl, sym, ap}
use mathlib.Core.Bool.{Bool, true, false}
use mathlib.Core.List.{List, [], ◌∷◌}
use mathlib.Core.Option.{Option, none, some}
use Prim.Native.Nat.{ℕ, suc, ◌+◌, ◌≤◌}
use native.Mathlib.Omega.{arith}
use lib.Dec.{eqb, leb}
use lib.ListN.{length, length-append}
use borrow.Author.Tests.{eqb-false, leb-true}
use Rattle.rules.specs.Sizes.{Room}
use Rattle.rules.specs.Slots.{Place, by_head, lowest, exactly_at}
use Rattle.rules.specs.Frames as rules
use Rattle.rules.specs.Frames.{Line}
use Rattle.rules.specs.Text.{Split, split, line_of, frame_table, line_table, size_table, Script, frames, unread, frame_before, script_from, titled, title, read_script, Listed, listed, unlisted, line_before, size_or, list_from, under_title, read_list}
use Rattle.text.specs.Refused.{good, bad}
use Rattle.text.specs.Whole.{sized, of_script, of_listed, script_checked, listing}
use Rattle.text.specs.declared.whole.Listing.{Listing}

abbrev pub Refusal : Room → ℕ → ℕ → Type 0
Refusal room n j = (1 ≤ n) × (n ≤ 2) × (j ≤ room.lines)

-- ---- scripts

abbrev pub ScriptIn : Room → ℕ → Script → Type 0
ScriptIn room i (frames fs) = i + length fs ≤ room.lines
ScriptIn room i (unread n j) = Refusal room n j

on-frame : (room : Room) (i : ℕ) (o : Option rules.Frame) (r : Script) → i ≤ room.lines → ScriptIn room (suc i) r → ScriptIn room i (frame_before i o r)
on-frame room i none r l h = (omega arith, omega arith, l)
on-frame room i (some f) (frames fs) l h = omega arith
on-frame room i (some f) (unread n j) l h = h

pub script-in : (room : Room) (ls : List Split) (i : ℕ) → i ≤ room.lines → ScriptIn room i (script_from room i ls)
unfolding script_from
script-in room [] i l = omega arith
script-in room (k ∷ ls) i l = go (eqb i room.lines) refl (λ h. script-in room ls (suc i) h)
  where
    go : (b : Bool) → eqb i room.lines ≡ b → (suc i ≤ room.lines → ScriptIn room (suc i) (script_from room (suc i) ls))
        → ScriptIn room i (elim b [ true ↦ unread 2 i | false ↦ frame_before i (line_of frame_table k) (script_from room (suc i) ls) ])
    go true e ih = (omega arith, omega arith, l)
    go false e ih = on-frame room i (line_of frame_table k) (script_from room (suc i) ls) l (ih (omega (arith, eqb-false i room.lines e)))

-- ---- lists

abbrev pub ListIn : Room → ℕ → Listed → Type 0
ListIn room i (listed ls n) = (i + length ls ≤ room.lines) × (n ≤ room.size)
ListIn room i (unlisted n j) = Refusal room n j

on_line : (room : Room) (i : ℕ) (o : Option Line) (r : Listed) → i ≤ room.lines → ListIn room (suc i) r → ListIn room i (line_before i o r)
on_line room i none r l h = (omega arith, omega arith, l)
on_line room i (some x) (listed ls n) l h = (omega (arith, h.0), h.1)
on_line room i (some x) (unlisted n j) l h = h

size_in : (room : Room) (i n : ℕ) (b : Bool) → leb n room.size ≡ b → i ≤ room.lines → ListIn room i (elim b [ true ↦ listed [] n | false ↦ unlisted 1 i ])
size_in room i n true e l = (omega arith, leb-true n room.size e)
size_in room i n false e l = (omega arith, omega arith, l)

pub list-in : (room : Room) (ls : List Split) (i : ℕ) → i ≤ room.lines → ListIn room i (list_from room i ls)
unfolding list_from
list-in room [] i l = (omega arith, omega arith, l)
list-in room (k ∷ ls) i l = go (line_of size_table k) ls (eqb i room.lines) refl (λ h. list-in room ls (suc i) h)
  where
    go : (a : Option ℕ) (ks : List Split) (b : Bool) → eqb i room.lines ≡ b → (suc i ≤ room.lines → ListIn room (suc i) (list_from room (suc i) ls))
        → ListIn room i (size_or room i a ks (elim b [ true ↦ unlisted 2 i | false ↦ line_before i (line_of line_table k) (list_from room (suc i) ls) ]))
    go (some n) [] b e ih = size_in room i n (leb n room.size) refl l
    go (some n) (x ∷ ks) b e ih = (omega arith, omega arith, l)
    go none ks true e ih = (omega arith, omega arith, l)
    go none ks false e ih = on_line room i (line_of line_table k) (list_from room (suc i) ls) l (ih (omega (arith, eqb-false i room.lines e)))

-- ---- the check of a whole text

not_good : {A P : Type 0} {a : A} {m j : ℕ} → good a ≡ bad m j → P
not_good e = cc

-- the title is one line at most
titles-few : (p : Place) → length (title p) ≤ 1
titles-few by_head = omega arith
titles-few lowest = omega arith
titles-few (exactly_at a) = omega arith

under-in : (room : Room) (above : List Line) (r : Listed) → ListIn room (length above) r → ListIn room 0 (under_title above r)
under-in room above (listed ls n) h = (omega (arith, h.0, length-append above ls), h.1)
under-in room above (unlisted n j) h = h

-- in a room for a title
module _ (room : Room) (one : 1 ≤ room.lines) (s : List ℕ) where
  abbrev titles : ℕ
  titles = length (title (read_script room s).place)

  pub read-in : ScriptIn room titles (read_script room s).script
  unfolding read_script
  read-in = script-in room (titled (split s)).rest _ (omega (arith, one, titles-few (titled (split s)).place))

  pub read-list-in : ListIn room 0 (read_list room s)
  unfolding read_list
  read-list-in =
      let above = title (titled (split s)).place in
      under-in room above (list_from room (length above) (titled (split s)).rest) (list-in room (titled (split s)).rest (length above) (omega (arith, one, titles-few (titled (split s)).place)))

  pub script-refused : (n j : ℕ) → script_checked room s ≡ bad n j → Refusal room n j
  unfolding script_checked
  script-refused n j e = go (read_script room s).script e read-in
    where
      go : (r : Script) → of_script titles r ≡ bad n j → ScriptIn room titles r → Refusal room n j
      go (frames fs) e h = not_good e
      go (unread m i) e h = let a : m ≡ n = cc in let b : i ≡ j = cc in (omega (arith, h.0), omega (arith, h.1), omega (arith, h.2))

  pub script-good : (n : ℕ) → script_checked room s ≡ good n → n ≤ room.lines
  unfolding script_checked
  script-good n e = go (read_script room s).script e read-in
    where
      go : (r : Script) → of_script titles r ≡ good n → ScriptIn room titles r → n ≤ room.lines
      go (frames fs) e h = let a : titles + length fs ≡ n = cc in omega (arith, h)
      go (unread m i) e h = not_good (sym e)

  pub list-refused : (n j : ℕ) → listing room s ≡ bad n j → Refusal room n j
  unfolding listing
  list-refused n j e = go (read_list room s) e read-list-in
    where
      go : (r : Listed) → of_listed 0 r ≡ bad n j → ListIn room 0 r → Refusal room n j
      go (listed ls m) e h = not_good e
      go (unlisted m i) e h = let a : m ≡ n = cc in let b : i ≡ j = cc in (omega (arith, h.0), omega (arith, h.1), omega (arith, h.2))

  pub list-good : (l : Listing) → listing room s ≡ good l → (l.size ≤ room.size) × (l.lines ≤ room.lines)
  unfolding listing
  list-good l e = go (read_list room s) e read-list-in
    where
      go : (r : Listed) → of_listed 0 r ≡ good l → ListIn room 0 r → (l.size ≤ room.size) × (l.lines ≤ room.lines)
      go (listed ls m) e h =
          let q : sized m (0 + length ls) ≡ l = cc in
          let a : m ≡ l.size = ap (λ (x : Listing). x.size) q in
          let b : 0 + length ls ≡ l.lines = ap (λ (x : Listing). x.lines) q in
          (omega (arith, h.1), omega (arith, h.0))
      go (unlisted m i) e h = not_good (sym e)
