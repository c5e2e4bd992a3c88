-- The title of a script or of a list: which first bytes are one, and what remains behind it. Assumes nothing.
use mathlib.Core.Path.{◌≡◌, refl, ap}
use mathlib.Core.Option.{Option, none, some}
use mathlib.Core.List.{List, [], ◌∷◌, ◌++◌}
use Prim.Native.Nat.{ℕ, zero, suc, ◌*◌, ◌≤◌}
use native.Mathlib.Omega.{arith}
use lib.ListN.{length, drop, set, length-append}
use Rattle.rules.specs.Sizes.{Room}
use Rattle.rules.specs.Slots.{Place, by_head, lowest}
use Rattle.rules.specs.Frames.{Line, shows}
use Rattle.rules.specs.Text.{value, word, words, both, raw, rowed, line_of, line_text, hexes, hex2, hex4, digit, onto, Split, split, script_from, title_table, titled, title, read_script, Listed, listed, unlisted, list_from, under_title, read_list}
use Rattle.rules.proofs.ReadExact.{joined, title-begins}
use Rattle.text.specs.Titles.{title_number, Titles, title_in}
use Rattle.text.specs.Refused.{Checked, good}
use Rattle.text.specs.Whole.{sized, of_script, of_listed, script_checked, listing}
use Rattle.text.specs.declared.whole.Listing.{Listing}

-- `f00002` and LF
abbrev pub title_bytes : List ℕ
title_bytes = 0x66 ∷ 0x30 ∷ 0x30 ∷ 0x30 ∷ 0x30 ∷ 0x32 ∷ 0x0a ∷ []

title_line : line_text (shows 0xf0 (2 ∷ [])) ≡ title_bytes
unfolding line_text hexes hex2 hex4 digit
title_line = refl

titled-under : (t : List ℕ) → titled (split (title_bytes ++ t)) ≡ record { place = lowest; rest = split t }
unfolding split titled line_of title_table rowed raw words word value
titled-under t = refl

pub title-yes : (s t : List ℕ) → s ≡ title_bytes ++ t → Titles s 1
title-yes s t e = record { most = omega arith; within = rw e (omega arith); is = rw e (titled-under t) }

pub title-no : (s : List ℕ) → ((t : List ℕ) → s ≡ title_bytes ++ t → ⊥) → Titles s 0
unfolding titled
title-no s not = record { most = omega arith; within = omega arith; is = go (split s) refl }
  where
    go : (ls : List Split) → split s ≡ ls → titled ls ≡ record { place = by_head; rest = ls }
    go [] e = refl
    go (k ∷ ks) e = first (line_of title_table k) refl
      where
        first : (o : Option Place) → line_of title_table k ≡ o → titled (k ∷ ks) ≡ record { place = by_head; rest = k ∷ ks }
        first none q = rw (q, titled)
        first (some p) q = absurd (not (joined ks) (rw title_line at (title-begins s k ks p e q)))

-- ---- what remains behind the title

pub script-start : (room : Room) (s : List ℕ) (n : ℕ) → Titles s n → script_checked room s ≡ of_script n (script_from room n (split (drop (7 * n) s)))
unfolding script_checked read_script
script-start room s zero t = rw t.is
script-start room s (suc zero) t = rw t.is
script-start room s (suc (suc n)) t = absurd (omega (arith, t.most))

under : (above : List Line) (r : Listed) → of_listed 0 (under_title above r) ≡ of_listed (length above) r
under above (listed ls size) = ap (λ (k : ℕ). good (sized size k)) (omega (arith, length-append above ls))
under above (unlisted n i) = refl

pub list-start : (room : Room) (s : List ℕ) (n : ℕ) → Titles s n → listing room s ≡ of_listed n (list_from room n (split (drop (7 * n) s)))
unfolding listing read_list
list-start room s zero t = rw t.is (under (title by_head) (list_from room 0 (split s)))
list-start room s (suc zero) t = rw t.is (under (title lowest) (list_from room 1 (split (drop 7 s))))
list-start room s (suc (suc n)) t = absurd (omega (arith, t.most))

pub title-put : (t : List ℕ) (n : ℕ) → (n ≡ 0 → ⊥) → set t 0 title_number ≡ title_in n t
title-put t zero h = absurd (h refl)
title-put t (suc n) h = refl
