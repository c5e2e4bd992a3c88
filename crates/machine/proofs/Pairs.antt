-- The entries of a list that is read are those of its lines. Assumes nothing.
use mathlib.Core.Path.{◌≡◌, refl, sym, ap, subst}
use mathlib.Core.Bool.{Bool, true, false, true≢false}
use mathlib.Core.Option.{Option, none, some}
use mathlib.Core.List.{List, [], ◌∷◌, ◌++◌, map, map-append}
use Prim.Native.Nat.{ℕ, suc}
use lib.Dec.{eqb, leb}
use lib.ListN.{length, take}
use borrow.Author.Tests.{eqb-true}
use Rattle.rules.specs.Sizes.{Room}
use Rattle.rules.specs.Slots.{Place, by_head, lowest, exactly_at}
use Rattle.rules.specs.Frames.{constant, next_sample, Line, stores, loads, shows}
use Rattle.rules.specs.Text.{Split, split, line_of, line_table, size_table, Titled, titled, title, Listed, listed, unlisted, line_before, size_or, list_from, under_title, read_list}
use Rattle.rules.proofs.ReadExact.{not_listed}
use Rattle.text.specs.Shapes.{pick}
use Rattle.text.specs.Lines.{line_reading, lined, sized_or}
use Rattle.text.specs.Table.{readings}
use Rattle.text.proofs.Told.{is_load, is_plain, told, told_line}
use Rattle.machine.specs.Entries.{entry_of, entries}
use Rattle.machine.specs.declared.entries.Entry.{Entry}
use Rattle.machine.specs.declared.entries.Entry.TheVariants.{Skip, Store, Sample, Load}

-- ---- the entry of a line

abbrev pub of_line : Line → Entry
of_line (stores a (constant v)) = Store a v
of_line (stores a next_sample) = Sample a
of_line (loads o a) = Load a
of_line (shows o l) = Skip

plain_entry : (o : ℕ) (s l m n : Entry) → is_plain o ≡ true → pick (eqb o 0x10) s (pick (eqb o 0x11) l (pick (eqb o 0x12) m (pick (eqb o 0x14) n Skip))) ≡ Skip
plain_entry o s l m n e = go (eqb o 0x10) (eqb o 0x11) (eqb o 0x12) (eqb o 0x14) (eqb o 0x90) e
  where
    go : (a b c t d : Bool) → pick a false (pick b false (pick c false (pick t false (pick d false true)))) ≡ true → pick a s (pick b l (pick c m (pick t n Skip))) ≡ Skip
    go true b c t d e = absurd (true≢false (sym e))
    go false true c t d e = absurd (true≢false (sym e))
    go false false true t d e = absurd (true≢false (sym e))
    go false false false true d e = absurd (true≢false (sym e))
    go false false false false d e = refl

load-entry : (o a : ℕ) → is_load o ≡ true → entry_of (lined (some (loads o a))) ≡ Load a
load-entry o a e = go (eqb o 0x11) refl
  where
    go : (b : Bool) → eqb o 0x11 ≡ b → entry_of (lined (some (loads o a))) ≡ Load a
    go true q = rw (eqb-true o 0x11 q)
    go false q = rw (eqb-true o 0x12 (rw q at e))

entry-line : (x : Line) → told x ≡ true → entry_of (lined (some x)) ≡ of_line x
entry-line (stores a (constant v)) e = refl
entry-line (stores a next_sample) e = refl
entry-line (loads o a) e = load-entry o a e
entry-line (shows o l) e = plain_entry o _ _ _ _ e

-- ---- the lines of a list that is read, and the size line after them

pub data Pairs : List Entry → List Line → Type 0 where
  last : {e : Entry} → e ≡ Skip → Pairs (e ∷ []) []
  step : {e : Entry} {l : Line} {es : List Entry} {ls : List Line} → e ≡ of_line l → Pairs es ls → Pairs (e ∷ es) (l ∷ ls)

pair-last : (i k n : ℕ) (ls : List Line) (b : Bool) → elim b [ true ↦ listed [] k | false ↦ unlisted 1 i ] ≡ listed ls n → Pairs (Skip ∷ []) ls
pair-last i k n ls true h = let a : [] ≡ ls = cc in subst (λ (x : List Line). Pairs (Skip ∷ []) x) a (last refl)
pair-last i k n ls false h = not_listed h

pair-on : (i n : ℕ) (ls : List Line) (e : Entry) (l : Line) (es : List Entry) (r : Listed) → e ≡ of_line l → ((m : List Line) → r ≡ listed m n → Pairs es m) → line_before i (some l) r ≡ listed ls n → Pairs (e ∷ es) ls
pair-on i n ls e l es (unlisted m j) q ih h = not_listed h
pair-on i n ls e l es (listed m k) q ih h =
    let a : l ∷ m ≡ ls = cc in
    let b : k ≡ n = cc in
    subst (λ (x : List Line). Pairs (e ∷ es) x) a (step q (ih m (ap (listed m) b)))

-- the entries of lines
abbrev entries_for : List Split → List Entry
entries_for ks = map entry_of (map line_reading ks)

module _ (room : Room) where
  pair_one : (ks : List Split) (i n : ℕ) (ls : List Line) (a : Option ℕ) (o : Option Line) → ((x : Line) → o ≡ some x → told x ≡ true)
      → ((m : List Line) → list_from room (suc i) ks ≡ listed m n → Pairs (entries_for ks) m)
      → size_or room i a ks (elim (eqb i room.lines) [ true ↦ unlisted 2 i | false ↦ line_before i o (list_from room (suc i) ks) ]) ≡ listed ls n
      → Pairs (entry_of (sized_or a (lined o)) ∷ entries_for ks) ls
  pair_one [] i n ls (some k) o t ih h = pair-last i k n ls (leb k room.size) h
  pair_one (x ∷ ks) i n ls (some k) o t ih h = not_listed h
  pair_one ks i n ls none o t ih h = go (eqb i room.lines) o t h
    where
      go : (b : Bool) (o : Option Line) → ((x : Line) → o ≡ some x → told x ≡ true) → elim b [ true ↦ unlisted 2 i | false ↦ line_before i o (list_from room (suc i) ks) ] ≡ listed ls n
          → Pairs (entry_of (lined o) ∷ entries_for ks) ls
      go true o t h = not_listed h
      go false none t h = not_listed h
      go false (some l) t h = pair-on i n ls (entry_of (lined (some l))) l (entries_for ks) (list_from room (suc i) ks) (entry-line l (t l refl)) ih h

  pairs : (ks : List Split) (i n : ℕ) (ls : List Line) → list_from room i ks ≡ listed ls n → Pairs (entries_for ks) ls
  unfolding list_from line_reading
  pairs [] i n ls h = not_listed h
  pairs (k ∷ ks) i n ls h = pair_one ks i n ls (line_of size_table k) (line_of line_table k) (told_line k) (λ m e. pairs ks (suc i) n m e) h

  -- the title, which asks nothing of the machine
  pairs-title : (p : Place) (r : Listed) (es : List Entry) (n : ℕ) (ls : List Line) → ((k : ℕ) (m : List Line) → r ≡ listed m k → Pairs es m) → under_title (title p) r ≡ listed ls n
      → Pairs (map entry_of (map (λ l. lined (some l)) (title p)) ++ es) ls
  pairs-title p (unlisted m j) es n ls h e = not_listed e
  pairs-title by_head (listed m k) es n ls h e = let q : m ≡ ls = cc in subst (λ (x : List Line). Pairs es x) q (h k m refl)
  pairs-title (exactly_at a) (listed m k) es n ls h e = let q : m ≡ ls = cc in subst (λ (x : List Line). Pairs es x) q (h k m refl)
  pairs-title lowest (listed m k) es n ls h e =
      let q : shows 0xf0 (2 ∷ []) ∷ m ≡ ls = cc in subst (λ (x : List Line). Pairs (Skip ∷ es) x) q (step refl (h k m refl))

  pub pairs-read : (list : List ℕ) (n : ℕ) (ls : List Line) → read_list room list ≡ listed ls n → Pairs (entries list) ls
  unfolding read_list entries readings
  pairs-read list n ls e =
      let t : Titled = titled (split list) in
      let above = title t.place in
      rw (map-append entry_of (map (λ l. lined (some l)) above) (map line_reading t.rest))
      (pairs-title t.place (list_from room (length above) t.rest) (entries_for t.rest) n ls (λ k m q. pairs t.rest (length above) k m q) e)

-- ---- the lines before the size line

pub data Lined : List Entry → List Line → Type 0 where
  done : Lined [] []
  on : {e : Entry} {l : Line} {es : List Entry} {ls : List Line} → e ≡ of_line l → Lined es ls → Lined (e ∷ es) (l ∷ ls)

pub lines-only : {es : List Entry} {ls : List Line} → Pairs es ls → Lined (take (length ls) es) ls
lines-only (last q) = done
lines-only (step q more) = on q (lines-only more)
