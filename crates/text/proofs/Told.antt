-- Which opcode a list line can have: `10` and `14` store, `11` and `12` load, and neither they nor the size line's `90` show. Assumes nothing.
use mathlib.Core.Path.{◌≡◌, refl, sym, ap, ◌∙◌}
use mathlib.Core.Bool.{Bool, true, false, true≢false}
use mathlib.Core.List.{List, [], ◌∷◌}
use mathlib.Core.Option.{Option, none, some}
use Prim.Native.Nat.{ℕ}
use lib.Dec.{eqb}
use lib.ListN.{length}
use borrow.Author.Tests.{eqb-true}
use Rattle.rules.specs.Frames.{constant, next_sample, Line, stores, loads, shows}
use Rattle.rules.specs.Text.{Raw, raw, Row, rowed, Split, line_of, line_table, opcode_of, with0, with1, with2, counted}
use Rattle.text.specs.Shapes.{pick}

abbrev pub is_load : ℕ → Bool
is_load o = pick (eqb o 0x11) true (eqb o 0x12)

abbrev pub is_plain : ℕ → Bool
is_plain o = pick (eqb o 0x10) false (pick (eqb o 0x11) false (pick (eqb o 0x12) false (pick (eqb o 0x14) false (pick (eqb o 0x90) false true))))

abbrev pub told : Line → Bool
told (stores a x) = true
told (loads o a) = is_load o
told (shows o l) = is_plain o

-- none, or one that is told
abbrev all_told : Option Line → Bool
all_told none = true
all_told (some x) = told x

data Told : List (Row Line) → Type 0 where
  no_rows : Told []
  rows : {w : Row Line} {ws : List (Row Line)} → ((l : List ℕ) → all_told (w.made l) ≡ true) → Told ws → Told (w ∷ ws)

told-rows : {ws : List (Row Line)} → Told ws → (r : Raw) → all_told (rowed ws r) ≡ true
unfolding rowed
told-rows no_rows r = refl
told-rows (rows {w = w} {ws = ws} h rest) r = go (eqb w.opcode r.opcode) refl (told-rows rest r)
  where
    go : (b : Bool) → eqb w.opcode r.opcode ≡ b → all_told (rowed ws r) ≡ true → all_told (rowed (w ∷ ws) r) ≡ true
    go true e ih = rw (e, rowed) (h r.operands)
    go false e ih = rw (e, rowed) ih

none_of : (x : Line) → told x ≡ true → (l : List ℕ) → all_told (with0 x l) ≡ true
none_of x e [] = e
none_of x e (a ∷ l) = refl

one_of : (f : ℕ → Line) → ((a : ℕ) → told (f a) ≡ true) → (l : List ℕ) → all_told (with1 f l) ≡ true
one_of f e [] = refl
one_of f e (a ∷ []) = e a
one_of f e (a ∷ b ∷ l) = refl

two-of : (f : ℕ → ℕ → Line) → ((a b : ℕ) → told (f a b) ≡ true) → (l : List ℕ) → all_told (with2 f l) ≡ true
two-of f e [] = refl
two-of f e (a ∷ []) = refl
two-of f e (a ∷ b ∷ []) = e a b
two-of f e (a ∷ b ∷ c ∷ l) = refl

count_of : (o : ℕ) → is_plain o ≡ true → (l : List ℕ) → all_told (counted o l) ≡ true
count_of o e [] = refl
count_of o e (n ∷ l) = go (eqb (length l) n)
  where
    go : (b : Bool) → all_told (elim b [ true ↦ some (shows o (n ∷ l)) | false ↦ none ]) ≡ true
    go true = e
    go false = refl

table-told : Told line_table
unfolding line_table
table-told =
    rows (one_of _ (λ a. refl))
    (rows (none_of _ refl)
    (rows (none_of _ refl)
    (rows (none_of _ refl)
    (rows (none_of _ refl)
    (rows (one_of _ (λ a. refl))
    (rows (one_of _ (λ a. refl))
    (rows (one_of _ (λ a. refl))
    (rows (none_of _ refl)
    (rows (one_of _ (λ a. refl))
    (rows (one_of _ (λ a. refl))
    (rows (none_of _ refl)
    (rows (none_of _ refl)
    (rows (none_of _ refl)
    (rows (count_of 0x0f refl)
    (rows (two-of _ (λ a b. refl))
    (rows (one_of _ (λ a. refl))
    (rows (one_of _ (λ a. refl))
    (rows (one_of _ (λ a. refl))
    (rows (one_of _ (λ a. refl))
    (rows (one_of _ (λ a. refl))
    (rows (one_of _ (λ a. refl))
    (rows (one_of _ (λ a. refl))
    (rows (one_of _ (λ a. refl))
    (rows (none_of _ refl)
    no_rows))))))))))))))))))))))))

pub told_line : (l : Split) (x : Line) → line_of line_table l ≡ some x → told x ≡ true
unfolding line_of
told_line l x e = sym (ap all_told e) ∙ go l.ended (raw l.text)
  where
    go : (b : Bool) (r : Option Raw) → all_told (elim b [ false ↦ none | true ↦ elim r [ none ↦ none | some r ↦ rowed line_table r ] ]) ≡ true
    go false r = refl
    go true none = refl
    go true (some r) = told-rows table-told r

-- a list line's opcode is not the size line's
plain_other : (o : ℕ) → is_plain o ≡ true → eqb o 0x90 ≡ false
plain_other o e = go (eqb o 0x10) (eqb o 0x11) (eqb o 0x12) (eqb o 0x14) (eqb o 0x90) e
  where
    go : (a b c s d : Bool) → pick a false (pick b false (pick c false (pick s false (pick d false true)))) ≡ true → d ≡ false
    go a b c s false e = refl
    go true b c s true e = absurd (true≢false (sym e))
    go false true c s true e = absurd (true≢false (sym e))
    go false false true s true e = absurd (true≢false (sym e))
    go false false false true true e = absurd (true≢false (sym e))
    go false false false false true e = absurd (true≢false (sym e))

load-other : (o : ℕ) → is_load o ≡ true → eqb o 0x90 ≡ false
load-other o e = go (eqb o 0x11) refl
  where
    go : (b : Bool) → eqb o 0x11 ≡ b → eqb o 0x90 ≡ false
    go true q = rw (eqb-true o 0x11 q)
    go false q = rw (eqb-true o 0x12 (rw q at e))

pub told-other : (x : Line) → told x ≡ true → eqb (opcode_of x) 0x90 ≡ false
told-other (stores a (constant v)) e = refl
told-other (stores a next_sample) e = refl
told-other (loads o a) e = load-other o e
told-other (shows o l) e = plain_other o e
