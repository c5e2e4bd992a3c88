-- The machine over entries is the rules' machine. Assumes nothing.
use mathlib.Core.Path.{◌≡◌, refl, sym, ap, ◌∙◌}
use mathlib.Core.Bool.{Bool, true, false}
use mathlib.Core.Option.{Option, none, some}
use mathlib.Core.List.{List, [], ◌∷◌, ◌++◌}
use Prim.Native.Nat.{ℕ, zero, suc, ◌+◌, ◌*◌, ◌-◌, ◌≤◌, ◌<◌}
use native.Mathlib.Omega.{arith}
use native.Mathlib.Numerals.{add-one}
use lib.Dec.{leb, ltb}
use lib.ListN.{length, get_or, set, drop, length-append, length-set}
use lib.Seq.{get_or-drop, drop-drop}
use borrow.Author.Tests.{lt-leb, le-leb, ltb-true, ltb-false, le-ltb}
use Rattle.rules.specs.Frames.{constant, next_sample, Line, stores, loads, shows}
use Rattle.rules.specs.Meaning.{Ran, worth, later, obey, high, list_takes, lacking}
use Rattle.rules.specs.Text.{hex2, hex4}
use Rattle.rules.specs.Entries.{load_text, loads_text, cells_of, bytes_of}
use Rattle.text.specs.Shapes.{pick}
use Rattle.machine.specs.Survey.{asked, survey_of, lacking_of}
use Rattle.machine.specs.Work.{cell_at, obey_cells, obey_text, filled_from}
use Rattle.machine.specs.declared.entries.Entry.{Entry}
use Rattle.machine.specs.declared.survey.Asked.{Asked}
use Rattle.text.specs.Refused.{Checked, good, bad}
use Rattle.machine.proofs.Pairs.{Lined, done, on}
use Rattle.machine.proofs.Cells.{bytes-set, bytes-at, cells_at}

-- ---- 20, the loads and the samples

abbrev line_loads : Line → ℕ
line_loads (stores a x) = 0
line_loads (loads o a) = 1
line_loads (shows o l) = 0

unfoldable pub lines_loads : List Line → ℕ
lines_loads [] = 0
lines_loads (l ∷ ls) = line_loads l + lines_loads ls

abbrev pub of_high : Option ℕ → (loads takes : ℕ) → Checked Asked
of_high none n m = good (asked n m)
of_high (some i) n m = bad 20 i

high_one : (size a i n m n' m' : ℕ) (x : Checked Asked) (y : Option ℕ) → n ≡ n' → m ≡ m' → x ≡ of_high y n m → pick (leb size a) (bad 20 i) x ≡ of_high (elim (ltb a size) [ true ↦ y | false ↦ some i ]) n' m'
high_one size a i n m n' m' x y q s e = go (ltb a size) refl
  where
    go : (b : Bool) → ltb a size ≡ b → pick (leb size a) (bad 20 i) x ≡ of_high (elim b [ true ↦ y | false ↦ some i ]) n' m'
    go true p = rw (lt-leb size a (ltb-true a size p)) (e ∙ rw (q, s))
    go false p = rw (le-leb size a (ltb-false a size p))

pub surveys : {es : List Entry} {ls : List Line} → Lined es ls → (size i n m : ℕ) → survey_of size i n m es ≡ of_high (high size i ls) (n + lines_loads ls) (m + list_takes ls)
unfolding survey_of high lines_loads list_takes
surveys done size i n m = let e : n + 0 ≡ n = omega arith in let f : m + 0 ≡ m = omega arith in rw (e, f)
surveys (on {l = stores a (constant v)} {ls = ls} q more) size i n m =
    rw (q, add-one) (high_one size a i (n + 0 + lines_loads ls) (m + 0 + list_takes ls) _ _ _ _ (omega arith) (omega arith) (surveys more size (suc i) (n + 0) (m + 0)))
surveys (on {l = stores a next_sample} {ls = ls} q more) size i n m =
    rw (q, add-one) (high_one size a i (n + 0 + lines_loads ls) (m + 1 + list_takes ls) _ _ _ _ (omega arith) (omega arith) (surveys more size (suc i) (n + 0) (m + 1)))
surveys (on {l = loads o a} {ls = ls} q more) size i n m =
    rw (q, add-one) (high_one size a i (n + 1 + lines_loads ls) (m + 0 + list_takes ls) _ _ _ _ (omega arith) (omega arith) (surveys more size (suc i) (n + 1) (m + 0)))
surveys (on {l = shows o l} {ls = ls} q more) size i n m =
    let e : n + 0 + lines_loads ls ≡ n + (0 + lines_loads ls) = omega arith in
    let f : m + 0 + list_takes ls ≡ m + list_takes ls = omega arith in
    rw (q, add-one) (surveys more size (suc i) (n + 0) (m + 0) ∙ rw (e, f))

-- ---- 23

pub lacks-at : {es : List Entry} {ls : List Line} → Lined es ls → (i n : ℕ) → n < list_takes ls → lacking i n ls ≡ some (lacking_of i n es)
unfolding lacking lacking_of list_takes
lacks-at done i n h = absurd (omega arith)
lacks-at (on {l = stores a (constant v)} q more) i n h = let e : n - 0 ≡ n = omega arith in rw (q, add-one, le-ltb n 0 (omega arith), e) (lacks-at more (suc i) n (omega (arith, h)))
lacks-at (on {l = stores a next_sample} q more) i zero h = rw q
lacks-at (on {l = stores a next_sample} q more) i (suc n) h = let e : suc n - 1 ≡ n = omega arith in rw (q, add-one, le-ltb (suc n) 1 (omega arith), e) (lacks-at more (suc i) n (omega (arith, h)))
lacks-at (on {l = loads o a} q more) i n h = let e : n - 0 ≡ n = omega arith in rw (q, add-one, le-ltb n 0 (omega arith), e) (lacks-at more (suc i) n h)
lacks-at (on {l = shows o l} q more) i n h = let e : n - 0 ≡ n = omega arith in rw (q, add-one, le-ltb n 0 (omega arith), e) (lacks-at more (suc i) n h)

-- ---- the work, with the samples that lent memory m has from number j on

low-here : (a size i : ℕ) (y : Option ℕ) → ◌≡◌ {A = Option ℕ} (elim (ltb a size) [ true ↦ y | false ↦ some i ]) none → (a < size) × (y ≡ none)
low-here a size i y e = go (ltb a size) refl
  where
    go : (b : Bool) → ltb a size ≡ b → (a < size) × (y ≡ none)
    go true q = (ltb-true a size q, rw q at e)
    go false q = absurd (let u : some i ≡ none = rw q at e in let z : ◌≡◌ {A = ℕ} 0 1 = cc in omega arith)

module _ (m : List ℕ) where
  abbrev pub from : ℕ → List ℕ
  from j = drop j (cells_of m)

  sample-is : (j : ℕ) → j < length (cells_of m) → worth next_sample (from j) ≡ cell_at m j
  sample-is j h = let e : j + 0 ≡ j = omega arith in get_or-drop j (cells_of m) 0 0 ∙ ap (λ (k : ℕ). get_or (cells_of m) k 0) e ∙ sym (cells_at m j h)

  later-is : (j : ℕ) → later next_sample (from j) ≡ from (j + 1)
  later-is j = drop-drop 1 j (cells_of m)

  -- the line's sample, and those after it
  sampled : (cs : List ℕ) (a j : ℕ) (ls : List Line) → j < length (cells_of m) → obey (set cs a (worth next_sample (from j))) (later next_sample (from j)) ls ≡ obey (set cs a (cell_at m j)) (from (j + 1)) ls
  sampled cs a j ls h = ap (λ (v : ℕ). obey (set cs a v) (later next_sample (from j)) ls) (sample-is j h) ∙ ap (λ (vs : List ℕ). obey (set cs a (cell_at m j)) vs ls) (later-is j)

  no-sample : (j : ℕ) → j + 0 ≡ j
  no-sample j = omega arith

  pub obeyed-cells : {es : List Entry} {ls : List Line} → Lined es ls → (size i j : ℕ) → high size i ls ≡ none → j + list_takes ls ≤ length (cells_of m) → (cs t : List ℕ) → size ≤ length cs
      → obey_cells (bytes_of cs ++ t) (filled_from m j es) ≡ bytes_of (obey cs (from j) ls).cells ++ t
  unfolding obey_cells filled_from obey high list_takes
  obeyed-cells done size i j h k cs t b = refl
  obeyed-cells (on {l = stores a (constant v)} q more) size i j h k cs t b =
      let l = low-here a size i _ h in
      rw (q, no-sample j, bytes-set cs t a v (omega (arith, l.0))) (obeyed-cells more size (suc i) j l.1 (omega (arith, k)) (set cs a v) t (rw length-set b))
  obeyed-cells (on {e = e} {l = stores a next_sample} {es = es} {ls = ls} q more) size i j h k cs t b =
      let l = low-here a size i _ h in
      let first : obey_cells (bytes_of cs ++ t) (filled_from m j (e ∷ es)) ≡ bytes_of (obey (set cs a (cell_at m j)) (from (j + 1)) ls).cells ++ t
      = rw (q, bytes-set cs t a (cell_at m j) (omega (arith, l.0))) (obeyed-cells more size (suc i) (j + 1) l.1 (omega (arith, k)) (set cs a (cell_at m j)) t (rw length-set b)) in
      first ∙ sym (ap (λ (r : Ran). bytes_of r.cells ++ t) (sampled cs a j ls (omega (arith, k))))
  obeyed-cells (on {l = loads o a} q more) size i j h k cs t b = rw (q, no-sample j) (obeyed-cells more size (suc i) j (low-here a size i _ h).1 k cs t b)
  obeyed-cells (on {l = shows o l} q more) size i j h k cs t b = rw (q, no-sample j) (obeyed-cells more size (suc i) j h k cs t b)

  pub obeyed-text : {es : List Entry} {ls : List Line} → Lined es ls → (size i j : ℕ) → high size i ls ≡ none → j + list_takes ls ≤ length (cells_of m) → (cs t : List ℕ) → size ≤ length cs
      → obey_text (bytes_of cs ++ t) (filled_from m j es) ≡ loads_text (obey cs (from j) ls).loaded
  unfolding obey_text filled_from obey high loads_text list_takes
  obeyed-text done size i j h k cs t b = refl
  obeyed-text (on {l = stores a (constant v)} q more) size i j h k cs t b =
      let l = low-here a size i _ h in
      rw (q, no-sample j, bytes-set cs t a v (omega (arith, l.0))) (obeyed-text more size (suc i) j l.1 (omega (arith, k)) (set cs a v) t (rw length-set b))
  obeyed-text (on {e = e} {l = stores a next_sample} {es = es} {ls = ls} q more) size i j h k cs t b =
      let l = low-here a size i _ h in
      let first : obey_text (bytes_of cs ++ t) (filled_from m j (e ∷ es)) ≡ loads_text (obey (set cs a (cell_at m j)) (from (j + 1)) ls).loaded
      = rw (q, bytes-set cs t a (cell_at m j) (omega (arith, l.0))) (obeyed-text more size (suc i) (j + 1) l.1 (omega (arith, k)) (set cs a (cell_at m j)) t (rw length-set b)) in
      first ∙ sym (ap (λ (r : Ran). loads_text r.loaded) (sampled cs a j ls (omega (arith, k))))
  obeyed-text (on {l = loads o a} q more) size i j h k cs t b =
      let l = low-here a size i _ h in
      rw (q, no-sample j, bytes-at cs t a (omega (arith, l.0)), obeyed-text more size (suc i) j l.1 k cs t b)
  obeyed-text (on {l = shows o l} q more) size i j h k cs t b = rw (q, no-sample j) (obeyed-text more size (suc i) j h k cs t b)

-- ---- lengths

load-length : (v : ℕ) → length (load_text v) ≡ 7
unfolding load_text hex2 hex4
load-length v = refl

pub text-length : (ls : List Line) (cs vs : List ℕ) → length (loads_text (obey cs vs ls).loaded) ≡ 7 * lines_loads ls
unfolding obey loads_text lines_loads
text-length [] cs vs = refl
text-length (stores a x ∷ ls) cs vs = text-length ls (set cs a (worth x vs)) (later x vs) ∙ omega arith
text-length (loads o a ∷ ls) cs vs = length-append (load_text (get_or cs a 0)) _ ∙ omega (arith, load-length (get_or cs a 0), text-length ls cs vs)
text-length (shows o l ∷ ls) cs vs = text-length ls cs vs ∙ omega arith

loads-most : (ls : List Line) → lines_loads ls ≤ length ls
unfolding lines_loads
loads-most [] = omega arith
loads-most (stores a x ∷ ls) = omega (arith, loads-most ls)
loads-most (loads o a ∷ ls) = omega (arith, loads-most ls)
loads-most (shows o l ∷ ls) = omega (arith, loads-most ls)

-- 7 bytes a load, at most one load a line
pub text-most : (ls : List Line) (cs vs : List ℕ) → length (loads_text (obey cs vs ls).loaded) ≤ 7 * length ls
text-most ls cs vs = omega (arith, text-length ls cs vs, loads-most ls)
