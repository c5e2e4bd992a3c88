-- Samples enough, or the first line without one; and that no other samples are looked at than those that are taken. Assumes nothing.
use mathlib.Core.Path.{◌≡◌, refl, sym, ap, ◌∙◌}
use mathlib.Core.Option.{Option, none, some}
use mathlib.Core.List.{List, [], ◌∷◌}
use Prim.Native.Nat.{ℕ, zero, suc, ◌+◌, ◌≤◌, ◌<◌}
use native.Mathlib.Omega.{arith}
use Rattle.rules.specs.Frames.{constant, next_sample, Line, stores, loads, shows}
use lib.ListN.{get_or, set, drop}
use lib.Seq.{get_or-drop}
use Rattle.rules.proofs.Chains.{none-some}
use Rattle.rules.specs.Meaning.{loading, obey, list_takes, lacking}

pub enough : (ls : List Line) (i n : ℕ) → list_takes ls ≤ n → lacking i n ls ≡ none
unfolding list_takes lacking
enough [] i n h = refl
enough (stores a (constant v) ∷ ls) i n h = enough ls (suc i) n (omega arith)
enough (stores a next_sample ∷ ls) i zero h = absurd (omega arith)
enough (stores a next_sample ∷ ls) i (suc n) h = enough ls (suc i) n (omega arith)
enough (loads o a ∷ ls) i n h = enough ls (suc i) n h
enough (shows o l ∷ ls) i n h = enough ls (suc i) n h

pub taken-by : (ls : List Line) (i n : ℕ) → lacking i n ls ≡ none → list_takes ls ≤ n
unfolding list_takes lacking
taken-by [] i n e = omega arith
taken-by (stores a (constant v) ∷ ls) i n e = let h = taken-by ls (suc i) n e in omega arith
taken-by (stores a next_sample ∷ ls) i zero e = none-some (sym e)
taken-by (stores a next_sample ∷ ls) i (suc n) e = let h = taken-by ls (suc i) n e in omega arith
taken-by (loads o a ∷ ls) i n e = taken-by ls (suc i) n e
taken-by (shows o l ∷ ls) i n e = taken-by ls (suc i) n e

pub record Found (o : Option ℕ) : Type 0 where
  pub line : ℕ
  pub is : o ≡ some line

pub too_few : (ls : List Line) (i n : ℕ) → n < list_takes ls → Found (lacking i n ls)
unfolding list_takes lacking
too_few [] i n h = absurd (omega arith)
too_few (stores a (constant v) ∷ ls) i n h = too_few ls (suc i) n (omega arith)
too_few (stores a next_sample ∷ ls) i zero h = record { line = i; is = refl }
too_few (stores a next_sample ∷ ls) i (suc n) h = too_few ls (suc i) n (omega arith)
too_few (loads o a ∷ ls) i n h = too_few ls (suc i) n h
too_few (shows o l ∷ ls) i n h = too_few ls (suc i) n h

-- the first n samples of vs and ws are the same
abbrev pub Alike : ℕ → List ℕ → List ℕ → Type 0
Alike n vs ws = (j : ℕ) → j < n → get_or vs j 0 ≡ get_or ws j 0

alike-on : (n : ℕ) (vs ws : List ℕ) → Alike (suc n) vs ws → Alike n (drop 1 vs) (drop 1 ws)
alike-on n vs ws h j l = get_or-drop 1 vs j 0 ∙ h (1 + j) (omega arith) ∙ sym (get_or-drop 1 ws j 0)

pub obey-alike : (ls : List Line) (cells vs ws : List ℕ) → Alike (list_takes ls) vs ws → obey cells vs ls ≡ obey cells ws ls
unfolding list_takes obey
obey-alike [] cells vs ws h = refl
obey-alike (stores a (constant v) ∷ ls) cells vs ws h = obey-alike ls (set cells a v) vs ws (λ j l. h j (omega arith))
obey-alike (stores a next_sample ∷ ls) cells vs ws h =
    ap (λ (v : ℕ). obey (set cells a v) (drop 1 vs) ls) (h 0 (omega arith))
    ∙ obey-alike ls (set cells a (get_or ws 0 0)) (drop 1 vs) (drop 1 ws) (alike-on (list_takes ls) vs ws (λ j l. h j (omega arith)))
obey-alike (loads o a ∷ ls) cells vs ws h = ap (loading (get_or cells a 0)) (obey-alike ls cells vs ws h)
obey-alike (shows o l ∷ ls) cells vs ws h = obey-alike ls cells vs ws h
