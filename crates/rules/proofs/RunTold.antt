-- A run with what a reader's state and the kept samples tell is the run with the recording, where as many samples are kept as the list
-- takes. Assumes nothing.
use mathlib.Core.Path.{◌≡◌, refl, sym, ap, ◌∙◌}
use mathlib.Core.Bool.{Bool, true, false, ◌||◌}
use mathlib.Core.Option.{Option, none, some}
use mathlib.Core.List.{List, [], ◌∷◌, ◌++◌}
use Prim.Native.Nat.{ℕ, zero, suc, ◌-◌, ◌≤◌, ◌<◌}
use native.Mathlib.Omega.{arith}
use lib.Dec.{eqb, ltb}
use lib.ListN.{length, get_or, take, drop, replicate, length-append, length-take, length-drop}
use lib.Seq.{get_or-take}
use borrow.Author.Tests.{le-ltb}
use Rattle.rules.specs.Frames.{Line}
use Rattle.rules.specs.Meaning.{Ran, high, list_takes, lacking}
use Rattle.rules.specs.Text.{Listed, listed, unlisted}
use Rattle.rules.specs.Recordings.{Recording, recorded, malformed, recording, Reader, ended}
use Rattle.rules.specs.Entries.{ran, stopped, run_sampled, run_listed, cells_of}
use Rattle.rules.specs.Cuts.{Told}
use Rattle.rules.proofs.Taking.{Alike, obey-alike, taken-by}

get_d_front : (xs ys : List ℕ) (j : ℕ) → j < length xs → get_or (xs ++ ys) j 0 ≡ get_or xs j 0
get_d_front [] ys j h = absurd (omega arith)
get_d_front (x ∷ xs) ys zero h = refl
get_d_front (x ∷ xs) ys (suc j) h = get_d_front xs ys j (omega arith)

-- two ways to keep samples, both of them enough
enough-kept : (cells : List ℕ) (size n : ℕ) (ls : List Line) (vs ws : List ℕ) → lacking 0 n ls ≡ none → list_takes ls ≤ length vs → list_takes ls ≤ length ws → Alike (list_takes ls) vs ws
    → run_sampled cells size ls (recorded n vs) ≡ run_sampled cells size ls (recorded n ws)
enough-kept cells size n ls vs ws e v w h =
    rw (e, le-ltb (length vs) (list_takes ls) v, le-ltb (length ws) (list_takes ls) w, run_sampled)
    (ap (λ (x : Ran). elim (ltb (length cells) size || false) [ true ↦ stopped 17 0 | false ↦ ran x (n - list_takes ls) ]) (obey-alike ls (replicate size 0 ++ drop size cells) vs ws h))

module _ (cells s memory : List ℕ) (r : Reader) (left : List ℕ) (t : Told s memory r left) where
  abbrev vs : List ℕ
  vs = t.samples

  kept-length : length (cells_of left) ≡ length (cells_of memory)
  kept-length =
      ap length t.cells
      ∙ omega (arith, length-append (take (length (cells_of memory)) vs) (drop (length vs) (cells_of memory)), length-take (length (cells_of memory)) vs, length-drop (length vs) (cells_of memory))

  kept-alike : (k : ℕ) → k ≤ length vs → k ≤ length (cells_of memory) → Alike k (cells_of left) vs
  kept-alike k a b j l =
      ap (λ (x : List ℕ). get_or x j 0) t.cells
      ∙ get_d_front (take (length (cells_of memory)) vs) (drop (length vs) (cells_of memory)) j (omega (arith, length-take (length (cells_of memory)) vs))
      ∙ get_or-take (length (cells_of memory)) vs j 0 (omega arith)

  sampled : (ls : List Line) (size : ℕ) → list_takes ls ≤ length (cells_of memory)
      → run_sampled cells size ls (recorded r.line (cells_of left)) ≡ run_sampled cells size ls (recorded r.line vs)
  sampled ls size room = go (lacking 0 r.line ls) refl
    where
      go : (o : Option ℕ) → lacking 0 r.line ls ≡ o → run_sampled cells size ls (recorded r.line (cells_of left)) ≡ run_sampled cells size ls (recorded r.line vs)
      go (some i) e = rw (e, run_sampled)
      go none e =
          let few : list_takes ls ≤ length vs = omega (arith, taken-by ls 0 r.line e, t.counted) in
          enough-kept cells size r.line ls (cells_of left) vs e (omega (arith, kept-length)) few (kept-alike (list_takes ls) few room)

  by-column : (ls : List Line) (size : ℕ) → list_takes ls ≤ length (cells_of memory)
      → run_sampled cells size ls (ended r (cells_of left)) ≡ run_sampled cells size ls (ended r vs)
  by-column ls size room = go (eqb r.column 0)
    where
      go : (b : Bool) → run_sampled cells size ls (elim b [ true ↦ recorded r.line (cells_of left) | false ↦ malformed r.line ])
          ≡ run_sampled cells size ls (elim b [ true ↦ recorded r.line vs | false ↦ malformed r.line ])
      go true = sampled ls size room
      go false = refl

  pub runs-as-told : (l : Listed) → ((ls : List Line) (size : ℕ) → l ≡ listed ls size → list_takes ls ≤ length (cells_of memory))
      → run_listed cells (ended r (cells_of left)) l ≡ run_listed cells (recording s) l
  unfolding run_listed
  runs-as-told (unlisted n i) room = refl
  runs-as-told (listed ls size) room =
      go (high size 0 ls) refl ∙ ap (λ (x : Recording). run_listed cells x (listed ls size)) (sym t.told)
    where
      go : (o : Option ℕ) → high size 0 ls ≡ o → run_listed cells (ended r (cells_of left)) (listed ls size) ≡ run_listed cells (ended r vs) (listed ls size)
      go (some i) e = rw (e, run_listed)
      go none e = rw (e, run_listed) (by-column ls size (room ls size refl))
