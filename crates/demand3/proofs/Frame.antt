-- A frame lies at the front of the lent cells: what the machine does to it, and the bytes behind it. Assumes nothing.
use mathlib.Core.Path.{◌≡◌, refl, sym, ap, ◌∙◌}
use mathlib.Core.Bool.{Bool, true, false}
use mathlib.Core.Option.{Option, none, some}
use mathlib.Core.List.{List, [], ◌∷◌, ◌++◌, append_assoc}
use Prim.Native.Nat.{ℕ, zero, suc, ◌+◌, ◌*◌, ◌/◌, ◌%◌, ◌≤◌, ◌<◌}
use native.Mathlib.Omega.{arith}
use lib.Dec.{ltb}
use lib.ListN.{length, drop, set, replicate, length-set, length-replicate}
use lib.Seq.{set-append_left}
use borrow.Author.Tests.{ltb-true}
use Rattle.rules.specs.Frames.{Line, stores, loads, shows}
use Rattle.rules.specs.Meaning.{worth, later, obey, high}
use Rattle.rules.specs.Text.{hex2, hex4}
use Rattle.rules.specs.Entries.{load_text, loads_text, over_front, cells_of, odd_byte, bytes_of}
use Rattle.machine.specs.Machine.{Bytes}
use Rattle.machine.proofs.Cells.{zero-bytes}
use Rattle.demand3.specs.Together.{frame_after}

-- ---- 7 bytes a load

pub text-length : (vs : List ℕ) → length (loads_text vs) ≡ 7 * length vs
unfolding loads_text load_text hex2 hex4
text-length [] = refl
text-length (v ∷ vs) = omega (arith, text-length vs)

-- ---- the machine

-- a line's address that isn't too high
low-here : (a size i : ℕ) (y : Option ℕ) → ◌≡◌ {A = Option ℕ} (elim (ltb a size) [ true ↦ y | false ↦ some i ]) none → (a < size) × (y ≡ none)
low-here a size i y e = go (ltb a size) refl
  where
    go : (b : Bool) → ltb a size ≡ b → (a < size) × (y ≡ none)
    go true q = (ltb-true a size q, rw q at e)
    go false q = absurd (let u : some i ≡ none = rw q at e in let z : ◌≡◌ {A = ℕ} 0 1 = cc in omega arith)

-- cells behind the frame make no difference to it, and stay
obey-front : (ls : List Line) (i : ℕ) (vs frame back : List ℕ) → high (length frame) i ls ≡ none → (obey (frame ++ back) vs ls).cells ≡ (obey frame vs ls).cells ++ back
unfolding obey high
obey-front [] i vs frame back e = refl
obey-front (shows o l ∷ ls) i vs frame back e = obey-front ls (suc i) vs frame back e
obey-front (loads o a ∷ ls) i vs frame back e = obey-front ls (suc i) vs frame back (low-here a (length frame) i _ e).1
obey-front (stores a x ∷ ls) i vs frame back e =
    let k = low-here a (length frame) i _ e in
    ap (λ (cs : List ℕ). (obey cs (later x vs) ls).cells) (set-append_left frame back a (worth x vs) k.0)
    ∙ obey-front ls (suc i) (later x vs) (set frame a (worth x vs)) back (rw length-set k.1)

obey-length : (ls : List Line) (vs cells : List ℕ) → length (obey cells vs ls).cells ≡ length cells
unfolding obey
obey-length [] vs cells = refl
obey-length (shows o l ∷ ls) vs cells = obey-length ls vs cells
obey-length (loads o a ∷ ls) vs cells = obey-length ls vs cells
obey-length (stores a x ∷ ls) vs cells = obey-length ls (later x vs) (set cells a (worth x vs)) ∙ length-set cells a (worth x vs)

-- ---- cells as bytes

bytes-append : (xs ys : List ℕ) → bytes_of (xs ++ ys) ≡ bytes_of xs ++ bytes_of ys
unfolding bytes_of
bytes-append [] ys = refl
bytes-append (x ∷ xs) ys = ap (λ (l : List ℕ). x / 256 ∷ x % 256 ∷ l) (bytes-append xs ys)

bytes-length : (xs : List ℕ) → length (bytes_of xs) ≡ 2 * length xs
unfolding bytes_of
bytes-length [] = refl
bytes-length (x ∷ xs) = omega (arith, bytes-length xs)

-- the bytes behind a frame
bytes-behind : (size : ℕ) (bs : List ℕ) → Bytes bs → size ≤ length (cells_of bs) → bytes_of (drop size (cells_of bs)) ++ odd_byte bs ≡ drop (2 * size) bs
unfolding cells_of bytes_of odd_byte
bytes-behind zero bs b h = sym (zero-bytes 0 bs b h)
bytes-behind (suc size) [] b h = absurd (omega arith)
bytes-behind (suc size) (x ∷ []) b h = absurd (omega arith)
bytes-behind (suc size) (x ∷ y ∷ bs) b h =
    let e : 2 * suc size ≡ suc (suc (2 * size)) = omega arith in
    rw e (bytes-behind size bs (λ k. b (suc (suc k))) (omega arith))

-- the cells of a run, written back
pub cells-back : (cs bs : List ℕ) → cells_of (bytes_of cs ++ odd_byte bs) ≡ cs
unfolding cells_of bytes_of odd_byte
cells-back [] [] = refl
cells-back [] (x ∷ []) = refl
cells-back [] (x ∷ y ∷ bs) = cells-back [] bs
cells-back (c ∷ cs) bs = let e : c / 256 * 256 + c % 256 ≡ c = omega arith in rw (e, cells-back cs bs)

pub odd-back : (cs bs : List ℕ) → odd_byte (bytes_of cs ++ odd_byte bs) ≡ odd_byte bs
unfolding bytes_of odd_byte
odd-back [] [] = refl
odd-back [] (x ∷ []) = refl
odd-back [] (x ∷ y ∷ bs) = odd-back [] bs
odd-back (c ∷ cs) bs = odd-back cs bs

-- ---- run's cells: the frame over the front of what was lent

pub frame-front : (ls : List Line) (size : ℕ) (bs : List ℕ) → high size 0 ls ≡ none → Bytes bs → size ≤ length (cells_of bs)
    → bytes_of (obey (replicate size 0 ++ drop size (cells_of bs)) [] ls).cells ++ odd_byte bs ≡ over_front (frame_after ls size) bs
frame-front ls size bs low b h =
    let zeros : List ℕ = replicate size 0 in
    let back : List ℕ = drop size (cells_of bs) in
    let frame : List ℕ = (obey zeros [] ls).cells in
    let l : length zeros ≡ size = length-replicate size 0 in
    let low' : high (length zeros) 0 ls ≡ none = rw l low in
    let n : 2 * size ≡ length (bytes_of frame) = sym (bytes-length frame ∙ ap (λ (k : ℕ). 2 * k) (obey-length ls [] zeros ∙ l)) in
    ap (λ (cs : List ℕ). bytes_of cs ++ odd_byte bs) (obey-front ls 0 [] zeros back low')
    ∙ ap (λ (x : List ℕ). x ++ odd_byte bs) (bytes-append frame back)
    ∙ append_assoc (bytes_of frame) (bytes_of back) (odd_byte bs)
    ∙ ap (λ (x : List ℕ). bytes_of frame ++ x) (bytes-behind size bs b h)
    ∙ ap (λ (k : ℕ). bytes_of frame ++ drop k bs) n
