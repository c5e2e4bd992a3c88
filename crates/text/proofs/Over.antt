-- Text over a part of a buffer. Assumes nothing.
use mathlib.Core.Path.{◌≡◌, refl, sym, ap, ◌∙◌}
use mathlib.Core.List.{List, [], ◌∷◌, ◌++◌, append_assoc, append-nil}
use Prim.Native.Nat.{ℕ, ◌+◌, ◌*◌, ◌/◌, ◌%◌, ◌≤◌, ◌<◌}
use native.Mathlib.Omega.{arith}
use native.Mathlib.Numerals.{add-one}
use native.Mathlib.Nat.{add-zero}
use lib.ListN.{length, get_or, set, take, drop, length-append, take-append-drop}
use lib.Seq.{take-suc, sets, sets-eq, take_at, drop_at, drop-drop, length-take-le}
use Rattle.rules.specs.Text.{digit, hex2, hex4, hexes, line_text}
use Rattle.rules.specs.Frames.{shows}
use Rattle.rules.specs.Entries.{ee_text, malformed_text}
use Rattle.text.specs.Writing.{over}

pub over-sets : (out : List ℕ) (w : ℕ) (t : List ℕ) → w + length t ≤ length out → sets out w t ≡ over out w t
unfolding over
over-sets out w t h = sets-eq t out w h

-- nothing over it
pub over_nothing : (out : List ℕ) (w : ℕ) → out ≡ over out w []
unfolding over
over_nothing out w = rw (add-zero, append-nil) (sym (take-append-drop w out))

-- what is written next to what was written
pub over-over : (out : List ℕ) (w : ℕ) (t : List ℕ) (w' : ℕ) (u : List ℕ) → w ≤ length out → w' ≡ w + length t → over (over out w t) w' u ≡ over out w (t ++ u)
unfolding over
over-over out w t w' u h e =
    let lp : length (take w out ++ t) ≡ w' = length-append (take w out) t ∙ omega (arith, length-take-le w out h) in
    let a : take w' (take w out ++ t ++ drop (w + length t) out) ≡ take w out ++ t = take_at (take w out ++ t) (drop (w + length t) out) w' lp in
    let b : drop w' (take w out ++ t ++ drop (w + length t) out) ≡ drop (w + length t) out = drop_at (take w out ++ t) (drop (w + length t) out) w' lp in
    let le : w + length t + length u ≡ w + length (t ++ u) = omega (arith, length-append t u) in
    let d : drop (w' + length u) (take w out ++ t ++ drop (w + length t) out) ≡ drop (w + length (t ++ u)) out =
    sym (drop-drop (length u) w' (take w out ++ t ++ drop (w + length t) out)) ∙ ap (drop (length u)) b ∙ drop-drop (length u) (w + length t) out
    ∙ ap (λ (n : ℕ). drop n out) le in
    rw (a, d, append_assoc, append_assoc, append_assoc, append_assoc)

pub byte_put : (out : List ℕ) (w n a b : ℕ) → w + 2 ≤ length out → a ≡ digit (n / 16) → b ≡ digit (n % 16) → set (set out w a) (w + 1) b ≡ over out w (hex2 n)
unfolding hex2
byte_put out w n a b h ea eb = rw (← ea, ← eb) (simp add-one (over-sets out w (a ∷ b ∷ []) h))

hex-halves : (n : ℕ) → n < 65536 → hex2 (n / 256) ++ hex2 (n % 256) ≡ hex4 n
unfolding hex2 hex4
hex-halves n h =
    let e1 : n / 256 / 16 ≡ n / 4096 = omega arith in
    let e3 : n % 256 / 16 ≡ n / 16 % 16 = omega arith in
    let e4 : n % 256 % 16 ≡ n % 16 = omega arith in
    rw (e1, e3, e4)

pub end-put : (out : List ℕ) (w : ℕ) → w + 1 ≤ length out → set out w 10 ≡ over out w (10 ∷ [])
end-put out w h = over-sets out w (10 ∷ []) h

pub next : (out out1 out2 : List ℕ) (w w1 : ℕ) (t u : List ℕ) → w ≤ length out → w1 ≡ w + length t → out1 ≡ over out w t → out2 ≡ over out1 w1 u → out2 ≡ over out w (t ++ u)
next out out1 out2 w w1 t u h e e1 e2 = e2 ∙ ap (λ (o : List ℕ). over o w1 u) e1 ∙ over-over out w t w1 u h e

pub word-put : (out out1 out2 : List ℕ) (w w1 n a b : ℕ) → n < 65536 → w ≤ length out → w1 ≡ w + 2 → a ≡ n / 256 → b ≡ n % 256 → out1 ≡ over out w (hex2 a) → out2 ≡ over out1 w1 (hex2 b)
    → out2 ≡ over out w (hex4 n)
unfolding hex2
word-put out out1 out2 w w1 n a b small h e ea eb p q =
    next out out1 out2 w w1 (hex2 a) (hex2 b) h e p q ∙ (rw (ea, eb) (ap (over out w) (hex-halves n small)))

-- ---- any number of operands

pub hexes-length : (l : List ℕ) → length (hexes l) ≡ 4 * length l
unfolding hexes hex4
hexes-length [] = refl
hexes-length (a ∷ l) = omega (arith, hexes-length l)

hexes-append : (l m : List ℕ) → hexes (l ++ m) ≡ hexes l ++ hexes m
unfolding hexes
hexes-append [] m = refl
hexes-append (a ∷ l) m = rw (hexes-append l m, append_assoc)

hexes-one : (a : ℕ) → hexes (a ∷ []) ≡ hex4 a
unfolding hexes hex4
hexes-one a = refl

pub hexes-more : (ws : List ℕ) (i : ℕ) → i < length ws → hexes (take i ws) ++ hex4 (get_or ws i 0) ≡ hexes (take (i + 1) ws)
hexes-more ws i h = sym (rw (add-one, take-suc ws i 0 h, hexes-append, hexes-one))

pub words-none : (out : List ℕ) (w : ℕ) (ws : List ℕ) → out ≡ over out w (hexes (take 0 ws))
unfolding hexes
words-none out w ws = over_nothing out w

pub line-put : (out out1 out2 out3 : List ℕ) (w w1 w2 o : ℕ) (l : List ℕ) → w ≤ length out → w1 ≡ w + 2 → w2 ≡ w1 + 4 * length l
    → out1 ≡ over out w (hex2 o) → out2 ≡ over out1 w1 (hexes l) → out3 ≡ over out2 w2 (10 ∷ []) → out3 ≡ over out w (line_text (shows o l))
unfolding hex2 line_text
line-put out out1 out2 out3 w w1 w2 o l h e1 e2 p1 p2 p3 =
    let a = next out out1 out2 w w1 (hex2 o) (hexes l) h e1 p1 p2 in
    let n : length (hexes l) ≡ 4 * length l = hexes-length l in
    next out out2 out3 w w2 (hex2 o ++ hexes l) (10 ∷ []) h (omega (arith, n)) a p3

pub words_more : (out out1 out2 : List ℕ) (w v i : ℕ) (ws : List ℕ) → w ≤ length out → i < length ws → v ≡ w + 4 * i → out1 ≡ over out w (hexes (take i ws)) → out2 ≡ over out1 v (hex4 (get_or ws i 0))
    → out2 ≡ over out w (hexes (take (i + 1) ws))
words_more out out1 out2 w v i ws h k e p q =
    let l : length (take i ws) ≡ i = length-take-le i ws (omega arith) in
    next out out1 out2 w v (hexes (take i ws)) (hex4 (get_or ws i 0)) h (omega (arith, hexes-length (take i ws))) p q ∙ ap (over out w) (hexes-more ws i k)

pub drain-put : (out out1 out2 out3 out4 : List ℕ) (w w1 w2 w3 : ℕ) (ws : List ℕ) → w ≤ length out → w1 ≡ w + 2 → w2 ≡ w1 + 4 → w3 ≡ w2 + 4 * length ws
    → out1 ≡ over out w (hex2 15) → out2 ≡ over out1 w1 (hex4 (length ws)) → out3 ≡ over out2 w2 (hexes ws) → out4 ≡ over out3 w3 (10 ∷ [])
    → out4 ≡ over out w (line_text (shows 15 (length ws ∷ ws)))
unfolding hex2 hex4 line_text hexes
drain-put out out1 out2 out3 out4 w w1 w2 w3 ws h e1 e2 e3 p1 p2 p3 p4 =
    let l = hexes-length ws in
    let a = next out out1 out2 w w1 (hex2 15) (hex4 (length ws)) h e1 p1 p2 in
    let b = next out out2 out3 w w2 (hex2 15 ++ hex4 (length ws)) (hexes ws) h (omega arith) a p3 in
    next out out3 out4 w w3 ((hex2 15 ++ hex4 (length ws)) ++ hexes ws) (10 ∷ []) h (omega (arith, l)) b p4

pub refusal-put : (out out1 out2 out3 out4 : List ℕ) (w w1 w2 w3 n i : ℕ) → w ≤ length out → w1 ≡ w + 2 → w2 ≡ w1 + 2 → w3 ≡ w2 + 4
    → out1 ≡ over out w (hex2 0xee) → out2 ≡ over out1 w1 (hex2 n) → out3 ≡ over out2 w2 (hex4 i) → out4 ≡ over out3 w3 (10 ∷ [])
    → out4 ≡ over out w (ee_text n i)
unfolding hex2 hex4 ee_text
refusal-put out out1 out2 out3 out4 w w1 w2 w3 n i h e1 e2 e3 p1 p2 p3 p4 =
    let a = next out out1 out2 w w1 (hex2 0xee) (hex2 n) h e1 p1 p2 in
    let b = next out out2 out3 w w2 (hex2 0xee ++ hex2 n) (hex4 i) h (omega arith) a p3 in
    next out out3 out4 w w3 ((hex2 0xee ++ hex2 n) ++ hex4 i) (10 ∷ []) h (omega arith) b p4

pub malformed-put : (out out1 out2 : List ℕ) (w w1 i : ℕ) → w ≤ length out → w1 ≡ w + 2 → out1 ≡ over out w (hex2 0xee) → out2 ≡ over out1 w1 (line_text (shows 24 (i / 65536 ∷ i % 65536 ∷ [])))
    → out2 ≡ over out w (malformed_text i)
unfolding hex2 hex4 hexes line_text malformed_text
malformed-put out out1 out2 w w1 i h e p q = next out out1 out2 w w1 (hex2 0xee) (line_text (shows 24 (i / 65536 ∷ i % 65536 ∷ []))) h e p q
