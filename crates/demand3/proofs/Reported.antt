-- The size that a list reports: what translate writes ends in the line of its size, and no list reports two. Assumes nothing.
use mathlib.Core.Path.{◌≡◌, refl, sym, ap, ◌∙◌}
use mathlib.Core.Bool.{Bool, true, false}
use mathlib.Core.List.{List, [], ◌∷◌, ◌++◌, append_assoc}
use Prim.Native.Nat.{ℕ, ◌+◌, ◌*◌, ◌/◌, ◌%◌}
use native.Mathlib.Omega.{arith}
use lib.Dec.{ltb}
use lib.ListN.{length, drop, length-append}
use lib.Seq.{drop_at}
use borrow.Author.Tests.{ltb-true, ltb-false}
use Rattle.rules.specs.Frames.{Line, shows}
use Rattle.rules.specs.Text.{digit, hex2, hex4, hexes, line_text, list_text}
use Rattle.demand3.specs.Promises.{Reports}

abbrev size_line : ℕ → List ℕ
size_line size = line_text (shows 0x90 (size ∷ []))

pub text-reports : (ls : List Line) (size : ℕ) → Reports (list_text ls size) size
unfolding list_text
text-reports [] size = record { before = []; last = refl }
text-reports (l ∷ ls) size =
    let r = text-reports ls size in
    record { before = line_text l ++ r.before; last = ap (λ (t : List ℕ). line_text l ++ t) r.last ∙ sym (append_assoc (line_text l) r.before (size_line size)) }

-- ---- no two sizes have one line

digit-one : (n m : ℕ) → digit n ≡ digit m → n ≡ m
unfolding digit
digit-one n m = go (ltb n 10) (ltb m 10) refl refl
  where
    go : (a b : Bool) → ltb n 10 ≡ a → ltb m 10 ≡ b → ◌≡◌ {A = ℕ} (elim a [ true ↦ 48 + n | false ↦ 87 + n ]) (elim b [ true ↦ 48 + m | false ↦ 87 + m ]) → n ≡ m
    go true true p q e = omega arith
    go true false p q e = absurd (omega (arith, ltb-true n 10 p, ltb-false m 10 q))
    go false true p q e = absurd (omega (arith, ltb-false n 10 p, ltb-true m 10 q))
    go false false p q e = omega arith

abbrev joined : ℕ → ℕ → ℕ → ℕ → ℕ
joined a b c d = a * 4096 + b * 256 + c * 16 + d

digits_of : (n : ℕ) → n ≡ joined (n / 4096) (n / 256 % 16) (n / 16 % 16) (n % 16)
digits_of n = omega arith

size-one : (n m : ℕ) → size_line n ≡ size_line m → n ≡ m
unfolding line_text hex2 hexes hex4
size-one n m e =
    let a : n / 4096 ≡ m / 4096 = digit-one _ _ (cc) in
    let b : n / 256 % 16 ≡ m / 256 % 16 = digit-one _ _ (cc) in
    let c : n / 16 % 16 ≡ m / 16 % 16 = digit-one _ _ (cc) in
    let d : n % 16 ≡ m % 16 = digit-one _ _ (cc) in
    digits_of n ∙ rw (a, b, c, d) (sym (digits_of m))

size-length : (n : ℕ) → length (size_line n) ≡ 7
unfolding line_text hex2 hexes hex4
size-length n = refl

pub reports-one : (list : List ℕ) (n m : ℕ) → Reports list n → Reports list m → n ≡ m
reports-one list n m p q =
    let a : length list ≡ length p.before + 7 = ap length p.last ∙ length-append p.before (size_line n) ∙ ap (λ (k : ℕ). length p.before + k) (size-length n) in
    let b : length list ≡ length q.before + 7 = ap length q.last ∙ length-append q.before (size_line m) ∙ ap (λ (k : ℕ). length q.before + k) (size-length m) in
    let e : length q.before ≡ length p.before = omega arith in
    size-one n m
    (sym (drop_at p.before (size_line n) (length p.before) refl)
    ∙ sym (ap (drop (length p.before)) p.last)
    ∙ ap (drop (length p.before)) q.last
    ∙ drop_at q.before (size_line m) (length p.before) e)
