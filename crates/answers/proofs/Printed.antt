-- What is printed, by its promise. Assumes nothing.
use mathlib.Core.Path.{◌≡◌, sym, ap, subst, ◌∙◌}
use mathlib.Core.List.{List}
use Prim.Native.Nat.{ℕ, ◌+◌, ◌≤◌}
use native.Mathlib.Omega.{arith}
use lib.ListN.{length, take, drop, length-append}
use lib.Seq.{take_at, length-take-le}
use Rattle.rules.specs.Text.{hex2, hex4}
use Rattle.rules.specs.Entries.{ee_text}
use Rattle.text.specs.Writing.{over}
use Rattle.answers.specs.Prints.{Prints}

-- any two results that the promise admits are equal
pub prints-one : {text out : List ℕ} {n n' : ℕ} {out' out'' : List ℕ} → Prints text out n out' → Prints text out n' out'' → (n ≡ n') × (out' ≡ out'')
prints-one p q = (p.count ∙ sym q.count, p.bytes ∙ sym q.bytes)

pub prints-as : {text text' out : List ℕ} {n : ℕ} {out' : List ℕ} → text ≡ text' → Prints text out n out' → Prints text' out n out'
prints-as {out = out} {n = n} {out' = out'} e p = subst (λ (t : List ℕ). Prints t out n out') e p

-- what is printed lies within out, and is the text
pub prints-in : {text out : List ℕ} {n : ℕ} {out' : List ℕ} → Prints text out n out' → n ≤ length out'
prints-in {text = text} {out = out} p = omega (arith, p.count, ap length p.bytes, length-append text (drop (length text) out))

pub prints-all : {text out : List ℕ} {n : ℕ} {out' : List ℕ} → Prints text out n out' → n ≡ length (take n out')
prints-all {n = n} {out' = out'} p = sym (length-take-le n out' (prints-in p))

pub prints-text : {text out : List ℕ} {n : ℕ} {out' : List ℕ} → Prints text out n out' → take n out' ≡ text
prints-text {text = text} {out = out} {n = n} p = ap (take n) p.bytes ∙ take_at text (drop (length text) out) n (sym p.count)

-- the line of a refusal, written at the start
pub ee-printed : (n i : ℕ) (out : List ℕ) (k : ℕ) (out' : List ℕ) → k ≡ 0 + 9 → out' ≡ over out 0 (ee_text n i) → Prints (ee_text n i) out k out'
unfolding over ee_text hex2 hex4
ee-printed n i out k out' e q = record { count = e; bytes = q }
