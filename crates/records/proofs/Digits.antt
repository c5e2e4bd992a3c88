-- Digits, by what `digit_value` answers. Assumes nothing.
use mathlib.Core.Path.{◌≡◌, refl, sym, ap, ◌∙◌}
use mathlib.Core.Bool.{Bool, true, false}
use Prim.Native.Nat.{ℕ, ◌≤◌, ◌<◌}
use native.Mathlib.Omega.{arith}
use lib.Dec.{ltb}
use borrow.Author.Tests.{ltb-true, ltb-false}
use Rattle.std.specs.declared.option.Option.{Option}
use Rattle.std.specs.declared.option.Option.TheVariants.{Some, None}
use Rattle.std.specs.Option.{is_some}
use Rattle.rules.specs.Text.{value}
use Rattle.rules.proofs.Tells.{decided}
use Rattle.text.specs.Shapes.{pick}
use Rattle.text.specs.Lines.{digit_in}
use Rattle.text.proofs.Values.{value_low, value-digit, value_mid, value-letter, value-high}

-- a byte that is no digit counts 16
pub value-none : (x : ℕ) → 16 ≤ value x → value x ≡ 16
value-none x h =
    decided (ltb x 48) (λ a. value_low x (ltb-true x 48 a))
    (λ a.
    let low : 48 ≤ x = ltb-false x 48 a in
    decided (ltb 57 x)
    (λ b.
    let over : 57 < x = ltb-true 57 x b in
    decided (ltb x 97) (λ d. value_mid x over (ltb-true x 97 d))
    (λ d.
    let letter : 97 ≤ x = ltb-false x 97 d in
    decided (ltb 102 x) (λ e. value-high x (ltb-true 102 x e)) (λ e. let top : x ≤ 102 = ltb-false 102 x e in absurd (omega (arith, h, value-letter x letter top, top)))))
    (λ b. let top : x ≤ 57 = ltb-false 57 x b in absurd (omega (arith, h, value-digit x low top, top))))

pub digit-some : (c : ℕ) (o : Option ℕ) → o ≡ digit_in c → is_some o ≡ ltb (value c) 16
digit-some c o e = ap is_some e ∙ go (ltb (value c) 16) refl
  where
    go : (b : Bool) → ltb (value c) 16 ≡ b → is_some (pick b (Some (value c)) None) ≡ b
    go true q = refl
    go false q = refl
