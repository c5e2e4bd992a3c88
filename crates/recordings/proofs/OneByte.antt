-- Whether a byte may come next, by what the code asks of it. Assumes nothing.
use mathlib.Core.Path.{◌≡◌, refl, ◌∙◌}
use mathlib.Core.Bool.{Bool, true, false, not, ◌&&◌}
use Prim.Native.Nat.{ℕ, ◌≤◌, ◌<◌}
use native.Mathlib.Omega.{arith}
use lib.Dec.{eqb}
use borrow.Author.Tests.{eq-eqb, ne_eqb, eqb-true, eqb-false}
use Rattle.std.specs.declared.option.Option.{Option}
use Rattle.std.specs.declared.option.Option.TheVariants.{Some, None}
use Rattle.rules.specs.Recordings.{Reader, fits_at, fits, digits}
use Rattle.text.specs.Shapes.{pick}
use Rattle.recordings.specs.Reading.{digits_with}

module _ (r : Reader) (c : ℕ) where
  within-lines : r.line < 4294967295 → fits r c ≡ fits_at r.column c
  within-lines l = rw (ne_eqb r.line 4294967295 (λ q. omega (arith, q, l)), fits)

  pub fits-end : r.line < 4294967295 → r.column ≡ 6 → c ≡ 10 → fits r c ≡ true
  unfolding fits_at
  fits-end l k e = within-lines l ∙ rw (k, e)

  pub record Goes (v : ℕ) : Type 0 where
    pub may : fits r c ≡ true
    pub inside : r.column ≡ 6 → ⊥
    pub makes : v ≡ digits r.column r.value c

  pub fits_on : r.line < 4294967295 → (v : ℕ) → Some v ≡ digits_with r.column r.value c → Goes v
  fits_on l v e = go (fits_at r.column c) refl (eqb r.column 6) refl e
    where
      go : (a : Bool) → fits_at r.column c ≡ a → (b : Bool) → eqb r.column 6 ≡ b → Some v ≡ pick (a && not b) (Some (digits r.column r.value c)) None → Goes v
      go true p false q e = record { may = within-lines l ∙ p; inside = eqb-false _ _ q; makes = cc }
      go true p true q e = cc
      go false p b q e = cc

  -- it is no LF where one ends the line, nor the next digit of one that goes on
  pub fits-off : r.line < 4294967295 → (r.column ≡ 6 → c ≡ 10 → ⊥) → None ≡ digits_with r.column r.value c → fits r c ≡ false
  unfolding fits_at
  fits-off l n e = within-lines l ∙ go (fits_at r.column c) refl (eqb r.column 6) refl e
    where
      lf : r.column ≡ 6 → fits_at r.column c ≡ eqb c 10
      lf k = rw k

      go : (a : Bool) → fits_at r.column c ≡ a → (b : Bool) → eqb r.column 6 ≡ b → ◌≡◌ {A = Option ℕ} None (pick (a && not b) (Some (digits r.column r.value c)) None) → fits_at r.column c ≡ false
      go false p b q e = p
      go true p false q e = cc
      go true p true q e = lf (eqb-true _ _ q) ∙ ne_eqb c 10 (n (eqb-true _ _ q))

  pub fits-late : 4294967295 ≤ r.line → r.line ≤ 4294967295 → fits r c ≡ false
  fits-late a b = let q : r.line ≡ 4294967295 = omega (arith, a, b) in rw (eq-eqb r.line 4294967295 q, fits)
