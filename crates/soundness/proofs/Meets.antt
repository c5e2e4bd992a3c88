-- The walk over the bindings: a name stands for itself by one place, which keeps the scopes that bound it. Assumes nothing.
use mathlib.Core.Path.{◌≡◌, sym, ap, ◌∙◌, subst}
use mathlib.Core.Logic.{◌≢◌}
use mathlib.Core.Bool.{Bool, true, false}
use mathlib.Core.List.{List}
use Prim.Native.Nat.{ℕ, ◌+◌, ◌<◌}
use native.Mathlib.Nat.{zero-div}
use native.Mathlib.Omega.{arith}
use lib.ListN.{length, get_or, set, replicate}
use lib.Seq.{get_or-set_same, get_or-set_other}
use Rattle.rules.specs.Sizes.{BINDINGS}
use Rattle.rules.specs.Notation.{put}
use Rattle.rules.proofs.Tables.{by_eqb, put_same, put_other}
use Rattle.rules.proofs.Tells.{clash}
use Rattle.slots.specs.Halves.{bit}
use Rattle.slots.proofs.Occupied.{zero-half}
use Rattle.soundness.specs.Parts.{scope_of, name_of, Distinct, Place, Met}

no-bit : (k i : ℕ) → bit (get_or (replicate BINDINGS 0) k 0) i ≡ false
no-bit k i = rw (zero-half BINDINGS k, zero-div)

pub met-none : (bindings places : List ℕ) → Met bindings places (replicate BINDINGS 0) 0
met-none bindings places = record { kept = λ j l. absurd (omega arith); noted = λ j l. absurd (omega arith); only = λ k i e. clash e (no-bit k i) }

module _ (bindings places scopes : List ℕ) (n k : ℕ) (m : Met bindings places scopes n) (p : Place bindings (get_or places (name_of bindings n) 0) n k) where
  -- an earlier one of the same name has the same place
  shared : (j : ℕ) → j < n → name_of bindings j ≡ name_of bindings n → get_or places (name_of bindings j) 0 ≡ k
  shared j l e =
      let at : get_or places (name_of bindings j) 0 ≡ get_or places (name_of bindings n) 0 = ap (λ (x : ℕ). get_or places x 0) e in
      at ∙ sym (p.kept (ap (name_of bindings) (sym at) ∙ m.kept j l ∙ e))

  -- one that is not met there did not
  pub unlike : bit (get_or scopes k 0) (scope_of bindings n) ≡ false → (j : ℕ) → j < n → scope_of bindings n ≡ scope_of bindings j → name_of bindings n ≢ name_of bindings j
  unlike e j l s q = clash (subst (λ (x : ℕ). bit (get_or scopes x 0) (scope_of bindings j) ≡ true) (shared j l (sym q)) (m.noted j l)) (ap (bit (get_or scopes k 0)) (sym s) ∙ e)

  module _ (w : ℕ) (lp : name_of bindings n < length places) (ls : k < length scopes) (e : bit w ≡ put (bit (get_or scopes k 0)) (scope_of bindings n) true) where
    abbrev places' : List ℕ
    places' = set places (name_of bindings n) k

    abbrev scopes' : List ℕ
    scopes' = set scopes k w

    -- the place of a name: k for this one, and as it was for another
    here : (j : ℕ) → name_of bindings j ≡ name_of bindings n → get_or places' (name_of bindings j) 0 ≡ k
    here j q = ap (λ (x : ℕ). get_or places' x 0) q ∙ get_or-set_same places (name_of bindings n) k 0 lp

    there : (j : ℕ) → name_of bindings j ≢ name_of bindings n → get_or places' (name_of bindings j) 0 ≡ get_or places (name_of bindings j) 0
    there j q = get_or-set_other places (name_of bindings n) (name_of bindings j) k 0 q

    earlier : (j : ℕ) → j < n + 1 → name_of bindings j ≢ name_of bindings n → j < n
    earlier j l q = by_eqb j n (λ x. absurd (q (ap (name_of bindings) x))) (λ x. omega (arith, x))

    bits-here : (i : ℕ) → bit (get_or scopes' k 0) i ≡ put (bit (get_or scopes k 0)) (scope_of bindings n) true i
    bits-here i = ap (λ (x : ℕ). bit x i) (get_or-set_same scopes k w 0 ls) ∙ ap (λ (f : ℕ → Bool). f i) e

    bits-there : (x i : ℕ) → x ≢ k → bit (get_or scopes' x 0) i ≡ bit (get_or scopes x 0) i
    bits-there x i z = ap (λ (y : ℕ). bit y i) (get_or-set_other scopes k x w 0 z)

    noted_here : (j : ℕ) → j < n + 1 → name_of bindings j ≡ name_of bindings n → bit (get_or scopes' k 0) (scope_of bindings j) ≡ true
    noted_here j l q =
        bits-here (scope_of bindings j)
        ∙ by_eqb (scope_of bindings n) (scope_of bindings j)
        (λ s. ap (put (bit (get_or scopes k 0)) (scope_of bindings n) true) (sym s) ∙ put_same (bit (get_or scopes k 0)) (scope_of bindings n) true)
        (λ s.
        let b : j < n = by_eqb j n (λ x. absurd (s (ap (scope_of bindings) (sym x)))) (λ x. omega (arith, x)) in
        put_other (bit (get_or scopes k 0)) (scope_of bindings n) true (scope_of bindings j) s
        ∙ subst (λ (x : ℕ). bit (get_or scopes x 0) (scope_of bindings j) ≡ true) (shared j b q) (m.noted j b))

    noted-there : (j : ℕ) → j < n → name_of bindings j ≢ name_of bindings n → bit (get_or scopes' (get_or places (name_of bindings j) 0) 0) (scope_of bindings j) ≡ true
    noted-there j l q =
        bits-there (get_or places (name_of bindings j) 0) (scope_of bindings j) (λ z. q (sym (m.kept j l) ∙ ap (name_of bindings) z ∙ p.named)) ∙ m.noted j l

    abbrev Bound : ℕ → ℕ → Type 0
    Bound x i = (j : ℕ) × (j < n + 1) × (scope_of bindings j ≡ i) × (name_of bindings j ≡ name_of bindings x)

    before : (x i : ℕ) → bit (get_or scopes x 0) i ≡ true → Bound x i
    before x i h = let b = m.only x i h in (b.0, omega (arith, b.1), b.2, b.3)

    only_here : (i : ℕ) → bit (get_or scopes' k 0) i ≡ true → Bound k i
    only_here i h =
        by_eqb (scope_of bindings n) i
        (λ s. (n, omega arith, s, sym p.named))
        (λ s. before k i (sym (put_other (bit (get_or scopes k 0)) (scope_of bindings n) true i s) ∙ sym (bits-here i) ∙ h))

    pub met-more : Met bindings places' scopes' (n + 1)
    met-more =
        record {
          kept = λ j l.
              by_eqb (name_of bindings j) (name_of bindings n)
              (λ q. ap (name_of bindings) (here j q) ∙ p.named ∙ sym q)
              (λ q. ap (name_of bindings) (there j q) ∙ m.kept j (earlier j l q));
          noted = λ j l.
              by_eqb (name_of bindings j) (name_of bindings n)
              (λ q. subst (λ (x : ℕ). bit (get_or scopes' x 0) (scope_of bindings j) ≡ true) (sym (here j q)) (noted_here j l q))
              (λ q. subst (λ (x : ℕ). bit (get_or scopes' x 0) (scope_of bindings j) ≡ true) (sym (there j q)) (noted-there j (earlier j l q) q));
          only = λ x i h.
              by_eqb x k
              (λ z. subst (λ (y : ℕ). Bound y i) (sym z) (only_here i (subst (λ (y : ℕ). bit (get_or scopes' y 0) i ≡ true) z h)))
              (λ z. before x i (sym (bits-there x i z) ∙ h));
        }

-- one more that is unlike all earlier ones
pub distinct_more : (bindings : List ℕ) (n : ℕ) → Distinct bindings n → ((j : ℕ) → j < n → scope_of bindings n ≡ scope_of bindings j → name_of bindings n ≢ name_of bindings j) → Distinct bindings (n + 1)
distinct_more bindings n d u j k jk kn =
    by_eqb k n
    (λ e. subst (λ (x : ℕ). j < x → scope_of bindings x ≡ scope_of bindings j → name_of bindings x ≢ name_of bindings j) (sym e) (u j) jk)
    (λ z. d j k jk (omega (arith, z)))
