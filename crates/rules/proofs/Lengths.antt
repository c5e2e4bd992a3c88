-- No accepted script's list is longer than 11 bytes a frame, 4 for each handle, and 7. The one line that may be long is a drain's, and
-- each slot that is drained was allocated since it was last drained. Assumes nothing.
use mathlib.Core.Path.{◌≡◌, refl, sym, ap, subst}
use mathlib.Core.Bool.{Bool, true, false, true≢false}
use mathlib.Core.Logic.{by_cases}
use mathlib.Core.List.{List, [], ◌∷◌}
use Prim.Native.Nat.{ℕ, zero, suc, ◌+◌, ◌*◌, ◌≤◌, ◌<◌}
use native.Mathlib.Omega.{arith}
use native.Mathlib.Decide.{dec_lt}
use lib.ListN.{length, length-append}
use Rattle.rules.specs.Notation.{put}
use Rattle.rules.specs.AddressSets.{member, added, without, added_all, without_all, run}
use Rattle.rules.specs.Frames.{Line}
use Rattle.rules.specs.Sound.{sum_below}
use Rattle.rules.specs.Text.{hex2, hex4, hexes, operands_of, line_text}
use Rattle.rules.proofs.Tables.{by_eqb, put_same, put_other}
use Rattle.rules.proofs.Sets.{member-cons, without-same, without-skip}

-- ---- address sets

added-length : (a : ℕ) (l : List ℕ) → length (added a l) ≤ suc (length l)
unfolding added
added-length a l = go (member a l) refl
  where
    go : (b : Bool) → member a l ≡ b → length (added a l) ≤ suc (length l)
    go true e = rw (e, added) (omega arith)
    go false e = rw (e, added) (simp length-append (omega arith))

pub added_all-length : (new l : List ℕ) → length (added_all new l) ≤ length new + length l
unfolding added_all
added_all-length [] l = omega arith
added_all-length (a ∷ new) l = omega (arith, added_all-length new (added a l), added-length a l)

without-length : (a : ℕ) (l : List ℕ) → length (without a l) ≤ length l
unfolding without
without-length a [] = omega arith
without-length a (b ∷ l) =
    by_eqb a b
    (λ e. subst (λ (c : ℕ). length (without a (c ∷ l)) ≤ suc (length l)) e (rw without-same (omega (arith, without-length a l))))
    (λ ne. rw (without-skip a b l ne) (omega (arith, without-length a l)))

pub without_all-length : (gone l : List ℕ) → length (without_all gone l) ≤ length l
unfolding without_all
without_all-length [] l = omega arith
without_all-length (a ∷ gone) l = omega (arith, without_all-length gone (without a l), without-length a l)

-- an address that is there goes
pub without-shorter : (a : ℕ) (l : List ℕ) → member a l ≡ true → length (without a l) < length l
unfolding without member
without-shorter a [] p = absurd (true≢false (sym p))
without-shorter a (b ∷ l) p =
    by_eqb a b
    (λ e. subst (λ (c : ℕ). length (without a (c ∷ l)) < suc (length l)) e (rw without-same (omega (arith, without-length a l))))
    (λ ne. member-cons a b l p (λ e. absurd (ne e)) (λ q. rw (without-skip a b l ne) (omega (arith, without-shorter a l q))))

pub run_length : (n a : ℕ) → length (run a n) ≡ n
unfolding run
run_length zero a = refl
run_length (suc n) a = ap suc (run_length n (suc a))

-- ---- sums over a table

module _ {A : Type 0} (P : A → ℕ) (f : ℕ → A) (i : ℕ) (x : A) where
  sum-other : (n : ℕ) → n ≤ i → sum_below (λ j. P (put f i x j)) n ≡ sum_below (λ j. P (f j)) n
  unfolding sum_below
  sum-other zero h = refl
  sum-other (suc n) h = rw (sum-other n (omega arith), put_other f i x n (omega arith))

  pub sum-put : (n : ℕ) → i < n → sum_below (λ j. P (put f i x j)) n + P (f i) ≡ sum_below (λ j. P (f j)) n + P x
  unfolding sum_below
  sum-put zero h = absurd (omega arith)
  sum-put (suc n) h =
      by_eqb i n
      (λ e.
      subst (λ (m : ℕ). sum_below (λ j. P (put f i x j)) m + P (put f i x m) + P (f i) ≡ sum_below (λ j. P (f j)) m + P (f m) + P x) e
      (rw (sum-other i (omega arith), put_same f i x) (omega arith)))
      (λ ne. rw (put_other f i x n ne) (omega (arith, sum-put n (omega arith))))

  -- by as much as the entry grows, at most
  pub sum-grows : (d n : ℕ) → P x ≤ P (f i) + d → sum_below (λ j. P (put f i x j)) n ≤ sum_below (λ j. P (f j)) n + d
  sum-grows d n h = by_cases (dec_lt i n) (λ l. omega (arith, sum-put n l)) (λ l. omega (arith, sum-other n (omega arith)))

-- ---- lines

hexes-length : (l : List ℕ) → length (hexes l) ≡ 4 * length l
unfolding hexes hex4
hexes-length [] = refl
hexes-length (a ∷ l) = omega (arith, hexes-length l)

pub line-length : (l : Line) → length (line_text l) ≡ 3 + 4 * length (operands_of l)
unfolding line_text hex2
line-length l = simp length-append (omega (arith, hexes-length (operands_of l)))
