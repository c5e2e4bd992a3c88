-- The cells of empty lists. Assumes nothing.
use mathlib.Core.Path.{◌≡◌, sym, ◌∙◌}
use mathlib.Core.Logic.{◌≢◌}
use mathlib.Core.Bool.{true≢false}
use mathlib.Core.List.{List, []}
use Prim.Native.Nat.{ℕ, ◌+◌, ◌<◌}
use native.Mathlib.Omega.{arith}
use lib.ListN.{length, set, replicate, length-set, length-replicate, get_or-replicate}
use lib.Seq.{get_or-set_same, get_or-set_other}
use Rattle.rules.specs.AddressSets.{member}
use Rattle.rules.proofs.Tables.{by_eqb}
use Rattle.links.specs.Links.{next_in, prev_in, Held, nowhere}

-- no address is on a list, and the ends of the first k lists are set
pub record Emptied (n m : ℕ) (t : List ℕ) (k : ℕ) : Type 0 where
  pub long : length t ≡ (n + m) + (n + m)
  pub clear : (a : ℕ) → a < n → (next_in t a ≡ nowhere) × (prev_in (n + m) t a ≡ nowhere)
  pub ends : (i : ℕ) → i < k → (next_in t (n + i) ≡ n + i) × (prev_in (n + m) t (n + i) ≡ n + i)

module _ (n m : ℕ) where
  pub emptied-start : Emptied n m (replicate ((n + m) + (n + m)) nowhere) 0
  emptied-start =
      record {
        long = length-replicate ((n + m) + (n + m)) nowhere;
        clear = λ a h. (get_or-replicate ((n + m) + (n + m)) a nowhere 0 (omega arith), get_or-replicate ((n + m) + (n + m)) ((n + m) + a) nowhere 0 (omega arith));
        ends = λ i h. absurd (omega arith);
      }

  module _ (t : List ℕ) (k : ℕ) (hk : k < m) (h : Emptied n m t k) where
    abbrev t₁ : List ℕ
    t₁ = set t (n + k) (n + k)

    -- a cell that is not one of list k's ends
    next-other : (j : ℕ) → j < n + m → j ≢ n + k → next_in (set t₁ ((n + m) + (n + k)) (n + k)) j ≡ next_in t j
    next-other j lt ne = get_or-set_other t₁ ((n + m) + (n + k)) j (n + k) 0 (omega arith) ∙ get_or-set_other t (n + k) j (n + k) 0 ne

    prev-other : (j : ℕ) → j ≢ n + k → prev_in (n + m) (set t₁ ((n + m) + (n + k)) (n + k)) j ≡ prev_in (n + m) t j
    prev-other j ne = get_or-set_other t₁ ((n + m) + (n + k)) ((n + m) + j) (n + k) 0 (omega arith) ∙ get_or-set_other t (n + k) ((n + m) + j) (n + k) 0 (omega arith)

    pub emptied-step : Emptied n m (set (set t (n + k) (n + k)) ((n + m) + (n + k)) (n + k)) (k + 1)
    emptied-step =
        record {
          long = length-set t₁ ((n + m) + (n + k)) (n + k) ∙ length-set t (n + k) (n + k) ∙ h.long;
          clear = λ a ha. (next-other a (omega arith) (omega arith) ∙ (h.clear a ha).0, prev-other a (omega arith) ∙ (h.clear a ha).1);
          ends = λ i hi.
              by_eqb i k
              (λ e. rw e (
                get_or-set_other t₁ ((n + m) + (n + k)) (n + k) (n + k) 0 (omega arith) ∙ get_or-set_same t (n + k) (n + k) 0 (omega (arith, h.long)),
                get_or-set_same t₁ ((n + m) + (n + k)) (n + k) 0 (omega (arith, h.long, length-set t (n + k) (n + k))),
              ))
              (λ ne. (next-other (n + i) (omega arith) (omega arith) ∙ (h.ends i (omega arith)).0, prev-other (n + i) (omega arith) ∙ (h.ends i (omega arith)).1));
        }

  pub emptied-held : (t : List ℕ) → Emptied n m t m → Held n m t (λ i. [])
  unfolding member
  emptied-held t h =
      record {
        ring = λ i hi. record { links = h.ends i hi; addr = λ a p. absurd (true≢false (sym p)) };
        free = λ a ha o. h.clear a ha;
      }
