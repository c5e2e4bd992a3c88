-- Both cells of each number in one array: a store below `size` is one of `next`, a store from there on one of `prev`. Assumes nothing.
use mathlib.Core.Path.{◌≡◌, sym, ◌∙◌, subst}
use mathlib.Core.List.{List}
use Prim.Native.Nat.{ℕ, ◌+◌, ◌<◌}
use native.Mathlib.Omega.{arith}
use lib.ListN.{length, set, length-set}
use lib.Seq.{get_or-set_same, get_or-set_other}
use Rattle.rules.specs.Notation.{put}
use Rattle.rules.proofs.Tables.{by_eqb, put_same, put_other}
use Rattle.links.specs.Links.{Chains, next_in, prev_in, Held}
use Rattle.links.proofs.Rings.{ring-keeps}

-- a table with one entry more agrees where the table before did
put-at : (f g : ℕ → ℕ) (i x k : ℕ) → f k ≡ g k → put f i x k ≡ put g i x k
put-at f g i x k e =
    by_eqb i k
    (λ q. subst (λ (u : ℕ). put f i x u ≡ put g i x u) q (put_same f i x ∙ sym (put_same g i x)))
    (λ n. put_other f i x k n ∙ e ∙ sym (put_other g i x k n))

module _ (size : ℕ) (t : List ℕ) (i v k : ℕ) where
  next_low : i < length t → next_in (set t i v) k ≡ put (next_in t) i v k
  next_low h =
      by_eqb i k
      (λ q. subst (λ (u : ℕ). next_in (set t i v) u ≡ put (next_in t) i v u) q (get_or-set_same t i v 0 h ∙ sym (put_same (next_in t) i v)))
      (λ n. get_or-set_other t i k v 0 (λ q. n (sym q)) ∙ sym (put_other (next_in t) i v k n))

  next-high : k < size → next_in (set t (size + i) v) k ≡ next_in t k
  next-high h = get_or-set_other t (size + i) k v 0 (omega arith)

  prev-low : i < size → prev_in size (set t i v) k ≡ prev_in size t k
  prev-low h = get_or-set_other t i (size + k) v 0 (omega arith)

  prev-high : size + i < length t → prev_in size (set t (size + i) v) k ≡ put (prev_in size t) i v k
  prev-high h =
      by_eqb i k
      (λ q. subst (λ (u : ℕ). prev_in size (set t (size + i) v) u ≡ put (prev_in size t) i v u) q (get_or-set_same t (size + i) v 0 h ∙ sym (put_same (prev_in size t) i v)))
      (λ n. get_or-set_other t (size + i) (size + k) v 0 (omega arith) ∙ sym (put_other (prev_in size t) i v k n))

-- two stores in `next`, then two in `prev`
abbrev pub stored : ℕ → List ℕ → ℕ → ℕ → ℕ → ℕ → ℕ → ℕ → ℕ → ℕ → List ℕ
stored size t i v j w p x q y = set (set (set (set t i v) j w) (size + p) x) (size + q) y

module _ (size : ℕ) (t : List ℕ) (long : length t ≡ size + size) (i v j w p x q y : ℕ) (hi : i < size) (hj : j < size) (hp : p < size) (hq : q < size) where
  long₁ : length (set t i v) ≡ size + size
  long₁ = length-set t i v ∙ long

  long₂ : length (set (set t i v) j w) ≡ size + size
  long₂ = length-set (set t i v) j w ∙ long₁

  long₃ : length (set (set (set t i v) j w) (size + p) x) ≡ size + size
  long₃ = length-set (set (set t i v) j w) (size + p) x ∙ long₂

  pub stored-length : length (stored size t i v j w p x q y) ≡ size + size
  stored-length = length-set (set (set (set t i v) j w) (size + p) x) (size + q) y ∙ long₃

  next-stored : (k : ℕ) → k < size → next_in (stored size t i v j w p x q y) k ≡ put (put (next_in t) i v) j w k
  next-stored k h =
      next-high size (set (set (set t i v) j w) (size + p) x) q y k h
      ∙ next-high size (set (set t i v) j w) p x k h
      ∙ next_low size (set t i v) j w k (omega (arith, long₁))
      ∙ put-at (next_in (set t i v)) (put (next_in t) i v) j w k (next_low size t i v k (omega arith))

  prev-stored : (k : ℕ) → prev_in size (stored size t i v j w p x q y) k ≡ put (put (prev_in size t) p x) q y k
  prev-stored k =
      prev-high size (set (set (set t i v) j w) (size + p) x) q y k (omega (arith, long₃))
      ∙ put-at (prev_in size (set (set (set t i v) j w) (size + p) x)) (put (prev_in size t) p x) q y k
      (prev-high size (set (set t i v) j w) p x k (omega (arith, long₂))
      ∙ put-at (prev_in size (set (set t i v) j w)) (prev_in size t) p x k (prev-low size (set t i v) j w k hj ∙ prev-low size t i v k hi))

-- cells that agree hold the same lists
pub chains-same : (n m : ℕ) (next prev next' prev' : ℕ → ℕ) (lists : ℕ → List ℕ)
    → ((k : ℕ) → k < n + m → next' k ≡ next k) → ((k : ℕ) → k < n + m → prev' k ≡ prev k) → Chains n m next prev lists → Chains n m next' prev' lists
chains-same n m next prev next' prev' lists en ep c =
    record {
      ring = λ i hi.
          ring-keeps n m next prev next' prev' (λ u. u < n + m) (λ u. u < n + m) (λ u v hu hv h. (en u hu ∙ h.0, ep v hv ∙ h.1))
          (n + i) (lists i) (omega arith) (omega arith) (λ x p. omega (arith, (c.ring i hi).addr x p)) (λ x p. omega (arith, (c.ring i hi).addr x p)) (c.ring i hi);
      free = λ a ha o. (en a (omega arith) ∙ (c.free a ha o).0, ep a (omega arith) ∙ (c.free a ha o).1);
    }

-- what the changed cells hold, the changed array holds
pub held-stored : (n m : ℕ) (t : List ℕ) (lists : ℕ → List ℕ) (i v j w p x q y : ℕ) → length t ≡ (n + m) + (n + m) → i < n + m → j < n + m → p < n + m → q < n + m
    → Chains n m (put (put (next_in t) i v) j w) (put (put (prev_in (n + m) t) p x) q y) lists → Held n m (stored (n + m) t i v j w p x q y) lists
held-stored n m t lists i v j w p x q y long hi hj hp hq c =
    chains-same n m _ _ _ _ lists
    (next-stored (n + m) t long i v j w p x q y hi hj hp hq)
    (λ k h. prev-stored (n + m) t long i v j w p x q y hi hj hp hq k) c
