-- A walk along `next`, from the front: it meets the list's addresses in order and then the end; `lists` reads off what the cells hold.
-- Assumes nothing.
use mathlib.Core.Path.{◌≡◌, refl, ap, ap₂, ◌∙◌}
use mathlib.Core.List.{List, [], ◌∷◌}
use Prim.Native.Nat.{ℕ, zero, suc, ◌+◌, ◌≤◌, ◌<◌}
use native.Mathlib.Omega.{arith}
use lib.ListN.{length}
use borrow.Author.Tests.{lt-ltb, le-ltb}
use Rattle.std.specs.Prelude.{Option, Some, None, unwrap_or}
use Rattle.rules.specs.AddressSets.{without}
use Rattle.rules.proofs.Sets.{without-same, without-none, Once, once}
use Rattle.links.specs.Links.{Links, Link, Ring, next_in, prev_in, Held}
use Rattle.links.specs.Follow.{Ahead, first_of, follow, lists}
use Rattle.links.proofs.Lists.{Each, each-head, each_tail}
use Rattle.links.proofs.Rings.{ring-once, ring-length, chains-alike}

-- ---- one list

pub ahead_of : (next prev : ℕ → ℕ) (p : ℕ) (xs : List ℕ) (q : ℕ) → Links (Link next prev) p xs q → Ahead next (next p) xs q
ahead_of next prev p [] q h = h.0
ahead_of next prev p (x ∷ xs) q h = (h.0.0, rw h.0.0 (ahead_of next prev x xs q h.1))

module _ (n : ℕ) (next : ℕ → ℕ) where
  pub follow-ahead : (k c : ℕ) (xs : List ℕ) (e : ℕ) → n ≤ e → length xs < k → Each (λ x. x < n) xs → Ahead next c xs e → follow n k next c ≡ xs
  unfolding follow
  follow-ahead zero c xs e lo h s r = absurd (omega arith)
  follow-ahead (suc k) c [] e lo h s r = rw (le-ltb c n (omega arith), follow)
  follow-ahead (suc k) c (x ∷ xs) e lo h s r =
      rw (lt-ltb c n (omega (arith, each-head (λ x. x < n) x xs s, r.0)), follow)
      (ap₂ (λ (u : ℕ) (l : List ℕ). u ∷ l) r.0 (follow-ahead k (next c) xs e lo (omega arith) (each_tail (λ x. x < n) x xs s) r.1))

  pub ring-follow : (prev : ℕ → ℕ) (e : ℕ) (xs : List ℕ) → n ≤ e → Ring n next prev e xs → follow n (suc n) next (next e) ≡ xs
  ring-follow prev e xs lo h = follow-ahead (suc n) (next e) xs e lo (omega (arith, ring-length n 0 next prev e xs lo h)) h.addr (ahead_of next prev e xs e h.links)

  -- the first of a list, taken out, leaves the rest
  pub without-first : (prev : ℕ → ℕ) (e x : ℕ) (xs : List ℕ) → n ≤ e → Ring n next prev e (x ∷ xs) → without x (x ∷ xs) ≡ xs
  without-first prev e x xs lo h = without-same x xs ∙ go (ring-once n 0 next prev e (x ∷ xs) lo h)
    where
      go : Once (x ∷ xs) → without x xs ≡ xs
      go (once new o) = without-none x xs new

-- ---- all lists of an array

module _ (n m : ℕ) (t : List ℕ) (xs : ℕ → List ℕ) (c : Held n m t xs) where
  -- from the first address of list i the walk goes through the list and ends at n + i, after as many steps as the list is long
  pub walk : (i : ℕ) → i < m → Ahead (next_in t) (next_in t (n + i)) (xs i) (n + i) × (length (xs i) ≤ n)
  walk i hi = (ahead_of (next_in t) (prev_in (n + m) t) (n + i) (xs i) (n + i) (c.ring i hi).links, ring-length n m (next_in t) (prev_in (n + m) t) (n + i) (xs i) (omega arith) (c.ring i hi))

  -- that address is the first of list i, if it is below n; and whoever is told the first knows where the walk begins
  pub first-some : (i : ℕ) → i < m → next_in t (n + i) < n → Some (next_in t (n + i)) ≡ first_of (xs i)
  first-some i hi l = go (xs i) (walk i hi).0
    where
      go : (ys : List ℕ) → Ahead (next_in t) (next_in t (n + i)) ys (n + i) → Some (next_in t (n + i)) ≡ first_of ys
      go [] r = absurd (omega (arith, r))
      go (y ∷ ys) r = ap (λ (a : ℕ). Some a) r.0

  pub first-none : (i : ℕ) → i < m → n ≤ next_in t (n + i) → None ≡ first_of (xs i)
  first-none i hi l = go (xs i) (walk i hi).0 (c.ring i hi).addr
    where
      go : (ys : List ℕ) → Ahead (next_in t) (next_in t (n + i)) ys (n + i) → Each (λ x. x < n) ys → None ≡ first_of ys
      go [] r s = refl
      go (y ∷ ys) r s = absurd (omega (arith, r.0, each-head (λ x. x < n) y ys s))

  pub first-ahead : (i : ℕ) (o : Option ℕ) → i < m → o ≡ first_of (xs i) → Ahead (next_in t) (unwrap_or o (n + i)) (xs i) (n + i)
  first-ahead i o hi e = rw e (go (xs i) (walk i hi).0)
    where
      go : (ys : List ℕ) → Ahead (next_in t) (next_in t (n + i)) ys (n + i) → Ahead (next_in t) (unwrap_or (first_of ys) (n + i)) ys (n + i)
      go [] r = refl
      go (y ∷ ys) r = (refl, rw r.0 at r.1)

  pub chains-lists : (i : ℕ) → i < m → lists n t i ≡ xs i
  unfolding lists
  chains-lists i hi = ring-follow n (next_in t) (prev_in (n + m) t) (n + i) (xs i) (omega arith) (c.ring i hi)

  -- so the array holds the lists that are read off it
  pub held-lists : Held n m t (lists n t)
  held-lists = chains-alike n m (next_in t) (prev_in (n + m) t) xs (lists n t) chains-lists c
