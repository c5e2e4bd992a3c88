-- Which scope is meant: what an id, a number or the top finds is live at its index, and a scope found by its number is found by its id.
-- Assumes nothing.
use mathlib.Core.Path.{◌≡◌, refl, sym, ap, subst, ◌∙◌}
use mathlib.Core.Bool.{Bool, true, false, ◌&&◌}
use mathlib.Core.Option.{Option, none, some}
use Prim.Native.Nat.{ℕ, ◌<◌}
use native.Mathlib.Omega.{arith}
use lib.Dec.{eqb, ltb}
use Rattle.rules.specs.Notation.{first}
use Rattle.rules.specs.Sizes.{Room}
use Rattle.rules.specs.Scopes.{Id, Scope, Scopes, Found, found, top_scope, has_number, by_id, by_number, id_of}
use Rattle.rules.proofs.Chains.{none-some}
use Rattle.rules.proofs.Searches.{first_found}
use Rattle.rules.proofs.Sound.{TopSound}
use Rattle.rules.proofs.Tells.{tells-and, tells-eq, tells-lt, tells-true}

-- k is live, at an index below n
pub record Here (n : ℕ) (live : ℕ → Option Scope) (k : Found) : Type 0 where
  pub below : k.index < n
  pub is : live k.index ≡ some k.scope

pub found_at : (live : ℕ → Option Scope) (i : ℕ) (k : Found) → found i (live i) ≡ some k → (k.index ≡ i) × (live k.index ≡ some k.scope)
found_at live i k e = go (live i) refl e
  where
    go : (o : Option Scope) → live i ≡ o → found i o ≡ some k → (k.index ≡ i) × (live k.index ≡ some k.scope)
    go none q x = none-some x
    go (some c) q x =
        let y : record { index = i; scope = c } ≡ k = cc in
        subst (λ (z : Found). (z.index ≡ i) × (live z.index ≡ some z.scope)) y (refl, q)

pub found_here : (n : ℕ) (live : ℕ → Option Scope) (i : ℕ) (k : Found) → i < n → found i (live i) ≡ some k → Here n live k
found_here n live i k l e = let r = found_at live i k e in record { below = omega (arith, r.0); is = r.1 }

live-found : (live : ℕ → Option Scope) (k : Found) → live k.index ≡ some k.scope → found k.index (live k.index) ≡ some k
live-found live k e = rw e

number_of : (n : ℕ) (o : Option Scope) (k : Scope) → o ≡ some k → has_number n o ≡ eqb k.number n
number_of n o k e = rw e

-- the top
module _ (c : Scopes) (k : Found) (e : top_scope c ≡ some k) where
  pub top-at : (c.top ≡ some k.index) × (c.live k.index ≡ some k.scope)
  unfolding top_scope
  top-at = go c.top refl
    where
      go : (o : Option ℕ) → c.top ≡ o → (c.top ≡ some k.index) × (c.live k.index ≡ some k.scope)
      go none q = none-some (rw (q, top_scope) at e)
      go (some i) q = let r = found_at c.live i k (rw (q, top_scope) at e) in (q ∙ ap some (sym r.0), r.1)

  pub top-here : (n : ℕ) → TopSound n c.live c.top → Here n c.live k
  top-here n t = record { below = (t.is_live k.index top-at.0).0; is = top-at.1 }

-- by its id
module _ (room : Room) (c : Scopes) (id : Id) (k : Found) (e : by_id room c id ≡ some k) where
  id-at : (ltb id.index room.scopes && has_number id.number (c.live id.index) ≡ true) × (found id.index (c.live id.index) ≡ some k)
  unfolding by_id
  id-at = go (ltb id.index room.scopes && has_number id.number (c.live id.index)) refl
    where
      go : (b : Bool) → (ltb id.index room.scopes && has_number id.number (c.live id.index)) ≡ b
          → (ltb id.index room.scopes && has_number id.number (c.live id.index) ≡ true) × (found id.index (c.live id.index) ≡ some k)
      go true q = (q, rw (q, by_id) at e)
      go false q = none-some (rw (q, by_id) at e)

  pub id-here : Here room.scopes c.live k
  id-here =
      let t = (tells-and (tells-lt id.index room.scopes) (tells-true (has_number id.number (c.live id.index)))).holds id-at.0 in
      found_here room.scopes c.live id.index k t.0 id-at.1

  pub id-is : (k.index ≡ id.index) × (k.scope.number ≡ id.number)
  id-is =
      let r = found_at c.live id.index k id-at.1 in
      let t = (tells-and (tells-true (ltb id.index room.scopes)) (tells-true (has_number id.number (c.live id.index)))).holds id-at.0 in
      (r.0, (tells-eq k.scope.number id.number).holds (sym (number_of id.number (c.live id.index) k.scope (ap c.live (sym r.0) ∙ r.1)) ∙ t.1))

-- by its number
module _ (room : Room) (c : Scopes) (n : ℕ) (k : Found) (e : by_number room c n ≡ some k) where
  record Numbered : Type 0 where
    here : Here room.scopes c.live k
    number : has_number n (c.live k.index) ≡ true

  numbered : Numbered
  unfolding by_number
  numbered = go (first (λ i. has_number n (c.live i)) 0 room.scopes) refl
    where
      go : (o : Option ℕ) → first (λ i. has_number n (c.live i)) 0 room.scopes ≡ o → Numbered
      go none q = none-some (rw (q, by_number) at e)
      go (some i) q =
          let f = first_found (λ j. has_number n (c.live j)) 0 room.scopes i q in
          let r : found i (c.live i) ≡ some k = rw (q, by_number) at e in
          record {
            here = found_here room.scopes c.live i k (omega (arith, f.high)) r;
            number = subst (λ (j : ℕ). has_number n (c.live j) ≡ true) (sym (found_at c.live i k r).0) f.passes;
          }

  pub number-here : Here room.scopes c.live k
  number-here = numbered.here

  pub number-id : by_id room c (id_of k) ≡ some k
  unfolding by_id
  number-id =
      let h = numbered.here in
      let same : has_number k.scope.number (c.live k.index) ≡ true
      = number_of k.scope.number (c.live k.index) k.scope h.is ∙ (tells-eq k.scope.number k.scope.number).shows refl in
      let q : (ltb k.index room.scopes && has_number k.scope.number (c.live k.index)) ≡ true
      = (tells-and (tells-lt k.index room.scopes) (tells-true (has_number k.scope.number (c.live k.index)))).shows (h.below, same) in
      rw (q, by_id) (live-found c.live k h.is)

-- o is what an id or a number finds
pub data Named (room : Room) (c : Scopes) (o : Option Found) : Type 0 where
  by-id : (id : Id) → o ≡ by_id room c id → Named room c o
  by_number_lem : (n : ℕ) → o ≡ by_number room c n → Named room c o

pub named_here : {room : Room} {c : Scopes} {o : Option Found} → Named room c o → (k : Found) → o ≡ some k → Here room.scopes c.live k
named_here {room = room} {c = c} (by-id id q) k e = id-here room c id k (sym q ∙ e)
named_here {room = room} {c = c} (by_number_lem n q) k e = number-here room c n k (sym q ∙ e)
