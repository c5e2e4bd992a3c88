-- What soundness makes exact: no top means that root was closed, 8 means that every scope is live, an owned slot can always be removed, and
-- no list is longer than there are slots. Assumes nothing.
use mathlib.Core.Path.{◌≡◌, refl, sym, subst, ◌∙◌}
use mathlib.Core.Bool.{Bool, true, false, not}
use mathlib.Core.Option.{Option, none, some}
use Prim.Native.Nat.{ℕ, ◌*◌, ◌-◌, ◌/◌, ◌≤◌, ◌<◌}
use native.Mathlib.Omega.{arith}
use lib.ListN.{length}
use Rattle.rules.specs.Notation.{is_some, first}
use Rattle.rules.specs.Sizes.{Room}
use Rattle.rules.specs.AddressSets.{member}
use Rattle.rules.specs.Slots.{removes}
use Rattle.rules.specs.Scopes.{Scope, Scopes, Found, top_scope}
use Rattle.rules.proofs.Chains.{none-some}
use Rattle.rules.proofs.Tables.{by_eqb}
use Rattle.rules.proofs.Sets.{pigeons}
use Rattle.rules.proofs.Searches.{first-none, first-is-none}
use Rattle.rules.proofs.Sound.{lists_of, Sound}
use Rattle.rules.proofs.Tells.{clash, tells-and, tells-lt, tells-true}
use Rattle.rules.proofs.Parents.{is-some, root_live}
use Rattle.rules.proofs.Naming.{top-here}

module _ (room : Room) (c : Scopes) (s : Sound room c) where
  -- ---- 3: "no top: root was closed"

  pub top-found : (i : ℕ) → c.top ≡ some i → (t : Found) × (top_scope c ≡ some t)
  unfolding top_scope
  top-found i e = go (c.live i) refl (s.top.is_live i e).1
    where
      go : (o : Option Scope) → c.live i ≡ o → is_some o ≡ true → (t : Found) × (top_scope c ≡ some t)
      go none q l = clash l refl
      go (some k) q l = (record { index = i; scope = k }, rw (e, top_scope) (rw q))

  pub no-top-none : top_scope c ≡ none → c.top ≡ none
  no-top-none e = go c.top refl
    where
      go : (o : Option ℕ) → c.top ≡ o → c.top ≡ none
      go none q = q
      go (some i) q = none-some (sym e ∙ (top-found i q).1)

  pub no-top-closed : top_scope c ≡ none → (i : ℕ) → i < room.scopes → is_some (c.live i) ≡ false
  no-top-closed e = s.top.no-live (no-top-none e)

  pub top-root-live : (t : Found) → top_scope c ≡ some t → is_some (c.live 0) ≡ true
  top-root-live t e = let h = top-here c t e room.scopes s.top in root_live (s.rooted t.index h.below (is-some h.is))

  -- ---- 8: "64 live scopes"

  abbrev free : ℕ → Bool
  free j = not (is_some (c.live j))

  live-not-free : (j : ℕ) → is_some (c.live j) ≡ true → free j ≡ false
  live-not-free j e = rw e

  not-free-live : (j : ℕ) → free j ≡ false → is_some (c.live j) ≡ true
  not-free-live j = go (is_some (c.live j))
    where
      go : (b : Bool) → not b ≡ false → b ≡ true
      go true e = refl
      go false e = clash refl e

  pub full-all-live : (t : Found) → top_scope c ≡ some t → first free 1 (room.scopes - 1) ≡ none → (i : ℕ) → i < room.scopes → is_some (c.live i) ≡ true
  full-all-live t e q i l =
      by_eqb i 0
      (λ z. subst (λ (j : ℕ). is_some (c.live j) ≡ true) (sym z) (top-root-live t e))
      (λ nz. not-free-live i (first-none free 1 (room.scopes - 1) q i (omega (arith, nz)) (omega arith)))

  pub all-live-full : ((i : ℕ) → i < room.scopes → is_some (c.live i) ≡ true) → first free 1 (room.scopes - 1) ≡ none
  all-live-full h = first-is-none free 1 (room.scopes - 1) (λ j lo hi. live-not-free j (h j (omega arith)))

  -- ---- an owned slot can be removed

  pub owned-removes : (i a : ℕ) → i < room.scopes → member a (lists_of c.live i) ≡ true → removes a c.slots ≡ true
  unfolding removes
  owned-removes i a l m =
      let t = s.owned.taken i a l m in
      (tells-and (tells-lt (a / 128) c.slots.segments) (tells-true (c.slots.occupied a))).shows (omega (arith, s.slots.low a (s.owned.within i l a m) t), t)

  -- ---- lengths

  pub dangling-few : length c.dangling ≤ 128 * room.segments
  dangling-few = pigeons (128 * room.segments) c.dangling s.dangling.once s.dangling.within

  pub owned-few : (i : ℕ) → i < room.scopes → length (lists_of c.live i) ≤ 128 * room.segments
  owned-few i l = pigeons (128 * room.segments) (lists_of c.live i) (s.owned.once i l) (s.owned.within i l)
