-- Which scopes are live after a call, and what they own: each was live before under its number, and lost no address but one that was given back.
-- Assumes nothing.
use mathlib.Core.Path.{◌≡◌, refl, sym, subst, ◌∙◌}
use mathlib.Core.Bool.{Bool, true}
use mathlib.Core.Option.{Option, none, some}
use Prim.Native.Nat.{ℕ}
use native.Mathlib.Omega.{arith}
use Rattle.rules.specs.Notation.{put}
use Rattle.rules.specs.Sizes.{Room}
use Rattle.rules.specs.Slots.{Placement}
use Rattle.rules.specs.AddressSets.{member, run}
use Rattle.rules.specs.Scopes.{Scope, Scopes, Found, set_scope, allocate, closed, dangle_scope, restore_scope, bind_in, take_name}
use Rattle.rules.specs.Needs.{give_back}
use Rattle.rules.specs.Sound.{owned_by}
use Rattle.rules.proofs.Chains.{All, all-given, all_then, all-when, all-unless, none-some}
use Rattle.rules.proofs.Tables.{put_same, put-cases}
use Rattle.rules.proofs.Members.{added_all-old, added_all-new, without-keeps, run-member}
use Rattle.rules.proofs.Sound.{TopSound}
use Rattle.rules.proofs.Naming.{Here, top-here}

-- ---- live scopes that were live before

-- y, live at i, was live under its number; of its addresses it lost none that has Q
pub record Grown (Q : ℕ → Type 0) (live : ℕ → Option Scope) (i : ℕ) (y : Scope) : Type 0 where
  pub scope : Scope
  pub is : live i ≡ some scope
  pub number : scope.number ≡ y.number
  pub more : (a : ℕ) → Q a → member a scope.owned ≡ true → member a y.owned ≡ true

-- so it is with every scope that is live in d; the counter stays
pub record Grows (Q : ℕ → Type 0) (c d : Scopes) : Type 0 where
  pub counter : d.counter ≡ c.counter
  pub from : (i : ℕ) (y : Scope) → d.live i ≡ some y → Grown Q c.live i y

abbrev pub Any : ℕ → Type 0
Any a = Unit {0}

module _ {Q : ℕ → Type 0} (live : ℕ → Option Scope) where
  pub from-same : (i : ℕ) (y : Scope) → live i ≡ some y → Grown Q live i y
  from-same i y e = record { scope = y; is = e; number = refl; more = λ a q m. m }

  -- at one place x stands, which is none or grows from what was there
  pub from-put : (j : ℕ) (x : Option Scope) → ((y : Scope) → x ≡ some y → Grown Q live j y) → (i : ℕ) (y : Scope) → put live j x i ≡ some y → Grown Q live i y
  from-put j x new i y e =
      put-cases live j x i
      (λ q p. subst (λ (k : ℕ). Grown Q live k y) q (new y (sym p ∙ e)))
      (λ ne p. from-same i y (sym p ∙ e))

  pub from-none : (j i : ℕ) (y : Scope) → put live j none i ≡ some y → Grown Q live i y
  from-none j = from-put j none (λ y e. none-some e)

  pub from_some : {n : ℕ} (k : Found) (x : Scope) → Here n live k → x.number ≡ k.scope.number → ((a : ℕ) → Q a → member a k.scope.owned ≡ true → member a x.owned ≡ true)
      → (i : ℕ) (y : Scope) → put live k.index (some x) i ≡ some y → Grown Q live i y
  from_some k x h number more =
      from-put k.index (some x)
      (λ y e. let q : x ≡ y = cc in subst (Grown Q live k.index) q (record { scope = k.scope; is = h.is; number = sym number; more = more }))

-- ---- the calls of "Scopes", but for child

abbrev pub Live : Room → Scopes → Option Found → Type 0
Live room c o = (k : Found) → o ≡ some k → Here room.scopes c.live k

module _ (room : Room) (c : Scopes) where
  pub dangle-grows : (o : Option Found) → Live room c o → All (Grows Any c) (dangle_scope o c)
  unfolding dangle_scope set_scope
  dangle-grows o here = all-unless 4 λ k e. all-when 5 _ λ _. all-given (record { counter = refl; from = from_some c.live k _ (here k e) refl (λ a _ m. m) })

  pub restore-grows : (o : Option Found) → Live room c o → All (Grows Any c) (restore_scope o c)
  unfolding restore_scope set_scope
  restore-grows o here = all-unless 4 λ k e. all-when 5 _ λ _. all-given (record { counter = refl; from = from_some c.live k _ (here k e) refl (λ a _ m. m) })

  pub bind-grows : (t : Found) (name a h : ℕ) → All (Grows Any c) (bind_in room t name a h c)
  unfolding bind_in
  bind-grows t name a h = all-when 9 _ λ _. all-given (record { counter = refl; from = from-same c.live })

  pub take-grows : (name : ℕ) → All (λ r. Grows Any c r.1) (take_name room name c)
  unfolding take_name
  take-grows name = all_then λ b _. all-given (record { counter = refl; from = from-same c.live })

  pub closed-grows : (k : Found) → Grows Any c (closed k c)
  unfolding closed
  closed-grows k = record { counter = refl; from = from-none c.live k.index }

  pub allocate-grows : (place : Placement) (k : Found) (n : ℕ) → Here room.scopes c.live k → All (λ r. Grows Any c r.1) (allocate place k n c)
  unfolding allocate set_scope
  allocate-grows place k n here = all-unless 7 λ p _. all-given (record { counter = refl; from = from_some c.live k _ here refl (λ a _ m. added_all-old _ k.scope.owned a m) })

  -- the new slot stands on the owner's list
  pub allocate-gives : (place : Placement) (k : Found) → All (λ r. (y : Scope) → r.1.live k.index ≡ some y → member r.0 y.owned ≡ true) (allocate place k 1 c)
  unfolding allocate set_scope
  allocate-gives place k =
      all-unless 7 λ p _. all-given (λ y e.
      subst (λ (o : Option Scope). member p.address (owned_by o) ≡ true) (sym (put_same c.live k.index _) ∙ e)
      (added_all-new (run p.address 1) k.scope.owned p.address (run-member 1 p.address p.address (omega arith) (omega arith))))

  pub back-grows : TopSound room.scopes c.live c.top → (dangles : Bool) (a : ℕ) → All (Grows (λ b. b ≡ a → ⊥) c) (give_back dangles a c)
  unfolding give_back set_scope
  back-grows top dangles a =
      all-unless 12 λ t e. all-when 12 _ λ _.
      all-given (record { counter = refl; from = from_some c.live t _ (top-here c t e room.scopes top) refl (λ b ne m. without-keeps a b t.scope.owned ne m) })
