-- Frames 23 and 25 do to a need what document 01's library calls do to it; what scripts add are handles, and 16 and 14. Assumes nothing.
use mathlib.Core.Path.{◌≡◌, refl, ap, ◌∙◌}
use mathlib.Core.Bool.{Bool, true, false, ◌||◌}
use mathlib.Core.Option.{Option, none, some}
use Prim.Native.Nat.{ℕ, ◌+◌, ◌≤◌}
use lib.Dec.{ltb}
use borrow.Author.Tests.{le-ltb}
use Rattle.rules.specs.Notation.{Answer, given, refused, ◌>>=◌, refuse◌when◌, refuse◌unless◌, provided◌then◌else◌}
use Rattle.rules.specs.Sizes.{Room}
use Rattle.rules.specs.Slots.{Placement}
use Rattle.rules.specs.Scopes.{Id, Scopes, Found, top_scope, by_id, alloc_in, allocate}
use Rattle.rules.specs.Needs.{Kind, local, dangling, assigned, freed, scope, alloc_address_in, is_scope, goes_back, give_back, free_address, Need, defer, at, ignore, freed_need, Allocated, allocate_need, free_need}
use Rattle.rules.specs.Frames.{Remembered, is_scope_kind, State, set_handle, allot, hand_back, free_as, set_need, allot_need, free_own}
use Rattle.rules.proofs.Tables.{put_same}
use Rattle.rules.proofs.Tells.{clash}
use Rattle.rules.proofs.Sound.{NeedAgrees}

-- ---- 23

-- what 01 says of the need n and the scopes
abbrev pub allocated : ℕ → Option ℕ × State → Allocated
allocated n r = record { need = (r.1.needs n).need; scopes = r.1.scopes; slot = r.0 }

unfoldable pub seen : ℕ → Answer (Option ℕ × State) → Answer Allocated
seen n m = m >>= λ r. given (allocated n r)

module _ (room : Room) (place : Placement) (n : ℕ) (s : State) where
  -- while there is a handle more, 23 is 01's call
  pub need-allocated : s.handed + 1 ≤ room.handles → (d : Need) → (s.needs n).need ≡ d → seen n (allot_need room place n s d) ≡ allocate_need room place d s.scopes
  unfolding seen allot_need allocate_need alloc_address_in alloc_in allot ◌>>=◌ refuse◌when◌ refuse◌unless◌ set_need
  need-allocated more (defer id) e = go (by_id room s.scopes id) refl
    where
      fits : ltb room.handles (s.handed + 1) ≡ false
      fits = le-ltb room.handles (s.handed + 1) more

      found : (k : Found) → by_id room s.scopes id ≡ some k → (m : Answer (ℕ × Scopes)) → allocate place k 1 s.scopes ≡ m
          → seen n (allot_need room place n s (defer id)) ≡ allocate_need room place (defer id) s.scopes
      found k q (refused x) p = rw (q, fits, p, allot_need, allocate_need)
      found k q (given r) p =
          rw (q, fits, p, allot_need, allocate_need)
          (ap (λ (x : Remembered). given (record { need = x.need; scopes = r.1; slot = some r.0 })) (put_same s.needs n _))

      go : (o : Option Found) → by_id room s.scopes id ≡ o → seen n (allot_need room place n s (defer id)) ≡ allocate_need room place (defer id) s.scopes
      go none q = rw (q, allot_need, allocate_need)
      go (some k) q = found k q (allocate place k 1 s.scopes) refl
  need-allocated more (at a) e = ap (λ (d : Need). given (record { need = d; scopes = s.scopes; slot = some a.slot })) (ap (λ (x : Remembered). x.need) (put_same s.needs n _))
  need-allocated more ignore e = ap (λ (d : Need). given (record { need = d; scopes = s.scopes; slot = none })) e
  need-allocated more freed_need e = ap (λ (d : Need). given (record { need = d; scopes = s.scopes; slot = none })) e

-- ---- 25

-- a script's need has a Scope address or an Assigned one
abbrev is_assigned : Kind → Bool
is_assigned local = false
is_assigned dangling = false
is_assigned assigned = true
is_assigned freed = false
is_assigned (scope id) = false

abbrev pub is_scripted : Need → Bool
is_scripted (defer id) = true
is_scripted (at a) = is_scope_kind a.kind || is_assigned a.kind
is_scripted ignore = true
is_scripted freed_need = true

-- whether its slot goes back
abbrev pub backs : State → Need → Bool
backs s (defer id) = false
backs s (at a) = goes_back s.scopes a.kind
backs s ignore = false
backs s freed_need = false

unfoldable pub left : Answer State → Answer (Need × Scopes)
left m = m >>= λ t. given (freed_need, t.scopes)

module _ (s : State) (h : ℕ) where
  -- where the slot that goes back is held, 25 is 01's call
  pub need-freed : (d : Need) → NeedAgrees s.handles s.handed h d → is_scripted d ≡ true → (backs s d ≡ true → (s.handles h).held ≡ true) → left (free_own h s d) ≡ free_need d s.scopes
  unfolding left free_own free_need free_address free_as hand_back set_handle goes_back ◌>>=◌ refuse◌when◌ provided◌then◌else◌
  need-freed (defer id) w y e = refl
  need-freed (at a) w y e = kinds a.kind refl y
    where
      given_back : (id : Id) → (s.handles h).held ≡ true → is_scope id (top_scope s.scopes) ≡ true → (m : Answer Scopes) → give_back true a.slot s.scopes ≡ m
          → left (free_own h s (at (record { slot = a.slot; kind = scope id }))) ≡ free_need (at (record { slot = a.slot; kind = scope id })) s.scopes
      given_back id held q (refused x) p = rw (q, held, w.1, p, free_own, free_need)
      given_back id held q (given c) p = rw (q, held, w.1, p, free_own, free_need)

      back : (id : Id) → a.kind ≡ scope id → (b : Bool) → is_scope id (top_scope s.scopes) ≡ b → left (free_own h s (at (record { slot = a.slot; kind = scope id }))) ≡ free_need (at (record { slot = a.slot; kind = scope id })) s.scopes
      back id k true q = given_back id (e (ap (goes_back s.scopes) k ∙ q)) q (give_back true a.slot s.scopes) refl
      back id k false q = rw (q, free_own, free_need)

      kinds : (k : Kind) → a.kind ≡ k → (is_scope_kind k || is_assigned k) ≡ true → left (free_own h s (at (record { slot = a.slot; kind = k }))) ≡ free_need (at (record { slot = a.slot; kind = k })) s.scopes
      kinds local q z = clash z refl
      kinds dangling q z = clash z refl
      kinds assigned q z = refl
      kinds freed q z = clash z refl
      kinds (scope id) q z = back id q (is_scope id (top_scope s.scopes)) refl
  need-freed ignore w y e = refl
  need-freed freed_need w y e = refl
