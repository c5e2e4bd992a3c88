-- Document 01, "Scopes": "A state handed in is sound (an entry checks what its state has) if ..", as a test that computes.
-- Assumes nothing.
use Rattle.std.specs.Prelude.{Bool, true, false, not, ◌&&◌, List, [], ◌∷◌, ℕ, zero, suc, ◌+◌, ◌*◌, ◌/◌, length, eqb, ltb, leb}
use Rattle.std.proofs.Math.Option.{Option, none, some}
use Rattle.rules.specs.Notation.{is_some, implies, all_below, all_of}
use Rattle.rules.specs.Sizes.{Room}
use Rattle.rules.specs.Slots.{Slots}
use Rattle.rules.specs.AddressSets.{repeats_nothing}
use Rattle.rules.specs.Scopes.{Scope, Binding, Scopes, bound_in}
use Rattle.rules.specs.Needs.{Need, defer, at, ignore, freed_need}
use Rattle.rules.specs.Frames.{owns, State}

-- ---- counting

abbrev pub one : Bool → ℕ
one true = 1
one false = 0

-- the sum of f below n
unfoldable pub sum_below : (ℕ → ℕ) → ℕ → ℕ
sum_below f zero = zero
sum_below f (suc n) = sum_below f n + f n

-- how often a stands on the list
unfoldable pub times : ℕ → List ℕ → ℕ
times a [] = 0
times a (b ∷ l) = one (eqb a b) + times a l

-- ---- slots

-- "L is at most 8 and H below 8; no slot from segment L on is occupied": 8 is n
unfoldable pub sound_slots : ℕ → Slots → Bool
sound_slots n s =
    leb s.segments n
    && ltb s.head n
    && all_below (λ a. implies (s.occupied a) (ltb (a / 128) s.segments)) (128 * n)

-- ---- scopes

-- "top is live, or nothing is". Stricter where nothing is live: then there is no top, and a state that stores one all the same isn't sound (A73
-- in docs/DECISIONS.md).
unfoldable pub sound_top : Room → Scopes → Bool
sound_top room c =
    elim c.top [
      | some i ↦ ltb i room.scopes && is_some (c.live i)
      | none ↦ all_below (λ i. not (is_some (c.live i))) room.scopes
    ]

-- Over live scopes from i to root, which is (0, 0) and has no parent; at most n of them.
unfoldable pub leads : ℕ → Room → Scopes → ℕ → Bool
leads zero room c i = false
leads (suc n) room c i =
    elim (c.live i) [
      | none ↦ false
      | some k ↦ elim k.parent [
        | none ↦ eqb i 0 && eqb k.number 0
        | some p ↦ not (eqb i 0) && ltb p room.scopes && leads n room c p
      ]
    ]

-- "every live scope's parents are live and lead to root"
unfoldable pub sound_parents : Room → Scopes → Bool
sound_parents room c = all_below (λ i. implies (is_some (c.live i)) (leads room.scopes room c i)) room.scopes

abbrev pub owned_by : Option Scope → List ℕ
owned_by none = []
owned_by (some k) = k.owned

-- how often a stands on live scopes' lists
unfoldable pub on_lists : Room → Scopes → ℕ → ℕ
on_lists room c a = sum_below (λ i. times a (owned_by (c.live i))) room.scopes

-- "each occupied slot is once on one live scope's list and no other slot is on any"
unfoldable pub sound_owners : Room → Scopes → Bool
sound_owners room c =
    all_below (λ a. eqb (on_lists room c a) (one (c.slots.occupied a))) (128 * room.segments)
    && all_below (λ i. all_of (λ a. ltb a (128 * room.segments)) (owned_by (c.live i))) room.scopes

-- "the dangling list repeats nothing and holds only clear slots"
unfoldable pub sound_dangling : Room → Scopes → Bool
sound_dangling room c =
    repeats_nothing c.dangling
    && all_of (λ a. ltb a (128 * room.segments) && not (c.slots.occupied a)) c.dangling

-- "no scope binds a name twice"
unfoldable pub binds_once : List Binding → Bool
binds_once [] = true
binds_once (b ∷ l) = not (is_some (bound_in b.scope b.name l)) && binds_once l

-- every binding is one of a live scope
unfoldable pub sound_bindings : Room → Scopes → Bool
sound_bindings room c =
    binds_once c.bindings
    && all_of (λ b. ltb b.scope room.scopes && is_some (c.live b.scope)) c.bindings

-- "size is above every occupied slot and at most 1,024": at most the room's
unfoldable pub sound_size : Room → Scopes → Bool
sound_size room c =
    all_below (λ a. implies (c.slots.occupied a) (ltb a c.size)) (128 * room.segments)
    && leb c.size room.size

-- "the room limits hold": those of slots and scopes stand above, where they are looked at.
unfoldable pub sound : Room → Scopes → Bool
sound room c =
    sound_slots room.segments c.slots
    && sound_top room c
    && sound_parents room c
    && sound_owners room c
    && sound_dangling room c
    && sound_bindings room c
    && sound_size room c
    && leb (length c.bindings) room.bindings

-- ---- with handles

-- how many handles hold slot a
unfoldable pub holders : State → ℕ → ℕ
holders s a = sum_below (λ h. one ((s.handles h).held && eqb (s.handles h).address a)) s.handed

-- "held handles and occupied slots match one to one by address"
unfoldable pub sound_handles : Room → State → Bool
sound_handles room s =
    leb s.handed room.handles
    && all_below (λ a. eqb (holders s a) (one (s.scopes.slots.occupied a))) (128 * room.segments)
    && all_below (λ h. implies (s.handles h).held (ltb (s.handles h).address (128 * room.segments))) s.handed

-- "bindings agree with their handles"
unfoldable pub agreeing : State → Bool
agreeing s = all_of (λ b. ltb b.handle s.handed && eqb (s.handles b.handle).address b.address) s.scopes.bindings

-- W-212: "needs agree with their handles as bindings do"
abbrev pub need_agrees : State → ℕ → Need → Bool
need_agrees s h (defer id) = true
need_agrees s h (at a) = ltb h s.handed && eqb (s.handles h).address a.slot
need_agrees s h ignore = true
need_agrees s h freed_need = true

-- the needs i and j have one handle of their own
abbrev pub sharing : State → ℕ → ℕ → Bool
sharing s i j = owns (s.needs i).need && owns (s.needs j).need && eqb (s.needs i).handle (s.needs j).handle

-- "at most 64 in a script"; needs agree with their handles, and a handle belongs to one need at most
unfoldable pub sound_needs : Room → State → Bool
sound_needs room s =
    leb s.needed room.needs
    && all_below (λ n. need_agrees s (s.needs n).handle (s.needs n).need) s.needed
    && all_below (λ i. all_below (λ j. implies (sharing s i j) (eqb i j)) s.needed) s.needed

unfoldable pub sound_state : Room → State → Bool
sound_state room s = sound room s.scopes && sound_handles room s && agreeing s && sound_needs room s
