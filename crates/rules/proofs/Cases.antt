-- What is sound and what is not, by computation: one case for each clause of document 01, in a room of two segments, four scopes and two
-- bindings. Assumes nothing.
use mathlib.Core.Path.{◌≡◌, refl}
use mathlib.Core.Bool.{Bool, true, false, not}
use mathlib.Core.Option.{Option, none, some}
use mathlib.Core.List.{List, [], ◌∷◌}
use Prim.Native.Nat.{ℕ, zero, suc}
use Rattle.rules.specs.Notation.{◌▹◌, put, all_below, all_of}
use Rattle.rules.specs.Sizes.{Room}
use Rattle.rules.specs.Slots.{fresh_slots}
use Rattle.rules.specs.AddressSets.{member, repeats_nothing}
use Rattle.rules.specs.Scopes.{Scope, Binding, Scopes, slots≔, live≔, top≔, bindings≔, dangling≔, size≔, fresh_scopes, bound_in}
use Rattle.rules.specs.Needs.{assigned, freed, scope as in_scope, Need, defer, at, ignore}
use Rattle.rules.specs.Frames.{Handle, Remembered, no_need, State, needs≔, needed≔}
use Rattle.rules.specs.Sound.{sum_below, times, sound_slots, sound_top, leads, sound_parents, on_lists, sound_owners, sound_dangling, binds_once, sound_bindings, sound_size, sound, holders, sound_handles, agreeing, sound_needs, sound_state}

unfoldable pub small : Room
small = record { segments = 2; scopes = 4; bindings = 2; handles = 4; needs = 2; lines = 4; size = 256; text = 64 }

-- the live scope i, or none where it is closed
unfoldable pub scopes : ℕ → Option Scope → Scopes → Scopes
scopes i k c = c ▹ live≔ (put c.live i k)

unfoldable pub scope : ℕ → Option ℕ → Bool → List ℕ → Option Scope
scope n p d l = some (record { number = n; parent = p; dangled = d; owned = l })

-- the slots 3 and 130, as given, in L segments with head H
unfoldable pub slots : Bool → Bool → ℕ → ℕ → Scopes → Scopes
slots x y l h c = c ▹ slots≔ (record { occupied = put (put (λ a. false) 3 x) 130 y; segments = l; head = h })

unfoldable pub bound : ℕ → ℕ → Binding
bound i name = record { scope = i; name = name; address = 3; handle = 0; moved = false }

-- root owns slot 3, and the scope 1, its child, owns slot 130
unfoldable pub two : Scopes
two = fresh_scopes ▹ slots true true 2 0 ▹ scopes 0 (scope 0 none false (3 ∷ [])) ▹ scopes 1 (scope 1 (some 0) false (130 ∷ [])) ▹ size≔ 131

unfoldable pub are-sound : List Scopes
are-sound =
    fresh_scopes
    ∷ two
    -- H may be at or above L
    ∷ (fresh_scopes ▹ slots false false 0 1)
    -- nothing is live, and there is no top
    ∷ (fresh_scopes ▹ scopes 0 none ▹ top≔ none)
    -- root may be marked, and two live scopes may share a number
    ∷ (fresh_scopes ▹ scopes 0 (scope 0 none true []))
    ∷ (two ▹ scopes 1 (scope 0 (some 0) false (130 ∷ [])))
    -- a dangling address may be at or above the size
    ∷ (fresh_scopes ▹ dangling≔ (5 ∷ 255 ∷ []))
    -- a name may be bound in two scopes
    ∷ (two ▹ bindings≔ (bound 0 7 ∷ bound 1 7 ∷ []))
    ∷ []

unfoldable pub are-not : List Scopes
are-not =
    -- "L is at most 8 and H below 8; no slot from segment L on is occupied"
    (fresh_scopes ▹ slots false false 3 0)
    ∷ (fresh_scopes ▹ slots false false 0 2)
    ∷ (two ▹ slots true true 1 0)
    -- "top is live, or nothing is"
    ∷ (fresh_scopes ▹ top≔ (some 1))
    ∷ (fresh_scopes ▹ top≔ (some 4))
    ∷ (fresh_scopes ▹ top≔ none)
    -- "every live scope's parents are live and lead to root"
    ∷ (fresh_scopes ▹ scopes 0 (scope 5 none false []))
    ∷ (fresh_scopes ▹ scopes 1 (scope 1 (some 2) false []))
    ∷ (fresh_scopes ▹ scopes 1 (scope 1 none false []))
    ∷ (fresh_scopes ▹ scopes 1 (scope 1 (some 2) false []) ▹ scopes 2 (scope 2 (some 1) false []))
    -- "each occupied slot is once on one live scope's list and no other slot is on any"
    ∷ (two ▹ scopes 1 (scope 1 (some 0) false []))
    ∷ (two ▹ scopes 1 (scope 1 (some 0) false (130 ∷ 130 ∷ [])))
    ∷ (two ▹ scopes 1 (scope 1 (some 0) false (130 ∷ 3 ∷ [])))
    ∷ (two ▹ scopes 1 (scope 1 (some 0) false (130 ∷ 4 ∷ [])))
    ∷ (two ▹ scopes 1 (scope 1 (some 0) false (130 ∷ 256 ∷ [])))
    -- "the dangling list repeats nothing and holds only clear slots"
    ∷ (two ▹ dangling≔ (5 ∷ 5 ∷ []))
    ∷ (two ▹ dangling≔ (3 ∷ []))
    ∷ (two ▹ dangling≔ (256 ∷ []))
    -- "no scope binds a name twice"; of a live scope
    ∷ (two ▹ bindings≔ (bound 1 7 ∷ bound 1 7 ∷ []))
    ∷ (two ▹ bindings≔ (bound 2 7 ∷ []))
    -- "size is above every occupied slot and at most 1,024; the room limits hold"
    ∷ (two ▹ size≔ 130)
    ∷ (two ▹ size≔ 257)
    ∷ (two ▹ bindings≔ (bound 0 7 ∷ bound 0 8 ∷ bound 1 7 ∷ []))
    ∷ []

-- ---- with handles

-- a handle of slot a, held or not
unfoldable pub handle : ℕ → Bool → Handle
handle a h = record { address = a; kind = freed; held = h; written = false }

-- three handles at most, n of them handed out, over the scopes c
unfoldable pub state : Handle → Handle → Handle → ℕ → Scopes → State
state x y z n c = record { scopes = c; handles = λ h. elim h [ zero ↦ x | suc i ↦ elim i [ zero ↦ y | suc j ↦ z ] ]; handed = n; needs = λ i. no_need; needed = 0 }

-- the handles of `two`, with two needs at most, n of them made
unfoldable pub whole : Remembered → Remembered → ℕ → State
whole x y n = state (handle 3 true) (handle 130 true) (handle 0 false) 2 two ▹ needs≔ (λ i. elim i [ zero ↦ x | suc j ↦ y ]) ▹ needed≔ n

unfoldable pub need : Need → ℕ → Remembered
need d h = record { need = d; handle = h }

unfoldable pub states-sound : List State
states-sound =
    state (handle 3 true) (handle 130 true) (handle 0 false) 2 two
    -- of a handle that is not held nothing is said
    ∷ state (handle 3 true) (handle 130 true) (handle 9999 false) 3 two
    ∷ state (handle 3 true) (handle 130 true) (handle 3 false) 3 (two ▹ bindings≔ (bound 1 7 ∷ []))
    -- a need agrees with its handle, also one that another need has by 21, or has no address
    ∷ whole (need (at (record { slot = 130; kind = in_scope (record { index = 1; number = 1 }) })) 1) (need (at (record { slot = 130; kind = assigned })) 1) 2
    ∷ whole (need (defer (record { index = 9; number = 9 })) 9) (need ignore 9) 2
    ∷ []

unfoldable pub states-not : List State
states-not =
    -- "held handles and occupied slots match one to one by address"
    state (handle 3 true) (handle 130 true) (handle 0 false) 1 two
    ∷ state (handle 3 true) (handle 130 false) (handle 0 false) 2 two
    ∷ state (handle 3 true) (handle 130 true) (handle 3 true) 3 two
    ∷ state (handle 3 true) (handle 130 true) (handle 5 true) 3 two
    ∷ state (handle 3 true) (handle 130 true) (handle 256 true) 3 two
    -- "bindings agree with their handles"
    ∷ state (handle 130 true) (handle 3 true) (handle 0 false) 2 (two ▹ bindings≔ (bound 1 7 ∷ []))
    -- "the room limits hold"
    ∷ state (handle 3 true) (handle 130 true) (handle 0 false) 5 two
    ∷ whole no_need no_need 3
    -- "needs agree with their handles"
    ∷ whole (need (at (record { slot = 130; kind = assigned })) 0) no_need 1
    ∷ whole (need (at (record { slot = 0; kind = assigned })) 2) no_need 1
    -- a handle belongs to one need at most
    ∷ whole (need (at (record { slot = 3; kind = in_scope (record { index = 0; number = 0 }) })) 0) (need (at (record { slot = 3; kind = in_scope (record { index = 1; number = 1 }) })) 0) 2
    ∷ []

-- ---- the cases

pub sound-cases : all_of (sound small) are-sound ≡ true
unfolding small scopes scope slots bound two put all_below all_of fresh_slots member repeats_nothing fresh_scopes bound_in sum_below times sound_slots sound_top leads sound_parents on_lists sound_owners sound_dangling binds_once sound_bindings sound_size sound are-sound
sound-cases = refl

pub unsound-cases : all_of (λ c. not (sound small c)) are-not ≡ true
unfolding small scopes scope slots bound two put all_below all_of fresh_slots member repeats_nothing fresh_scopes bound_in sum_below times sound_slots sound_top leads sound_parents on_lists sound_owners sound_dangling binds_once sound_bindings sound_size sound are-not
unsound-cases = refl

pub sound-states : all_of (sound_state small) states-sound ≡ true
unfolding small scopes scope slots bound two put all_below all_of fresh_slots member repeats_nothing fresh_scopes bound_in sum_below times sound_slots sound_top leads sound_parents on_lists sound_owners sound_dangling binds_once sound_bindings sound_size sound handle state holders sound_handles agreeing sound_needs sound_state need whole states-sound
sound-states = refl

pub unsound-states : all_of (λ s. not (sound_state small s)) states-not ≡ true
unfolding small scopes scope slots bound two put all_below all_of fresh_slots member repeats_nothing fresh_scopes bound_in sum_below times sound_slots sound_top leads sound_parents on_lists sound_owners sound_dangling binds_once sound_bindings sound_size sound handle state holders sound_handles agreeing sound_needs sound_state need whole states-not
unsound-states = refl
