-- 23 of a deferred need, and 25: by what is done over the scopes and the handles alone. Assumes nothing.
use mathlib.Core.Path.{◌≡◌, refl, sym, ap, subst, ◌∙◌}
use mathlib.Core.Bool.{true, false}
use mathlib.Core.Logic.{inl, inr}
use mathlib.Core.Option.{Option, none, some}
use mathlib.Core.List.{List, [], ◌∷◌}
use Prim.Native.Nat.{ℕ, ◌<◌}
use native.Mathlib.Omega.{arith}
use lib.ListN.{length, get_or, length-set}
use Rattle.std.specs.Prelude.{Result, Ok, Err}
use Rattle.std.specs.Result.{is_err}
use Rattle.rules.specs.Notation.{Answer, given, refused, ◌>>=◌, refuse◌unless◌, provided◌then◌else◌, ◌▹◌, put}
use Rattle.rules.specs.declared.refusal.Refusal.{Refusal}
use Rattle.rules.specs.declared.refusal.Refusal.TheVariants.{NeedUnknown}
use Rattle.rules.specs.Sizes.{Room, base, NEEDS}
use Rattle.rules.specs.Slots.{Placement}
use Rattle.rules.specs.Scopes as rule
use Rattle.rules.specs.Scopes.{Id, Found, by_id}
use Rattle.rules.specs.Needs.{Kind, scope, Address, Need, defer, at, ignore, freed_need, allocated_kind}
use Rattle.rules.specs.Frames.{Handle, alloc_need, drop_need, Remembered, no_need, is_scope_kind, owns, is_gone, State, set_need, lost, grant, allot, allot_need, free_as, free_own, slot_shown, shows, one_line, step}
use Rattle.rules.proofs.Chains.{All, all-given, all_then, all-when, when_true, when_false}
use Rattle.rules.proofs.Tables.{put-ext}
use Rattle.rules.proofs.Handles.{grant-new}
use Rattle.rules.proofs.Needing.{own-known}
use Rattle.rules.proofs.Apart.{mapped, within, allot-moves, own_line}
use Rattle.rules.proofs.Tells.{clash}
use Rattle.scopes.specs.View.{view}
use Rattle.scopes.specs.declared.Scopes.{Scopes}
use Rattle.scopes.specs.declared.ScopeId.{ScopeId}
use Rattle.needs.specs.Kinds.{kind_of, need_of, address_of}
use Rattle.needs.specs.declared.AddressKind.{AddressKind}
use Rattle.needs.specs.declared.AddressKind.TheVariants as kind
use Rattle.needs.specs.declared.Address.{Address as Address'}
use Rattle.needs.specs.declared.Need.{Need as Need'}
use Rattle.needs.specs.declared.Need.TheVariants as need
use Rattle.handles.specs.Handles.{kind_in, handle_at, state_of}
use Rattle.handles.specs.NeedTable.{need_in, remembered_at, state_with, with_need, MadeNeed, KnowsNeed}
use Rattle.handles.specs.declared.Handles.{Handles}
use Rattle.handles.specs.declared.remembered.Needs.{Needs}
use Rattle.handles.proofs.NeedTables.{own_is, again, need-set}
use Rattle.frames.specs.Steps.{stepped, Few, freed_then, allotted_in, AllotsOne, Stands, Comes, Frees}
use Rattle.frames.specs.Needing.{script, standing, StandsWith, WorksWith}
use Rattle.frames.specs.declared.steps.Script.{Script}
use Rattle.frames.specs.declared.steps.Adds.{Adds}
use Rattle.frames.specs.declared.steps.Adds.TheVariants.{Nothing, Slot, NoSlot}
use Rattle.frames.proofs.NeedSteps.{there, not-lost, need-21}
use Rattle.frames.proofs.Moving.{comes-by}
use Rattle.frames.proofs.Beside.{needed-few, beside}

-- the handle h, as the address of a need that it belongs to
abbrev pub own : ℕ → State → Remembered
own h u = record { need = at (record { slot = (u.handles h).address; kind = (u.handles h).kind }); handle = h }

-- the handle that was handed out is the next one
allot-own : (room : Room) (place : Placement) (k : Found) (kind : Kind) (s : State)
    → All (λ r. own s.handed r.1 ≡ record { need = at (record { slot = r.0; kind = kind }); handle = s.handed }) (allot room place k kind 1 s)
unfolding allot
allot-own room place k kind s = all-when 16 _ λ _. all_then λ r _. all-given
    (let g : grant s.handed 1 r.0 kind s.handles s.handed ≡ _ = grant-new s.handed 1 r.0 kind s.handles s.handed (omega arith) (omega arith) in
    let a = ap (λ (x : Handle). x.address) g ∙ omega arith in
    let b = ap (λ (x : Handle). x.kind) g in
    λ t. record { need = at (record { slot = a t; kind = b t }); handle = s.handed })

module _ (place : Placement) (needs : ℕ → Remembered) (needed : ℕ) (bare : State) (n : ℕ) where
  abbrev here : State
  here = within needs needed bare

  -- ---- 23 of a deferred need

  module _ (found : lost here n ≡ false) (id : Id) (is : (needs n).need ≡ defer id) where
    abbrev pub owned : State → State
    owned u = within needs needed u ▹ set_need n (own bare.handed u)

    opens : step base place here (alloc_need n) ≡ (allot_need base place n here (defer id) >>= λ r. one_line (shows 0x23 (slot_shown r.0 ∷ [])) r.1)
    unfolding step
    opens =
        when_false 21 _ found
        ∙ ap (λ (d : Need). allot_need base place n here d >>= λ r. one_line (shows 0x23 (slot_shown r.0 ∷ [])) r.1) is

    pub first-is : step base place here (alloc_need n) ≡ mapped (λ r. (r.0, owned r.1)) (allotted_in place id 0x23 bare)
    unfolding allot_need allotted_in mapped ◌>>=◌ refuse◌unless◌
    first-is = opens ∙ go (by_id base bare.scopes id) refl
      where
        slots : (k : Found) → by_id base bare.scopes id ≡ some k → (m : Answer (ℕ × State)) → allot base place k (scope id) 1 bare ≡ m
            → (allot_need base place n here (defer id) >>= λ r. one_line (shows 0x23 (slot_shown r.0 ∷ [])) r.1) ≡ mapped (λ r. (r.0, owned r.1)) (allotted_in place id 0x23 bare)
        slots k e (refused x) q = rw (e, (allot-moves needs needed base place bare k (scope id) 1).is, q, allot_need, allotted_in)
        slots k e (given r) q =
            let o = (allot-own base place k (scope id) bare).at r q in
            rw (e, (allot-moves needs needed base place bare k (scope id) 1).is, q, allot_need, allotted_in)
            (λ t. one_line (shows 0x23 (r.0 ∷ [])) (within needs needed r.1 ▹ set_need n (sym o t)))

        go : (x : Option Found) → by_id base bare.scopes id ≡ x
            → (allot_need base place n here (defer id) >>= λ r. one_line (shows 0x23 (slot_shown r.0 ∷ [])) r.1) ≡ mapped (λ r. (r.0, owned r.1)) (allotted_in place id 0x23 bare)
        go none e = rw (e, allot_need, allotted_in)
        go (some k) e = slots k e (allot base place k (scope id) 1 bare) refl

  -- ---- 25

  pub drop-is : lost here n ≡ false
      → step base place here (drop_need n) ≡ mapped (λ r. (r.0, within needs needed r.1 ▹ set_need n no_need)) (freed_then 0x25 (free_own (needs n).handle bare (needs n).need))
  unfolding step
  drop-is e = when_false 21 _ e ∙ own_line needs needed bare (needs n).handle (needs n).need (set_need n no_need) (shows 0x25 [])

-- a need's own handle is freed as the need's address; nothing is freed of another
module _ (h : ℕ) (t : State) where
  pub own-freed : (a : Address) → is_scope_kind a.kind ≡ true → free_own h t (at a) ≡ free_as a.kind true h t
  unfolding free_own provided◌then◌else◌
  own-freed a e = rw (e, free_own)

  pub other-kept : (d : Need) → owns d ≡ false → free_own h t d ≡ given t
  unfolding free_own provided◌then◌else◌
  other-kept (defer id) e = refl
  other-kept (at a) e = rw (e, free_own)
  other-kept ignore e = refl
  other-kept freed_need e = refl

-- which needs have a handle of their own
pub own-address : {d : Need'} {a : Address'} {id : ScopeId} → d ≡ need.Address a → a.kind ≡ kind.Scope id → owns (need_of d) ≡ true
own-address e q = ap (λ (x : Need'). owns (need_of x)) e ∙ ap (λ (k : AddressKind). is_scope_kind (kind_of k)) q

not-scope : (k : AddressKind) → ((id : ScopeId) → k ≡ kind.Scope id → ⊥) → is_scope_kind (kind_of k) ≡ false
not-scope kind.Local f = refl
not-scope kind.Dangling f = refl
not-scope kind.Assigned f = refl
not-scope kind.Freed f = refl
not-scope (kind.Scope id) f = absurd (f id refl)

pub other-kind : {d : Need'} {a : Address'} → d ≡ need.Address a → ((id : ScopeId) → a.kind ≡ kind.Scope id → ⊥) → owns (need_of d) ≡ false
other-kind {a = a} e f = ap (λ (x : Need'). owns (need_of x)) e ∙ not-scope a.kind f

pub no-address : (d : Need') → ((a : Address') → d ≡ need.Address a → ⊥) → owns (need_of d) ≡ false
no-address (need.Defer id) f = refl
no-address (need.Address a) f = absurd (f a refl)
no-address need.Ignore f = refl
no-address need.Freed f = refl

pub other-comes : {s : Scopes} {handles : Handles} → Stands s handles → (h : ℕ) (d : Need) → owns d ≡ false → Frees (λ t. free_own h t d) s handles (Ok Nothing) s handles
unfolding ◌>>=◌
other-comes {s} {handles} stands h d e o drained = record {
  does = ap (freed_then o) (other-kept h (state_of (view s) handles) d e);
  stays = λ _. (refl, refl);
  whole = stands.whole;
  few = tt;
  handles-length = stands.handles-length;
  holders-length = stands.holders-length;
}

-- ---- the tables, once the need n is another one

module _ (c : rule.Scopes) (handles : Handles) (t : Needs) (n : ℕ) (l : n < length t.table) (l' : n < length t.remembers) where
  abbrev with-needs : State
  with-needs = within (remembered_at t) t.needed (state_of c handles)

  set_to : (b h : ℕ) (x : Remembered) → record { need = need_in b; handle = h } ≡ x → (with-needs ▹ set_need n x) ≡ state_with c handles (with_need t n b h)
  unfolding set_need
  set_to b h x e =
      let p = need-set t n b h l l' ∙ ap (put (remembered_at t) n) e in
      λ u. record { scopes = c; handles = handle_at c.slots.occupied handles; handed = handles.handed; needs = sym p u; needed = t.needed }

  -- the number of its own handle h
  pub set_own : (h : ℕ) → is_scope_kind (kind_in (get_or handles.table h 0)) ≡ true
      → (with-needs ▹ set_need n (own h (state_of c handles))) ≡ state_with c handles (with_need t n (get_or handles.table h 0) h)
  set_own h e = set_to (get_or handles.table h 0) h (own h (state_of c handles)) (λ u. record { need = own_is (get_or handles.table h 0) e u; handle = h })

  pub set-gone : (with-needs ▹ set_need n no_need) ≡ state_with c handles (with_need t n 0 0)
  set-gone = set_to 0 0 no_need refl

-- ---- steps

module _ {p : Script} (stands : StandsWith p) (n : ℕ) where
  pub below : n < p.needs.needed → n < NEEDS
  below l = omega (arith, needed-few stands)

  -- the handle of a need that has one of its own was handed out
  pub own-handed : {m : ℕ} → m ≡ n → (d : Need') → KnowsNeed p.needs n (Ok d) → owns (need_of d) ≡ true → get_or p.needs.remembers m 0 < p.handles.handed
  own-handed same d k e = subst (λ (i : ℕ). get_or p.needs.remembers i 0 < p.handles.handed) (sym same) (own-known (handle_at (view p.scopes).slots.occupied p.handles) p.handles.handed (get_or p.needs.remembers n 0) (need_in (get_or p.needs.table n 0)) (stands.needing.agree n k.0) (sym (ap owns k.1) ∙ e))

module _ (place : Placement) {p : Script} (stands : StandsWith p) (n : ℕ) where
  abbrev now : State
  now = standing p

  pub allocate-21 : (e : Refusal) → KnowsNeed p.needs n (Err e) → (drained : List ℕ) → WorksWith place (alloc_need n) 0x23 p (Err e) p drained
  unfolding step
  allocate-21 = need-21 stands n (alloc_need n) 0x23 (λ q. when_true 21 _ q)

  -- 23 of a need that was never made, and of a freed one
  pub allocate-unmade : (e : Refusal) → MadeNeed p.needs n (Err e) → (drained : List ℕ) → WorksWith place (alloc_need n) 0x23 p (Err e) p drained
  allocate-unmade e k = allocate-21 e (inl k.0, k.1)

  pub allocate-freed : MadeNeed p.needs n (Ok need.Freed) → (drained : List ℕ) → WorksWith place (alloc_need n) 0x23 p (Err NeedUnknown) p drained
  allocate-freed k = allocate-21 NeedUnknown (inr (ap is_gone (sym k.1)), refl)

  pub free-21 : (e : Refusal) → KnowsNeed p.needs n (Err e) → (drained : List ℕ) → WorksWith place (drop_need n) 0x25 p (Err e) p drained
  unfolding step
  free-21 = need-21 stands n (drop_need n) 0x25 (λ q. when_true 21 _ q)

  module _ (d : Need') (knows : KnowsNeed p.needs n (Ok d)) where
    -- ---- 23 of a need that is no deferred one: nothing changes

    shown-with : (a : Option ℕ) (adds : Adds) → ((drained : List ℕ) → one_line (shows 0x23 (slot_shown a ∷ [])) now ≡ stepped 0x23 (Ok adds) now drained) → Few (Ok adds) → allot_need base place n now (need_of d) ≡ given (a, now) → (drained : List ℕ)
        → WorksWith place (alloc_need n) 0x23 p (Ok adds) p drained
    unfolding step ◌>>=◌
    shown-with a adds shown few e drained = record {
      does =
          when_false 21 _ (there stands n d knows)
          ∙ (λ u. allot_need base place n now (sym knows.1 u) >>= λ r. one_line (shows 0x23 (slot_shown r.0 ∷ [])) r.1)
          ∙ (λ u. e u >>= λ r. one_line (shows 0x23 (slot_shown r.0 ∷ [])) r.1)
          ∙ shown drained;
      stays = λ _. (refl, refl);
      needs_stay = λ _. refl;
      whole = stands.stands.whole;
      few = few;
      handles-length = stands.stands.handles-length;
      holders-length = stands.stands.holders-length;
      needs-length = stands.needs-length;
      remembers-length = stands.remembers-length;
    }

  again-same : (a : Address) → need_in (get_or p.needs.table n 0) ≡ at a → allot_need base place n now (at a) ≡ given (some a.slot, now)
  unfolding allot_need set_need
  again-same a e =
      let f = remembered_at p.needs in
      let x : f n ≡ record { need = at (record { slot = a.slot; kind = allocated_kind a.kind }); handle = get_or p.needs.remembers n 0 }
      = λ u. record { need = sym (again (get_or p.needs.table n 0) a e) u; handle = get_or p.needs.remembers n 0 } in
      let q : f ≡ put f n (record { need = at (record { slot = a.slot; kind = allocated_kind a.kind }); handle = get_or p.needs.remembers n 0 }) = put-ext f n _ f x (λ j _. refl) in
      λ u. given (some a.slot, record { scopes = view p.scopes; handles = handle_at (view p.scopes).slots.occupied p.handles; handed = p.handles.handed; needs = sym q u; needed = p.needs.needed })

  pub again-works : (a : Address') → MadeNeed p.needs n (Ok (need.Address a)) → (drained : List ℕ) → WorksWith place (alloc_need n) 0x23 p (Ok (Slot a.slot)) p drained
  again-works a k drained = shown-with (need.Address a) (k.0, k.1, refl) (some a.slot.0) (Slot a.slot) (λ _. refl) tt (again-same (address_of a) (sym k.1)) drained

  pub ignored-works : MadeNeed p.needs n (Ok need.Ignore) → (drained : List ℕ) → WorksWith place (alloc_need n) 0x23 p (Ok NoSlot) p drained
  unfolding allot_need
  ignored-works k drained = shown-with need.Ignore (k.0, k.1, refl) none NoSlot (λ _. refl) tt refl drained

  -- ---- 23 of a deferred need, and 25, from what is done over the scopes and the handles alone

  module _ (l : n < p.needs.needed) where
    within-tables : (n < length p.needs.table) × (n < length p.needs.remembers)
    within-tables = let room = below stands n l in (omega (arith, stands.needs-length), omega (arith, stands.remembers-length))

    set-lengths : (b h : ℕ) → (length (with_need p.needs n b h).table ≡ NEEDS) × (length (with_need p.needs n b h).remembers ≡ NEEDS)
    set-lengths b h = (simp length-set stands.needs-length, simp length-set stands.remembers-length)

    module _ (id : Id) (is : need_in (get_or p.needs.table n 0) ≡ defer id) {r : Result Adds Refusal} {s' : Scopes} {handles' : Handles} (a : AllotsOne place id p.scopes p.handles r s' handles') (drained : List ℕ) where
      found : lost now n ≡ false
      found = not-lost stands n l (ap is_gone is)

      pub first-refused : is_err r ≡ true → WorksWith place (alloc_need n) 0x23 p r (script s' handles' p.needs) drained
      first-refused e =
          beside stands (alloc_need n) 0x23 _ (first-is place (remembered_at p.needs) p.needs.needed (state_of (view p.scopes) p.handles) n found id is) (a.comes 0x23 drained) p.needs (λ q. clash e q) (λ _. refl)
          stands.needs-length stands.remembers-length

      pub first-works : is_err r ≡ false → WorksWith place (alloc_need n) 0x23 p r (script s' handles' (with_need p.needs n (get_or handles'.table p.handles.handed 0) p.handles.handed)) drained
      first-works e =
          let b = get_or handles'.table p.handles.handed 0 in
          let long = set-lengths b p.handles.handed in
          beside stands (alloc_need n) 0x23 _ (first-is place (remembered_at p.needs) p.needs.needed (state_of (view p.scopes) p.handles) n found id is) (a.comes 0x23 drained) (with_need p.needs n b p.handles.handed)
          (λ _. set_own (view s') handles' p.needs n within-tables.0 within-tables.1 p.handles.handed (ap is_scope_kind (a.hands e).1)) (λ q. clash q e)
          long.0 long.1

  -- .. of the handle that the need remembers, at the place that the code has as m
  module _ {m : ℕ} (same : m ≡ n) (d : Need') (k : KnowsNeed p.needs n (Ok d)) {r : Result Adds Refusal} {s' : Scopes} {handles' : Handles} (w : Frees (λ t. free_own (get_or p.needs.remembers m 0) t (need_of d)) p.scopes p.handles r s' handles') (drained : List ℕ) where
    comes : Comes p.scopes p.handles (freed_then 0x25 (free_own (get_or p.needs.remembers n 0) (state_of (view p.scopes) p.handles) (need_in (get_or p.needs.table n 0)))) 0x25 r s' handles' drained
    comes = comes-by 0x25 (λ t. freed_then 0x25 (free_own (get_or p.needs.remembers (sym same t) 0) (state_of (view p.scopes) p.handles) (sym k.1 t))) (w 0x25 drained)

    pub dropped-refused : is_err r ≡ true → WorksWith place (drop_need n) 0x25 p r (script s' handles' p.needs) drained
    dropped-refused e =
        beside stands (drop_need n) 0x25 _ (drop-is place (remembered_at p.needs) p.needs.needed (state_of (view p.scopes) p.handles) n (there stands n d k)) comes p.needs (λ q. clash e q) (λ _. refl)
        stands.needs-length stands.remembers-length

    pub dropped-works : is_err r ≡ false → WorksWith place (drop_need n) 0x25 p r (script s' handles' (with_need p.needs n 0 0)) drained
    dropped-works e =
        let long = set-lengths k.0 0 0 in
        beside stands (drop_need n) 0x25 _ (drop-is place (remembered_at p.needs) p.needs.needed (state_of (view p.scopes) p.handles) n (there stands n d k)) comes (with_need p.needs n 0 0)
        (λ _. set-gone (view s') handles' p.needs n (within-tables k.0).0 (within-tables k.0).1) (λ q. clash q e)
        long.0 long.1
