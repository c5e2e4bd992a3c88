-- Frames that hand out slots and handles: 3 or 4, then 16, then 7; then as many handles as slots. Assumes nothing.
use mathlib.Core.Path.{◌≡◌, refl, sym, ap, subst, ◌∙◌}
use mathlib.Core.Logic.{◌⊎◌, ⊎_elim}
use mathlib.Core.List.{List, [], ◌∷◌}
use Prim.Native.Nat.{ℕ, ◌+◌, ◌≤◌, ◌<◌}
use native.Mathlib.Omega.{arith}
use borrow.Author.Tests.{le-ltb, lt-ltb}
use Rattle.std.specs.Prelude.{Ok}
use Rattle.rules.specs.Notation.{Answer, given, refused, ◌>>=◌, ◌▹◌}
use Rattle.rules.specs.Refusals.{number_of}
use Rattle.rules.specs.declared.refusal.Refusal.{Refusal}
use Rattle.rules.specs.Sizes.{base, HANDLES, SLOTS}
use Rattle.rules.specs.Slots.{Slots, Placed, Placement, Place, placing}
use Rattle.rules.specs.Scopes as rule
use Rattle.rules.specs.Scopes.{Found, allocate}
use Rattle.rules.specs.Needs.{Kind}
use Rattle.rules.specs.Frames.{no_need, State, scopes≔, handles≔, handed≔, shows, one_line, grant, allot, Step}
use Rattle.rules.specs.Demand3.{Fair, Gives}
use Rattle.rules.proofs.Chains.{when_true, when_false}
use Rattle.rules.proofs.Sound.{SlotsSound}
use Rattle.rules.proofs.Tells.{decided, is_false}
use Rattle.rules.proofs.Editions.{placing-fair-sound}
use Rattle.rules.proofs.Leaves.{allotted}
use Rattle.slots.specs.declared.SlotAddress.{SlotAddress}
use Rattle.scopes.specs.View.{view, Seen, told}
use Rattle.scopes.specs.declared.Scopes.{Scopes}
use Rattle.handles.specs.Handles.{handle_at, state_of, HandsOut}
use Rattle.handles.specs.declared.Handles.{Handles}
use Rattle.handles.proofs.Changes.{Granted, granting}
use Rattle.frames.specs.Steps.{stepped, Stands}
use Rattle.frames.specs.declared.steps.Adds.TheVariants.{Slot}
use Rattle.frames.proofs.Told.{given-refused}

-- ---- slots that a placement gives

outside : (n : ℕ) (s : Slots) (p : Placed) → Gives n s p → (b : ℕ) → (b < p.address) ⊎ (p.address + n ≤ b) → p.next.occupied b ≡ s.occupied b
outside n s p g b w =
    decided (s.occupied b)
    (λ e. g.kept b e ∙ sym e)
    (λ e. is_false (p.next.occupied b) (λ t. let o = g.only b t e in ⊎_elim (λ l. omega arith) (λ l. omega arith) w) ∙ sym e)

module _ (p : Place) {s : Scopes} {handles : Handles} (stands : Stands s handles) where
  abbrev c : rule.Scopes
  c = view s

  abbrev standing : State
  standing = state_of c handles

  abbrev place : Placement
  place = placing base.segments p

  fair : Fair base place (SlotsSound base.segments)
  unfolding base
  fair = placing-fair-sound base (omega arith) p

  -- where the allocation of n slots for k was given
  given_below : (k : Found) (n : ℕ) (x : ℕ × rule.Scopes) → allocate place k n c ≡ given x → x.0 + n ≤ SLOTS
  unfolding base
  given_below k n x q =
      let w = (allotted place k n c).at x q in
      omega (arith, w.address, (fair.placed n c.slots w.placed w.from stands.state.scopes.slots).2)

  pub answered-below : (k : Found) (n : ℕ) (a : SlotAddress) {d : rule.Scopes} → record { next = d; says = given a.0 } ≡ told (λ (b : ℕ). b) c (allocate place k n c) → a.0 + n ≤ SLOTS
  answered-below k n a e = go (allocate place k n c) refl
    where
      go : (m : Answer (ℕ × rule.Scopes)) → allocate place k n c ≡ m → a.0 + n ≤ SLOTS
      go (given x) q =
          let says : given a.0 ≡ given x.0 = ap (λ (z : Seen ℕ). z.says) (e ∙ ap (told (λ (b : ℕ). b) c) q) in
          let same : a.0 ≡ x.0 = cc in
          omega (arith, given_below k n x q)
      go (refused m) q = given-refused (ap (λ (z : Seen ℕ). z.says) (e ∙ ap (told (λ (b : ℕ). b) c) q))

  module _ (k : Found) (kind : Kind) (n : ℕ) where
    abbrev pub asked : ℕ → Step
    asked op = allot base place k kind n standing >>= λ x. one_line (shows op (x.0 ∷ [])) x.1

    -- 16
    pub full : HANDLES < handles.handed + n → allot base place k kind n standing ≡ refused 16
    unfolding allot base
    full l = when_true 16 _ (lt-ltb HANDLES (handles.handed + n) l)

    module _ (fits : handles.handed + n ≤ HANDLES) where
      abbrev handed_out : ℕ × rule.Scopes → ℕ × State
      handed_out x = (x.0, standing ▹ scopes≔ x.1 ▹ handles≔ (grant handles.handed n x.0 kind standing.handles) ▹ handed≔ (handles.handed + n))

      asks : (m : Answer (ℕ × rule.Scopes)) → allocate place k n c ≡ m → (op : ℕ) → asked op ≡ ((m >>= λ x. given (handed_out x)) >>= λ x. one_line (shows op (x.0 ∷ [])) x.1)
      unfolding allot base
      asks m e op =
          ap (λ (z : Answer (ℕ × State)). z >>= λ x. one_line (shows op (x.0 ∷ [])) x.1)
          (when_false 16 _ (le-ltb HANDLES (handles.handed + n) fits) ∙ ap (λ (y : Answer (ℕ × rule.Scopes)). y >>= λ x. given (handed_out x)) e)

      -- 7
      pub none-left : (e : Refusal) {d : rule.Scopes} → record { next = d; says = refused (number_of e) } ≡ told (λ (b : ℕ). b) c (allocate place k n c) → (op : ℕ) → asked op ≡ refused (number_of e)
      unfolding ◌>>=◌
      none-left e q op = go (allocate place k n c) refl
        where
          go : (m : Answer (ℕ × rule.Scopes)) → allocate place k n c ≡ m → asked op ≡ refused (number_of e)
          go (given x) p = given-refused (sym (ap (λ (z : Seen ℕ). z.says) (q ∙ ap (told (λ (b : ℕ). b) c) p)))
          go (refused m) p =
              let z : refused (number_of e) ≡ refused m = ap (λ (z : Seen ℕ). z.says) (q ∙ ap (told (λ (b : ℕ). b) c) p) in
              let same : number_of e ≡ m = cc in
              asks (refused m) p op ∙ ap refused (sym same)

      module _ (s' : Scopes) (handles' : Handles) (a : SlotAddress) (e : record { next = view s'; says = given a.0 } ≡ told (λ (b : ℕ). b) c (allocate place k n c)) (hands : HandsOut handles n a.0 kind handles') where
        -- the rules' state after it is the code's
        granted-state : (x : ℕ × rule.Scopes) → allocate place k n c ≡ given x → view s' ≡ x.1 → a.0 ≡ x.0
            → (standing ▹ scopes≔ x.1 ▹ handles≔ (grant handles.handed n x.0 kind standing.handles) ▹ handed≔ (handles.handed + n)) ≡ state_of (view s') handles'
        granted-state x q same says =
            let w = (allotted place k n c).at x q in
            let f = (fair.placed n c.slots w.placed w.from stands.state.scopes.slots).1 in
            let at : a.0 ≡ w.placed.address = says ∙ w.address in
            let all : Granted c.slots.occupied w.placed.next.occupied handles handles' n w.placed.address kind
            = record { was-clear = f.clear; taken = f.taken; kept = outside n c.slots w.placed f; hands = subst (λ (b : ℕ). HandsOut handles n b kind handles') at hands } in
            let slots : w.placed.next ≡ (view s').slots = sym w.leaves.slots-are ∙ ap (λ (y : rule.Scopes). y.slots) (sym same) in
            let tables : grant handles.handed n x.0 kind standing.handles ≡ handle_at (view s').slots.occupied handles'
            = (λ t. grant handles.handed n (w.address t) kind standing.handles) ∙ sym (granting all) ∙ (λ t. handle_at (slots t).occupied handles') in
            λ t. record { scopes = sym same t; handles = tables t; handed = sym hands.handed t; needs = λ n. no_need; needed = 0 }

        pub allots : (op : ℕ) (drained : List ℕ) → asked op ≡ stepped op (Ok (Slot a)) (state_of (view s') handles') drained
        unfolding ◌>>=◌
        allots op drained = go (allocate place k n c) refl
          where
            go : (m : Answer (ℕ × rule.Scopes)) → allocate place k n c ≡ m → asked op ≡ stepped op (Ok (Slot a)) (state_of (view s') handles') drained
            go (given x) q =
                let z = e ∙ ap (told (λ (b : ℕ). b) c) q in
                let says : given a.0 ≡ given x.0 = ap (λ (y : Seen ℕ). y.says) z in
                let same : a.0 ≡ x.0 = cc in
                asks (given x) q op ∙ λ t. one_line (shows op (sym same t ∷ [])) (granted-state x q (ap (λ (y : Seen ℕ). y.next) z) same t)
            go (refused m) q = given-refused (ap (λ (y : Seen ℕ). y.says) (e ∙ ap (told (λ (b : ℕ). b) c) q))
