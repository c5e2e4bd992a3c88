-- The tests of specs/Sound on states with handles answer yes exactly where the records of Sound hold. Assumes nothing.
use mathlib.Core.Path.{◌≡◌, refl, sym, ap, ◌∙◌}
use mathlib.Core.Bool.{true, false, ◌&&◌}
use Prim.Native.Nat.{ℕ, ◌*◌, ◌≤◌, ◌<◌}
use native.Mathlib.Omega.{arith}
use lib.Dec.{eqb}
use borrow.Author.Tests.{eq-eqb}
use Rattle.rules.specs.Sizes.{Room}
use Rattle.rules.specs.Needs.{Need, defer, at, ignore, freed_need}
use Rattle.rules.specs.Frames.{owns, State}
use Rattle.rules.specs.Sound.{one, sum_below, holders, sound_handles, agreeing, need_agrees, sharing, sound_needs, sound_state}
use Rattle.rules.specs.Tells.{Tells}
use Rattle.rules.proofs.Sound.{Every, HandlesSound, Agrees, NeedAgrees, NeedsSound, StateSound}
use Rattle.rules.proofs.Tells.{decided, clash, tells_as, tells-and, tells-implies, tells-true, tells-lt, tells-le, tells-eq, tells-below, tells-every}
use Rattle.rules.proofs.Counts.{sum-none, sum-only, sum-at, sum-single, sum-some}
use Rattle.rules.proofs.Tests.{tells-sound}

module _ (room : Room) (s : State) where
  abbrev holding : ℕ → ℕ → ℕ
  holding a h = one ((s.handles h).held && eqb (s.handles h).address a)

  held_one : (a h : ℕ) → (s.handles h).held ≡ true → (s.handles h).address ≡ a → holding a h ≡ 1
  held_one a h e q = rw (e, eq-eqb (s.handles h).address a q)

  one-held : (a h : ℕ) → 1 ≤ holding a h → ((s.handles h).held ≡ true) × ((s.handles h).address ≡ a)
  one-held a h =
      decided ((s.handles h).held && eqb (s.handles h).address a)
      (λ e _. (tells-and (tells-true (s.handles h).held) (tells-eq (s.handles h).address a)).holds e)
      (λ e l. absurd (omega (arith, rw e at l)))

  not-one : (a h : ℕ) → (((s.handles h).held ≡ true) × ((s.handles h).address ≡ a) → ⊥) → holding a h ≡ 0
  not-one a h n =
      decided ((s.handles h).held && eqb (s.handles h).address a)
      (λ e. absurd (n ((tells-and (tells-true (s.handles h).held) (tells-eq (s.handles h).address a)).holds e)))
      (λ e. rw e)

  abbrev Held : Type 0
  Held = HandlesSound (128 * room.segments) room.handles s.scopes.slots.occupied s.handles s.handed

  handles-hold : s.handed ≤ room.handles
      → ((a : ℕ) → a < 128 * room.segments → sum_below (holding a) s.handed ≡ one (s.scopes.slots.occupied a))
      → ((h : ℕ) → h < s.handed → (s.handles h).held ≡ true → (s.handles h).address < 128 * room.segments)
      → Held
  handles-hold few count inside =
      record {
        few = few;
        within = inside;
        taken = λ h l e. decided (s.scopes.slots.occupied (s.handles h).address) (λ o. o)
            (λ o. absurd (omega (arith, rw o at (count (s.handles h).address (inside h l e)), sum-at (holding (s.handles h).address) s.handed h l, held_one (s.handles h).address h e refl)));
        apart = λ g h k l d e q.
            let most : sum_below (holding (s.handles h).address) s.handed ≤ 1
            = decided (s.scopes.slots.occupied (s.handles h).address) (λ o. omega (arith, rw o at (count (s.handles h).address (inside h l e)))) (λ o. omega (arith, rw o at (count (s.handles h).address (inside h l e)))) in
            sum-single (holding (s.handles h).address) s.handed g h most k l (omega (arith, held_one (s.handles h).address g d q)) (omega (arith, held_one (s.handles h).address h e refl));
        holder = λ a l o.
            let p = sum-some (holding a) s.handed (omega (arith, rw o at (count a l))) in
            let w = one-held a p.at p.counts in
            record { handle = p.at; below = p.below; held = w.0; address = w.1 };
      }

  handles-show : Held → (a : ℕ) → a < 128 * room.segments → sum_below (holding a) s.handed ≡ one (s.scopes.slots.occupied a)
  handles-show r a l = decided (s.scopes.slots.occupied a) at_one at_none
    where
      at_one : s.scopes.slots.occupied a ≡ true → sum_below (holding a) s.handed ≡ one (s.scopes.slots.occupied a)
      at_one e =
          let w = r.holder a l e in
          rw e
          (sum-only (holding a) s.handed w.handle w.below
          (λ j k ne. not-one a j (λ q. ne (r.apart j w.handle k w.below q.0 w.held (q.1 ∙ sym w.address))))
          ∙ held_one a w.handle w.held w.address)

      at_none : s.scopes.slots.occupied a ≡ false → sum_below (holding a) s.handed ≡ one (s.scopes.slots.occupied a)
      at_none e = rw e (sum-none (holding a) s.handed (λ h k. not-one a h (λ q. clash (r.taken h k q.0) (ap s.scopes.slots.occupied q.1 ∙ e))))

  tells-handles : Tells (sound_handles room s) Held
  unfolding sound_handles holders
  tells-handles =
      tells_as
      (tells-and
      (tells-and (tells-le s.handed room.handles) (tells-below (128 * room.segments) (λ a _. tells-eq (sum_below (holding a) s.handed) (one (s.scopes.slots.occupied a)))))
      (tells-below s.handed (λ h _. tells-implies (s.handles h).held (tells-lt (s.handles h).address (128 * room.segments)))))
      (λ h. handles-hold h.0.0 h.0.1 h.1)
      (λ r. ((r.few, handles-show r), r.within))

  tells-agreeing : Tells (agreeing s) (Every (Agrees s.handles s.handed) s.scopes.bindings)
  unfolding agreeing
  tells-agreeing = tells-every s.scopes.bindings (λ b. tells-and (tells-lt b.handle s.handed) (tells-eq (s.handles b.handle).address b.address))

  tells-need : (h : ℕ) (d : Need) → Tells (need_agrees s h d) (NeedAgrees s.handles s.handed h d)
  tells-need h (defer id) = record { holds = λ _. tt; shows = λ _. refl }
  tells-need h (at a) = tells-and (tells-lt h s.handed) (tells-eq (s.handles h).address a.slot)
  tells-need h ignore = record { holds = λ _. tt; shows = λ _. refl }
  tells-need h freed_need = record { holds = λ _. tt; shows = λ _. refl }

  tells-needs : Tells (sound_needs room s) (NeedsSound room.needs s.handles s.handed s.needs s.needed)
  unfolding sound_needs
  tells-needs =
      tells_as
      (tells-and
      (tells-and (tells-le s.needed room.needs) (tells-below s.needed (λ n _. tells-need (s.needs n).handle (s.needs n).need)))
      (tells-below {P = λ i. (j : ℕ) → j < s.needed → sharing s i j ≡ true → i ≡ j} s.needed (λ i _. tells-below {P = λ j. sharing s i j ≡ true → i ≡ j} s.needed (λ j _. tells-implies (sharing s i j) (tells-eq i j)))))
      (λ h. record { few = h.0.0; agree = h.0.1; apart = λ i j k l d e q. h.1 i k j l ((shares i j).shows ((d, e), q)) })
      (λ r. ((r.few, r.agree), λ i k j l e. let q = (shares i j).holds e in r.apart i j k l q.0.0 q.0.1 q.1))
    where
      shares : (i j : ℕ) → Tells (sharing s i j) (((owns (s.needs i).need ≡ true) × (owns (s.needs j).need ≡ true)) × ((s.needs i).handle ≡ (s.needs j).handle))
      shares i j = tells-and (tells-and (tells-true _) (tells-true _)) (tells-eq _ _)

  pub tells-state : Tells (sound_state room s) (StateSound room s)
  unfolding sound_state
  tells-state =
      tells_as
      (tells-and (tells-and (tells-and (tells-sound room s.scopes) tells-handles) tells-agreeing) tells-needs)
      (λ h. record { scopes = h.0.0.0; handles = h.0.0.1; agreeing = h.0.1; needing = h.1 })
      (λ r. (((r.scopes, r.handles), r.agreeing), r.needing))
