-- What soundness says of a script's handles, for whoever keeps them in another form: a held handle's slot is occupied, on one live scope's
-- list, below the size and not dangling; no other handle holds it; and a name's binding tells its handle's address. Assumes nothing.
use mathlib.Core.Path.{◌≡◌}
use mathlib.Core.Bool.{true, false}
use Prim.Native.Nat.{ℕ, ◌<◌}
use Rattle.rules.specs.Sizes.{Room}
use Rattle.rules.specs.AddressSets.{member}
use Rattle.rules.specs.Scopes.{get_name}
use Rattle.rules.specs.Frames.{State}
use Rattle.rules.proofs.Chains.{All}
use Rattle.rules.proofs.Sound.{Owner, lists_of, Holder, Agrees, StateSound}
use Rattle.rules.proofs.Tells.{clash, is_false}
use Rattle.rules.proofs.Names.{bound-is, got}

module _ (room : Room) (s : State) (ok : StateSound room s) where
  module _ (h : ℕ) (l : h < s.handed) (e : (s.handles h).held ≡ true) where
    pub held-occupied : s.scopes.slots.occupied (s.handles h).address ≡ true
    held-occupied = ok.handles.taken h l e

    pub held_below : (s.handles h).address < s.scopes.size
    held_below = ok.scopes.size.above (s.handles h).address (ok.handles.within h l e) held-occupied

    pub held-owner : Owner room.scopes (lists_of s.scopes.live) (s.handles h).address
    held-owner = ok.scopes.owned.owner (s.handles h).address (ok.handles.within h l e) held-occupied

    -- on that list alone
    pub held-owner-only : (i : ℕ) → i < room.scopes → member (s.handles h).address (lists_of s.scopes.live i) ≡ true → i ≡ held-owner.index
    held-owner-only i b m = ok.scopes.owned.apart i held-owner.index (s.handles h).address b held-owner.below m held-owner.has

    pub held-not-dangling : member (s.handles h).address s.scopes.dangling ≡ false
    held-not-dangling = is_false _ (λ m. clash held-occupied (ok.scopes.dangling.clear (s.handles h).address m))

    pub held-alone : (g : ℕ) → g < s.handed → (s.handles g).address ≡ (s.handles h).address → (g ≡ h → ⊥) → (s.handles g).held ≡ false
    held-alone g k q ne = is_false _ (λ d. ne (ok.handles.apart g h k l d e q))

  -- no handle holds a clear slot
  pub clear-free : (h : ℕ) → h < s.handed → s.scopes.slots.occupied (s.handles h).address ≡ false → (s.handles h).held ≡ false
  clear-free h l c = is_false _ (λ e. clash (ok.handles.taken h l e) c)

  -- an owned slot has a handle that holds it
  pub owned-holder : (i a : ℕ) → i < room.scopes → member a (lists_of s.scopes.live i) ≡ true → Holder s.handed s.handles a
  owned-holder i a b m = ok.handles.holder a (ok.scopes.owned.within i b a m) (ok.scopes.owned.taken i a b m)

  -- what get answers
  pub got-agrees : (name : ℕ) → All (Agrees s.handles s.handed) (get_name room name s.scopes)
  got-agrees name = record {
    at = λ b e.
        let w = (got room name s.scopes).at b e in
        (bound-is w.index name s.scopes.bindings b w.is ok.agreeing).2;
  }
