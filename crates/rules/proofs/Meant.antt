-- W-211: what a script means doesn't depend on where its allocations go. Assumes nothing.
use mathlib.Core.Path.{◌≡◌, refl, sym, ap, ◌∙◌}
use mathlib.Core.List.{List, [], ◌∷◌}
use Prim.Native.Nat.{ℕ, suc}
use lib.ListN.{length}
use Rattle.rules.specs.Sizes.{Room}
use Rattle.rules.specs.Slots.{Placement, Place, placing}
use Rattle.rules.specs.Frames.{State, start, Frame, Line, steps, accepted}
use Rattle.rules.specs.Meaning.{deed, filled, unused, shown, unless_refused, meaning}
use Rattle.rules.specs.Text.{title, read_script}
use Rattle.rules.specs.Entries.{outcome, translated}
use Rattle.rules.specs.Demand3.{script_meaning}
use Rattle.rules.specs.Editions.{OneMeaning, OneMeaningBytes}
use Rattle.rules.proofs.Demand3.{tail, split-first}
use Rattle.rules.proofs.Blanks.{blank}
use Rattle.rules.proofs.Said.{names-on, deeds-on}

module _ (room : Room) where
  module _ (p q : Placement) where
    -- from two states with the same names
    meant : (fs : List Frame) (i j : ℕ) (s t : State) (ls ms : List Line) (m n : ℕ) → blank s.scopes ≡ blank t.scopes
        → steps room p i s fs ≡ accepted ls m → steps room q j t fs ≡ accepted ms n → (boxes : ℕ → ℕ) (vs : List ℕ) → meaning room p s boxes vs fs ≡ meaning room q t boxes vs fs
    unfolding meaning unless_refused
    meant [] i j s t ls ms m n same e d boxes vs = refl
    meant (f ∷ fs) i j s t ls ms m n same e d boxes vs =
        let w = split-first room p i s f fs ls m e in
        let v = split-first room q j t f fs ms n d in
        let one = deeds-on room p q s t same f w.result v.result w.stepped v.stepped in
        let names = names-on room p q s t same f w.result v.result w.stepped v.stepped in
        rw (w.stepped, v.stepped, ← one, meaning)
        (ap (shown (deed room s f) boxes)
        (meant fs (suc i) (suc j) w.result.1 v.result.1 w.tail.rest v.tail.rest m n names w.tail.went v.tail.went (filled (deed room s f) vs boxes) (unused (deed room s f) vs)))

  pub one-meaning : OneMeaning room
  unfolding OneMeaning
  one-meaning p q i j fs ls ms m n e d vs = meant p q fs i j start start ls ms m n refl e d (λ h. 0) vs

  pub one-meaning-bytes : OneMeaningBytes room
  unfolding OneMeaning OneMeaningBytes translated outcome script_meaning
  one-meaning-bytes script other fs r u ls ms m n e d vs =
      let p : Place = (read_script room script).place in
      let q : Place = (read_script room other).place in
      let a = tail (title p) (steps room (placing room.segments p) (length (title p)) start fs) ls m (sym (rw r) ∙ e) in
      let b = tail (title q) (steps room (placing room.segments q) (length (title q)) start fs) ms n (sym (rw u) ∙ d) in
      rw (r, u, script_meaning)
      (one-meaning (placing room.segments p) (placing room.segments q) (length (title p)) (length (title q)) fs a.rest b.rest m n a.went b.went vs)
