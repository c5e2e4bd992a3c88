-- A script starts in a sound state, and every state that it reaches is sound: in any room whose size holds its slots, for every fair
-- placement. Assumes nothing.
use mathlib.Core.Path.{◌≡◌, refl}
use mathlib.Core.List.{List, [], ◌∷◌}
use Prim.Native.Nat.{ℕ, suc, ◌*◌, ◌≤◌, ◌<◌}
use native.Mathlib.Omega.{arith}
use Rattle.rules.specs.Notation.{given, refused}
use Rattle.rules.specs.Sizes.{Room}
use Rattle.rules.specs.Slots.{Placement, fresh_slots}
use Rattle.rules.specs.Scopes.{fresh_scopes}
use Rattle.rules.specs.Frames.{Frame, State, start, Line, Step, step, accepted, refused_at, onward, steps}
use Rattle.rules.specs.Demand3.{Fair}
use Rattle.rules.proofs.Sound.{every-nil, SlotsSound, StateSound}
use Rattle.rules.proofs.Tells.{clash}
use Rattle.rules.proofs.KeepsNeeds.{fresh-sound}
use Rattle.rules.proofs.Demand3.{tail}
use Rattle.rules.proofs.KeepsSteps.{keeps-step}

-- the frames lead from s to t, none of them refused
pub data Reaches (room : Room) (place : Placement) : State → List Frame → State → Type 0 where
  no_frames : {s : State} → Reaches room place s [] s
  frame : {s t : State} {f : Frame} {fs : List Frame} (r : List Line × State) → step room place s f ≡ given r → Reaches room place r.1 fs t → Reaches room place s (f ∷ fs) t

module _ (room : Room) (big : 128 * room.segments ≤ room.size) (place : Placement) (fair : Fair room place (SlotsSound room.segments)) where
  pub keeps-frames : {s t : State} {fs : List Frame} → Reaches room place s fs t → StateSound room s → StateSound room t
  keeps-frames no_frames ok = ok
  keeps-frames (frame {s = s} {f = f} r e more) ok = keeps-frames more ((keeps-step room s ok big place fair f).at r e)

-- an accepted script reaches a state, and the size that is answered is that state's
pub record Accepted (room : Room) (place : Placement) (s : State) (fs : List Frame) (size : ℕ) : Type 0 where
  pub last : State
  pub reached : Reaches room place s fs last
  pub size_is : last.scopes.size ≡ size

pub accepted-reaches : (room : Room) (place : Placement) (i : ℕ) (s : State) (fs : List Frame) (ls : List Line) (size : ℕ) → steps room place i s fs ≡ accepted ls size → Accepted room place s fs size
unfolding steps onward
accepted-reaches room place i s [] ls size e = record { last = s; reached = no_frames; size_is = cc }
accepted-reaches room place i s (f ∷ fs) ls size e = go (step room place s f) refl (λ t more q. accepted-reaches room place (suc i) t fs more size q)
  where
    go : (o : Step) → step room place s f ≡ o → ((t : State) (more : List Line) → steps room place (suc i) t fs ≡ accepted more size → Accepted room place t fs size) → Accepted room place s (f ∷ fs) size
    go (given r) q ih =
        let w = tail r.0 (steps room place (suc i) r.1 fs) ls size (rw (q, onward) at e) in
        let a = ih r.1 w.rest w.went in
        record { last = a.last; reached = frame r q a.reached; size_is = a.size_is }
    go (refused n) q ih = absurd (let y : refused_at n i ≡ accepted ls size = rw (q, onward) at e in let z : ◌≡◌ {A = ℕ} 0 1 = cc in omega arith)

-- ---- the start

pub start-sound : (room : Room) → 0 < room.segments → 0 < room.scopes → StateSound room start
unfolding start fresh_scopes fresh_slots
start-sound room segments scopes = record {
  scopes = fresh-sound room segments scopes;
  handles = record {
    few = omega arith;
    within = λ h l e. absurd (omega arith);
    taken = λ h l e. absurd (omega arith);
    apart = λ g h k l d e q. absurd (omega arith);
    holder = λ a l t. clash t refl;
  };
  agreeing = every-nil;
  needing = record { few = omega arith; agree = λ n l. absurd (omega arith); apart = λ i j k l d e q. absurd (omega arith) };
}
