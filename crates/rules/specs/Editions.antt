-- Document 02, W-211: two statements on the editions, shown in crates/rules/proofs. No rule and no promise cites this file. Assumes nothing.
use Rattle.std.specs.Prelude.{◌≡◌, true, List, ℕ, ◌*◌, ◌<◌}
use Rattle.std.proofs.Math.Option.{some}
use Rattle.rules.specs.Notation.{refused}
use Rattle.rules.specs.Sizes.{Room}
use Rattle.rules.specs.Slots.{Placement, edition2}
use Rattle.rules.specs.Scopes.{Found, top_scope}
use Rattle.rules.specs.Frames.{Frame, alloc, State, start, Line, step, accepted, steps}
use Rattle.rules.specs.Sound.{sound_state}
use Rattle.rules.specs.Meaning.{meaning}
use Rattle.rules.specs.Text.{frames, read_script}
use Rattle.rules.specs.Entries.{translated}
use Rattle.rules.specs.Demand3.{script_meaning}

-- ---- "In edition 2, an alloc past 3 and 16 is refused by 7 exactly if every slot is held."

-- each slot is that of a handle that holds it
unfoldable pub EverySlotHeld : Room → State → Type 0
EverySlotHeld room s = (a : ℕ) → a < 128 * room.segments → (h : ℕ) × (h < s.handed) × ((s.handles h).held ≡ true) × ((s.handles h).address ≡ a)

-- "past 3 and 16": there is a top, and a handle more
pub record PastThreeAndSixteen (room : Room) (s : State) : Type 0 where
  pub owner : Found
  pub top : top_scope s.scopes ≡ some owner
  pub handle : s.handed < room.handles

pub record SevenIfFull (room : Room) (s : State) : Type 0 where
  pub refuses : PastThreeAndSixteen room s → EverySlotHeld room s → step room (edition2 room.segments) s alloc ≡ refused 7
  pub only : step room (edition2 room.segments) s alloc ≡ refused 7 → EverySlotHeld room s

unfoldable pub SevenExactlyIfFull : Room → Type 0
SevenExactlyIfFull room = (s : State) → sound_state room s ≡ true → SevenIfFull room s

-- ---- what a script means doesn't depend on where its allocations go

-- any two placements that accept the same frames give them one meaning, with any samples
unfoldable pub OneMeaning : Room → Type 0
OneMeaning room =
    (p q : Placement) (i j : ℕ) (fs : List Frame) (ls ms : List Line) (m n : ℕ) → steps room p i start fs ≡ accepted ls m → steps room q j start fs ≡ accepted ms n
    → (vs : List ℕ) → meaning room p start (λ h. 0) vs fs ≡ meaning room q start (λ h. 0) vs fs

-- so two scripts with the same frames, whatever their editions, mean the same
unfoldable pub OneMeaningBytes : Room → Type 0
OneMeaningBytes room =
    (script other : List ℕ) (fs : List Frame) → (read_script room script).script ≡ frames fs → (read_script room other).script ≡ frames fs
    → (ls ms : List Line) (m n : ℕ) → translated room script ≡ accepted ls m → translated room other ≡ accepted ms n
    → (vs : List ℕ) → script_meaning room script vs ≡ script_meaning room other vs
