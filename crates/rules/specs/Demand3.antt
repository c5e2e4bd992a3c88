-- Demand 3: "Any accepted script, translated and run on a zeroed frame of exactly the reported size, prints what the script means ..;
-- no load or store falls outside the frame", stated for every placement. Assumes nothing.
use Rattle.std.specs.Prelude.{◌≡◌, true, false, List, [], ℕ, ◌+◌, ◌*◌, ◌-◌, ◌≤◌, ◌<◌, length, drop}
use Rattle.std.proofs.Math.Option.{Option, none, some}
use Rattle.rules.specs.Sizes.{Room}
use Rattle.rules.specs.Slots.{Slots, Placed, Placement, placing, fresh_slots, remove}
use Rattle.rules.specs.Frames.{start, Frame, Line, accepted, steps}
use Rattle.rules.specs.Meaning.{obey, high, meaning, list_takes, frames_take, lacking}
use Rattle.rules.specs.Text.{frames, unread, read_script, list_text, listed, read_list}
use Rattle.rules.specs.Recordings.{Recording, recorded}
use Rattle.rules.specs.Entries.{translated, ran, stopped, recorded_on}

-- ---- fair placements

-- the n slots from `p.address` on were clear and are occupied, and no other slot changed
pub record Gives (n : ℕ) (s : Slots) (p : Placed) : Type 0 where
  pub clear : (i : ℕ) → i < n → s.occupied (p.address + i) ≡ false
  pub taken : (i : ℕ) → i < n → p.next.occupied (p.address + i) ≡ true
  pub kept : (b : ℕ) → s.occupied b ≡ true → p.next.occupied b ≡ true
  pub only : (b : ℕ) → p.next.occupied b ≡ true → s.occupied b ≡ false → (p.address ≤ b) × (b < p.address + n)

-- "any placement that only gives clear slots, those of a run consecutive", all below the room; InOrder is what it needs of the slots,
-- which hold it from the fresh ones on.
pub record Fair (room : Room) (place : Placement) (InOrder : Slots → Type 0) : Type 0 where
  pub at_first : InOrder fresh_slots
  pub removed : (a : ℕ) (s : Slots) → InOrder s → InOrder (remove a s)
  pub placed : (n : ℕ) (s : Slots) (p : Placed) → place n s ≡ some p → InOrder s
      → InOrder p.next × Gives n s p × (p.address + n ≤ 128 * room.segments)

-- ---- on decoded lists

-- With any samples, on cells as many as the size at least, the list loads what the script means with those samples; it takes as many as
-- the script; and every address is below the size.
pub record Holds (room : Room) (place : Placement) (fs : List Frame) (ls : List Line) (size : ℕ) : Type 0 where
  pub prints : (vs cells : List ℕ) → size ≤ length cells → (obey cells vs ls).loaded ≡ meaning room place start (λ h. 0) vs fs
  pub samples : list_takes ls ≡ frames_take fs
  pub inside : high size 0 ls ≡ none

unfoldable pub Demand3 : Room → Placement → Type 0
Demand3 room place = (i : ℕ) (fs : List Frame) (ls : List Line) (size : ℕ) → steps room place i start fs ≡ accepted ls size → Holds room place fs ls size

-- ---- on bytes, for a script of either edition

-- what a script means with these samples, and how many it takes
unfoldable pub script_meaning : Room → List ℕ → List ℕ → List ℕ
script_meaning room script vs =
    elim (read_script room script).script [
      | frames fs ↦ meaning room (placing room.segments (read_script room script).place) start (λ h. 0) vs fs
      | unread n i ↦ []
    ]

unfoldable pub script_takes : Room → List ℕ → ℕ
script_takes room script = elim (read_script room script).script [ frames fs ↦ frames_take fs | unread n i ↦ 0 ]

-- The frame machine accepts the list's bytes on these cells with this recording, loads these values and leaves so many samples over; the
-- cells from `size` on stay.
pub record Runs (room : Room) (size : ℕ) (cells : List ℕ) (r : Recording) (list values : List ℕ) (left : ℕ) : Type 0 where
  pub last : List ℕ
  pub runs : recorded_on room cells r list ≡ ran (record { cells = last; loaded = values }) left
  pub above : drop size last ≡ drop size cells

-- W-205: "For every recording with samples enough, what is printed equals the meaning with those samples in order, each used once. The
-- number of samples left over is reported."
unfoldable pub Demand3Bytes : Room → Type 0
Demand3Bytes room =
    (script : List ℕ) (ls : List Line) (size : ℕ) → translated room script ≡ accepted ls size
    → (cells : List ℕ) → size ≤ length cells
    → (n : ℕ) (vs : List ℕ) → script_takes room script ≤ n → script_takes room script ≤ length vs
    → Runs room size cells (recorded n vs) (list_text ls size) (script_meaning room script vs) (n - script_takes room script)

-- "23 when there are too few samples", whatever the cells and what was kept; it shows "the first 14 line without a sample"
pub record Lacks (room : Room) (cells : List ℕ) (r : Recording) (list : List ℕ) (first : Option ℕ) : Type 0 where
  pub line : ℕ
  pub is-first : first ≡ some line
  pub stops : recorded_on room cells r list ≡ stopped 23 line

unfoldable pub TooFew : Room → Type 0
TooFew room =
    (script : List ℕ) (ls : List Line) (size : ℕ) → translated room script ≡ accepted ls size
    → (cells : List ℕ) (n : ℕ) (vs : List ℕ) → n < script_takes room script → Lacks room cells (recorded n vs) (list_text ls size) (lacking 0 n ls)

-- a list that we wrote reads back as the same lines and size
unfoldable pub RoundTrip : Room → Type 0
RoundTrip room =
    (script : List ℕ) (ls : List Line) (size : ℕ) → translated room script ≡ accepted ls size
    → read_list room (list_text ls size) ≡ listed ls size
