-- Document 02, W-206, "Four thousand slots": "Stored scripts and lists keep their bytes, and a stored list reads as it did; a script once refused by
-- 7 or 16 may now be accepted." Stated for any two rooms of which one is larger, shown in crates/rules/proofs. No rule and no promise cites this
-- file. Assumes nothing.
use Rattle.std.specs.Prelude.{◌≡◌, Bool, true, false, ◌||◌, List, ◌⊎◌, ℕ, ◌*◌, ◌≤◌, ◌<◌, eqb}
use Rattle.rules.specs.Sizes.{Room, base}
use Rattle.rules.specs.Frames.{Line, accepted, refused_at}
use Rattle.rules.specs.Meaning.{Ran}
use Rattle.rules.specs.Text.{listed, unlisted, read_list}
use Rattle.rules.specs.Recordings.{Recording}
use Rattle.rules.specs.Entries.{translated, translate_entry, ran, stopped, recorded_on}
use Rattle.rules.specs.Suppliers.{says, unreadable, verdict}

-- "Raise slots .. and handles": no fewer of them, sizes up to no less, and the rest as it was
pub record Larger (small large : Room) : Type 0 where
  pub segments : small.segments ≤ large.segments
  pub handles : small.handles ≤ large.handles
  pub size : small.size ≤ large.size
  pub scopes : large.scopes ≡ small.scopes
  pub bindings : large.bindings ≡ small.bindings
  pub needs : large.needs ≡ small.needs
  pub lines : large.lines ≡ small.lines

-- ---- scripts, of either edition

-- "a script once refused by 7 or 16 may now be accepted"
abbrev pub may_now_pass : ℕ → Bool
may_now_pass n = eqb n 7 || eqb n 16

pub record ScriptKept (small large : Room) (script : List ℕ) : Type 0 where
  -- "Stored scripts and lists keep their bytes": the same lines and the same size, so `list_text` of them is the same text
  pub list : (ls : List Line) (size : ℕ) → translated small script ≡ accepted ls size → translated large script ≡ accepted ls size
  -- refused by any other number, it is refused by that number still, and for the same line
  pub refusal : (n i : ℕ) → may_now_pass n ≡ false → translated small script ≡ refused_at n i → translated large script ≡ refused_at n i
  -- what translate answers, and what it leaves of any lent memory
  pub bytes : (ls : List Line) (size : ℕ) → translated small script ≡ accepted ls size → (lent : List ℕ) → translate_entry small script lent ≡ translate_entry large script lent

unfoldable pub ScriptsKept : Room → Room → Type 0
ScriptsKept small large = (script : List ℕ) → ScriptKept small large script

-- ---- lists

-- "The size line may go up to 4,096": a list whose size was too great, and isn't now
pub record SizeTaken (small large : Room) (list : List ℕ) : Type 0 where
  pub lines : List Line
  pub size : ℕ
  pub past : small.size < size
  pub reads : read_list large list ≡ listed lines size

pub record ListKept (small large : Room) (list : List ℕ) : Type 0 where
  -- "a stored list reads as it did"
  pub lines : (ls : List Line) (size : ℕ) → read_list small list ≡ listed ls size → read_list large list ≡ listed ls size
  -- one that was refused is refused as it was, or it was refused by 1 for its size
  pub refusal : (n i : ℕ) → read_list small list ≡ unlisted n i → (read_list large list ≡ unlisted n i) ⊎ ((n ≡ 1) × SizeTaken small large list)
  -- on any cells with any recording it runs as it did, and is refused as it was by any number but 1
  pub run : (cells : List ℕ) (r : Recording) (x : Ran) (left : ℕ) → recorded_on small cells r list ≡ ran x left → recorded_on large cells r list ≡ ran x left
  pub stop : (cells : List ℕ) (r : Recording) (n i : ℕ) → (n ≡ 1 → ⊥) → recorded_on small cells r list ≡ stopped n i → recorded_on large cells r list ≡ stopped n i

unfoldable pub ListsKept : Room → Room → Type 0
ListsKept small large = (list : List ℕ) → ListKept small large list

-- ---- W-203's yes or no of a script and a list

-- "a script once refused by 7 or 16"
pub record OnceRefused (small : Room) (script : List ℕ) : Type 0 where
  pub number : ℕ
  pub line : ℕ
  pub may : may_now_pass number ≡ true
  pub was : translated small script ≡ refused_at number line

pub record VerdictKept (small large : Room) (script list : List ℕ) : Type 0 where
  -- a yes stays a yes
  pub yes : verdict small script list ≡ says true → verdict large script list ≡ says true
  -- a no stays a no, or it was for such a script; where no size goes past the last slot, as in 01: else a list might show an allocation for which
  -- only the larger room has slots
  pub no : small.size ≤ 128 * small.segments → verdict small script list ≡ says false → (verdict large script list ≡ says false) ⊎ OnceRefused small script
  -- a text that was refused is refused as it was, or it was the list, by 1 for its size
  pub refusal : (n i : ℕ) → verdict small script list ≡ unreadable n i → (verdict large script list ≡ unreadable n i) ⊎ ((n ≡ 1) × SizeTaken small large list)

unfoldable pub VerdictsKept : Room → Room → Type 0
VerdictsKept small large = (script list : List ℕ) → VerdictKept small large script list

-- ---- from the room of 01 to ours

pub record StoredKept (small large : Room) : Type 0 where
  pub larger : Larger small large
  pub scripts : ScriptsKept small large
  pub lists : ListsKept small large
  pub verdicts : VerdictsKept small large

-- 01, "Sizes", and W-201's needs: what W-206 raises
unfoldable pub room01 : Room
room01 = record { segments = 8; scopes = 64; bindings = 256; handles = 2048; needs = 64; lines = 2048; size = 1024; text = 32768 }

unfoldable pub RoomsKept : Type 0
RoomsKept = StoredKept room01 base
