-- Document 02, W-203, "Lists from the rig supplier": whether a list from elsewhere agrees with a script. "Their translator places otherwise. We want a
-- tool that takes a script and such a list and says yes or no." Assumes nothing.
use Rattle.std.specs.Prelude.{◌≡◌, Bool, true, false, ◌&&◌, List, [], ◌∷◌, ◌++◌, ℕ, suc, ◌+◌, ◌*◌, ◌-◌, ◌≤◌, ◌<◌, length, get_or, drop, eqb, leb}
use Rattle.rules.specs.Notation.{given, refused}
use Rattle.rules.specs.Sizes.{Room}
use Rattle.rules.specs.Slots.{Placement, Place, placing, exactly_at}
use Rattle.rules.specs.Frames.{State, start, Frame, child, pop, dangle, restore, pop_last, alloc, alloc_in, linear, define, get, take_from, free, free_quietly, forget, drain, write, read, read_name, new_defer, new_assigned, new_ignore, alloc_need, output_need, drop_need, Source, constant, next_sample, Line, stores, loads, shows, step, Outcome, accepted, refused_at, before, steps}
use Rattle.rules.specs.Text.{Script, frames, unread, title, read_script, operands_of, list_text, Listed, listed, unlisted, read_list}
use Rattle.rules.specs.Recordings.{recorded}
use Rattle.rules.specs.Entries.{translated, refusal_answer, ee_text, unless_longer}
use Rattle.rules.specs.Demand3.{Runs, script_meaning, script_takes}

-- ---- "the same lines and operands .."

abbrev pub same_source : Source → Source → Bool
same_source (constant v) (constant w) = eqb v w
same_source (constant v) next_sample = false
same_source next_sample (constant w) = false
same_source next_sample next_sample = true

unfoldable pub same_numbers : List ℕ → List ℕ → Bool
same_numbers [] [] = true
same_numbers [] (b ∷ m) = false
same_numbers (a ∷ l) [] = false
same_numbers (a ∷ l) (b ∷ m) = eqb a b && same_numbers l m

unfoldable pub same_line : Line → Line → Bool
same_line (stores a x) (stores b y) = eqb a b && same_source x y
same_line (stores a x) (loads p b) = false
same_line (stores a x) (shows p m) = false
same_line (loads o a) (stores b y) = false
same_line (loads o a) (loads p b) = eqb o p && eqb a b
same_line (loads o a) (shows p m) = false
same_line (shows o l) (stores b y) = false
same_line (shows o l) (loads p b) = false
same_line (shows o l) (shows p m) = eqb o p && same_numbers l m

unfoldable pub same_lines : List Line → List Line → Bool
same_lines [] [] = true
same_lines [] (m ∷ ms) = false
same_lines (l ∷ ls) [] = false
same_lines (l ∷ ls) (m ∷ ms) = same_line l m && same_lines ls ms

-- ---- "over the list's own addresses"

-- The first number on the line that comes, which on an allocation's line is its address. Where that line has no number, or no line is left, the
-- answer is no wherever the allocation goes: its own line has one.
abbrev pub shown_first : List Line → ℕ
shown_first [] = 0xffff
shown_first (l ∷ ls) = get_or (operands_of l) 0 0

-- "each run is consecutive, no slot is given while another allocation holds it": an allocation goes exactly where the line that comes shows it
unfoldable pub as_shown : Room → List Line → Placement
as_shown room ls = placing room.segments (exactly_at (shown_first ls))

-- The script's frames from line i on, with the list's lines ls to come: the steps of 01 and 02 and no others. So in the lines that they give "each
-- later line shows its allocation's own address", "Drain lines follow 01's list rules over the list's own addresses", and "an empty run, or a need
-- with none, shows `ffff`".
unfoldable pub shown_steps : Room → ℕ → State → List Frame → List Line → Outcome
shown_steps room i s [] ls = accepted [] s.scopes.size
shown_steps room i s (f ∷ fs) ls =
    elim (step room (as_shown room ls) s f) [
      | refused n ↦ refused_at n i
      | given r ↦ before r.0 (shown_steps room (suc i) r.1 fs (drop (length r.0) ls))
    ]

-- ---- yes or no

-- "the script is accepted by our rules"
abbrev pub is_accepted : Outcome → Bool
is_accepted (accepted ls size) = true
is_accepted (refused_at n i) = false

-- "the list has the same lines and operands but for addresses, drain counts and size": in `own` the addresses and the drain counts are the
-- list's, so its lines are these. "every address is below the size": `needs` is one past the greatest, and a larger size will do.
unfoldable pub agrees_with : List Line → ℕ → Outcome → Bool
agrees_with ls size (accepted own needs) = same_lines own ls && leb needs size
agrees_with ls size (refused_at n i) = false

-- the script with the title of p and these frames, and the list with these lines, of which the first is its title where it has one
unfoldable pub agrees : Room → Place → List Frame → List Line → ℕ → Bool
agrees room p fs ls size =
    is_accepted (steps room (placing room.segments p) (length (title p)) start fs)
    && agrees_with ls size (before (title p) (shown_steps room (length (title p)) start fs (drop (length (title p)) ls)))

pub data Verdict : Type 0 where
  says : Bool → Verdict
  unreadable : ℕ → ℕ → Verdict

-- "Refusals: the text numbers 1 and 2, script before list."
unfoldable pub judged : Room → Place → Script → Listed → Verdict
judged room p (unread n i) list = unreadable n i
judged room p (frames fs) (unlisted n i) = unreadable n i
judged room p (frames fs) (listed ls size) = says (agrees room p fs ls size)

unfoldable pub verdict : Room → List ℕ → List ℕ → Verdict
verdict room script list = judged room (read_script room script).place (read_script room script).script (read_list room list)

-- as one number: 1 for yes, 0 for no, or a refusal's answer
abbrev pub verdict_answer : Verdict → ℕ
verdict_answer (says true) = 1
verdict_answer (says false) = 0
verdict_answer (unreadable n i) = refusal_answer n i

-- what the program prints: `yes`, `no` or the `ee` line; either text may be too long
unfoldable pub verdict_text : Verdict → List ℕ
verdict_text (says true) = 0x79 ∷ 0x65 ∷ 0x73 ∷ 10 ∷ []
verdict_text (says false) = 0x6e ∷ 0x6f ∷ 10 ∷ []
verdict_text (unreadable n i) = ee_text n i

unfoldable pub checker_prints : Room → List ℕ → List ℕ → List ℕ
checker_prints room script list = unless_longer room script (unless_longer room list (verdict_text (verdict room script list)))

-- ---- what a yes says

-- "What it says yes to prints, when run, what the script means." The list is read, and with samples enough it runs on cells as many as its size at least,
-- prints the script's meaning and touches no cell from its size on.
pub record Prints (room : Room) (script list : List ℕ) : Type 0 where
  pub lines : List Line
  pub size : ℕ
  pub read : read_list room list ≡ listed lines size
  pub runs : (cells : List ℕ) → size ≤ length cells → (n : ℕ) (vs : List ℕ) → script_takes room script ≤ n → script_takes room script ≤ length vs
      → Runs room size cells (recorded n vs) list (script_meaning room script vs) (n - script_takes room script)

unfoldable pub YesPrints : Room → Type 0
YesPrints room = (script list : List ℕ) → verdict room script list ≡ says true → Prints room script list

-- "Every list that we write gets a yes."
unfoldable pub OursGetYes : Room → Type 0
OursGetYes room =
    (script : List ℕ) (ls : List Line) (size : ℕ) → translated room script ≡ accepted ls size → verdict room script (list_text ls size) ≡ says true

-- ---- why a no is a no

-- how many slots a frame asks for where it allocates, which 23 does for a deferred need alone
abbrev pub slots_asked : Frame → ℕ
slots_asked child = 0
slots_asked (pop n) = 0
slots_asked (dangle n) = 0
slots_asked (restore n) = 0
slots_asked pop_last = 0
slots_asked alloc = 1
slots_asked (alloc_in n) = 1
slots_asked (linear n) = n
slots_asked (define name h) = 0
slots_asked (get name) = 0
slots_asked (take_from name) = 0
slots_asked (free h) = 0
slots_asked (free_quietly h) = 0
slots_asked (forget h) = 0
slots_asked drain = 0
slots_asked (write h x) = 0
slots_asked (read h) = 0
slots_asked (read_name name) = 0
slots_asked (new_defer n) = 0
slots_asked (new_assigned h) = 0
slots_asked new_ignore = 0
slots_asked (alloc_need n) = 1
slots_asked (output_need n) = 0
slots_asked (drop_need n) = 0

-- The n slots from a on can't be given: an allocation, known by its handle, holds one of them, or they pass the room's last slot.
pub data NoRoom (room : Room) (s : State) (a n : ℕ) : Type 0 where
  held : (i h : ℕ) → i < n → h < s.handed → (s.handles h).held ≡ true → (s.handles h).address ≡ a + i → NoRoom room s a n
  beyond : 128 * room.segments < a + n → NoRoom room s a n

-- The frames go on over the lines, up to an allocation that can't be where its line shows it.
pub data Stops (room : Room) : State → List Frame → List Line → Type 0 where
  here : {s : State} {f : Frame} {fs : List Frame} {ls : List Line} → NoRoom room s (shown_first ls) (slots_asked f) → step room (as_shown room ls) s f ≡ refused 7
      → Stops room s (f ∷ fs) ls
  later : {s : State} {f : Frame} {fs : List Frame} {ls : List Line} (r : List Line × State) → step room (as_shown room ls) s f ≡ given r
      → Stops room r.1 fs (drop (length r.0) ls) → Stops room s (f ∷ fs) ls

-- The reasons of a no: each of them alone is a no, and there is no other no.
pub data WhyNot (room : Room) (p : Place) (fs : List Frame) (ls : List Line) (size : ℕ) : Type 0 where
  -- the script isn't "accepted by our rules"
  ours-refuse : (n i : ℕ) → steps room (placing room.segments p) (length (title p)) start fs ≡ refused_at n i → WhyNot room p fs ls size
  -- "each run is consecutive, no slot is given while another allocation holds it"; and past the room no address is "below the size". A line of
  -- another kind, or none, stands for some address too (shown_first): then it is "the same lines .." that fails.
  no_room : Stops room start fs (drop (length (title p)) ls) → WhyNot room p fs ls size
  -- "the same lines and operands ..", "its allocation's own address", "01's list rules over the list's own addresses", `ffff`
  other-lines : (own : List Line) (needs : ℕ) → shown_steps room (length (title p)) start fs (drop (length (title p)) ls) ≡ accepted own needs
      → (title p ++ own ≡ ls → ⊥) → WhyNot room p fs ls size
  -- "every address is below the size"
  too_small : (own : List Line) (needs : ℕ) → shown_steps room (length (title p)) start fs (drop (length (title p)) ls) ≡ accepted own needs
      → size < needs → WhyNot room p fs ls size

pub record NoExactly (room : Room) : Type 0 where
  pub why : (p : Place) (fs : List Frame) (ls : List Line) (size : ℕ) → agrees room p fs ls size ≡ false → WhyNot room p fs ls size
  pub no : (p : Place) (fs : List Frame) (ls : List Line) (size : ℕ) → WhyNot room p fs ls size → agrees room p fs ls size ≡ false

-- on bytes: both texts are read, and one of these reasons holds
pub record SaysNo (room : Room) (script list : List ℕ) : Type 0 where
  pub all : List Frame
  pub lines : List Line
  pub size : ℕ
  pub script-read : (read_script room script).script ≡ frames all
  pub list_read : read_list room list ≡ listed lines size
  pub why : WhyNot room (read_script room script).place all lines size

pub record NoExactlyBytes (room : Room) : Type 0 where
  pub why : (script list : List ℕ) → verdict room script list ≡ says false → SaysNo room script list
  pub no : (script list : List ℕ) → SaysNo room script list → verdict room script list ≡ says false
