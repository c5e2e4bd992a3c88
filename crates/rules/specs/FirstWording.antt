-- Document 02, W-202: "No accepted script changes its list." What removes slots, with `remove` as document 01 first worded it: the rules
-- are held against it, and nothing else cites it. "01" in a name says so. Assumes nothing.
use Rattle.std.specs.Prelude.{◌≡◌, Bool, true, false, not, List, [], ◌∷◌, map, reverse, ℕ, suc, ◌/◌, length}
use Rattle.std.proofs.Math.Option.{Option}
use Rattle.rules.specs.Notation.{Answer, given, ◌>>=◌, refuse◌when◌, provided◌then◌else◌, ◌▹◌, put}
use Rattle.rules.specs.Sizes.{Room}
use Rattle.rules.specs.Slots.{Slots, Placement, Place, placing, removes, remove}
use Rattle.rules.specs.Scopes.{Scopes, slots≔, Found, by_number, closed, poppable, last_poppable}
use Rattle.rules.specs.Needs.{Kind, freed, Address, address, is_freed, goes_back, give_back, forget_address, Need, defer, at, ignore, freed_need}
use Rattle.rules.specs.Frames.{Frame, child, pop, dangle, restore, pop_last, alloc, alloc_in, linear, define, get, take_from, free, free_quietly, forget, drain, write, read, read_name, new_defer, new_assigned, new_ignore, alloc_need, output_need, drop_need, kind≔, held≔, no_need, is_scope_kind, State, start, scopes≔, set_handle, barred, close, set_need, lost, shows, Step, one_line, step, Outcome, accepted, refused_at, before, onward}
use Rattle.rules.specs.Text.{Script, frames, unread, title, read_script}
use Rattle.rules.specs.Entries.{translated}

-- ---- slots

-- 01: "at segment L or above it answers no. Removing a slot that is clear answers no and changes nothing. Otherwise the slot is cleared
-- and H becomes its segment."
unfoldable pub remove01 : ℕ → Slots → Slots
remove01 a s =
    elim (removes a s) [
      | true ↦ record { occupied = put s.occupied a false; segments = s.segments; head = a / 128 }
      | false ↦ s
    ]

unfoldable pub remove_all01 : List ℕ → Slots → Slots
remove_all01 [] s = s
remove_all01 (a ∷ more) s = remove_all01 more (remove01 a s)

-- each address is that of an occupied slot when its turn comes, so that every removal answers yes
pub data AllRemoved : List ℕ → Slots → Type 0 where
  none_left : {s : Slots} → AllRemoved [] s
  yes-to : {a : ℕ} {more : List ℕ} {s : Slots} → removes a s ≡ true → AllRemoved more (remove a s) → AllRemoved (a ∷ more) s

-- ---- library calls: pop, pop last, giving back; all but the slots is as in the rules

unfoldable pub closed01 : Found → Scopes → Scopes
closed01 k c = closed k c ▹ slots≔ (remove_all01 k.scope.owned c.slots)

unfoldable pub pop_scope01 : Room → Option Found → Scopes → Answer Scopes
pop_scope01 room s c = do
  k ← poppable room s c
  given (closed01 k c)

unfoldable pub pop_last_scope01 : Room → Scopes → Answer Scopes
pop_last_scope01 room c = do
  k ← last_poppable room c
  given (closed01 k c)

unfoldable pub give_back01 : Bool → ℕ → Scopes → Answer Scopes
give_back01 dangles a c = do
  d ← give_back dangles a c
  given (d ▹ slots≔ (remove01 a c.slots))

unfoldable pub free_address01 : Bool → Address → Scopes → Answer (Address × Scopes)
free_address01 dangles a c = do
  _ ← refuse 13 when (is_freed a.kind)
  d ← provided (goes_back c a.kind) then give_back01 dangles a.slot c else given c
  given (address a.slot freed, d)

unfoldable pub free_each01 : Bool → List Address → Scopes → Answer Scopes
free_each01 dangles [] c = given c
free_each01 dangles (a ∷ more) c = do
  r ← free_address01 dangles a c
  free_each01 dangles more r.1

unfoldable pub free_run01 : Bool → List Address → Scopes → Answer (List Address × Scopes)
free_run01 dangles l c = do
  d ← free_each01 dangles (reverse l) c
  given (map forget_address l, d)

unfoldable pub free_need01 : Need → Scopes → Answer (Need × Scopes)
free_need01 (defer id) c = given (freed_need, c)
free_need01 (at a) c = do
  r ← free_address01 true a c
  given (freed_need, r.1)
free_need01 ignore c = given (freed_need, c)
free_need01 freed_need c = given (freed_need, c)

-- ---- scripts

unfoldable pub close01 : Found → State → State
close01 k s = close k s ▹ scopes≔ (closed01 k s.scopes)

unfoldable pub hand_back01 : Bool → ℕ → State → Answer State
hand_back01 dangles h s = do
  _ ← refuse 14 when (not (s.handles h).held)
  c ← give_back01 dangles (s.handles h).address s.scopes
  given (s ▹ scopes≔ c ▹ set_handle h (s.handles h ▹ held≔ false ▹ kind≔ freed))

unfoldable pub free_as01 : Kind → Bool → ℕ → State → Answer State
free_as01 k dangles h s =
    provided (goes_back s.scopes k)
    then hand_back01 dangles h s
    else given (s ▹ set_handle h (s.handles h ▹ kind≔ freed))

unfoldable pub free_handle01 : Bool → ℕ → State → Answer State
free_handle01 dangles h s = do
  _ ← refuse 13 when (barred s h)
  free_as01 (s.handles h).kind dangles h s

unfoldable pub free_own01 : ℕ → State → Need → Answer State
free_own01 h s (defer id) = given s
free_own01 h s (at a) = provided (is_scope_kind a.kind) then free_as01 a.kind true h s else given s
free_own01 h s ignore = given s
free_own01 h s freed_need = given s

module _ (room : Room) (place : Placement) where
  -- 02, 05, 0c, 0d, and 25 of W-201, remove slots; every other frame is as it was
  unfoldable pub step01 : State → Frame → Step
  step01 s child = step room place s child
  step01 s (pop n) = do
    k ← poppable room (by_number room s.scopes n) s.scopes
    one_line (shows 0x02 []) (close01 k s)
  step01 s (dangle n) = step room place s (dangle n)
  step01 s (restore n) = step room place s (restore n)
  step01 s pop_last = do
    k ← last_poppable room s.scopes
    one_line (shows 0x05 []) (close01 k s)
  step01 s alloc = step room place s alloc
  step01 s (alloc_in n) = step room place s (alloc_in n)
  step01 s (linear n) = step room place s (linear n)
  step01 s (define name h) = step room place s (define name h)
  step01 s (get name) = step room place s (get name)
  step01 s (take_from name) = step room place s (take_from name)
  step01 s (free h) = do
    t ← free_handle01 true h s
    one_line (shows 0x0c []) t
  step01 s (free_quietly h) = do
    t ← free_handle01 false h s
    one_line (shows 0x0d []) t
  step01 s (forget h) = step room place s (forget h)
  step01 s drain = step room place s drain
  step01 s (write h v) = step room place s (write h v)
  step01 s (read h) = step room place s (read h)
  step01 s (read_name name) = step room place s (read_name name)
  step01 s (new_defer n) = step room place s (new_defer n)
  step01 s (new_assigned h) = step room place s (new_assigned h)
  step01 s new_ignore = step room place s new_ignore
  step01 s (alloc_need n) = step room place s (alloc_need n)
  step01 s (output_need n) = step room place s (output_need n)
  step01 s (drop_need n) = do
    _ ← refuse 21 when (lost s n)
    t ← free_own01 (s.needs n).handle s (s.needs n).need
    one_line (shows 0x25 []) (t ▹ set_need n no_need)

  unfoldable pub steps01 : ℕ → State → List Frame → Outcome
  steps01 i s [] = accepted [] s.scopes.size
  steps01 i s (f ∷ fs) = onward i (step01 s f) (λ t. steps01 (suc i) t fs)

unfoldable pub outcome01 : Room → Place → Script → Outcome
outcome01 room p (frames fs) = before (title p) (steps01 room (placing room.segments p) (length (title p)) start fs)
outcome01 room p (unread n i) = refused_at n i

unfoldable pub translated01 : Room → List ℕ → Outcome
translated01 room script = outcome01 room (read_script room script).place (read_script room script).script

-- "No accepted script changes its list", nor a refused one its number and line: in either edition
unfoldable pub NoListChanges : Room → Type 0
NoListChanges room = (script : List ℕ) → translated room script ≡ translated01 room script
