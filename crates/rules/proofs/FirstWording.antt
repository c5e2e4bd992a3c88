-- Document 02, W-202: "No accepted script changes its list." In a sound state every removal is of an occupied slot, where the amended
-- wording of `remove` and the first one agree; so every call, every step and every script comes out as by the first. Assumes nothing.
use mathlib.Core.Path.{◌≡◌, refl, ap, ◌∙◌}
use mathlib.Core.Bool.{Bool, true, false}
use mathlib.Core.Option.{Option}
use mathlib.Core.List.{List, [], ◌∷◌, reverse}
use Prim.Native.Nat.{ℕ, suc, ◌*◌, ◌/◌, ◌≤◌, ◌<◌}
use native.Mathlib.Omega.{arith}
use lib.Dec.{ltb}
use lib.ListN.{length}
use borrow.Author.Tests.{lt-ltb, not-false}
use Rattle.rules.specs.Notation.{Answer, given, refused, ◌>>=◌, ◌▹◌}
use Rattle.rules.specs.Sizes.{Room, base}
use Rattle.rules.specs.Slots.{Slots, Placement, removes, remove, remove_all, Place, placing}
use Rattle.rules.specs.AddressSets.{member}
use Rattle.rules.specs.Scopes.{Scopes, slots≔, Found, by_number, closed, poppable, pop_scope, last_poppable, pop_last_scope}
use Rattle.rules.specs.Needs.{Kind, Address, give_back, free_address, free_each, free_run, Need, defer, at, ignore, freed_need, free_need}
use Rattle.rules.specs.Frames.{Frame, child, pop, dangle, restore, pop_last, alloc, alloc_in, linear, define, get, take_from, free, free_quietly, forget, drain, write, read, read_name, new_defer, new_assigned, new_ignore, alloc_need, output_need, drop_need, State, start, scopes≔, close, hand_back, free_as, free_handle, free_own, Line, shows, Step, one_line, step, Outcome, before, onward, steps}
use Rattle.rules.specs.Sound.{sound_slots, sound, sound_state}
use Rattle.rules.specs.Demand3.{Fair}
use Rattle.rules.specs.Text.{Script, frames, unread, title, read_script}
use Rattle.rules.specs.Entries.{outcome, translated}
use Rattle.rules.specs.FirstWording.{remove01, remove_all01, AllRemoved, none_left, yes-to, closed01, pop_scope01, pop_last_scope01, give_back01, free_address01, free_each01, free_run01, free_need01, close01, hand_back01, free_as01, free_handle01, free_own01, step01, steps01, outcome01, translated01, NoListChanges}
use Rattle.rules.proofs.Chains.{All, all-given, all-when, all-unless, then_same}
use Rattle.rules.proofs.Tables.{remove-other}
use Rattle.rules.proofs.Sets.{Once, once, once-nil, Within, member-same, member-tail}
use Rattle.rules.proofs.Sound.{SlotsSound, Sound}
use Rattle.rules.proofs.Tells.{clash, tells-and, tells-true}
use Rattle.rules.proofs.Tests.{tells-sound}
use Rattle.rules.proofs.HandleTests.{tells-state}
use Rattle.rules.proofs.Removing.{remove-sound}
use Rattle.rules.proofs.Owners.{owned_at}
use Rattle.rules.proofs.Naming.{Here, top-here, Named, by_number_lem, named_here}
use Rattle.rules.proofs.Leaves.{back-leaves}
use Rattle.rules.proofs.KeepsScopes.{poppable-is, last-is}
use Rattle.rules.proofs.Fits.{base-wide}
use Rattle.rules.proofs.Editions.{placing-fair-test}
use Rattle.rules.proofs.Kept.{start-kept, free-kept, step_kept}

-- ---- slots

module _ (a : ℕ) (s : Slots) where
  segment-exists : removes a s ≡ true → ltb (a / 128) s.segments ≡ true
  unfolding removes
  segment-exists e = ((tells-and (tells-true _) (tells-true _)).holds e).0

  -- the two wordings agree where the removal answers yes
  pub remove-same : removes a s ≡ true → remove a s ≡ remove01 a s
  unfolding remove remove01
  remove-same e = rw (segment-exists e, e, remove, remove01)

  -- .. which it does where the slot is occupied
  pub removes-occupied : (n : ℕ) → SlotsSound n s → a < 128 * n → s.occupied a ≡ true → removes a s ≡ true
  unfolding removes
  removes-occupied n sound l o = rw (lt-ltb (a / 128) s.segments (omega (arith, sound.low a l o))) o

pub all-removed : (n : ℕ) {l : List ℕ} (s : Slots) → SlotsSound n s → Once l → Within (128 * n) l → ((a : ℕ) → member a l ≡ true → s.occupied a ≡ true) → AllRemoved l s
all-removed n s sound once-nil w o = none_left
all-removed n s sound (once {a = a} {l = l} new more) w o =
    yes-to (removes-occupied a s n sound (w a (member-same a l)) (o a (member-same a l)))
    (all-removed n (remove a s) (remove-sound a s n sound) more (λ b p. w b (member-tail b a l p))
    (λ b p. remove-other a b s (λ e. clash (ap (λ (c : ℕ). member c l) e ∙ p) new) (o b (member-tail b a l p))))

pub remove_all-same : {l : List ℕ} {s : Slots} → AllRemoved l s → remove_all l s ≡ remove_all01 l s
unfolding remove_all remove_all01
remove_all-same none_left = refl
remove_all-same (yes-to {a = a} {more = l} {s = s} e more) = remove_all-same more ∙ ap (remove_all01 l) (remove-same a s e)

-- ---- library calls: of a sound state, by the test of specs/Sound

module _ (room : Room) (c : Scopes) (h : sound room c ≡ true) where
  s : Sound room c
  s = (tells-sound room c).holds h

  -- a live scope's addresses, in list order
  pub owned-removed : (k : Found) → Here room.scopes c.live k → AllRemoved k.scope.owned c.slots
  owned-removed k here =
      let owned = owned_at c.live k here.is in
      all-removed room.segments c.slots s.slots
      (rw owned at (s.owned.once k.index here.below))
      (λ a p. s.owned.within k.index here.below a (ap (member a) owned ∙ p))
      (λ a p. s.owned.taken k.index a here.below (ap (member a) owned ∙ p))

  pub closed_same : (k : Found) → Here room.scopes c.live k → closed k c ≡ closed01 k c
  unfolding closed closed01
  closed_same k here = ap (λ (x : Slots). closed k c ▹ slots≔ x) (remove_all-same (owned-removed k here))

  -- the scope that a pop closes
  pub popped-same : (o : Option Found) → Named room c o → (k : Found) → poppable room o c ≡ given k → closed k c ≡ closed01 k c
  popped-same o n k e = closed_same k ((poppable-is room c s o (named_here n)).at k e).0

  pub last-same : (k : Found) → last_poppable room c ≡ given k → closed k c ≡ closed01 k c
  last-same k e = closed_same k ((last-is room c s).at k e).0

  pub pop-same : (o : Option Found) → Named room c o → pop_scope room o c ≡ pop_scope01 room o c
  unfolding pop_scope pop_scope01
  pop-same o n = then_same λ k e. ap given (popped-same o n k e)

  pub pop-last-same : pop_last_scope room c ≡ pop_last_scope01 room c
  unfolding pop_last_scope pop_last_scope01
  pop-last-same = then_same λ k e. ap given (last-same k e)

  -- the address that goes back
  pub back-removed : (dangles : Bool) (a : ℕ) → All (λ d. removes a c.slots ≡ true) (give_back dangles a c)
  unfolding give_back
  back-removed dangles a =
      all-unless 12 λ t e. all-when 12 _ λ m.
      let here = top-here c t e room.scopes s.top in
      let has : member a t.scope.owned ≡ true = not-false _ m in
      let owns = ap (member a) (owned_at c.live t here.is) ∙ has in
      all-given (removes-occupied a c.slots room.segments s.slots (s.owned.within t.index here.below a owns) (s.owned.taken t.index a here.below owns))

  pub back-same : (dangles : Bool) (a : ℕ) → give_back dangles a c ≡ give_back01 dangles a c
  unfolding give_back01 ◌>>=◌
  back-same dangles a = go (give_back dangles a c) refl
    where
      go : (m : Answer Scopes) → give_back dangles a c ≡ m → m ≡ (m >>= λ d. given (d ▹ slots≔ (remove01 a c.slots)))
      go (refused n) e = refl
      go (given d) e =
          let slots : d.slots ≡ remove01 a c.slots = ((back-leaves c dangles a).at d e).slots-are ∙ remove-same a c.slots ((back-removed dangles a).at d e) in
          ap (λ (x : Slots). given (d ▹ slots≔ x)) slots

  pub free-same : (dangles : Bool) (a : Address) → free_address dangles a c ≡ free_address01 dangles a c
  unfolding free_address free_address01
  free-same dangles a = rw (back-same dangles a.slot)

module _ (room : Room) where
  each_same : (dangles : Bool) (l : List Address) (c : Scopes) → sound room c ≡ true → free_each dangles l c ≡ free_each01 dangles l c
  unfolding free_each free_each01
  each_same dangles [] c h = refl
  each_same dangles (a ∷ l) c h =
      then_same (λ r e. each_same dangles l r.1 ((free-kept room c h dangles a).at r e))
      ∙ ap (λ (m : Answer (Address × Scopes)). m >>= λ r. free_each01 dangles l r.1) (free-same room c h dangles a)

  pub free-run-same : (c : Scopes) → sound room c ≡ true → (dangles : Bool) (l : List Address) → free_run dangles l c ≡ free_run01 dangles l c
  unfolding free_run free_run01
  free-run-same c h dangles l = rw (each_same dangles (reverse l) c h)

  pub free-need-same : (c : Scopes) → sound room c ≡ true → (d : Need) → free_need d c ≡ free_need01 d c
  unfolding free_need free_need01
  free-need-same c h (defer id) = refl
  free-need-same c h (at a) = rw (free-same room c h true a)
  free-need-same c h ignore = refl
  free-need-same c h freed_need = refl

-- ---- steps

module _ (room : Room) (s : State) (ok : sound_state room s ≡ true) where
  abbrev c : Scopes
  c = s.scopes

  scopes-sound : sound room c ≡ true
  scopes-sound = (tells-sound room c).shows ((tells-state room s).holds ok).scopes

  close-as : (k : Found) → closed k c ≡ closed01 k c → close k s ≡ close01 k s
  unfolding close close01
  close-as k e = ap (λ (d : Scopes). close k s ▹ scopes≔ d) e

  free-as-same : (k : Kind) (dangles : Bool) (h : ℕ) → free_as k dangles h s ≡ free_as01 k dangles h s
  unfolding free_as free_as01 hand_back hand_back01
  free-as-same k dangles h = rw (back-same room c scopes-sound dangles (s.handles h).address)

  free-handle-same : (dangles : Bool) (h : ℕ) → free_handle dangles h s ≡ free_handle01 dangles h s
  unfolding free_handle free_handle01
  free-handle-same dangles h = rw (free-as-same (s.handles h).kind dangles h)

  free-own-same : (h : ℕ) (d : Need) → free_own h s d ≡ free_own01 h s d
  unfolding free_own free_own01
  free-own-same h (defer id) = refl
  free-own-same h (at a) = rw (free-as-same a.kind true h)
  free-own-same h ignore = refl
  free-own-same h freed_need = refl

  pub step_same : (place : Placement) (f : Frame) → step room place s f ≡ step01 room place s f
  unfolding step step01
  step_same place child = refl
  step_same place (pop n) = then_same λ k e. ap (one_line (shows 0x02 [])) (close-as k (popped-same room c scopes-sound (by_number room c n) (by_number_lem n refl) k e))
  step_same place (dangle n) = refl
  step_same place (restore n) = refl
  step_same place pop_last = then_same λ k e. ap (one_line (shows 0x05 [])) (close-as k (last-same room c scopes-sound k e))
  step_same place alloc = refl
  step_same place (alloc_in n) = refl
  step_same place (linear n) = refl
  step_same place (define name h) = refl
  step_same place (get name) = refl
  step_same place (take_from name) = refl
  step_same place (free h) = rw (free-handle-same true h)
  step_same place (free_quietly h) = rw (free-handle-same false h)
  step_same place (forget h) = refl
  step_same place drain = refl
  step_same place (write h v) = refl
  step_same place (read h) = refl
  step_same place (read_name name) = refl
  step_same place (new_defer n) = refl
  step_same place (new_assigned h) = refl
  step_same place new_ignore = refl
  step_same place (alloc_need n) = refl
  step_same place (output_need n) = refl
  step_same place (drop_need n) = rw (free-own-same (s.needs n).handle (s.needs n).need)

-- ---- scripts

onward-same : (i : ℕ) (m : Step) (f g : State → Outcome) → ((r : List Line × State) → m ≡ given r → f r.1 ≡ g r.1) → onward i m f ≡ onward i m g
unfolding onward
onward-same i (given r) f g h = ap (before r.0) (h r refl)
onward-same i (refused n) f g h = refl

module _ (room : Room) (big : 128 * room.segments ≤ room.size) (place : Placement) (fair : Fair room place (λ t. sound_slots room.segments t ≡ true)) where
  pub steps-same : (fs : List Frame) (i : ℕ) (s : State) → sound_state room s ≡ true → steps room place i s fs ≡ steps01 room place i s fs
  unfolding steps steps01
  steps-same [] i s ok = refl
  steps-same (f ∷ fs) i s ok =
      onward-same i (step room place s f) (λ t. steps room place (suc i) t fs) (λ t. steps01 room place (suc i) t fs)
      (λ r e. steps-same fs (suc i) r.1 ((step_kept room big place fair s ok f).at r e))
      ∙ ap (λ (m : Step). onward i m (λ t. steps01 room place (suc i) t fs)) (step_same room s ok place f)

module _ (room : Room) (big : 128 * room.segments ≤ room.size) where
  pub no-list-changes : 0 < room.segments → 0 < room.scopes → NoListChanges room
  unfolding NoListChanges translated translated01 outcome outcome01
  no-list-changes segments scopes script = go (read_script room script).place (read_script room script).script
    where
      go : (p : Place) (r : Script) → outcome room p r ≡ outcome01 room p r
      go p (frames fs) =
          ap (before (title p))
          (steps-same room big (placing room.segments p) (placing-fair-test room segments p) fs (length (title p)) start (start-kept room segments scopes))
      go p (unread n i) = refl

-- in our room
pub no-list-changes-base : NoListChanges base
no-list-changes-base = no-list-changes base base-wide.slots base-wide.segments base-wide.scopes
