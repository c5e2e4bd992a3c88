-- W-203: why a list from elsewhere gets a no. Each reason of specs/Suppliers alone is a no, and there is no other no: over the list's own
-- addresses an accepted script is stopped by 7 alone, where an allocation can't be where its line shows it. Assumes nothing.
use mathlib.Core.Path.{◌≡◌, refl, sym, ap, subst, ◌∙◌}
use mathlib.Core.Bool.{Bool, true, false, not, ◌&&◌}
use mathlib.Core.Option.{none}
use mathlib.Core.List.{List, [], ◌∷◌, ◌++◌}
use Prim.Native.Nat.{ℕ, zero, suc, ◌+◌, ◌*◌, ◌<◌}
use native.Mathlib.Omega.{arith}
use lib.Dec.{leb}
use lib.ListN.{length, drop}
use borrow.Author.Tests.{leb-true, leb-false, not-false}
use Rattle.rules.specs.Notation.{given, refused, all_below}
use Rattle.rules.specs.Sizes.{Room, base}
use Rattle.rules.specs.Slots.{Slots, Placement, vacant, exactly, Place, exactly_at, placing}
use Rattle.rules.specs.Frames.{State, start, Frame, Line, Step, step, Outcome, accepted, refused_at, before, steps}
use Rattle.rules.specs.Text.{Script, frames, unread, title, read_script, Listed, listed, unlisted, read_list}
use Rattle.rules.specs.Demand3.{Fair}
use Rattle.rules.specs.Suppliers.{same_lines, shown_first, as_shown, shown_steps, is_accepted, agrees_with, agrees, slots_asked, NoRoom, held, beyond, Stops, here, later, WhyNot, ours-refuse, no_room, other-lines, too_small, NoExactly, SaysNo, NoExactlyBytes, says, judged, verdict}
use Rattle.rules.proofs.Chains.{none-some}
use Rattle.rules.proofs.Sound.{SlotsSound, StateSound}
use Rattle.rules.proofs.Tells.{is_false, clash}
use Rattle.rules.proofs.Blanks.{blank}
use Rattle.rules.proofs.Said.{names-on}
use Rattle.rules.proofs.KeepsSteps.{keeps-step}
use Rattle.rules.proofs.Reached.{start-sound}
use Rattle.rules.proofs.Demand3.{Split, split-first}
use Rattle.rules.proofs.Editions.{placing-fair-sound}
use Rattle.rules.proofs.Suppliers.{tells-lines}
use Rattle.rules.proofs.Fits.{Wide, base-wide}
use Rattle.rules.proofs.Rests.{Rest, rest-same}
use Rattle.rules.proofs.Locks.{NoPlace, Or7}
use Rattle.rules.proofs.OnlySeven.{lock, before-refused}

-- ---- a run that isn't vacant

-- a place that doesn't pass, where not all do
some_below : (f : ℕ → Bool) (n : ℕ) → all_below f n ≡ false → (i : ℕ) × (i < n) × (f i ≡ false)
unfolding all_below
some_below f zero e = clash refl e
some_below f (suc n) e = go (f n) refl (some_below f n)
  where
    go : (b : Bool) → f n ≡ b → (all_below f n ≡ false → (i : ℕ) × (i < n) × (f i ≡ false)) → (i : ℕ) × (i < suc n) × (f i ≡ false)
    go false q ih = (n, omega arith, q)
    go true q ih = let w = ih (rw (q, all_below) at e) in (w.0, omega (arith, w.1), w.2)

either-false {ℓ} : {X : Type ℓ} (a b : Bool) → (a && b) ≡ false → (a ≡ false → X) → (a ≡ true → b ≡ false → X) → X
either-false false b e x y = x refl
either-false true b e x y = y refl e

not-vacant : (m a n : ℕ) (s : Slots) → exactly m a n s ≡ none → vacant m a n s ≡ false
unfolding exactly
not-vacant m a n s e = is_false (vacant m a n s) (λ v. none-some (sym (rw (v, exactly) at e)))

module _ (room : Room) where
  taken-or-beyond : (s : State) → StateSound room s → (a n : ℕ) → vacant room.segments a n s.scopes.slots ≡ false → NoRoom room s a n
  unfolding vacant
  taken-or-beyond s ok a n e =
      either-false (leb (a + n) (128 * room.segments)) _ e
      (λ x. beyond (leb-false (a + n) (128 * room.segments) x))
      (λ x y.
      let fits = leb-true (a + n) (128 * room.segments) x in
      let w = some_below (λ i. not (s.scopes.slots.occupied (a + i))) n y in
      let h = ok.handles.holder (a + w.0) (omega (arith, w.1)) (not-false _ w.2) in
      held w.0 h.handle w.1 h.below h.held h.address)

  no_place : (s : State) → StateSound room s → (ls : List Line) (n : ℕ) → NoPlace (as_shown room ls) s.scopes.slots n → NoRoom room s (shown_first ls) n
  unfolding as_shown placing
  no_place s ok ls n e = taken-or-beyond s ok (shown_first ls) n (not-vacant room.segments (shown_first ls) n s.scopes.slots e)

-- ---- the frames of an accepted script, over the lines of a list

module _ (room : Room) (wide : Wide room) where
  shown-fair-sound : (ls : List Line) → Fair room (as_shown room ls) (SlotsSound room.segments)
  unfolding as_shown
  shown-fair-sound ls = placing-fair-sound room wide.segments (exactly_at (shown_first ls))

  module _ (p : Placement) (fair : Fair room p (SlotsSound room.segments)) where
    -- from two states with the same names and the rest alike
    stops-by-seven : (fs : List Frame) (i j : ℕ) (s t : State) (ls ms : List Line) (m n k : ℕ) → blank s.scopes ≡ blank t.scopes → StateSound room s → StateSound room t → Rest room.scopes s t
        → steps room p i s fs ≡ accepted ms m → shown_steps room j t fs ls ≡ refused_at n k → Stops room t fs ls
    unfolding shown_steps
    stops-by-seven [] i j s t ls ms m n k names os ot r e d = absurd (let z : ◌≡◌ {A = ℕ} 0 1 = cc in omega arith)
    stops-by-seven (f ∷ fs) i j s t ls ms m n k names os ot r e d =
        let q : Placement = as_shown room ls in
        let w = split-first room p i s f fs ms m e in
        let l = (lock room p q fair (shown-fair-sound ls) s t names os ot r f).at w.result w.stepped in
        go w l (step room q t f) refl
        (λ u x y. stops-by-seven fs (suc i) (suc j) w.result.1 u.1 (drop (length u.0) ls) w.tail.rest m n k (names-on room p q s t names f w.result u w.stepped x)
        ((keeps-step room s os wide.slots p fair f).at w.result w.stepped) ((keeps-step room t ot wide.slots q (shown-fair-sound ls) f).at u x) (l.gives u x) w.tail.went y)
      where
        go : (w : Split room p i s f fs ms m) → Or7 (NoPlace (as_shown room ls) t.scopes.slots (slots_asked f)) (λ u. Rest room.scopes w.result.1 u.1) (step room (as_shown room ls) t f)
            → (a : Step) → step room (as_shown room ls) t f ≡ a
            → ((u : List Line × State) → step room (as_shown room ls) t f ≡ given u → shown_steps room (suc j) u.1 fs (drop (length u.0) ls) ≡ refused_at n k → Stops room u.1 fs (drop (length u.0) ls))
            → Stops room t (f ∷ fs) ls
        go w l (refused x) y ih =
            let why = l.only x y in
            here (no_place room t ot ls (slots_asked f) why.1) (subst (λ (v : ℕ). step room (as_shown room ls) t f ≡ refused v) why.0 y)
        go w l (given u) y ih = later u y (ih u y (before-refused u.0 (shown_steps room (suc j) u.1 fs (drop (length u.0) ls)) n k (rw (y, shown_steps) at d)))

  pub stopped-at : {s : State} {fs : List Frame} {ls : List Line} → Stops room s fs ls → (i : ℕ) → (k : ℕ) × (shown_steps room i s fs ls ≡ refused_at 7 k)
  unfolding shown_steps
  stopped-at (here w e) i = (i, rw (e, shown_steps))
  stopped-at (later {fs = fs} {ls = ls} r e more) i = let w = stopped-at more (suc i) in (w.0, rw (e, w.1, shown_steps))

  -- ---- yes or no

  module _ (p : Place) (fs : List Frame) (ls : List Line) (size : ℕ) where
    abbrev ours : Outcome
    ours = steps room (placing room.segments p) (length (title p)) start fs

    abbrev theirs : Outcome
    theirs = shown_steps room (length (title p)) start fs (drop (length (title p)) ls)

    why-not : agrees room p fs ls size ≡ false → WhyNot room p fs ls size
    unfolding agrees agrees_with
    why-not e = by-ours ours theirs refl refl
      where
        by-ours : (o u : Outcome) → ours ≡ o → theirs ≡ u → WhyNot room p fs ls size
        by-ours (refused_at n i) u x y = ours-refuse n i x
        by-ours (accepted ms m) (refused_at n i) x y =
            no_room
            (stops-by-seven (placing room.segments p) (placing-fair-sound room wide.segments p) fs _ _ start start _ ms m n i refl
            (start-sound room wide.segments wide.scopes) (start-sound room wide.segments wide.scopes) (rest-same room.scopes start) x y)
        by-ours (accepted ms m) (accepted own needs) x y =
            either-false (same_lines (title p ++ own) ls) (leb needs size) (rw (x, y) at e)
            (λ q. other-lines own needs y (λ same. clash ((tells-lines (title p ++ own) ls).shows same) q))
            (λ _ q. too_small own needs y (leb-false needs size q))

    pub no-theirs : (o : Outcome) → theirs ≡ o → agrees_with ls size (before (title p) o) ≡ false → agrees room p fs ls size ≡ false
    unfolding agrees
    no-theirs o y q = go (is_accepted ours)
      where
        last : agrees_with ls size (before (title p) theirs) ≡ false
        last = ap (λ (u : Outcome). agrees_with ls size (before (title p) u)) y ∙ q

        go : (b : Bool) → (b && agrees_with ls size (before (title p) theirs)) ≡ false
        go true = last
        go false = refl

    a-no : WhyNot room p fs ls size → agrees room p fs ls size ≡ false
    unfolding agrees agrees_with
    a-no (ours-refuse n i e) = rw (e, agrees)
    a-no (no_room w) = let k = stopped-at w (length (title p)) in no-theirs (refused_at 7 k.0) k.1 refl
    a-no (other-lines own needs e ne) =
        no-theirs (accepted own needs) e
        (ap (λ (b : Bool). b && leb needs size) (is_false (same_lines (title p ++ own) ls) (λ q. ne ((tells-lines (title p ++ own) ls).holds q))))
    a-no (too_small own needs e l) =
        no-theirs (accepted own needs) e (is_false _ (λ q. too_much (same_lines (title p ++ own) ls) q))
      where
        too_much : (b : Bool) → (b && leb needs size) ≡ true → ⊥
        too_much true q = omega (arith, leb-true needs size q)
        too_much false q = clash q refl

  pub no-exactly : NoExactly room
  no-exactly = record { why = why-not; no = a-no }

  -- ---- on bytes

  says-no : (script list : List ℕ) → verdict room script list ≡ says false → SaysNo room script list
  unfolding verdict judged
  says-no script list e = go (read_script room script).script (read_list room list) refl refl e
    where
      go : (r : Script) (l : Listed) → (read_script room script).script ≡ r → read_list room list ≡ l → judged room (read_script room script).place r l ≡ says false → SaysNo room script list
      go (unread n i) l q x y = absurd (let z : ◌≡◌ {A = ℕ} 0 1 = cc in omega arith)
      go (frames fs) (unlisted n i) q x y = absurd (let z : ◌≡◌ {A = ℕ} 0 1 = cc in omega arith)
      go (frames fs) (listed ls size) q x y =
          let no : agrees room (read_script room script).place fs ls size ≡ false = cc in
          record { all = fs; lines = ls; size = size; script-read = q; list_read = x; why = why-not (read_script room script).place fs ls size no }

  no_says : (script list : List ℕ) → SaysNo room script list → verdict room script list ≡ says false
  unfolding verdict judged
  no_says script list w =
      (λ u. judged room (read_script room script).place (w.script-read u) (w.list_read u)) ∙ ap says (a-no (read_script room script).place w.all w.lines w.size w.why)

  pub no-exactly-bytes : NoExactlyBytes room
  no-exactly-bytes = record { why = says-no; no = no_says }

pub base-no-exactly : NoExactly base
base-no-exactly = no-exactly base base-wide

pub base-no-bytes : NoExactlyBytes base
base-no-bytes = no-exactly-bytes base base-wide
