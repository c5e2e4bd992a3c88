-- W-203: what gets a yes is a run of the rules over the list's own addresses, so it prints what the script means; and every list that we write
-- gets a yes. Assumes nothing.
use mathlib.Core.Path.{◌≡◌, refl, sym, ap, subst, ◌∙◌}
use mathlib.Core.Bool.{true, false}
use mathlib.Core.Option.{none}
use mathlib.Core.List.{List, [], ◌∷◌, ◌++◌}
use Prim.Native.Nat.{ℕ, suc, ◌≤◌}
use native.Mathlib.Omega.{arith}
use native.Mathlib.Nat.{le_trans, le_refl}
use lib.ListN.{length, drop}
use lib.Seq.{drop-append_seam}
use borrow.Author.Tests.{lt-ltb}
use Rattle.rules.specs.Notation.{given, refused}
use Rattle.rules.specs.Sizes.{Room, base}
use Rattle.rules.specs.Slots.{Slots, Placement, fresh_slots, Place, exactly_at, placing}
use Rattle.rules.specs.Scopes.{fresh_scopes}
use Rattle.rules.specs.Frames.{State, start, Frame, Source, constant, next_sample, Line, stores, loads, shows, Step, step, Outcome, accepted, refused_at, before, steps}
use Rattle.rules.specs.Meaning.{high}
use Rattle.rules.specs.Text.{Script, frames, unread, title, read_script, Listed, listed, unlisted, read_list}
use Rattle.rules.specs.Entries.{outcome, translated}
use Rattle.rules.specs.Tells.{Tells}
use Rattle.rules.specs.Demand3.{Fair, Holds, script_meaning, script_takes}
use Rattle.rules.specs.Suppliers.{same_source, same_numbers, same_line, same_lines, shown_first, as_shown, shown_steps, agrees_with, agrees, says, judged, verdict, Prints, YesPrints, OursGetYes}
use Rattle.rules.proofs.Tells.{clash, tells_as, tells-and, tells-eq, tells-le}
use Rattle.rules.proofs.Editions.{InOrder, placing-fair}
use Rattle.rules.proofs.Demand3.{Tail, tail, Goes, ended, went, Ended, split-first, no-frame, size-up, run_holds}
use Rattle.rules.proofs.Twins.{tight-fair, Twin, reslot, follows}
use Rattle.rules.proofs.Fits.{Wide, base-wide}
use Rattle.rules.proofs.Bytes.{FairInOrder, low-on, under-title, runs, held}

-- ---- equal lines

never : {P : Type 0} → (P → ◌≡◌ {A = ℕ} 0 1) → Tells false P
never f = record { holds = λ e. clash e refl; shows = λ p. absurd (let z : ◌≡◌ {A = ℕ} 0 1 = f p in omega arith) }

tells-source : (x y : Source) → Tells (same_source x y) (x ≡ y)
tells-source (constant v) (constant w) = tells_as (tells-eq v w) (λ e. cc) (λ e. cc)
tells-source (constant v) next_sample = never (λ e. cc)
tells-source next_sample (constant w) = never (λ e. cc)
tells-source next_sample next_sample = record { holds = λ _. refl; shows = λ _. refl }

tells-numbers : (l m : List ℕ) → Tells (same_numbers l m) (l ≡ m)
unfolding same_numbers
tells-numbers [] [] = record { holds = λ _. refl; shows = λ _. refl }
tells-numbers [] (b ∷ m) = never (λ e. cc)
tells-numbers (a ∷ l) [] = never (λ e. cc)
tells-numbers (a ∷ l) (b ∷ m) = tells_as (tells-and (tells-eq a b) (tells-numbers l m)) (λ p. let x = p.0 in let y = p.1 in cc) (λ e. (cc, cc))

pub tells-line : (l m : Line) → Tells (same_line l m) (l ≡ m)
unfolding same_line
tells-line (stores a x) (stores b y) = tells_as (tells-and (tells-eq a b) (tells-source x y)) (λ q. let u = q.0 in let v = q.1 in cc) (λ e. (cc, cc))
tells-line (stores a x) (loads p b) = never (λ e. cc)
tells-line (stores a x) (shows p m) = never (λ e. cc)
tells-line (loads o a) (stores b y) = never (λ e. cc)
tells-line (loads o a) (loads p b) = tells_as (tells-and (tells-eq o p) (tells-eq a b)) (λ q. let u = q.0 in let v = q.1 in cc) (λ e. (cc, cc))
tells-line (loads o a) (shows p m) = never (λ e. cc)
tells-line (shows o l) (stores b y) = never (λ e. cc)
tells-line (shows o l) (loads p b) = never (λ e. cc)
tells-line (shows o l) (shows p m) = tells_as (tells-and (tells-eq o p) (tells-numbers l m)) (λ q. let u = q.0 in let v = q.1 in cc) (λ e. (cc, cc))

pub tells-lines : (ls ms : List Line) → Tells (same_lines ls ms) (ls ≡ ms)
unfolding same_lines
tells-lines [] [] = record { holds = λ _. refl; shows = λ _. refl }
tells-lines [] (m ∷ ms) = never (λ e. cc)
tells-lines (l ∷ ls) [] = never (λ e. cc)
tells-lines (l ∷ ls) (m ∷ ms) = tells_as (tells-and (tells-line l m) (tells-lines ls ms)) (λ q. let u = q.0 in let v = q.1 in cc) (λ e. (cc, cc))

-- ---- over the list's own addresses, frame by frame

module _ (room : Room) where
  pub shown-end : (i : ℕ) (s : State) (ls : List Line) → shown_steps room i s [] ls ≡ accepted [] s.scopes.size
  unfolding shown_steps
  shown-end i s ls = refl

  -- the first frame of what is accepted is given, and the rest is accepted over the lines behind the frame's
  pub record ShownSplit (i : ℕ) (s : State) (f : Frame) (fs : List Frame) (ls own : List Line) (needs : ℕ) : Type 0 where
    pub result : List Line × State
    pub stepped : step room (as_shown room ls) s f ≡ given result
    pub tail : Tail result.0 (shown_steps room (suc i) result.1 fs (drop (length result.0) ls)) own needs

  pub shown-first : (i : ℕ) (s : State) (f : Frame) (fs : List Frame) (ls own : List Line) (needs : ℕ) → shown_steps room i s (f ∷ fs) ls ≡ accepted own needs
      → ShownSplit i s f fs ls own needs
  unfolding shown_steps
  shown-first i s f fs ls own needs e = go (step room (as_shown room ls) s f) refl
    where
      go : (a : Step) → step room (as_shown room ls) s f ≡ a → ShownSplit i s f fs ls own needs
      go (refused n) q = let x : refused_at n i ≡ accepted own needs = rw (q, shown_steps) at e in absurd (let z : ◌≡◌ {A = ℕ} 0 1 = cc in omega arith)
      go (given r) q = record { result = r; stepped = q; tail = tail r.0 (shown_steps room (suc i) r.1 fs (drop (length r.0) ls)) own needs (rw (q, shown_steps) at e) }

  -- and the other way
  pub shown-on : (i : ℕ) (s : State) (f : Frame) (fs : List Frame) (ls : List Line) (r : List Line × State) → step room (as_shown room ls) s f ≡ given r
      → shown_steps room i s (f ∷ fs) ls ≡ before r.0 (shown_steps room (suc i) r.1 fs (drop (length r.0) ls))
  unfolding shown_steps
  shown-on i s f fs ls r e = rw (e, shown_steps)

  -- ---- a yes is a run

  pub shown-fair : (ls : List Line) → Fair room (as_shown room ls) (InOrder room.segments)
  unfolding as_shown
  shown-fair ls = placing-fair room (exactly_at (shown_first ls))

  pub shown-goes : (fs : List Frame) (i : ℕ) (s : State) (ls own : List Line) (needs : ℕ) → shown_steps room i s fs ls ≡ accepted own needs → Ended room (FairInOrder room) s fs own needs
  shown-goes [] i s ls own needs e =
      let end = shown-end i s ls in
      let el : [] ≡ own = cc in
      record { last = s; goes = subst (λ (y : List Line). Goes room (FairInOrder room) s [] y s) el ended; size_is = cc }
  shown-goes (f ∷ fs) i s ls own needs e =
      let w = shown-first i s f fs ls own needs e in
      let more = shown-goes fs (suc i) w.result.1 (drop (length w.result.0) ls) w.tail.rest needs w.tail.went in
      record {
        last = more.last;
        goes = subst (λ (y : List Line). Goes room (FairInOrder room) s (f ∷ fs) y more.last) w.tail.whole (went (as_shown room ls) (shown-fair ls) w.result w.stepped more.goes);
        size_is = more.size_is;
      }

  -- the size never falls
  pub shown-up : (fs : List Frame) (i : ℕ) (s : State) (ls own : List Line) (needs : ℕ) → InOrder room.segments s.scopes.slots → shown_steps room i s fs ls ≡ accepted own needs → s.scopes.size ≤ needs
  shown-up fs i s ls own needs o e = let w = shown-goes fs i s ls own needs e in omega (arith, size-up room (InOrder room.segments) w.goes o, w.size_is)

  -- a larger frame serves as well
  pub high-more : (n size : ℕ) → n ≤ size → (i : ℕ) (ls : List Line) → high n i ls ≡ none → high size i ls ≡ none
  unfolding high
  high-more n size h i [] e = refl
  high-more n size h i (shows o l ∷ ls) e = high-more n size h (suc i) ls e
  high-more n size h i (stores a x ∷ ls) e = low-on n a i ls (high size i (stores a x ∷ ls) ≡ none) e (λ b q. rw (lt-ltb a size (omega arith), high) (high-more n size h (suc i) ls q))
  high-more n size h i (loads o a ∷ ls) e = low-on n a i ls (high size i (loads o a ∷ ls) ≡ none) e (λ b q. rw (lt-ltb a size (omega arith), high) (high-more n size h (suc i) ls q))

  -- ---- what a yes says of frames and lines

  pub record Yes (p : Place) (fs : List Frame) (ls : List Line) (size : ℕ) : Type 0 where
    pub ours : List Line
    pub our-size : ℕ
    pub accepts : steps room (placing room.segments p) (length (title p)) start fs ≡ accepted ours our-size
    pub own : List Line
    pub needs : ℕ
    pub shown : shown_steps room (length (title p)) start fs (drop (length (title p)) ls) ≡ accepted own needs
    pub whole : title p ++ own ≡ ls
    pub fits : needs ≤ size

  pub yes-is : (p : Place) (fs : List Frame) (ls : List Line) (size : ℕ) → agrees room p fs ls size ≡ true → Yes p fs ls size
  unfolding agrees agrees_with
  yes-is p fs ls size e =
      go (steps room (placing room.segments p) (length (title p)) start fs) (shown_steps room (length (title p)) start fs (drop (length (title p)) ls)) refl refl
    where
      go : (o q : Outcome) → steps room (placing room.segments p) (length (title p)) start fs ≡ o → shown_steps room (length (title p)) start fs (drop (length (title p)) ls) ≡ q → Yes p fs ls size
      go (refused_at n i) q x y = clash (rw (x, agrees) at e) refl
      go (accepted ours n) (refused_at m i) x y = clash (rw (x, y, agrees, agrees_with) at e) refl
      go (accepted ours n) (accepted own needs) x y =
          let both = (tells-and (tells-lines (title p ++ own) ls) (tells-le needs size)).holds (rw (x, y, agrees, agrees_with) at e) in
          record { ours = ours; our-size = n; accepts = x; own = own; needs = needs; shown = y; whole = both.0; fits = both.1 }

  pub agrees-holds : (p : Place) (fs : List Frame) (ls : List Line) (size : ℕ) → agrees room p fs ls size ≡ true → Holds room (placing room.segments p) fs ls size
  agrees-holds p fs ls size e =
      let y = yes-is p fs ls size e in
      let place : Placement = placing room.segments p in
      let i : ℕ = length (title p) in
      let w = shown-goes fs i start (drop i ls) y.own y.needs y.shown in
      let h : Holds room place fs y.own y.needs
      = subst (Holds room place fs y.own) w.size_is
      (run_holds room (InOrder room.segments) (placing-fair room p).at_first place i fs y.ours y.own y.our-size w.last y.accepts w.goes) in
      let larger : Holds room place fs y.own size
      = record { prints = λ vs cells fits. h.prints vs cells (le_trans y.fits fits); samples = h.samples; inside = high-more y.needs size y.fits 0 y.own h.inside } in
      subst (λ (l : List Line). Holds room place fs l size) y.whole (under-title room p place fs y.own size larger)

-- ---- every list that we write

module _ (room : Room) (place : Placement) (fair : Fair room place (InOrder room.segments)) where
  -- the slots may have another L and another H by then, as where an allocation goes is said by its line
  ours-from : (fs : List Frame) (i j : ℕ) (s : State) (x : Slots) (ls : List Line) (size : ℕ) → Twin room.segments s.scopes.slots x → steps room place i s fs ≡ accepted ls size
      → shown_steps room j (reslot x s) fs ls ≡ accepted ls size
  ours-from [] i j s x ls size w e =
      let end = no-frame room place i s in
      let el : [] ≡ ls = cc in
      let es : s.scopes.size ≡ size = cc in
      shown-end room j (reslot x s) ls ∙ ap (λ (n : ℕ). accepted [] n) es ∙ ap (λ (l : List Line). accepted l size) el
  ours-from (f ∷ fs) i j s x ls size w e =
      let v = split-first room place i s f fs ls size e in
      let first : List Line = v.result.0 in
      let rest : List Line = v.tail.rest in
      let a = (follows room place (tight-fair fair) s x w f).at v.result v.stepped rest in
      let after : State = reslot a.slots v.result.1 in
      let more : shown_steps room (suc j) after fs rest ≡ accepted rest size = ours-from fs (suc i) (suc j) v.result.1 a.slots rest size a.twin v.tail.went in
      subst (λ (y : List Line). shown_steps room j (reslot x s) (f ∷ fs) y ≡ accepted y size) v.tail.whole
      (shown-on room j (reslot x s) f fs (first ++ rest) (first, after) a.goes
      ∙ ap (before first) (ap (shown_steps room (suc j) after fs) (drop-append_seam first rest) ∙ more))

  start-twin : Twin room.segments start.scopes.slots fresh_slots
  unfolding start fresh_scopes
  start-twin = record { same = refl; mine = (tight-fair fair).at_first; its = (tight-fair fair).at_first }

  start-again : reslot fresh_slots start ≡ start
  unfolding start fresh_scopes
  start-again = refl

  pub ours-shown : (i j : ℕ) (fs : List Frame) (ls : List Line) (size : ℕ) → steps room place i start fs ≡ accepted ls size → shown_steps room j start fs ls ≡ accepted ls size
  ours-shown i j fs ls size e = subst (λ (t : State). shown_steps room j t fs ls ≡ accepted ls size) start-again (ours-from fs i j start fresh_slots ls size start-twin e)

pub ours-agree : (room : Room) (p : Place) (fs : List Frame) (ls : List Line) (size : ℕ) → steps room (placing room.segments p) (length (title p)) start fs ≡ accepted ls size
    → agrees room p fs (title p ++ ls) size ≡ true
unfolding agrees agrees_with
ours-agree room p fs ls size e =
    let i : ℕ = length (title p) in
    let shown : shown_steps room i start fs (drop i (title p ++ ls)) ≡ accepted ls size
    = ap (shown_steps room i start fs) (drop-append_seam (title p) ls) ∙ ours-shown room (placing room.segments p) (placing-fair room p) i i fs ls size e in
    rw (e, shown, agrees, agrees_with) ((tells-and (tells-lines (title p ++ ls) (title p ++ ls)) (tells-le size size)).shows (refl, le_refl size))

-- ---- on bytes

module _ (room : Room) where
  pub yes-prints : YesPrints room
  unfolding YesPrints verdict judged script_meaning script_takes
  yes-prints script list e = go (read_script room script).script (read_list room list) refl refl e
    where
      go : (r : Script) (l : Listed) → (read_script room script).script ≡ r → read_list room list ≡ l → judged room (read_script room script).place r l ≡ says true → Prints room script list
      go (unread n i) l q x y = absurd (let z : ◌≡◌ {A = ℕ} 0 1 = cc in omega arith)
      go (frames fs) (unlisted n i) q x y = absurd (let z : ◌≡◌ {A = ℕ} 0 1 = cc in omega arith)
      go (frames fs) (listed ls size) q x y =
          let p : Place = (read_script room script).place in
          let agree : agrees room p fs ls size ≡ true = cc in
          record {
            lines = ls;
            size = size;
            read = x;
            runs = λ cells fits n vs many kept.
                rw (q, script_meaning, script_takes)
                (runs room (placing room.segments p) fs ls size cells list n vs (agrees-holds room p fs ls size agree) fits (rw (q, script_takes) at many) (rw (q, script_takes) at kept) x);
          }

  pub ours-get-yes : Wide room → OursGetYes room
  unfolding OursGetYes verdict judged translated outcome
  ours-get-yes wide script ls size e =
      let h = held room wide script ls size e in
      let p : Place = (read_script room script).place in
      let fs : List Frame = h.script-frames in
      let w = tail (title p) (steps room (placing room.segments p) (length (title p)) start fs) ls size (sym (rw h.read) ∙ e) in
      let agree : agrees room p fs ls size ≡ true = subst (λ (l : List Line). agrees room p fs l size ≡ true) w.whole (ours-agree room p fs w.rest size w.went) in
      rw (h.read, h.back, judged) (ap says agree)

-- ---- in our room

pub base-prints : YesPrints base
base-prints = yes-prints base

pub base-get-yes : OursGetYes base
base-get-yes = ours-get-yes base base-wide
