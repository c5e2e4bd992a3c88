-- Demand 3 and the round trip on bytes, for scripts of either edition, in a room whose numbers fit four digits. Assumes nothing.
use mathlib.Core.Path.{◌≡◌, refl, sym, ap, subst, ◌∙◌}
use mathlib.Core.Bool.{Bool, true, false}
use mathlib.Core.Option.{Option, none, some}
use mathlib.Core.List.{List, [], ◌∷◌, ◌++◌}
use Prim.Native.Nat.{ℕ, suc, ◌+◌, ◌-◌, ◌≤◌, ◌<◌}
use native.Mathlib.Omega.{arith}
use lib.Dec.{ltb}
use lib.ListN.{length, replicate, drop, set, length-append, length-replicate}
use lib.Seq.{drop-set-lt, drop-append_seam}
use borrow.Author.Tests.{ltb-true, lt-ltb, le-ltb}
use Rattle.rules.specs.Sizes.{Room, base}
use Rattle.rules.specs.Slots.{Placement, Place, by_head, lowest, exactly_at, placing}
use Rattle.rules.specs.Frames.{State, start, Frame, Line, stores, loads, shows, steps, accepted}
use Rattle.rules.specs.Meaning.{worth, later, obey, high, meaning, list_takes, frames_take, lacking}
use Rattle.rules.specs.Recordings.{recorded}
use Rattle.rules.specs.Text.{split, Script, frames, unread, titled, title, read_script, list_text, listed, read_list}
use Rattle.rules.specs.Entries.{outcome, translated, ran, run_sampled, run_listed, recorded_on}
use Rattle.rules.specs.Demand3.{Fair, Holds, Demand3, Demand3Bytes, RoundTrip, Runs, script_meaning, script_takes, Lacks, TooFew}
use Rattle.rules.proofs.Chains.{none-some}
use Rattle.rules.proofs.Lists.{FitLines, no_lines, title-back}
use Rattle.rules.proofs.Sound.{SlotsSound, StateSound}
use Rattle.rules.proofs.KeepsSteps.{keeps-step}
use Rattle.rules.proofs.Reached.{start-sound}
use Rattle.rules.proofs.Small.{Small, small-step, small-start}
use Rattle.rules.proofs.Fits.{Wide, base-wide, fit_on, one-length, fits-step}
use Rattle.rules.proofs.Scripts.{FitFrames, no_frames, frames-on, read-well}
use Rattle.rules.proofs.Taking.{enough, too_few}
use Rattle.rules.proofs.Demand3.{tail, Goes, ended, went, Ended, accepted-goes, demand3}
use Rattle.rules.proofs.Editions.{InOrder, sound-in-order, in-order-sound, placing-fair, fair-as}

-- ---- the frame machine

-- where the first line is low, so are the others
pub low-on : (size a i : ℕ) (ls : List Line) (P : Type 0) → ◌≡◌ {A = Option ℕ} (elim (ltb a size) [ true ↦ high size (suc i) ls | false ↦ some i ]) none
    → (a < size → high size (suc i) ls ≡ none → P) → P
low-on size a i ls P e k = go (ltb a size) refl
  where
    go : (b : Bool) → ltb a size ≡ b → P
    go true p = k (ltb-true a size p) (rw p at e)
    go false p = none-some (sym (rw p at e))

-- no line that is obeyed touches a cell from `size` on
obey-above : (size : ℕ) (ls : List Line) (i : ℕ) (vs cells : List ℕ) → high size i ls ≡ none → drop size (obey cells vs ls).cells ≡ drop size cells
unfolding obey high
obey-above size [] i vs cells e = refl
obey-above size (shows o l ∷ ls) i vs cells e = obey-above size ls (suc i) vs cells e
obey-above size (loads o a ∷ ls) i vs cells e = low-on size a i ls (drop size (obey cells vs ls).cells ≡ drop size cells) e (λ b q. obey-above size ls (suc i) vs cells q)
obey-above size (stores a x ∷ ls) i vs cells e =
    low-on size a i ls (drop size (obey (set cells a (worth x vs)) (later x vs) ls).cells ≡ drop size cells) e
    (λ b q. obey-above size ls (suc i) (later x vs) (set cells a (worth x vs)) q ∙ drop-set-lt size cells a (worth x vs) b)

-- whether a line is too high doesn't depend on where the counting starts
high-at : (size i j : ℕ) (ls : List Line) → high size i ls ≡ none → high size j ls ≡ none
unfolding high
high-at size i j [] e = refl
high-at size i j (shows o l ∷ ls) e = high-at size (suc i) (suc j) ls e
high-at size i j (stores a x ∷ ls) e = low-on size a i ls (high size j (stores a x ∷ ls) ≡ none) e (λ b q. rw (lt-ltb a size b, high) (high-at size (suc i) (suc j) ls q))
high-at size i j (loads o a ∷ ls) e = low-on size a i ls (high size j (loads o a ∷ ls) ≡ none) e (λ b q. rw (lt-ltb a size b, high) (high-at size (suc i) (suc j) ls q))

-- the title is no line that the frame machine obeys
pub under-title : (room : Room) (p : Place) (place : Placement) (fs : List Frame) (ls : List Line) (size : ℕ) → Holds room place fs ls size → Holds room place fs (title p ++ ls) size
unfolding obey high list_takes
under-title room by_head place fs ls size h = h
under-title room lowest place fs ls size h = record { prints = h.prints; samples = h.samples; inside = high-at size 0 1 ls h.inside }
under-title room (exactly_at a) place fs ls size h = h

-- the cells before the first line: zeroed below `size`
zeroed-above : (size : ℕ) (cells : List ℕ) → drop size (replicate size 0 ++ drop size cells) ≡ drop size cells
zeroed-above size cells =
    subst (λ (n : ℕ). drop n (replicate size 0 ++ drop size cells) ≡ drop size cells) (length-replicate size 0) (drop-append_seam (replicate size 0) (drop size cells))

-- the frames behind an accepted script's title: demand 3 holds of them, and the list reads back
pub record Held (room : Room) (script : List ℕ) (ls : List Line) (size : ℕ) : Type 0 where
  pub script-frames : List Frame
  pub read : (read_script room script).script ≡ frames script-frames
  pub holds : Holds room (placing room.segments (read_script room script).place) script-frames ls size
  pub back : read_list room (list_text ls size) ≡ listed ls size

module _ (room : Room) (place : Placement) where
  pub runs : (fs : List Frame) (ls : List Line) (size : ℕ) (cells list : List ℕ) (n : ℕ) (vs : List ℕ) → Holds room place fs ls size → size ≤ length cells
      → frames_take fs ≤ n → frames_take fs ≤ length vs → read_list room list ≡ listed ls size
      → Runs room size cells (recorded n vs) list (meaning room place start (λ h. 0) vs fs) (n - frames_take fs)
  unfolding recorded_on run_listed
  runs fs ls size cells list n vs holds fits many kept back =
      let zeroed : List ℕ = replicate size 0 ++ drop size cells in
      let long : size ≤ length zeroed = omega (arith, length-append (replicate size 0) (drop size cells), length-replicate {A = ℕ} size 0) in
      record {
        last = (obey zeroed vs ls).cells;
        runs =
            rw (back, holds.inside, enough ls 0 n (omega (arith, holds.samples)), le-ltb (length cells) size fits, le-ltb (length vs) (list_takes ls) (omega (arith, holds.samples)), run_listed, run_sampled)
            (λ t. ran (record { cells = (obey zeroed vs ls).cells; loaded = holds.prints vs zeroed long t }) (n - holds.samples t));
        above = obey-above size ls 0 vs zeroed holds.inside ∙ zeroed-above size cells;
      }

  lacks : (fs : List Frame) (ls : List Line) (size : ℕ) (cells list : List ℕ) (n : ℕ) (vs : List ℕ) → Holds room place fs ls size → n < frames_take fs
      → read_list room list ≡ listed ls size → Lacks room cells (recorded n vs) list (lacking 0 n ls)
  unfolding recorded_on run_listed
  lacks fs ls size cells list n vs holds few back =
      let f = too_few ls 0 n (omega (arith, holds.samples)) in
      record { line = f.line; is-first = f.is; stops = rw (back, holds.inside, f.is, run_listed, run_sampled) }

-- ---- what a run writes

-- a placement that will do: fair on slots in order, and so on sound ones
abbrev pub FairInOrder : Room → Placement → Type 0
FairInOrder room place = Fair room place (InOrder room.segments)

pub record Written (room : Room) (fs : List Frame) (ls : List Line) (size : ℕ) : Type 0 where
  pub fits : FitLines ls
  pub lengths : length ls ≡ length fs
  pub within : size ≤ room.size

module _ (room : Room) (wide : Wide room) where
  sound-fair : (place : Placement) → FairInOrder room place → Fair room place (SlotsSound room.segments)
  sound-fair place f = fair-as (λ s. in-order-sound room.segments s wide.segments) (sound-in-order room.segments) f

  written : {fs : List Frame} {ls : List Line} {s t : State} → FitFrames fs → Goes room (FairInOrder room) s fs ls t → (i : ℕ) → i + length fs ≤ room.lines → StateSound room s → Small i s
      → Written room fs ls t.scopes.size
  written no_frames ended i h ok small = record { fits = no_lines; lengths = refl; within = omega (arith, ok.scopes.size.fits) }
  written {s = s} (frames-on {f = f} {fs = fs} ff more) (went place ok-place r q run) i h ok small =
      let fair = sound-fair place ok-place in
      let next = (small-step room place fair (omega (arith, wide.slots, wide.size)) i s ok.scopes.slots small f).at r q in
      let one = (fits-step room place fair wide i (omega arith) s ok small f ff).at r q in
      let w = written more run (suc i) (omega arith) ((keeps-step room s ok wide.slots place fair f).at r q) next in
      record { fits = fit_on one w.fits; lengths = one-length one _ ∙ ap suc w.lengths; within = w.within }

  pub title-short : (p : Place) → length (title p) ≤ room.lines
  title-short by_head = omega arith
  title-short lowest = wide.one_line
  title-short (exactly_at a) = omega arith

  -- the frames of a script that is read, from the start, behind its title
  pub run-written : (script : List ℕ) (fs : List Frame) (ls : List Line) (size : ℕ) → (read_script room script).script ≡ frames fs → Ended room (FairInOrder room) start fs ls size
      → Written room fs ls size × (length (title (read_script room script).place) + length fs ≤ room.lines)
  unfolding read_script
  run-written script fs ls size q run =
      let i : ℕ = length (title (read_script room script).place) in
      let well = read-well room (titled (split script)).rest i fs (title-short (read_script room script).place) q in
      let w = written well.fits run.goes i well.few (start-sound room wide.segments wide.scopes) (small-start i) in
      (subst (Written room fs ls) run.size_is w, well.few)

module _ (room : Room) (wide : Wide room) where
  -- ---- demand 3

  -- an accepted script's frames, of which demand 3 holds
  pub held : (script : List ℕ) (ls : List Line) (size : ℕ) → translated room script ≡ accepted ls size → Held room script ls size
  unfolding Demand3 translated outcome read_script
  held script ls size e = go (read_script room script).script refl e
    where
      go : (r : Script) → (read_script room script).script ≡ r → outcome room (read_script room script).place r ≡ accepted ls size → Held room script ls size
      go (unread n i) q x = absurd (let z : ◌≡◌ {A = ℕ} 0 1 = cc in omega arith)
      go (frames fs) q x =
          let p : Place = (read_script room script).place in
          let place : Placement = placing room.segments p in
          let i : ℕ = length (title p) in
          let tl = tail (title p) (steps room place i start fs) ls size x in
          let run = accepted-goes room place {Ok = FairInOrder room} (placing-fair room p) fs i start tl.rest size tl.went in
          let w = run-written room wide script fs tl.rest size q run in
          record {
            script-frames = fs;
            read = q;
            holds =
                subst (λ (l : List Line). Holds room place fs l size) tl.whole
                (under-title room p place fs tl.rest size (demand3 room place (InOrder room.segments) (placing-fair room p) i fs tl.rest size tl.went));
            back =
                subst (λ (l : List Line). read_list room (list_text l size) ≡ listed l size) tl.whole
                (title-back room p w.0.fits size (omega (arith, w.1, w.0.lengths)) w.0.within wide.size);
          }

  pub round_trip : RoundTrip room
  unfolding RoundTrip
  round_trip script ls size e = (held script ls size e).back

  pub demand3-bytes : Demand3Bytes room
  unfolding Demand3Bytes script_meaning script_takes
  demand3-bytes script ls size e cells fits n vs many kept =
      let h = held script ls size e in
      rw (h.read, script_meaning, script_takes)
      (runs room (placing room.segments (read_script room script).place) h.script-frames ls size cells (list_text ls size) n vs h.holds fits (rw (h.read, script_takes) at many) (rw (h.read, script_takes) at kept) h.back)

  pub samples-too-few : TooFew room
  unfolding TooFew script_takes
  samples-too-few script ls size e cells n vs few =
      let h = held script ls size e in
      lacks room (placing room.segments (read_script room script).place) h.script-frames ls size cells (list_text ls size) n vs h.holds (rw (h.read, script_takes) at few) h.back

  -- a list takes as many samples as its script
  pub takes-as-many : (script : List ℕ) (ls : List Line) (size : ℕ) → translated room script ≡ accepted ls size → list_takes ls ≡ script_takes room script
  unfolding script_takes
  takes-as-many script ls size e = let h = held script ls size e in rw (h.read, script_takes) h.holds.samples

-- ---- in our room

pub round-trip-base : RoundTrip base
round-trip-base = round_trip base base-wide

pub bytes-base : Demand3Bytes base
bytes-base = demand3-bytes base base-wide

pub too-few-base : TooFew base
too-few-base = samples-too-few base base-wide

pub held-base : (script : List ℕ) (ls : List Line) (size : ℕ) → translated base script ≡ accepted ls size → Held base script ls size
held-base = held base base-wide

pub takes-base : (script : List ℕ) (ls : List Line) (size : ℕ) → translated base script ≡ accepted ls size → list_takes ls ≡ script_takes base script
takes-base = takes-as-many base base-wide
