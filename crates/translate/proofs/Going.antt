-- The loop over the frames: with i of them done, what was written and what remains give the whole. Assumes nothing.
use Rattle.std.specs.Prelude.{Result, Ok, Err, Some, None}
use Rattle.std.specs.Option.{is_some}
use mathlib.Core.Path.{◌≡◌, refl, sym, ap, subst, ◌∙◌, fun_ext}
use mathlib.Core.Bool.{false}
use mathlib.Core.Logic.{inl, inr}
use mathlib.Core.Option.{Option, none, some}
use mathlib.Core.List.{List, [], ◌∷◌, ◌++◌, append_assoc}
use Prim.Native.Nat.{ℕ, zero, suc, ◌+◌, ◌*◌, ◌≤◌, ◌<◌}
use native.Mathlib.Omega.{arith}
use native.Mathlib.Numerals.{add-one}
use borrow.Author.Tests.{ne_eqb}
use lib.ListN.{length, get_or, take, drop, replicate, length-append, length-replicate}
use lib.Seq.{take_at}
use Rattle.rules.specs.Notation.{given, refused}
use Rattle.rules.specs.Refusals.{number_of}
use Rattle.rules.specs.declared.refusal.Refusal.{Refusal}
use Rattle.rules.specs.declared.refusal.Refusal.TheVariants.{Malformed, LineTooMany}
use Rattle.rules.specs.Sizes.{base, HANDLES, LINES, NEEDS, PAGE, SLOTS}
use Rattle.rules.specs.Slots.{Placement, Place, placing, fresh_slots}
use Rattle.rules.specs.Scopes as rule
use Rattle.rules.specs.Frames.{State, start, Frame, Line, shows, step, Step, Outcome, accepted, refused_at, before, onward, steps}
use Rattle.rules.specs.Demand3.{Fair}
use Rattle.rules.specs.Sound.{sum_below}
use Rattle.rules.specs.Text.{Split, split, Titled, title, read_script, line_of, frame_table, Script, frames, unread, frame_before, script_from, line_text, list_text}
use Rattle.rules.specs.Entries.{outcome, translated}
use Rattle.rules.proofs.Sound.{SlotsSound, StateSound}
use Rattle.rules.proofs.KeepsSteps.{keeps-step}
use Rattle.rules.proofs.Reached.{start-sound}
use Rattle.rules.proofs.Small.{Small, small-start, small-step}
use Rattle.rules.proofs.Fits.{base-wide}
use Rattle.rules.proofs.Editions.{placing-fair-sound}
use Rattle.rules.proofs.Lengths.{line-length}
use Rattle.rules.proofs.Pages.{owing, pays, lines_length}
use Rattle.scopes.specs.View.{view}
use Rattle.scopes.specs.Steps.{Whole}
use Rattle.text.specs.Refused.{bad}
use Rattle.text.specs.Lines.{code_of, frame_of, framed, frame_reading, Took}
use Rattle.text.specs.Shapes.{Reading}
use Rattle.text.specs.Titles.{place_by, Titles}
use Rattle.text.specs.Whole.{of_script, script_left}
use Rattle.text.specs.Writing.{over}
use Rattle.text.specs.declared.lines.Frame as code
use Rattle.text.specs.declared.lines.TakenLine.{TakenLine}
use Rattle.text.specs.declared.refusal.RefusedAt.{RefusedAt}
use Rattle.text.proofs.Splits.{split-end}
use Rattle.text.proofs.Texts.{script-late, script-bad}
use Rattle.text.proofs.Rows.{frame-code}
use Rattle.text.proofs.Bounds.{ScriptIn, script-in}
use Rattle.text.proofs.Over.{next}
use Rattle.handles.specs.Handles.{handle_at, fresh_handles}
use Rattle.handles.specs.NeedTable.{remembered_at, state_with, fresh_needs}
use Rattle.frames.specs.Steps.{stepped, line_of as frame_line, Few}
use Rattle.frames.specs.Needing.{standing, StandsWith, WorksWith}
use Rattle.frames.specs.declared.steps.Adds.{Adds}
use Rattle.frames.specs.declared.steps.Script.{Script as Code}
use Rattle.frames.proofs.Beside.{stands-sound, sound-stands}
use Rattle.translate.specs.Whole.{lines_text, steps_at, walk_from, stopped_at, longest_of, walked, Lists, Refuses, Ends, EndsOn}
use Rattle.translate.specs.declared.whole.Listed.{Listed}
use Rattle.translate.proofs.Written.{alone, lines-length, lines-on, list_on}
use Rattle.translate.proofs.Titled.{titles-length}

-- ---- lines before others

before-before : (ls ms : List Line) (o : Outcome) → before ls (before ms o) ≡ before (ls ++ ms) o
before-before ls ms (accepted more size) = ap (λ (l : List Line). accepted l size) (sym (append_assoc ls ms more))
before-before ls ms (refused_at n i) = refl

-- ---- the frame of a line

record Taking (i : ℕ) (f : code.Frame) (ls more : List Split) : Type 0 where
  frame : Frame
  is : f ≡ code_of frame
  on : script_from base i ls ≡ frame_before i (some frame) (script_from base (suc i) more)

taking : (i : ℕ) (l : Split) (ls : List Split) (f : code.Frame) → (i ≡ LINES → ⊥) → frame_reading l ≡ Some f → Taking i f (l ∷ ls) ls
unfolding script_from frame_reading base
taking i l ls f early e = go (line_of frame_table l) refl e
  where
    go : (o : Option Frame) → line_of frame_table l ≡ o → framed o ≡ Some f → Taking i f (l ∷ ls) ls
    go none q e = absurd (let z : ◌≡◌ {A = ℕ} 0 1 = cc in omega arith)
    go (some g) q e = let c : code_of g ≡ f = cc in record { frame = g; is = sym c; on = rw (ne_eqb i LINES early, q, script_from) }

-- what the lines behind a refused step come to
unread-of : (i n j : ℕ) (r : Script) → of_script i r ≡ bad n j → r ≡ unread n j
unread-of i n j (frames fs) e = cc
unread-of i n j (unread m k) e = let a : m ≡ n = cc in let b : k ≡ j = cc in λ u. unread (a u) (b u)

-- ---- the loop

abbrev pub by : Place → Placement
by pl = placing base.segments pl

pub fair : (pl : Place) → Fair base (by pl) (SlotsSound base.segments)
fair pl = placing-fair-sound base base-wide.segments pl

-- `pl` says where each line's slots go, `o` is what the whole script comes to
pub record Going (pl : ℕ → Place) (o : Outcome) (script page₀ : List ℕ) (s : Code) (drained : List ℕ) (p i w : ℕ) (page : List ℕ) : Type 0 where
  pub within : p ≤ length script
  pub stands : StandsWith s
  pub small : Small i (standing s)
  pub early : i ≤ LINES
  pub done : List Line
  pub comes : o ≡ before done (walk_from pl i (standing s) (script_from base i (split (drop p script))))
  pub at : w ≡ length (lines_text done)
  pub written : page ≡ over page₀ 0 (lines_text done)
  pub owed : w + 4 * owing base (view s.scopes) ≤ 11 * i + 4 * s.handles.handed
  pub room : longest_of i s.handles.handed ≤ length page₀
  pub drained-length : length drained ≡ SLOTS
  pub page-length : length page ≡ length page₀

-- ---- before the first frame

zeros : (n h : ℕ) → get_or {A = ℕ} (replicate n 0) h 0 ≡ 0
zeros zero zero = refl
zeros zero (suc h) = refl
zeros (suc n) zero = refl
zeros (suc n) (suc h) = zeros n h

-- the state is fresh, and there are no handles and no needs
pub record Fresh (s : Code) : Type 0 where
  pub fresh : view s.scopes ≡ rule.fresh_scopes
  pub whole : Whole s.scopes
  pub handles : s.handles ≡ fresh_handles
  pub needs : s.needs ≡ fresh_needs

starts : (s : Code) → Fresh s → standing s ≡ start
unfolding start rule.fresh_scopes fresh_slots
starts s h =
    let f : handle_at (λ a. false) fresh_handles ≡ start.handles = fun_ext (λ h. rw (zeros HANDLES h)) in
    let g : remembered_at fresh_needs ≡ start.needs = fun_ext (λ k. rw (zeros NEEDS k)) in
    (λ u. state_with (h.fresh u) (h.handles u) (h.needs u))
    ∙ (λ t. record { scopes = rule.fresh_scopes; handles = f t; handed = 0; needs = g t; needed = 0 })

pub owes-none : owing base start.scopes ≡ 0
unfolding owing start rule.fresh_scopes base sum_below
owes-none = refl

-- the frames stand behind the title, and its line before theirs
read-from : (script : List ℕ) (n : ℕ) → Titles script n → (read_script base script).script ≡ script_from base n (split (drop (7 * n) script))
unfolding read_script
read-from script n t =
    ap (λ (x : Titled). script_from base (length (title x.place)) x.rest) t.is
    ∙ ap (λ (i : ℕ). script_from base i (split (drop (7 * n) script))) (titles-length n t.most)

-- the title's line is shorter than a frame's may be
title-bytes : (n : ℕ) → n ≤ 1 → length (lines_text (title (place_by n))) ≤ 7 * n
unfolding lines_text lines_length
title-bytes zero l = let e : length (lines_text []) ≡ 0 = refl in omega (arith, e)
title-bytes (suc zero) l = omega (arith, lines-length (shows 0xf0 (2 ∷ []) ∷ []), line-length (shows 0xf0 (2 ∷ [])))
title-bytes (suc (suc n)) l = absurd (omega arith)

module _ (pl : ℕ → Place) (script page₀ page : List ℕ) (n w : ℕ) (enough : longest_of 1 0 ≤ length page₀) (t : Titles script n) where
  going-first : (s : Code) → Fresh s → (drained : List ℕ) → length drained ≡ SLOTS → w ≡ length (lines_text (title (place_by n))) → page ≡ over page₀ 0 (lines_text (title (place_by n))) → length page ≡ length page₀
      → Going pl (walked pl n script) script page₀ s drained (7 * n) n w page
  unfolding walked start
  going-first s h drained dl at written pagel =
      let e = starts s h in
      let o : owing base (view s.scopes) ≡ 0 = ap (λ (t : State). owing base t.scopes) e ∙ owes-none in
      let k : s.scopes.counter ≡ start.scopes.counter = ap (λ (t : State). t.scopes.counter) e in
      let hd : s.handles.handed ≡ 0 = ap (λ (t : State). t.handed) e in
      record {
        within = t.within;
        stands = sound-stands s (subst (StateSound base) (sym e) (start-sound base base-wide.segments base-wide.scopes)) h.whole
            (omega (arith, k, (small-start 0).count))
            (ap (λ x. length x.table) h.handles ∙ length-replicate {A = ℕ} HANDLES 0) (ap (λ x. length x.holders) h.handles ∙ length-replicate {A = ℕ} SLOTS 0)
            (ap (λ x. length x.table) h.needs ∙ length-replicate {A = ℕ} NEEDS 0) (ap (λ x. length x.remembers) h.needs ∙ length-replicate {A = ℕ} NEEDS 0);
        small = subst (Small n) (sym e) (small-start n);
        early = omega (arith, t.most);
        done = title (place_by n);
        comes = λ u. before (title (place_by n)) (walk_from pl n (sym e u) (read-from script n t u));
        at = at;
        written = written;
        owed = omega (arith, o, at, title-bytes n t.most);
        room = omega (arith, t.most, enough, hd);
        drained-length = dl;
        page-length = pagel;
      }

  pub going-fresh : (s : Code) → Fresh s → (drained : List ℕ) → length drained ≡ SLOTS → (i : ℕ) → i ≡ n → w ≡ length (lines_text (title (place_by n))) → page ≡ over page₀ 0 (lines_text (title (place_by n))) → length page ≡ length page₀
      → Going pl (walked pl n script) script page₀ s drained (7 * i) i w page
  going-fresh s h drained dl i e at written pagel = subst (λ (k : ℕ). Going pl (walked pl n script) script page₀ s drained (7 * k) k w page) (sym e) (going-first s h drained dl at written pagel)

-- ---- frame by frame

module _ (pl : ℕ → Place) (i : ℕ) (s : State) where
  next-at : (f : Frame) (fs : List Frame) → steps_at pl i s (f ∷ fs) ≡ onward i (step base (by (pl i)) s f) (λ t. steps_at pl (suc i) t fs)
  unfolding steps_at
  next-at f fs = refl

  none-at : steps_at pl i s [] ≡ accepted [] s.scopes.size
  unfolding steps_at
  none-at = refl

  -- the step of the frame is taken: the lines behind it go on from where it leads
  walk-on : (f : Frame) (r : Script) (ls : List Line) (t : State) → step base (by (pl i)) s f ≡ given (ls, t) → walk_from pl i s (frame_before i (some f) r) ≡ before ls (walk_from pl (suc i) t r)
  unfolding onward
  walk-on f (frames fs) ls t e = next-at f fs ∙ ap (λ (x : Step). onward i x (λ t. steps_at pl (suc i) t fs)) e
  walk-on f (unread n j) ls t e = refl

  -- it is refused: a line behind it that can't be read decides
  walk-stop : (f : Frame) (r : Script) (n : ℕ) (done : List Line) → i ≤ LINES → ScriptIn base (suc i) r → step base (by (pl i)) s f ≡ refused n
      → (x : RefusedAt) → bad (number_of x.refusal) x.line ≡ stopped_at n i (of_script (suc i) r) → Refuses (before done (walk_from pl i s (frame_before i (some f) r))) x
  unfolding onward base
  walk-stop f (frames fs) n done h l e x ex =
      let q : walk_from pl i s (frames (f ∷ fs)) ≡ refused_at n i = next-at f fs ∙ ap (λ (x : Step). onward i x (λ t. steps_at pl (suc i) t fs)) e in
      let a : number_of x.refusal ≡ n = cc in
      let b : x.line ≡ i = cc in
      (ap (before done) q ∙ (λ u. refused_at (sym a u) (sym b u)), omega (arith, b))
  walk-stop f (unread m j) n done h l e x ex =
      let a : number_of x.refusal ≡ m = cc in
      let b : x.line ≡ j = cc in
      ((λ u. refused_at (sym a u) (sym b u)), omega (arith, b, l.2))

-- by one place everywhere it is as the rules' `steps`
pub steps-everywhere : (p : Place) (fs : List Frame) (i : ℕ) (s : State) → steps_at (λ _. p) i s fs ≡ steps base (by p) i s fs
unfolding steps_at steps
steps-everywhere p [] i s = refl
steps-everywhere p (f ∷ fs) i s = ap (onward i (step base (by p) s f)) (fun_ext (λ t. steps-everywhere p fs (suc i) t))

-- ---- one frame

-- a line was read at p: the frame f, whose step came to r and to s'; `at` is where its slots go
pub record Stepping (pl : ℕ → Place) (script : List ℕ) (s : Code) (p i : ℕ) (t : TakenLine) (f : code.Frame) (at : Place) (r : Result Adds Refusal) (s' : Code) (drained' : List ℕ) : Type 0 where
  pub took : Took frame_reading script p t
  pub early : i ≡ LINES → ⊥
  pub is : t.frame ≡ Some f
  pub placed : at ≡ pl i
  pub works : (x : Frame) → frame_of f ≡ some x → WorksWith (by at) x f.opcode s r s' drained'

-- its step is taken: what it adds is bounded and fits, and the loop goes on
pub record GoesOn (pl : ℕ → Place) (o : Outcome) (script page₀ : List ℕ) (i w : ℕ) (page : List ℕ) (next : ℕ) (opcode : ℕ) (adds : Adds) (s' : Code) (drained' : List ℕ) : Type 0 where
  pub few : Few (Ok adds)
  pub bounds : (i + 1 ≤ LINES) × (s'.handles.handed ≤ HANDLES)
  -- what a list may take by now is bounded; where the page has so much room, the frame's line fits; where it hasn't, it isn't a whole one
  pub outgrown : length page < longest_of (i + 1) s'.handles.handed → length page < PAGE
  pub room : longest_of (i + 1) s'.handles.handed ≤ length page → w + length (line_text (frame_line opcode adds drained')) ≤ length page
  pub on : longest_of (i + 1) s'.handles.handed ≤ length page → length drained' ≡ SLOTS → (w' : ℕ) (page' : List ℕ) → length page' ≡ length page
      → w' ≡ w + length (line_text (frame_line opcode adds drained')) → page' ≡ over page w (line_text (frame_line opcode adds drained'))
      → Going pl o script page₀ s' drained' next (i + 1) w' page'

module _ (pl : ℕ → Place) (o : Outcome) (script page₀ : List ℕ) (s : Code) (drained : List ℕ) (p i w : ℕ) (page : List ℕ) (g : Going pl o script page₀ s drained p i w page) where
  here-sound : StateSound base (standing s)
  here-sound = stands-sound s g.stands

  -- ---- a line that can't be read

  unread-here : (n j : ℕ) → script_left base script p i ≡ bad n j → j ≤ LINES → (x : RefusedAt) → number_of x.refusal ≡ n → x.line ≡ j → Refuses o x
  unread-here n j e l x a b = (
    g.comes
        ∙ ap (λ (r : Script). before g.done (walk_from pl i (standing s) r)) (unread-of i n j (script_from base i (split (drop p script))) e)
        ∙ (λ u. refused_at (sym a u) (sym b u)),
    omega (arith, b),
  )

  pub going-late : p < length script → i ≡ LINES → Refuses o (record { refusal = LineTooMany; line = i })
  unfolding base
  going-late h e = unread-here 2 i (script-late base script p i h e) g.early (record { refusal = LineTooMany; line = i }) refl refl

  pub going-bad : (t : TakenLine) → Took frame_reading script p t → (i ≡ LINES → ⊥) → t.frame ≡ None → Refuses o (record { refusal = Malformed; line = i })
  unfolding base
  going-bad t k ne e = unread-here 1 i (script-bad base script p i t k ne (ap (λ (x : Reading). is_some x) e)) g.early (record { refusal = Malformed; line = i }) refl refl

  -- ---- a frame

  module _ (t : TakenLine) (f : code.Frame) (at : Place) (r : Result Adds Refusal) (s' : Code) (drained' : List ℕ) (h : Stepping pl script s p i t f at r s' drained') where
    abbrev behind : Script
    behind = script_from base (suc i) (split (drop t.next script))

    taken : Taking i f (h.took.line ∷ split (drop t.next script)) (split (drop t.next script))
    taken = taking i h.took.line (split (drop t.next script)) f h.early (sym h.took.as_read ∙ h.is)

    work : WorksWith (by (pl i)) taken.frame f.opcode s r s' drained'
    work = subst (λ (x : Place). WorksWith (by x) taken.frame f.opcode s r s' drained') h.placed (h.works taken.frame (ap frame_of taken.is ∙ frame-code taken.frame))

    enough : suc i ≤ LINES
    enough = omega (arith, g.early, h.early)

    comes-on : o ≡ before g.done (walk_from pl i (standing s) (frame_before i (some taken.frame) behind))
    comes-on = g.comes ∙ ap (λ (x : Script). before g.done (walk_from pl i (standing s) x)) (ap (script_from base i) h.took.here ∙ taken.on)

    pub going-stop : (e : Refusal) → r ≡ Err e → (x : RefusedAt) → bad (number_of x.refusal) x.line ≡ stopped_at (number_of e) i (script_left base script t.next (i + 1)) → Refuses o x
    unfolding base
    going-stop e er x ex =
        let q : step base (by (pl i)) (standing s) taken.frame ≡ refused (number_of e) = work.does ∙ ap (λ (y : Result Adds Refusal). stepped f.opcode y (standing s') drained') er in
        let same : bad (number_of x.refusal) x.line ≡ stopped_at (number_of e) i (of_script (suc i) behind) = ex ∙ ap (λ (j : ℕ). stopped_at (number_of e) i (script_left base script t.next j)) (add-one i) in
        let w = walk-stop pl i (standing s) taken.frame behind (number_of e) g.done g.early (script-in base (split (drop t.next script)) (suc i) enough) q x same in
        (comes-on ∙ w.0, w.1)

    module _ (adds : Adds) (er : r ≡ Ok adds) where
      abbrev line : Line
      line = frame_line f.opcode adds drained'

      gives : step base (by (pl i)) (standing s) taken.frame ≡ given (line ∷ [], standing s')
      gives = work.does ∙ ap (λ (y : Result Adds Refusal). stepped f.opcode y (standing s') drained') er

      sound : StateSound base (standing s')
      sound = (keeps-step base (standing s) here-sound base-wide.slots (by (pl i)) (fair (pl i)) taken.frame).at (line ∷ [], standing s') gives

      paid : w + length (line_text line) + 4 * owing base (view s'.scopes) ≤ 11 * suc i + 4 * s'.handles.handed
      unfolding lines_length
      paid = omega (arith, g.owed, ((pays base (by (pl i)) (standing s) here-sound taken.frame).at (line ∷ [], standing s') gives).covers)

      handed-few : s'.handles.handed ≤ HANDLES
      unfolding base
      handed-few = sound.handles.few

      small-on : Small (suc i) (standing s')
      small-on = (small-step base (by (pl i)) (fair (pl i)) (omega (arith, base-wide.slots, base-wide.size)) i (standing s) here-sound.scopes.slots g.small taken.frame).at (line ∷ [], standing s') gives

      going-suc : longest_of (i + 1) s'.handles.handed ≤ length page → length drained' ≡ SLOTS → (w' : ℕ) (page' : List ℕ) → length page' ≡ length page → w' ≡ w + length (line_text line) → page' ≡ over page w (line_text line)
          → Going pl o script page₀ s' drained' t.next (suc i) w' page'
      unfolding onward
      going-suc fits dl w' page' l ew ep =
          let text : lines_text (g.done ++ (line ∷ [])) ≡ lines_text g.done ++ line_text line = lines-on g.done (line ∷ []) ∙ ap (λ (x : List ℕ). lines_text g.done ++ x) (alone line) in
          record {
            within = h.took.within;
            stands = sound-stands s' sound work.whole (omega (arith, small-on.count, enough)) work.handles-length work.holders-length work.needs-length work.remembers-length;
            small = small-on;
            early = enough;
            done = g.done ++ (line ∷ []);
            comes = comes-on ∙ ap (before g.done) (walk-on pl i (standing s) taken.frame behind (line ∷ []) (standing s') gives) ∙ before-before g.done (line ∷ []) (walk_from pl (suc i) (standing s') behind);
            at = omega (arith, ew, g.at, ap length text, length-append (lines_text g.done) (line_text line));
            written = next page₀ page page' 0 w (lines_text g.done) (line_text line) (omega arith) (omega (arith, g.at)) g.written ep ∙ ap (over page₀ 0) (sym text);
            owed = omega (arith, paid, ew);
            room = omega (arith, fits, g.page-length);
            drained-length = dl;
            page-length = l ∙ g.page-length;
          }

      pub goes_on : GoesOn pl o script page₀ i w page t.next f.opcode adds s' drained'
      goes_on =
          record {
            few = subst Few er work.few;
            bounds = (omega (arith, enough), handed-few);
            outgrown = λ l. omega (arith, handed-few, enough);
            room = λ l. omega (arith, paid);
            on = λ fits dl w' page' l ew ep. subst (λ (m : ℕ). Going pl o script page₀ s' drained' t.next m w' page') (sym (add-one i)) (going-suc fits dl w' page' l ew ep);
          }

  -- ---- after the last frame

  pub going-size : s.scopes.size < 65536
  going-size = omega (arith, here-sound.scopes.size.fits, base-wide.size)

  pub going-last : w + 7 ≤ length page
  going-last = omega (arith, g.owed, g.room, g.page-length)

  module _ (over-all : length script ≤ p) where
    no_more : script_from base i (split (drop p script)) ≡ frames []
    unfolding script_from
    no_more = ap (script_from base i) (split-end script p over-all)

    comes-last : o ≡ accepted (g.done ++ []) s.scopes.size
    comes-last = g.comes ∙ ap (before g.done) (ap (walk_from pl i (standing s)) no_more ∙ none-at pl i (standing s))

    pub going_end : (v : ℕ) (page' : List ℕ) → v ≡ w + 7 → length page' ≡ length page → page' ≡ over page w (line_text (shows 0x90 (s.scopes.size ∷ [])))
        → Lists o (record { bytes = v; size = s.scopes.size }) page'
    unfolding over
    going_end v page' ev l q =
        let last : List ℕ = line_text (shows 0x90 (s.scopes.size ∷ [])) in
        let text : List ℕ = list_text (g.done ++ []) s.scopes.size in
        let o : page' ≡ over page₀ 0 text = next page₀ page page' 0 w (lines_text g.done) last (omega arith) (omega (arith, g.at)) g.written q ∙ ap (over page₀ 0) (sym (list_on g.done s.scopes.size)) in
        let n : v ≡ length text = omega (arith, g.at, ap length (list_on g.done s.scopes.size), length-append (lines_text g.done) last, line-length (shows 0x90 (s.scopes.size ∷ []))) in
        record { lines = g.done ++ []; is = comes-last; many = n; within = omega (arith, going-last); text = ap (take v) o ∙ take_at text (drop (0 + length text) page₀) v (sym n) }

-- ---- by the script's edition

by-title : (n : ℕ) → n ≤ 1 → (r : Script) → before (title (place_by n)) (walk_from (λ _. place_by n) n start r) ≡ outcome base (place_by n) r
unfolding outcome
by-title n l (unread m j) = refl
by-title n l (frames fs) =
    ap (before (title (place_by n))) (steps-everywhere (place_by n) fs n start)
    ∙ ap (λ (i : ℕ). before (title (place_by n)) (steps base (by (place_by n)) i start fs)) (sym (titles-length n l))

-- what stands behind the title, whose line stands before: what the rules translate the script to
pub walked-edition : (script : List ℕ) (n : ℕ) → Titles script n → walked (λ _. place_by n) n script ≡ translated base script
unfolding walked translated read_script
walked-edition script n t =
    let q : (read_script base script).place ≡ place_by n = ap (λ (x : Titled). x.place) t.is in
    by-title n t.most (read_script base script).script ∙ ap (λ (x : Place). outcome base x (read_script base script).script) (sym q)

pub by-edition : (script page : List ℕ) (n : ℕ) (p : Place) (r : Result Listed RefusedAt) → p ≡ place_by n → Titles script n → EndsOn (walked (λ _. p) n script) r page → EndsOn (translated base script) r page
by-edition script page n p r e t h =
    subst (λ (o : Outcome). EndsOn o r page) (ap (λ (x : Place). walked (λ _. x) n script) e ∙ walked-edition script n t) h

-- ---- a page that no list outgrows

pub on-whole : (o : Outcome) (page : List ℕ) (r : Result Listed RefusedAt) → length page ≡ PAGE → EndsOn o r page → Ends o r page
on-whole o page (Ok x) l h = h
on-whole o page (Err e) l (inl h) = h
on-whole o page (Err e) l (inr h) = absurd (omega (arith, l, h.0))
