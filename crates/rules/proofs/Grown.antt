-- W-206: a room, and one with more segments and handles and a size up to no less: what a script comes to in either, also over a list's own
-- addresses, and how a list is read. Assumes nothing.
use mathlib.Core.Path.{◌≡◌, refl, sym, ap, subst, ◌∙◌}
use mathlib.Core.Bool.{Bool, true, false}
use mathlib.Core.Option.{Option, none, some}
use mathlib.Core.List.{List, [], ◌∷◌}
use mathlib.Core.Logic.{◌⊎◌, inl, inr}
use Prim.Native.Nat.{ℕ, suc, ◌+◌, ◌*◌, max, ◌≤◌, ◌<◌}
use native.Mathlib.Omega.{arith}
use lib.Dec.{eqb, leb}
use lib.ListN.{length, drop}
use borrow.Author.Tests.{leb-true, leb-false}
use Rattle.rules.specs.Notation.{given, refused}
use Rattle.rules.specs.Sizes.{Room}
use Rattle.rules.specs.Slots.{Placed, Placement, Place, exactly_at, placing}
use Rattle.rules.specs.Frames.{State, start, Frame, Line, Step, step, Outcome, accepted, refused_at, before, onward, steps}
use Rattle.rules.specs.Meaning.{Ran}
use Rattle.rules.specs.Text.{Split, line_of, frame_table, Script, frames, unread, frame_before, script_from, Titled, titled, title, split, read_script, size_table, line_table, Listed, listed, unlisted, line_before, size_at, size_or, list_from, under_title, read_list}
use Rattle.rules.specs.Recordings.{Recording}
use Rattle.rules.specs.Entries.{outcome, translated, list_left, translate_entry, ran, stopped, run_listed, recorded_on}
use Rattle.rules.specs.Suppliers.{shown_first, as_shown, shown_steps}
use Rattle.rules.specs.Rooms.{may_now_pass, ScriptKept, SizeTaken, ListKept}
use Rattle.rules.proofs.Tells.{clash}
use Rattle.rules.proofs.Sound.{StateSound}
use Rattle.rules.proofs.KeepsSteps.{keeps-step}
use Rattle.rules.proofs.Reached.{start-sound}
use Rattle.rules.proofs.Fits.{Wide}
use Rattle.rules.proofs.Demand3.{tail}
use Rattle.rules.proofs.Editions.{sound-in-order, placing-fair-sound}
use Rattle.rules.proofs.Suppliers.{shown-up}
use Rattle.rules.proofs.Larger.{placing-too, exactly-past, Follows, same, lifted, grown, step_follows}

-- ---- outcomes

-- the larger room's outcome beside the smaller one's: the same, or any where the smaller room's is 7 or 16; Far of the size that 7 turns into
pub data Ends (Far : ℕ → Type 0) : Outcome → Outcome → Type 0 where
  ends_same : (x : Outcome) → Ends Far x x
  ends-lifted : (n i : ℕ) (y : Outcome) → may_now_pass n ≡ true → (n ≡ 7 → (ls : List Line) (size : ℕ) → y ≡ accepted ls size → Far size) → Ends Far (refused_at n i) y

pub ends-before : {Far : ℕ → Type 0} (ls : List Line) {x y : Outcome} → Ends Far x y → Ends Far (before ls x) (before ls y)
ends-before ls (ends_same x) = ends_same _
ends-before ls (ends-lifted n i y h w) = ends-lifted n i _ h (λ q ms size e. let t = tail ls y ms size e in w q t.rest size t.went)

pub ends-accepted : {Far : ℕ → Type 0} {x y : Outcome} (ls : List Line) (size : ℕ) → Ends Far x y → x ≡ accepted ls size → y ≡ accepted ls size
ends-accepted ls size (ends_same x) e = e
ends-accepted ls size (ends-lifted n i y h w) e = absurd (let z : ◌≡◌ {A = ℕ} 0 1 = cc in omega arith)

pub ends-refused : {Far : ℕ → Type 0} {x y : Outcome} (n i : ℕ) → Ends Far x y → x ≡ refused_at n i → (y ≡ refused_at n i) ⊎ (may_now_pass n ≡ true)
ends-refused n i (ends_same x) e = inl e
ends-refused n i (ends-lifted m j y h w) e = inr (let q : m ≡ n = cc in subst (λ (k : ℕ). may_now_pass k ≡ true) q h)

pub ends-far : {Far : ℕ → Type 0} {x y : Outcome} (i : ℕ) → Ends Far x y → x ≡ refused_at 7 i → (ls : List Line) (size : ℕ) → y ≡ accepted ls size → Far size
ends-far i (ends_same x) e ls size d = absurd (let z : ◌≡◌ {A = ℕ} 0 1 = cc in omega arith)
ends-far i (ends-lifted m j y h w) e ls size d = w (cc) ls size d

-- nothing is said of the size
abbrev Any : ℕ → Type 0
Any n = Unit {0}

-- what follows a step, and its lines
abbrev after : ℕ → Step → (List Line × State → Outcome) → Outcome
after i x g = elim x [ refused n ↦ refused_at n i | given r ↦ before r.0 (g r) ]

onward-after : (i : ℕ) (x : Step) (rest : State → Outcome) → onward i x rest ≡ after i x (λ r. rest r.1)
unfolding onward
onward-after i (refused n) rest = refl
onward-after i (given r) rest = refl

-- Far of a size is Far of the size in the end
module _ {Far : ℕ → Type 0} (i : ℕ) (g h : List Line × State → Outcome) where
  ends-after : {x y : Step} → Follows (λ r. Far r.1.scopes.size) x y → ((r : List Line × State) → x ≡ given r → y ≡ given r → Ends Far (g r) (h r))
      → ((r : List Line × State) → y ≡ given r → Far r.1.scopes.size → (ls : List Line) (size : ℕ) → h r ≡ accepted ls size → Far size)
      → Ends Far (after i x g) (after i y h)
  ends-after (same (given r)) on up = ends-before r.0 (on r refl refl)
  ends-after (same (refused n)) on up = ends_same _
  ends-after (lifted n (given r) l w) on up = ends-before r.0 (ends-lifted n i _ l (λ q. up r refl ((w q).at r refl)))
  ends-after (lifted n (refused m) l w) on up = ends-lifted n i (refused_at m i) l (λ q ls size e. absurd (let z : ◌≡◌ {A = ℕ} 0 1 = cc in omega arith))

-- ---- lists

-- what the larger room reads beside the smaller one: the same, whose size is no more than most, or a list whose size the smaller one refuses
pub data Reads (most : ℕ) : Listed → Listed → Type 0 where
  reads_same : (ls : List Line) (size : ℕ) → size ≤ most → Reads most (listed ls size) (listed ls size)
  reads-refused : (n i : ℕ) → Reads most (unlisted n i) (unlisted n i)
  reads-longer : (i : ℕ) (ls : List Line) (size : ℕ) → most < size → Reads most (unlisted 1 i) (listed ls size)

reads-line : {most : ℕ} (i : ℕ) (o : Option Line) {x y : Listed} → Reads most x y → Reads most (line_before i o x) (line_before i o y)
reads-line i none r = reads-refused _ _
reads-line i (some l) (reads_same ls size h) = reads_same _ _ h
reads-line i (some l) (reads-refused n j) = reads-refused _ _
reads-line i (some l) (reads-longer j ls size h) = reads-longer j (l ∷ ls) size h

reads-title : {most : ℕ} (above : List Line) {x y : Listed} → Reads most x y → Reads most (under_title above x) (under_title above y)
reads-title above (reads_same ls size h) = reads_same _ _ h
reads-title above (reads-refused n i) = reads-refused _ _
reads-title above (reads-longer j ls size h) = reads-longer j _ size h

reads-listed : {most : ℕ} {x y : Listed} (ls : List Line) (size : ℕ) → Reads most x y → x ≡ listed ls size → y ≡ listed ls size
reads-listed ls size (reads_same ms n h) e = e
reads-listed ls size (reads-refused n i) e = e
reads-listed ls size (reads-longer i ms n h) e = absurd (let z : ◌≡◌ {A = ℕ} 0 1 = cc in omega arith)

reads-run : {most : ℕ} {x y : Listed} (cells : List ℕ) (r : Recording) (a : Ran) (left : ℕ) → Reads most x y → run_listed cells r x ≡ ran a left → run_listed cells r y ≡ ran a left
unfolding run_listed
reads-run cells r a left (reads_same ms n h) e = e
reads-run cells r a left (reads-refused n i) e = e
reads-run cells r a left (reads-longer i ms n h) e = absurd (let z : ◌≡◌ {A = ℕ} 0 1 = cc in omega arith)

reads-stop : {most : ℕ} {x y : Listed} (cells : List ℕ) (r : Recording) (n i : ℕ) → (n ≡ 1 → ⊥) → Reads most x y → run_listed cells r x ≡ stopped n i → run_listed cells r y ≡ stopped n i
unfolding run_listed
reads-stop cells r n i ne (reads_same ms m h) e = e
reads-stop cells r n i ne (reads-refused m j) e = e
reads-stop cells r n i ne (reads-longer j ms m h) e = absurd (ne (let z : 1 ≡ n = cc in sym z))

-- ---- a room, and one with more segments, handles and size

module _ (small : Room) (segments handles size text : ℕ) where
  abbrev large : Room
  large = grown small segments handles size text

  -- a size past the smaller room's slots
  abbrev pub Past : ℕ → Type 0
  Past n = 128 * small.segments < n

  -- a script reads alike: its lines may be as many
  script-same : (ls : List Split) (i : ℕ) → script_from small i ls ≡ script_from large i ls
  unfolding script_from
  script-same [] i = refl
  script-same (l ∷ ls) i = ap (λ (r : Script). elim (eqb i small.lines) [ true ↦ unread 2 i | false ↦ frame_before i (line_of frame_table l) r ]) (script-same ls (suc i))

  pub read_same : (script : List ℕ) → read_script small script ≡ read_script large script
  unfolding read_script
  read_same script = let t : Titled = titled (split script) in λ u. record { place = t.place; script = script-same t.rest (length (title t.place)) u }

  module _ (more : small.handles ≤ handles) (wide : small.segments ≤ segments) (here : Wide small) (there : Wide large) where
    module _ (p : Place) where
      abbrev by-small : Placement
      by-small = placing small.segments p

      abbrev by-large : Placement
      by-large = placing segments p

      -- a step from a state that is sound in both rooms, and what comes after it
      module _ (Far : ℕ → Type 0) (i : ℕ) (s : State) (o : StateSound small s) (o' : StateSound large s)
          (far : (n : ℕ) (x : Placed) → by-small n s.scopes.slots ≡ none → by-large n s.scopes.slots ≡ some x → Far (max s.scopes.size (x.address + n))) where
        step-on : (f : Frame) (g h : List Line × State → Outcome) → ((r : List Line × State) → StateSound small r.1 → StateSound large r.1 → Ends Far (g r) (h r))
            → ((r : List Line × State) → StateSound large r.1 → Far r.1.scopes.size → (ls : List Line) (n : ℕ) → h r ≡ accepted ls n → Far n)
            → Ends Far (after i (step small by-small s f) g) (after i (step large by-large s f) h)
        step-on f g h on up =
            let sound = keeps-step large s o' there.slots by-large (placing-fair-sound large there.segments p) f in
            ends-after i g h
            (step_follows small segments handles size text more by-small by-large s (λ n. placing-too small.segments segments wide s.scopes.slots o.scopes.slots o'.scopes.slots p n) Far far f)
            (λ r e e'. on r ((keeps-step small s o here.slots by-small (placing-fair-sound small here.segments p) f).at r e) (sound.at r e'))
            (λ r e'. up r (sound.at r e'))

      steps-follow : (fs : List Frame) (i : ℕ) (s : State) → StateSound small s → StateSound large s → Ends Any (steps small by-small i s fs) (steps large by-large i s fs)
      unfolding steps
      steps-follow [] i s o o' = ends_same _
      steps-follow (f ∷ fs) i s o o' =
          rw (onward-after, onward-after) (step-on Any i s o o' (λ n x e d. tt) f _ _ (λ r a a'. steps-follow fs (suc i) r.1 a a') (λ r a k ls n e. tt))

    -- over a list's own addresses, with a place of its own for each frame: slots that only the larger room has lie past the smaller one's
    shown-follow : (fs : List Frame) (i : ℕ) (s : State) (ls : List Line) → StateSound small s → StateSound large s → Ends Past (shown_steps small i s fs ls) (shown_steps large i s fs ls)
    unfolding shown_steps as_shown
    shown-follow [] i s ls o o' = ends_same _
    shown-follow (f ∷ fs) i s ls o o' =
        step-on (exactly_at (shown_first ls)) Past i s o o'
        (λ n x e d. omega (arith, exactly-past small.segments segments wide s.scopes.slots o.scopes.slots o'.scopes.slots (shown_first ls) n x e d)) f _ _
        (λ r a a'. shown-follow fs (suc i) r.1 (drop (length r.0) ls) a a')
        (λ r a k ms n e. omega (arith, shown-up large fs (suc i) r.1 (drop (length r.0) ls) ms n (sound-in-order segments r.1.scopes.slots a.scopes.slots) e))

    -- from the start
    start_small : StateSound small start
    start_small = start-sound small here.segments here.scopes

    start-large : StateSound large start
    start-large = start-sound large there.segments there.scopes

    pub ours-end : (p : Place) (fs : List Frame) → Ends Any (steps small (placing small.segments p) (length (title p)) start fs) (steps large (placing segments p) (length (title p)) start fs)
    ours-end p fs = steps-follow p fs (length (title p)) start start_small start-large

    pub theirs-end : (p : Place) (fs : List Frame) (ls : List Line)
        → Ends Past (shown_steps small (length (title p)) start fs (drop (length (title p)) ls)) (shown_steps large (length (title p)) start fs (drop (length (title p)) ls))
    theirs-end p fs ls = shown-follow fs (length (title p)) start (drop (length (title p)) ls) start_small start-large

    -- of either edition
    translated-ends : (script : List ℕ) → Ends Any (translated small script) (translated large script)
    unfolding translated outcome
    translated-ends script = rw (← read_same script) (go (read_script small script).place (read_script small script).script)
      where
        go : (p : Place) (r : Script) → Ends Any (outcome small p r) (outcome large p r)
        go p (frames fs) = ends-before (title p) (ours-end p fs)
        go p (unread n i) = ends_same _

    pub script-still : (script : List ℕ) → ScriptKept small large script
    unfolding translate_entry
    script-still script =
        let on = translated-ends script in
        record {
          list = λ ls n e. ends-accepted ls n on e;
          refusal = λ n i l e. go n i l (ends-refused n i on e);
          bytes = λ ls n e lent. ap (λ (o : Outcome). list_left o lent) (e ∙ sym (ends-accepted ls n on e));
        }
      where
        go : (n i : ℕ) → may_now_pass n ≡ false → (translated large script ≡ refused_at n i) ⊎ (may_now_pass n ≡ true) → translated large script ≡ refused_at n i
        go n i l (inl e) = e
        go n i l (inr h) = clash h l

  module _ (sizes : small.size ≤ size) where
    -- 1 for the size: where the larger room gives it, so does the smaller one
    size-reads : (i n : ℕ) (ls : List Split) → Reads small.size (size_at small i n ls) (size_at large i n ls)
    size-reads i n (l ∷ ls) = reads-refused _ _
    size-reads i n [] = go (leb n small.size) (leb n size) refl refl
      where
        go : (b b' : Bool) → leb n small.size ≡ b → leb n size ≡ b' → Reads small.size (elim b [ true ↦ listed [] n | false ↦ unlisted 1 i ]) (elim b' [ true ↦ listed [] n | false ↦ unlisted 1 i ])
        go true true e e' = reads_same _ _ (leb-true n small.size e)
        go true false e e' = absurd (omega (arith, leb-true n small.size e, leb-false n size e'))
        go false true e e' = reads-longer i [] n (leb-false n small.size e)
        go false false e e' = reads-refused _ _

    list-reads : (ls : List Split) (i : ℕ) → Reads small.size (list_from small i ls) (list_from large i ls)
    unfolding list_from
    list-reads [] i = reads-refused _ _
    list-reads (l ∷ ls) i = go (line_of size_table l) (eqb i small.lines) (list-reads ls (suc i))
      where
        go : (o : Option ℕ) (b : Bool) → Reads small.size (list_from small (suc i) ls) (list_from large (suc i) ls)
            → Reads small.size (size_or small i o ls (elim b [ true ↦ unlisted 2 i | false ↦ line_before i (line_of line_table l) (list_from small (suc i) ls) ]))
            (size_or large i o ls (elim b [ true ↦ unlisted 2 i | false ↦ line_before i (line_of line_table l) (list_from large (suc i) ls) ]))
        go (some n) b r = size-reads i n ls
        go none true r = reads-refused _ _
        go none false r = reads-line i (line_of line_table l) r

    pub read-reads : (list : List ℕ) → Reads small.size (read_list small list) (read_list large list)
    unfolding read_list
    read-reads list = reads-title _ (list-reads (titled (split list)).rest _)

    pub list-still : (list : List ℕ) → ListKept small large list
    unfolding recorded_on
    list-still list =
        record {
          lines = λ ls n e. reads-listed ls n (read-reads list) e;
          refusal = λ n i e. go n i refl (read-reads list) e;
          run = λ cells r a left e. reads-run cells r a left (read-reads list) e;
          stop = λ cells r n i ne e. reads-stop cells r n i ne (read-reads list) e;
        }
      where
        go : (n i : ℕ) {x y : Listed} → read_list large list ≡ y → Reads small.size x y → x ≡ unlisted n i → (read_list large list ≡ unlisted n i) ⊎ ((n ≡ 1) × SizeTaken small large list)
        go n i q (reads_same ls m h) e = inl (q ∙ e)
        go n i q (reads-refused m j) e = inl (q ∙ e)
        go n i q (reads-longer j ls m h) e = inr ((let z : 1 ≡ n = cc in sym z), record { lines = ls; size = m; past = h; reads = q })
