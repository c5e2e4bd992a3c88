-- W-206: what W-203 says of a script and a list in a room, beside a larger one. Assumes nothing.
use mathlib.Core.Path.{◌≡◌, refl, sym, ap}
use mathlib.Core.Bool.{true, false, ◌&&◌}
use mathlib.Core.List.{List}
use mathlib.Core.Logic.{◌⊎◌, inl, inr}
use Prim.Native.Nat.{ℕ, ◌*◌, ◌≤◌, ◌<◌}
use native.Mathlib.Omega.{arith}
use lib.ListN.{length, drop}
use Rattle.rules.specs.Sizes.{Room}
use Rattle.rules.specs.Slots.{Place, placing}
use Rattle.rules.specs.Frames.{start, Frame, Line, Outcome, accepted, refused_at, before, steps}
use Rattle.rules.specs.Text.{Script, frames, unread, title, read_script, Listed, read_list}
use Rattle.rules.specs.Entries.{outcome, translated}
use Rattle.rules.specs.Suppliers.{shown_steps, is_accepted, agrees_with, agrees, says, unreadable, judged, verdict, WhyNot, ours-refuse, no_room, other-lines, too_small}
use Rattle.rules.specs.Rooms.{may_now_pass, SizeTaken, OnceRefused, VerdictKept}
use Rattle.rules.proofs.Tells.{clash}
use Rattle.rules.proofs.Fits.{Wide}
use Rattle.rules.proofs.WhyNot.{stopped-at, no-theirs, no-exactly}
use Rattle.rules.proofs.Larger.{grown}
use Rattle.rules.proofs.Grown.{Ends, ends_same, ends-lifted, ends-before, ends-accepted, ends-refused, ends-far, Reads, reads_same, reads-refused, reads-longer, ours-end, theirs-end, read_same, read-reads}

module _ (small : Room) (segments handles size text : ℕ) (more : small.handles ≤ handles) (wide : small.segments ≤ segments) (here : Wide small) (there : Wide (grown small segments handles size text)) where
  abbrev large : Room
  large = grown small segments handles size text

  -- ---- frames and lines

  module _ (p : Place) (fs : List Frame) (ls : List Line) (n : ℕ) where
    abbrev ours : Room → Outcome
    ours room = steps room (placing room.segments p) (length (title p)) start fs

    abbrev theirs : Room → Outcome
    theirs room = shown_steps room (length (title p)) start fs (drop (length (title p)) ls)

    agrees-still : agrees small p fs ls n ≡ true → agrees large p fs ls n ≡ true
    unfolding agrees agrees_with
    agrees-still = go (ours-end small segments handles size text more wide here there p fs) (ends-before (title p) (theirs-end small segments handles size text more wide here there p fs ls))
      where
        go : {P Q : ℕ → Type 0} {o o' w w' : Outcome} → Ends P o o' → Ends Q w w' → (is_accepted o && agrees_with ls n w) ≡ true → (is_accepted o' && agrees_with ls n w') ≡ true
        go (ends_same o) (ends_same w) e = e
        go (ends_same (accepted ms m)) (ends-lifted k i y h f) e = clash e refl
        go (ends_same (refused_at k j)) (ends-lifted m i y h f) e = e
        go (ends-lifted m i y h f) w e = clash e refl

    -- a script that the smaller room refuses by 7 or 16
    abbrev Once : Type 0
    Once = (k : ℕ) × (i : ℕ) × (may_now_pass k ≡ true) × (ours small ≡ refused_at k i)

    still-not : n ≤ 128 * small.segments → agrees small p fs ls n ≡ false → (agrees large p fs ls n ≡ false) ⊎ Once
    unfolding agrees_with
    still-not fits e = go ((no-exactly small here).why p fs ls n e)
      where
        shown : Ends (λ m. 128 * small.segments < m) (theirs small) (theirs large)
        shown = theirs-end small segments handles size text more wide here there p fs ls

        no : WhyNot large p fs ls n → agrees large p fs ls n ≡ false
        no w = (no-exactly large there).no p fs ls n w

        by-ours : (k i : ℕ) → ours small ≡ refused_at k i → (ours large ≡ refused_at k i) ⊎ (may_now_pass k ≡ true) → (agrees large p fs ls n ≡ false) ⊎ Once
        by-ours k i x (inl y) = inl (no (ours-refuse k i y))
        by-ours k i x (inr h) = inr (k, i, h, x)

        -- an allocation past the smaller room's slots is past the list's size
        by-theirs : (i : ℕ) → theirs small ≡ refused_at 7 i → (o : Outcome) → theirs large ≡ o → agrees large p fs ls n ≡ false
        by-theirs i x (refused_at m j) y = no-theirs large there p fs ls n (refused_at m j) y refl
        by-theirs i x (accepted own needs) y = no (too_small own needs y (omega (arith, ends-far i shown x own needs y)))

        go : WhyNot small p fs ls n → (agrees large p fs ls n ≡ false) ⊎ Once
        go (ours-refuse k i x) = by-ours k i x (ends-refused k i (ours-end small segments handles size text more wide here there p fs) x)
        go (no_room w) = let k = stopped-at small here w (length (title p)) in inl (by-theirs k.0 k.1 (theirs large) refl)
        go (other-lines own needs x ne) = inl (no (other-lines own needs (ends-accepted own needs shown x) ne))
        go (too_small own needs x l) = inl (no (too_small own needs (ends-accepted own needs shown x) l))

  -- ---- bytes

  module _ (sizes : small.size ≤ size) (script list : List ℕ) where
    yes : (p : Place) (r : Script) {x y : Listed} → Reads small.size x y → judged small p r x ≡ says true → judged large p r y ≡ says true
    unfolding judged
    yes p (unread n i) w e = absurd (let z : ◌≡◌ {A = ℕ} 0 1 = cc in omega arith)
    yes p (frames fs) (reads_same ls n l) e = ap says (agrees-still p fs ls n (cc))
    yes p (frames fs) (reads-refused n i) e = absurd (let z : ◌≡◌ {A = ℕ} 0 1 = cc in omega arith)
    yes p (frames fs) (reads-longer j ls n h) e = absurd (let z : ◌≡◌ {A = ℕ} 0 1 = cc in omega arith)

    no : small.size ≤ 128 * small.segments → (r : Script) → (read_script small script).script ≡ r → {x y : Listed} → Reads small.size x y → judged small (read_script small script).place r x ≡ says false
        → (judged large (read_script small script).place r y ≡ says false) ⊎ OnceRefused small script
    unfolding judged translated outcome
    no low (unread n i) q w e = absurd (let z : ◌≡◌ {A = ℕ} 0 1 = cc in omega arith)
    no low (frames fs) q (reads-refused n i) e = absurd (let z : ◌≡◌ {A = ℕ} 0 1 = cc in omega arith)
    no low (frames fs) q (reads-longer j ls n h) e = absurd (let z : ◌≡◌ {A = ℕ} 0 1 = cc in omega arith)
    no low (frames fs) q (reads_same ls n l) e = go (still-not p fs ls n (omega arith) (cc))
      where
        p : Place
        p = (read_script small script).place

        go : (agrees large p fs ls n ≡ false) ⊎ Once p fs ls n → (says (agrees large p fs ls n) ≡ says false) ⊎ OnceRefused small script
        go (inl x) = inl (ap says x)
        go (inr (k, i, h, x)) = inr (record { number = k; line = i; may = h; was = rw (q, outcome) (ap (before (title p)) x) })

    refusal : (n i : ℕ) (p : Place) (r : Script) {x y : Listed} → read_list large list ≡ y → Reads small.size x y → judged small p r x ≡ unreadable n i
        → (judged large p r y ≡ unreadable n i) ⊎ ((n ≡ 1) × SizeTaken small large list)
    unfolding judged
    refusal n i p (unread m j) q w e = inl e
    refusal n i p (frames fs) q (reads_same ls m l) e = absurd (let z : ◌≡◌ {A = ℕ} 0 1 = cc in omega arith)
    refusal n i p (frames fs) q (reads-refused m j) e = inl e
    refusal n i p (frames fs) q (reads-longer j ls m h) e = inr ((let z : 1 ≡ n = cc in sym z), record { lines = ls; size = m; past = h; reads = q })

    pub verdict-still : VerdictKept small large script list
    unfolding verdict
    verdict-still =
        let w : Reads small.size (read_list small list) (read_list large list) = read-reads small segments handles size text sizes list in
        let r : read_script small script ≡ read_script large script = read_same small segments handles size text script in
        record {
          yes = λ e. rw (← r) (yes (read_script small script).place (read_script small script).script w e);
          no = λ low e. rw (← r) (no low (read_script small script).script refl w e);
          refusal = λ n i e. rw (← r) (refusal n i (read_script small script).place (read_script small script).script refl w e);
        }
