-- What is read of a script: each value fits its digits, and there are no more frames than lines. Assumes nothing.
use mathlib.Core.Path.{◌≡◌, refl, subst}
use mathlib.Core.Bool.{Bool, true, false}
use mathlib.Core.Option.{Option, none, some}
use mathlib.Core.List.{List, [], ◌∷◌}
use Prim.Native.Nat.{ℕ, suc, ◌+◌, ◌≤◌, ◌<◌}
use native.Mathlib.Omega.{arith}
use lib.Dec.{eqb}
use lib.ListN.{length}
use borrow.Author.Tests.{eqb-false}
use Rattle.rules.specs.Sizes.{Room}
use Rattle.rules.specs.Frames.{Frame, child, pop, dangle, restore, pop_last, alloc, alloc_in, linear, define, get, take_from, free, free_quietly, forget, drain, constant, next_sample, write, read, read_name, new_defer, new_assigned, new_ignore, alloc_need, output_need, drop_need}
use Rattle.rules.specs.Text.{Raw, raw, Split, Row, rowed, line_of, with0, with1, with2, frame_table, Script, frames, unread, frame_before, script_from}
use Rattle.rules.proofs.Chains.{none-some}
use Rattle.rules.proofs.Digits.{Fit, fit, raw-fits}
use Rattle.rules.proofs.Fits.{FitFrame}

infixr 5 ◌⨾◌
-- ---- tables

-- whatever a row makes of operands that fit has P
abbrev Makes : {A : Type 0} → (A → Type 0) → (List ℕ → Option A) → Type 0
Makes P made = (l : List ℕ) → Fit l → (x : _) → made l ≡ some x → P x

data Rows {A : Type 0} (P : A → Type 0) : List (Row A) → Type 0 where
  no_rows : Rows P []
  ◌⨾◌ : {w : Row A} {ws : List (Row A)} → Makes P w.made → Rows P ws → Rows P (w ∷ ws)

rowed-fits : {A : Type 0} {P : A → Type 0} {t : List (Row A)} → Rows P t → (r : Raw) → Fit r.operands → (x : A) → rowed t r ≡ some x → P x
unfolding rowed
rowed-fits no_rows r f x e = none-some e
rowed-fits {P = P} (◌⨾◌ {w = w} {ws = ws} h more) r f x e = go (eqb w.opcode r.opcode) refl (rowed-fits more r f x)
  where
    go : (b : Bool) → eqb w.opcode r.opcode ≡ b → (rowed ws r ≡ some x → P x) → P x
    go true p ih = h r.operands f x (rw (p, rowed) at e)
    go false p ih = ih (rw (p, rowed) at e)

line-fits : {A : Type 0} {P : A → Type 0} {t : List (Row A)} → Rows P t → (l : Split) (x : A) → line_of t l ≡ some x → P x
unfolding line_of
line-fits {P = P} {t = t} h l x e = go l.ended refl (raw l.text) refl
  where
    go : (b : Bool) → l.ended ≡ b → (o : Option Raw) → raw l.text ≡ o → P x
    go false p o q = none-some (rw (p, line_of) at e)
    go true p none q = none-some (rw (p, q, line_of) at e)
    go true p (some r) q = rowed-fits h r (raw-fits l.text r q) x (rw (p, q, line_of) at e)

-- ---- the rows of a script

none-fits : (f : Frame) → FitFrame f → Makes FitFrame (with0 f)
none-fits f h [] k x e = let q : f ≡ x = cc in subst FitFrame q h
none-fits f h (a ∷ l) k x e = none-some e

one-fits : (f : ℕ → Frame) → ((a : ℕ) → FitFrame (f a)) → Makes FitFrame (with1 f)
one-fits f h [] k x e = none-some e
one-fits f h (a ∷ []) k x e = let q : f a ≡ x = cc in subst FitFrame q (h a)
one-fits f h (a ∷ b ∷ l) k x e = none-some e

second : {a b : ℕ} {l : List ℕ} → Fit (a ∷ b ∷ l) → b < 65536
second (fit h (fit k r)) = k

two-fit : (f : ℕ → ℕ → Frame) → ((a b : ℕ) → b < 65536 → FitFrame (f a b)) → Makes FitFrame (with2 f)
two-fit f h [] k x e = none-some e
two-fit f h (a ∷ []) k x e = none-some e
two-fit f h (a ∷ b ∷ []) k x e = let q : f a b ≡ x = cc in subst FitFrame q (h a b (second k))
two-fit f h (a ∷ b ∷ c ∷ l) k x e = none-some e

frame-rows : Rows FitFrame frame_table
unfolding frame_table
frame-rows =
    none-fits child tt
    ⨾ one-fits pop (λ a. tt)
    ⨾ one-fits dangle (λ a. tt)
    ⨾ one-fits restore (λ a. tt)
    ⨾ none-fits pop_last tt
    ⨾ none-fits alloc tt
    ⨾ one-fits alloc_in (λ a. tt)
    ⨾ one-fits linear (λ a. tt)
    ⨾ two-fit define (λ a b h. tt)
    ⨾ one-fits get (λ a. tt)
    ⨾ one-fits take_from (λ a. tt)
    ⨾ one-fits free (λ a. tt)
    ⨾ one-fits free_quietly (λ a. tt)
    ⨾ one-fits forget (λ a. tt)
    ⨾ none-fits drain tt
    ⨾ two-fit (λ h v. write h (constant v)) (λ a b h. h)
    ⨾ one-fits read (λ a. tt)
    ⨾ one-fits read_name (λ a. tt)
    ⨾ one-fits (λ h. write h next_sample) (λ a. tt)
    ⨾ one-fits new_defer (λ a. tt)
    ⨾ one-fits new_assigned (λ a. tt)
    ⨾ none-fits new_ignore tt
    ⨾ one-fits alloc_need (λ a. tt)
    ⨾ one-fits output_need (λ a. tt)
    ⨾ one-fits drop_need (λ a. tt)
    ⨾ no_rows

-- ---- a script

pub data FitFrames : List Frame → Type 0 where
  no_frames : FitFrames []
  frames-on : {f : Frame} {fs : List Frame} → FitFrame f → FitFrames fs → FitFrames (f ∷ fs)

-- the frames fs stand from line i on
pub record ReadWell (room : Room) (i : ℕ) (fs : List Frame) : Type 0 where
  pub fits : FitFrames fs
  pub few : i + length fs ≤ room.lines

pub read-well : (room : Room) (ls : List Split) (i : ℕ) (fs : List Frame) → i ≤ room.lines → script_from room i ls ≡ frames fs → ReadWell room i fs
unfolding script_from
read-well room [] i fs h e = let q : [] ≡ fs = cc in subst (ReadWell room i) q (record { fits = no_frames; few = omega arith })
read-well room (l ∷ ls) i fs h e = go (eqb i room.lines) refl (λ gs k x. read-well room ls (suc i) gs k x)
  where
    on : (o : Option Frame) → line_of frame_table l ≡ o → (r : Script) → script_from room (suc i) ls ≡ r
        → ((gs : List Frame) → script_from room (suc i) ls ≡ frames gs → ReadWell room (suc i) gs) → frame_before i o r ≡ frames fs → ReadWell room i fs
    on none p r q ih x = absurd (let z : ◌≡◌ {A = ℕ} 0 1 = cc in omega arith)
    on (some f) p (unread n j) q ih x = absurd (let z : ◌≡◌ {A = ℕ} 0 1 = cc in omega arith)
    on (some f) p (frames gs) q ih x =
        let y : f ∷ gs ≡ fs = cc in
        let w = ih gs q in
        subst (ReadWell room i) y (record { fits = frames-on (line-fits frame-rows l f p) w.fits; few = omega (arith, w.few) })

    go : (b : Bool) → eqb i room.lines ≡ b → ((gs : List Frame) → suc i ≤ room.lines → script_from room (suc i) ls ≡ frames gs → ReadWell room (suc i) gs) → ReadWell room i fs
    go true p ih = absurd (let x : unread 2 i ≡ frames fs = rw (p, script_from) at e in let z : ◌≡◌ {A = ℕ} 0 1 = cc in omega arith)
    go false p ih = on (line_of frame_table l) refl (script_from room (suc i) ls) refl (λ gs x. ih gs (omega (arith, eqb-false i room.lines p)) x) (rw (p, script_from) at e)
