-- Demand 3's core. It knows no rules: whatever places, frees and touches slots by these effects prints what its deeds mean.
-- Assumes nothing.
use mathlib.Core.Path.{◌≡◌, refl, sym, ap, subst, ◌∙◌}
use mathlib.Core.Bool.{Bool, true, false, true≢false}
use mathlib.Core.Option.{none}
use mathlib.Core.List.{List, [], ◌∷◌}
use Prim.Native.Nat.{ℕ, suc, ◌+◌, ◌-◌, ◌≤◌, ◌<◌}
use native.Mathlib.Nat.{zero-add, le_refl, le_trans}
use native.Mathlib.Omega.{arith}
use borrow.Author.Tests.{lt-ltb}
use lib.ListN.{length, get_or, set, length-set}
use lib.Seq.{get_or-set_same, get_or-set_other}
use Rattle.rules.specs.Notation.{◌▹◌, put}
use Rattle.rules.specs.Needs.{Kind}
use Rattle.rules.specs.Frames.{Handle, kind≔, written≔, grant, Source, Line, stores, loads, shows}
use Rattle.rules.specs.Meaning.{Deed, nothing, fill, show, worth, filled, unused, shown, obey, high, takes, list_takes}
use Rattle.rules.proofs.Tables.{by_eqb, put_same, put_other, put-alike, grant-cases}

-- what it looks at
pub record View : Type 0 where
  pub occupied : ℕ → Bool
  pub size : ℕ
  pub handles : ℕ → Handle

-- a handle that is held in w was held in v, with the same address, and written if it is
pub record Still (v w : View) (h : ℕ) : Type 0 where
  pub held : (v.handles h).held ≡ true
  pub address : (w.handles h).address ≡ (v.handles h).address
  pub written : (w.handles h).written ≡ true → (v.handles h).written ≡ true

-- so it is where the handle is the same
pub still : (v w : View) (h : ℕ) → w.handles h ≡ v.handles h → (w.handles h).held ≡ true → Still v w h
still v w h q e =
    record { held = ap (λ (x : Handle). x.held) (sym q) ∙ e; address = ap (λ (x : Handle). x.address) q; written = λ p. ap (λ (x : Handle). x.written) (sym q) ∙ p }

-- what a frame may do, with its deed and its line
pub data Effect (v : View) : Deed → Line → View → Type 0 where
  -- whatever is held still was held, and its slot stays occupied
  fewer : {o : ℕ} {l : List ℕ} {w : View} → v.size ≤ w.size
      → ((h : ℕ) → (w.handles h).held ≡ true → Still v w h)
      → ((h : ℕ) → (w.handles h).held ≡ true → v.occupied (v.handles h).address ≡ true → w.occupied (v.handles h).address ≡ true)
      → Effect v nothing (shows o l) w
  -- one held handle's slot is given back
  back : {o : ℕ} {l : List ℕ} {w : View} (k : ℕ) → (v.handles k).held ≡ true → v.size ≤ w.size
      → ((h : ℕ) → (w.handles h).held ≡ true → (k ≡ h → ⊥) × Still v w h)
      → ((b : ℕ) → ((v.handles k).address ≡ b → ⊥) → v.occupied b ≡ true → w.occupied b ≡ true)
      → Effect v nothing (shows o l) w
  -- n clear slots from a on, and n handles for them
  placing : {o : ℕ} {l : List ℕ} {w : View} (next n a : ℕ) (k : Kind) → v.size ≤ w.size → a + n ≤ w.size
      → ((i : ℕ) → i < n → v.occupied (a + i) ≡ false)
      → ((i : ℕ) → i < n → w.occupied (a + i) ≡ true)
      → ((b : ℕ) → v.occupied b ≡ true → w.occupied b ≡ true)
      → w.handles ≡ grant next n a k v.handles
      → Effect v nothing (shows o l) w
  -- a held handle's cell and box are filled, or a held and written one's are shown
  storing : (h : ℕ) (x : Source) (k : Kind) → (v.handles h).held ≡ true
      → Effect v (fill h x) (stores (v.handles h).address x) (record { occupied = v.occupied; size = v.size; handles = put v.handles h (v.handles h ▹ written≔ true ▹ kind≔ k) })
  loading : {o : ℕ} (h : ℕ) → (v.handles h).held ≡ true → (v.handles h).written ≡ true → Effect v (show h) (loads o (v.handles h).address) v

-- Held handles have different addresses, which are occupied and below the size; a held and written one's cell is its box.
pub record Inv (v : View) (boxes : ℕ → ℕ) (cells : List ℕ) : Type 0 where
  pub occupied : (h : ℕ) → (v.handles h).held ≡ true → v.occupied (v.handles h).address ≡ true
  pub below : (h : ℕ) → (v.handles h).held ≡ true → (v.handles h).address < v.size
  pub apart : (g h : ℕ) → (v.handles g).held ≡ true → (v.handles h).held ≡ true → (v.handles g).address ≡ (v.handles h).address → g ≡ h
  pub same : (h : ℕ) → (v.handles h).held ≡ true → (v.handles h).written ≡ true → get_or cells (v.handles h).address 0 ≡ boxes h

-- what a line does to the cells, with the samples vs to come
abbrev pub stored : Line → List ℕ → List ℕ → List ℕ
stored (shows o l) vs cells = cells
stored (stores a x) vs cells = set cells a (worth x vs)
stored (loads o a) vs cells = cells

length-stored : (l : Line) (vs cells : List ℕ) → length (stored l vs cells) ≡ length cells
length-stored (shows o x) vs cells = refl
length-stored (stores a x) vs cells = length-set cells a (worth x vs)
length-stored (loads o a) vs cells = refl

module _ (v : View) (boxes : ℕ → ℕ) (cells : List ℕ) (inv : Inv v boxes cells) where
  keep-still : (w : View) → v.size ≤ w.size → ((h : ℕ) → (w.handles h).held ≡ true → Still v w h)
      → ((h : ℕ) → (w.handles h).held ≡ true → w.occupied (v.handles h).address ≡ true) → Inv w boxes cells
  keep-still w up still occ =
      record {
        occupied = λ h p. rw (still h p).address (occ h p);
        below = λ h p. let b = inv.below h (still h p).held in rw (still h p).address (omega arith);
        apart = λ g h p q e. inv.apart g h (still g p).held (still h q).held (sym (still g p).address ∙ e ∙ (still h q).address);
        same = λ h p q. rw (still h p).address (inv.same h (still h p).held ((still h p).written q));
      }

  keep-storing : (k x : ℕ) (d : Kind) → (v.handles k).held ≡ true → v.size ≤ length cells
      → Inv (record { occupied = v.occupied; size = v.size; handles = put v.handles k (v.handles k ▹ written≔ true ▹ kind≔ d) }) (put boxes k x) (set cells (v.handles k).address x)
  keep-storing k x d hk fits =
      let z : Handle = v.handles k ▹ written≔ true ▹ kind≔ d in
      let a : (h : ℕ) → (put v.handles k z h).address ≡ (v.handles h).address = put-alike v.handles k z (λ y. y.address) refl in
      let held : (h : ℕ) → (put v.handles k z h).held ≡ (v.handles h).held = put-alike v.handles k z (λ y. y.held) refl in
      record {
        occupied = λ h p. rw (a h) (inv.occupied h (sym (held h) ∙ p));
        below = λ h p. rw (a h) (inv.below h (sym (held h) ∙ p));
        apart = λ g h p q e. inv.apart g h (sym (held g) ∙ p) (sym (held h) ∙ q) (sym (a g) ∙ e ∙ a h);
        same = λ h p q.
            by_eqb k h
            (λ e. subst (λ (j : ℕ). get_or (set cells (v.handles k).address x) (put v.handles k z j).address 0 ≡ put boxes k x j) e
            (rw (a k, put_same boxes k x) (get_or-set_same cells (v.handles k).address x 0 (omega (arith, inv.below k hk)))))
            (λ ne.
            let ph : (v.handles h).held ≡ true = sym (held h) ∙ p in
            rw (a h, put_other boxes k x h ne)
            (get_or-set_other cells (v.handles k).address (v.handles h).address x 0 (λ e. ne (inv.apart k h hk ph (sym e)))
            ∙ inv.same h ph (ap (λ (y : Handle). y.written) (sym (put_other v.handles k z h ne)) ∙ q)));
      }

  keep-placing : (next n a : ℕ) (d : Kind) (t : ℕ → Bool) (size : ℕ) → v.size ≤ size → a + n ≤ size
      → ((i : ℕ) → i < n → v.occupied (a + i) ≡ false)
      → ((i : ℕ) → i < n → t (a + i) ≡ true)
      → ((b : ℕ) → v.occupied b ≡ true → t b ≡ true)
      → Inv (record { occupied = t; size = size; handles = grant next n a d v.handles }) boxes cells
  keep-placing next n a d t size up room clear taken kept =
      let g : ℕ → Handle = grant next n a d v.handles in
      let was : (h : ℕ) → g h ≡ v.handles h → (g h).held ≡ true → (v.handles h).held ≡ true = λ h q r. ap (λ (y : Handle). y.held) (sym q) ∙ r in
      let at : (h k : ℕ) (y z : Handle) → (g h).address ≡ (g k).address → g h ≡ y → g k ≡ z → y.address ≡ z.address = λ h k y z x q q'. ap (λ (u : Handle). u.address) (sym q) ∙ x ∙ ap (λ (u : Handle). u.address) q' in
      let clash : (h i : ℕ) → i < n → (v.handles h).held ≡ true → a + i ≡ (v.handles h).address → ⊥
      = λ h i l r q. true≢false (sym (inv.occupied h r) ∙ rw (← q) (clear i l)) in
      record {
        occupied = λ h r. grant-cases next n a d v.handles h
            (λ lo hi q. rw q (taken (h - next) (omega arith)))
            (λ q. rw q (kept (v.handles h).address (inv.occupied h (was h q r))));
        below = λ h r. grant-cases next n a d v.handles h
            (λ lo hi q. rw q (omega arith))
            (λ q. rw q (omega (arith, inv.below h (was h q r))));
        apart = λ h k r u x. grant-cases next n a d v.handles h
            (λ lo hi q. grant-cases next n a d v.handles k
            (λ lo' hi' q'. let z = at h k _ _ x q q' in omega arith)
            (λ q'. absurd (clash k (h - next) (omega arith) (was k q' u) (at h k _ _ x q q'))))
            (λ q. grant-cases next n a d v.handles k
            (λ lo' hi' q'. absurd (clash h (k - next) (omega arith) (was h q r) (sym (at h k _ _ x q q'))))
            (λ q'. inv.apart h k (was h q r) (was k q' u) (at h k _ _ x q q')));
        same = λ h r w. grant-cases next n a d v.handles h
            (λ lo hi q. absurd (true≢false (sym w ∙ ap (λ (y : Handle). y.written) q)))
            (λ q. rw q (inv.same h (was h q r) (ap (λ (y : Handle). y.written) (sym q) ∙ w)));
      }

  keep : (vs : List ℕ) (d : Deed) (l : Line) (w : View) → Effect v d l w → w.size ≤ length cells → Inv w (filled d vs boxes) (stored l vs cells)
  keep vs _ _ w (fewer up still occ) fits = keep-still w up still (λ h p. occ h p (inv.occupied h (still h p).held))
  keep vs _ _ w (back k hk up still occ) fits =
      keep-still w up (λ h p. (still h p).1)
      (λ h p. let c = still h p in occ (v.handles h).address (λ e. c.0 (inv.apart k h hk c.1.held e)) (inv.occupied h c.1.held))
  keep vs _ _ w (placing next n a k up room clear taken kept e) fits =
      subst (λ (g : ℕ → Handle). Inv (record { occupied = w.occupied; size = w.size; handles = g }) boxes cells) (sym e)
      (keep-placing next n a k w.occupied w.size up room clear taken kept)
  keep vs _ _ _ (storing h x k e) fits = keep-storing h (worth x vs) k e fits
  keep vs _ _ _ (loading h e w) fits = inv

  -- one line, and what is printed after it
  line : (vs : List ℕ) (d : Deed) (l : Line) (w : View) → Effect v d l w → (ls : List Line)
      → (obey cells vs (l ∷ ls)).loaded ≡ shown d boxes (obey (stored l vs cells) (unused d vs) ls).loaded
  unfolding obey
  line vs _ _ _ (fewer up still occ) ls = refl
  line vs _ _ _ (back k hk up still occ) ls = refl
  line vs _ _ _ (placing next n a k up room clear taken kept e) ls = refl
  line vs _ _ _ (storing h x k e) ls = refl
  line vs _ _ _ (loading h e w) ls = rw (inv.same h e w)

  low : (d : Deed) (l : Line) (w : View) → Effect v d l w → (size : ℕ) → v.size ≤ size → (ls : List Line) → ((i : ℕ) → high size i ls ≡ none) → (i : ℕ) → high size i (l ∷ ls) ≡ none
  unfolding high
  low _ _ _ (fewer up still occ) size fits ls p i = p (suc i)
  low _ _ _ (back k hk up still occ) size fits ls p i = p (suc i)
  low _ _ _ (placing next n a k up room clear taken kept e) size fits ls p i = p (suc i)
  low _ _ _ (storing h x k e) size fits ls p i = rw (lt-ltb (v.handles h).address size (omega (arith, inv.below h e)), high) (p (suc i))
  low _ _ _ (loading h e w) size fits ls p i = rw (lt-ltb (v.handles h).address size (omega (arith, inv.below h e)), high) (p (suc i))

grows : (v : View) (d : Deed) (l : Line) (w : View) → Effect v d l w → v.size ≤ w.size
grows v _ _ w (fewer up still occ) = up
grows v _ _ w (back k hk up still occ) = up
grows v _ _ w (placing next n a k up room clear taken kept e) = up
grows v _ _ _ (storing h x k e) = omega arith
grows v _ _ _ (loading h e w) = omega arith

-- a run of effects, with the deeds and the lines
pub data Trace : View → List Deed → List Line → ℕ → Type 0 where
  ends : {v : View} → Trace v [] [] v.size
  goes : {v w : View} {d : Deed} {l : Line} {ds : List Deed} {ls : List Line} {size : ℕ} → Effect v d l w → Trace w ds ls size → Trace v (d ∷ ds) (l ∷ ls) size

-- what deeds print, with these samples, and how many they take
abbrev pub told : List Deed → List ℕ → (ℕ → ℕ) → List ℕ
told [] vs boxes = []
told (d ∷ ds) vs boxes = shown d boxes (told ds (unused d vs) (filled d vs boxes))

abbrev pub deed_takes : Deed → ℕ
deed_takes nothing = 0
deed_takes (fill h x) = takes x
deed_takes (show h) = 0

abbrev pub deeds_take : List Deed → ℕ
deeds_take [] = 0
deeds_take (d ∷ ds) = deed_takes d + deeds_take ds

pub trace-grows : (v : View) (ds : List Deed) (ls : List Line) (size : ℕ) → Trace v ds ls size → v.size ≤ size
trace-grows v _ _ _ ends = le_refl _
trace-grows v _ _ size (goes {w = w} {d = d} {l = l} {ds = ds} {ls = ls} e t) = le_trans (grows v d l w e) (trace-grows w ds ls size t)

pub prints : (v : View) (ds : List Deed) (ls : List Line) (size : ℕ) → Trace v ds ls size → (boxes : ℕ → ℕ) (vs cells : List ℕ) → Inv v boxes cells → size ≤ length cells
    → (obey cells vs ls).loaded ≡ told ds vs boxes
unfolding obey
prints v _ _ _ ends boxes vs cells inv fits = refl
prints v _ _ size (goes {w = w} {d = d} {l = l} {ds = ds} {ls = ls} e t) boxes vs cells inv fits =
    line v boxes cells inv vs d l w e ls
    ∙ ap (shown d boxes)
    (prints w ds ls size t (filled d vs boxes) (unused d vs) (stored l vs cells) (keep v boxes cells inv vs d l w e (le_trans (trace-grows w ds ls size t) fits)) (rw (length-stored l vs cells) fits))

-- a line takes as many samples as its deed
pub samples : (v : View) (ds : List Deed) (ls : List Line) (size : ℕ) → Trace v ds ls size → list_takes ls ≡ deeds_take ds
unfolding list_takes
samples v _ _ _ ends = refl
samples v _ _ size (goes {w = w} {ds = ds} {ls = ls} (fewer up still occ) t) = samples w ds ls size t ∙ sym (zero-add _)
samples v _ _ size (goes {w = w} {ds = ds} {ls = ls} (back k hk up still occ) t) = samples w ds ls size t ∙ sym (zero-add _)
samples v _ _ size (goes {w = w} {ds = ds} {ls = ls} (placing next n a k up room clear taken kept e) t) = samples w ds ls size t ∙ sym (zero-add _)
samples v _ _ size (goes {w = w} {ds = ds} {ls = ls} (storing h x k e) t) = ap (λ (n : ℕ). takes x + n) (samples w ds ls size t)
samples v _ _ size (goes {w = w} {ds = ds} {ls = ls} (loading h e q) t) = samples w ds ls size t ∙ sym (zero-add _)

pub touches : (v : View) (ds : List Deed) (ls : List Line) (size : ℕ) → Trace v ds ls size → (boxes : ℕ → ℕ) (vs cells : List ℕ) → Inv v boxes cells → size ≤ length cells
    → (i : ℕ) → high size i ls ≡ none
unfolding high
touches v _ _ _ ends boxes vs cells inv fits = λ i. refl
touches v _ _ size (goes {w = w} {d = d} {l = l} {ds = ds} {ls = ls} e t) boxes vs cells inv fits =
    low v boxes cells inv d l w e size (le_trans (grows v d l w e) (trace-grows w ds ls size t)) ls
    (touches w ds ls size t (filled d vs boxes) (unused d vs) (stored l vs cells) (keep v boxes cells inv vs d l w e (le_trans (trace-grows w ds ls size t) fits)) (rw (length-stored l vs cells) fits))
