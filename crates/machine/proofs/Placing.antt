-- The samples go into the lines of a table that take them. Assumes nothing.
use mathlib.Core.Path.{◌≡◌, refl, sym, ap, subst, ◌∙◌}
use mathlib.Core.Bool.{Bool, true, false}
use mathlib.Core.List.{List, [], ◌∷◌, ◌++◌, append_assoc}
use Prim.Native.Nat.{ℕ, ◌+◌, ◌*◌, ◌≤◌, ◌<◌}
use native.Mathlib.Omega.{arith}
use lib.Dec.{eqb}
use lib.ListN.{length, set, length-set}
use borrow.Author.Tests.{ne_eqb}
use Rattle.rules.proofs.Tables.{by_eqb}
use Rattle.text.specs.Shapes.{pick, frame}
use Rattle.text.specs.Lines.{unpacked}
use Rattle.text.specs.declared.lines.Frame.{Frame}
use Rattle.machine.specs.Entries.{entry_for, entries_of, loads_of, takes_of}
use Rattle.machine.specs.Work.{cell_at, takes_in, loads_in, fill_of, filled_from, Reach, Reaches}
use Rattle.machine.specs.declared.entries.Entry.{Entry}
use Rattle.machine.specs.declared.entries.Entry.TheVariants.{Skip, Store, Sample, Load}
use Rattle.machine.proofs.Rows.{left, Took, left-start, left_end, before-left, left_after, before-after}

-- ---- one line

sample-entry : (f : Frame) → f.opcode ≡ 0x14 → entry_for f ≡ Sample f.a
sample-entry f e = rw e

pub sample-fits : (f : Frame) (j m : ℕ) → f.opcode ≡ 0x14 → 2 * (j + takes_of (entry_for f)) ≤ m → 2 * j + 1 < m
sample-fits f j m e h = let q : 2 * (j + 1) ≤ m = subst (λ (x : Entry). 2 * (j + takes_of x) ≤ m) (sample-entry f e) h in omega (arith, q)

-- u is the line, b its sample, and g a store of it
pub sample-filled : (f u g : Frame) (b v : ℕ) → u ≡ f → b ≡ v → u.opcode ≡ 0x14 → g ≡ frame 0x10 u.a b → entry_for g ≡ fill_of (entry_for f) v
sample-filled f u g b v eu eb e q =
    ap entry_for q ∙ ap (Store u.a) eb ∙ sym (ap (λ (x : Entry). fill_of x v) (ap entry_for (sym eu) ∙ sample-entry u e))

-- an entry that takes no sample stays
plain-fill : (x : Entry) (v : ℕ) → takes_of x ≡ 0 → fill_of x v ≡ x
plain-fill Skip v e = refl
plain-fill (Store a u) v e = refl
plain-fill (Sample a) v e = absurd (omega arith)
plain-fill (Load a) v e = refl

other-takes : (f : Frame) → (f.opcode ≡ 0x14 → ⊥) → takes_of (entry_for f) ≡ 0
other-takes f h = go (eqb f.opcode 0x10) (eqb f.opcode 0x11) (eqb f.opcode 0x12)
  where
    go : (a b c : Bool) → takes_of (pick a (Store f.a f.b) (pick b (Load f.a) (pick c (Load f.a) (pick (eqb f.opcode 0x14) (Sample f.a) Skip)))) ≡ 0
    go true b c = refl
    go false true c = refl
    go false false true = refl
    go false false false = rw (ne_eqb f.opcode 0x14 h)

pub other-filled : (f : Frame) (v : ℕ) → (f.opcode ≡ 0x14 → ⊥) → entry_for f ≡ fill_of (entry_for f) v
other-filled f v h = sym (plain-fill (entry_for f) v (other-takes f h))

-- ---- before line i, with j samples used

pub record Placing (t₀ m : List ℕ) (n : ℕ) (t : List ℕ) (i j : ℕ) : Type 0 where
  pub within : i ≤ n
  pub long : length t ≡ length t₀
  pub taken : j + takes_in (left t n i) ≡ takes_in (entries_of t₀ 0 n)
  pub then : entries_of t 0 i ++ filled_from m j (left t n i) ≡ filled_from m 0 (entries_of t₀ 0 n)

pub placing-start : (t m : List ℕ) (n : ℕ) → Placing t m n t 0 0
unfolding entries_of
placing-start t m n = record {
  within = omega arith;
  long = refl;
  taken = omega (arith, ap takes_in (left-start t n));
  then = ap (filled_from m 0) (left-start t n);
}

-- samples are left, so lines are
pub placing-more : (t₀ m : List ℕ) (n : ℕ) (t : List ℕ) (i j : ℕ) → Placing t₀ m n t i j → j < takes_in (entries_of t₀ 0 n) → i < n
unfolding takes_in
placing-more t₀ m n t i j g h =
    by_eqb i n (λ e. let z = left_end t n i (omega (arith, e)) in absurd (omega (arith, h, g.taken, ap takes_in z))) (λ ne. omega (arith, ne, g.within))

module _ (t₀ m : List ℕ) (n : ℕ) (t : List ℕ) (i j : ℕ) (g : Placing t₀ m n t i j) (fits : n ≤ length t₀) (h : i < n) (x : Entry) (k : Took t n i x) where
  takes-here : takes_in (left t n i) ≡ takes_of x + takes_in (left t n (i + 1))
  unfolding takes_in
  takes-here = rw k.here

  fill_here : filled_from m j (left t n i) ≡ fill_of x (cell_at m j) ∷ filled_from m (j + takes_of x) (left t n (i + 1))
  unfolding filled_from
  fill_here = rw k.here

  pub placing-room : j + takes_of x ≤ takes_in (entries_of t₀ 0 n)
  placing-room = omega (arith, takes-here, g.taken)

  pub placing-on : (d : ℕ) → d ≡ takes_of x → (c : ℕ) → entry_for (unpacked c) ≡ fill_of x (cell_at m j) → Placing t₀ m n (set t i c) (i + 1) (j + d)
  placing-on d ed c q =
      let after = left_after t n i c in
      let rows = before-after t i c (omega (arith, h, fits, g.long)) in
      record {
        within = omega (arith, h);
        long = length-set t i c ∙ g.long;
        taken = omega (arith, takes-here, g.taken, ed, ap takes_in after);
        then = rw (rows, after, append_assoc, q, ed) (ap (λ (l : List Entry). entries_of t 0 i ++ l) (sym fill_here) ∙ g.then);
      }

-- ---- at the end no line takes one

no_more : (es : List Entry) (m : List ℕ) (j : ℕ) → takes_in es ≡ 0 → filled_from m j es ≡ es
unfolding takes_in filled_from
no_more [] m j h = refl
no_more (x ∷ es) m j h = rw (plain-fill x (cell_at m j) (omega (arith, h)), no_more es m (j + takes_of x) (omega (arith, h)))

pub placed : (t₀ m : List ℕ) (n : ℕ) (t : List ℕ) (i j : ℕ) → Placing t₀ m n t i j → takes_in (entries_of t₀ 0 n) ≤ j → entries_of t 0 n ≡ filled_from m 0 (entries_of t₀ 0 n)
placed t₀ m n t i j g h =
    sym (before-left t n i g.within) ∙ ap (λ (l : List Entry). entries_of t 0 i ++ l) (sym (no_more (left t n i) m j (omega (arith, h, g.taken)))) ∙ g.then

-- ---- what a sample leaves of an entry

reach-fill : (x : Entry) (m v : ℕ) → Reach m x → Reach m (fill_of x v)
reach-fill Skip m v h = h
reach-fill (Store a u) m v h = h
reach-fill (Sample a) m v h = h
reach-fill (Load a) m v h = h

loads-fill : (x : Entry) (v : ℕ) → loads_of (fill_of x v) ≡ loads_of x
loads-fill Skip v = refl
loads-fill (Store a u) v = refl
loads-fill (Sample a) v = refl
loads-fill (Load a) v = refl

pub reaches-filled : (es : List Entry) (m : List ℕ) (j n : ℕ) → Reaches n es → Reaches n (filled_from m j es)
unfolding Reaches filled_from
reaches-filled [] m j n h = tt
reaches-filled (x ∷ es) m j n h = (reach-fill x n (cell_at m j) h.0, reaches-filled es m (j + takes_of x) n h.1)

pub loads-filled : (es : List Entry) (m : List ℕ) (j : ℕ) → loads_in (filled_from m j es) ≡ loads_in es
unfolding loads_in filled_from
loads-filled [] m j = refl
loads-filled (x ∷ es) m j = omega (arith, loads-fill x (cell_at m j), loads-filled es m (j + takes_of x))
