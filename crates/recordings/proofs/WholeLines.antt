-- Whole lines, one after the other. Assumes nothing.
use mathlib.Core.Path.{◌≡◌, sym, subst}
use mathlib.Core.List.{List}
use Prim.Native.Nat.{ℕ, ◌+◌, ◌-◌, ◌*◌, ◌≤◌, ◌<◌}
use native.Mathlib.Omega.{arith}
use lib.ListN.{length, drop}
use Rattle.rules.specs.Recordings.{Reader, reader, kept_at, limit}
use Rattle.rules.proofs.Readers.{Sound, facts, sound-new}
use Rattle.recordings.specs.Reading.{WholeLine, Same, LinesRead, Turned}
use Rattle.recordings.proofs.Turns.{same_here, same_then, line_same}

-- ---- line by line, from line i and place p on

module _ (part : List ℕ) (p i : ℕ) where
  abbrev pub Run : List ℕ → ℕ → ℕ → List ℕ → Type 0
  Run m line q left = Same (reader i 0 0) (drop p part) m (reader line 0 0) (drop q part) left

  pub run_on : (m : List ℕ) (line q v : ℕ) (left next : List ℕ) → Run m line q left → line < 4294967295 → q + 7 ≤ length part → WholeLine part q v
      → next ≡ kept_at left line v → Run m (line + 1) (q + 7) next
  run_on m line q v left next h l w d e =
      same_then h (subst (λ (x : List ℕ). Same (reader line 0 0) (drop q part) left (reader (line + 1) 0 0) (drop (q + 7) part) x) (sym e) (line_same part q line v left l w d))

  pub run_end : (m : List ℕ) (line q : ℕ) (left : List ℕ) → i ≤ line → q ≡ p + 7 * (line - i) → q ≤ length part → i + length part ≤ 4294967295 + p
      → Run m line q left → LinesRead part p (reader i 0 0) m line left
  run_end m line q left o e w l h = record {
    onward = o;
    within = omega (arith, e, w);
    sound = sound-new line (omega (arith, o, e, w, l));
    same = subst (λ (x : ℕ). Run m line x left) e h;
  }

-- ---- beside any reader

begun : (r : Reader) → Sound r → r.column ≡ 0 → reader r.line 0 0 ≡ r
unfolding limit
begun r h e = λ u. record { line = r.line; column = sym e u; value = sym none u }
  where
    below : r.value < limit 0
    below = subst (λ (k : ℕ). r.value < limit k) e (facts r h).below

    none : r.value ≡ 0
    none = let b : r.value < 1 = below in omega (arith, b)

pub read-begun : (part : List ℕ) (p : ℕ) (r : Reader) → Sound r → r.column ≡ 0 → (m : List ℕ) (line : ℕ) (left : List ℕ)
    → LinesRead part p (reader r.line 0 0) m line left → LinesRead part p r m line left
read-begun part p r h e m line left = subst (λ (x : Reader). LinesRead part p x m line left) (begun r h e)

pub none_read : (part : List ℕ) (p : ℕ) (r : Reader) (m : List ℕ) → p ≤ length part → Sound r → LinesRead part p r m r.line m
none_read part p r m l h = record {
  onward = omega arith;
  within = omega arith;
  sound = h;
  same = subst (λ (x : ℕ). Same r (drop p part) m r (drop x part) m) here (same_here r (drop p part) m);
}
  where
    here : p ≡ p + 7 * (r.line - r.line)
    here = omega arith

module _ (part : List ℕ) (p : ℕ) (r : Reader) (m : List ℕ) (line : ℕ) (left : List ℕ) (h : LinesRead part p r m line left) where
  pub lines-turn : 0 < line - r.line → Turned part p r m (reader line r.column r.value) (p + 7 * (line - r.line)) left
  lines-turn l = record { forward = omega arith; within = h.within; sound = h.sound; same = h.same }

  pub lines_then : line - r.line ≤ 0 → (n : Reader) (next : ℕ) (m' : List ℕ) → Turned part p r left n next m' → Turned part p r m n next m'
  lines_then l n next m' t = record { forward = t.forward; within = t.within; sound = t.sound; same = same_then unmoved t.same }
    where
      line-is : line ≡ r.line
      line-is = omega (arith, l, h.onward)

      place : p + 7 * (line - r.line) ≡ p
      place = omega (arith, l)

      unmoved : Same r (drop p part) m r (drop p part) left
      unmoved =
          subst (λ (x : ℕ). Same r (drop p part) m (reader x r.column r.value) (drop p part) left) line-is
          (subst (λ (x : ℕ). Same r (drop p part) m (reader line r.column r.value) (drop x part) left) place h.same)
