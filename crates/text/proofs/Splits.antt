-- The lines of a text by positions. Assumes nothing.
use mathlib.Core.Path.{◌≡◌, refl, sym, ap, subst, ◌∙◌}
use mathlib.Core.Bool.{Bool, true, false}
use mathlib.Core.List.{List, [], ◌∷◌}
use Prim.Native.Nat.{ℕ, zero, suc, ◌+◌, ◌≤◌, ◌<◌, ◌-◌}
use native.Mathlib.Omega.{arith}
use native.Mathlib.Numerals.{add-one}
use lib.Dec.{eqb, ltb}
use lib.ListN.{length, get_or, drop, drop_of_length-le}
use lib.Seq.{slice, slice-cons, slice_empty, drop-cons, length-slice}
use borrow.Author.Tests.{eq-eqb, ne_eqb, eqb-true, eqb-false, ltb-true, ltb-false}
use Rattle.rules.specs.Text.{value, Split, split, onto}
use Rattle.rules.proofs.Tables.{by_eqb}
use Rattle.text.specs.Shapes.{pick, Reading}
use Rattle.text.specs.Lines.{Ends, NextLine, DigitsFrom, ended, reading_by, reading_of, width, Took}
use Rattle.text.specs.declared.lines.Digits.{Digits}
use Rattle.text.specs.declared.lines.Frame.{Frame}
use Rattle.std.specs.declared.option.Option.TheVariants.{Some, None}
use Rattle.text.specs.declared.lines.TextKind.{TextKind}
use Rattle.text.specs.declared.lines.TakenLine.{TakenLine}
use Rattle.text.proofs.Rows.{reading-open, reading-none}
use Rattle.text.proofs.Words.{raw-short}
use Rattle.text.proofs.Numbers.{line_reads, line-bad}

-- a line that LF ends
pub split-ended : (n : ℕ) (s : List ℕ) (p e : ℕ) → e ≡ p + n → e < length s → get_or s e 0 ≡ 10 → ((k : ℕ) → p ≤ k → k < e → get_or s k 0 ≡ 10 → ⊥)
    → split (drop p s) ≡ ended (slice p e s) ∷ split (drop (suc e) s)
unfolding split
split-ended zero s p e q h z f =
    let pe : p ≡ e = omega arith in
    rw (pe, drop-cons s e 0 h, eq-eqb (get_or s e 0) 10 z, slice_empty e s, split)
split-ended (suc n) s p e q h z f =
    let ih = split-ended n s (suc p) e (omega arith) h z (λ k a b. f k (omega (arith, a)) b) in
    rw (drop-cons s p 0 (omega arith), ne_eqb (get_or s p 0) 10 (f p (omega arith) (omega arith)), slice-cons p e s 0 (omega arith) (omega arith), ih, split)

-- a line that the end of the text ends
pub split-open : (n : ℕ) (s : List ℕ) (p e : ℕ) → e ≡ p + suc n → e ≡ length s → ((k : ℕ) → p ≤ k → k < e → get_or s k 0 ≡ 10 → ⊥)
    → split (drop p s) ≡ record { text = slice p e s; ended = false } ∷ []
unfolding split
split-open zero s p e q h f =
    let pe : e ≡ suc p = omega arith in
    rw (
      pe,
      drop-cons s p 0 (omega arith),
      ne_eqb (get_or s p 0) 10 (f p (omega arith) (omega arith)),
      drop_of_length-le s {i = suc p} (omega arith),
      slice-cons p (suc p) s 0 (omega arith) (omega arith),
      slice_empty (suc p) s,
      split,
    )
split-open (suc n) s p e q h f =
    let ih = split-open n s (suc p) e (omega arith) h (λ k a b. f k (omega (arith, a)) b) in
    rw (drop-cons s p 0 (omega arith), ne_eqb (get_or s p 0) 10 (f p (omega arith) (omega arith)), slice-cons p e s 0 (omega arith) (omega arith), ih, split)

-- past the last line
pub split-end : (s : List ℕ) (p : ℕ) → length s ≤ p → split (drop p s) ≡ []
unfolding split
split-end s p h = rw (drop_of_length-le s {i = p} h)

abbrev pub is_nil : {A : Type 0} → List A → Bool
is_nil [] = true
is_nil (x ∷ l) = false

some-line : (c : ℕ) (cs : List ℕ) → is_nil (split (c ∷ cs)) ≡ false
unfolding split
some-line c cs = go (eqb c 10) refl
  where
    on : (ls : List Split) → is_nil (onto c ls) ≡ false
    on [] = refl
    on (l ∷ ls) = refl

    go : (b : Bool) → eqb c 10 ≡ b → is_nil (split (c ∷ cs)) ≡ false
    go true e = rw (e, split)
    go false e = rw (e, split) (on (split cs))

-- whether lines are left
pub last_line : (s : List ℕ) (q : ℕ) → q ≤ length s → is_nil (split (drop q s)) ≡ eqb q (length s)
last_line s q h = go (eqb q (length s)) refl
  where
    go : (b : Bool) → eqb q (length s) ≡ b → is_nil (split (drop q s)) ≡ b
    go true e = ap is_nil (split-end s q (omega (arith, eqb-true q (length s) e)))
    go false e = rw (drop-cons s q 0 (omega (arith, eqb-false q (length s) e))) (some-line _ _)

-- ---- the line at p, by where it ends

module _ (which : TextKind) (s : List ℕ) (p e : ℕ) (h : Ends s p e) where
  long : length (slice p e s) ≡ e - p
  long = length-slice p e s h.to

  took-open : p < length s → e ≡ length s → Took (reading_of which) s p (record { frame = None; next = e })
  took-open l q = record {
    line = record { text = slice p e s; ended = false };
    here =
        split-open (e - p - 1) s p e (omega (arith, h.from)) q h.none_before
        ∙ ap (λ (ls : List Split). record { text = slice p e s; ended = false } ∷ ls) (sym (split-end s e (omega arith)));
    as_read = sym (reading-open which (slice p e s));
    place = omega (arith, long, h.from);
    forward = omega arith;
    within = h.to;
  }

  took-ended : (e ≡ length s → ⊥) → (x : Reading) → x ≡ reading_of which (ended (slice p e s)) → Took (reading_of which) s p (record { frame = x; next = e + 1 })
  took-ended n x q =
      let l : e < length s = omega (arith, h.to, n) in
      record {
        line = ended (slice p e s);
        here = rw add-one (split-ended (e - p) s p e (omega (arith, h.from)) l (h.last l) h.none_before);
        as_read = q;
        place = omega (arith, long, h.from);
        forward = omega (arith, h.from);
        within = omega arith;
      }

-- ---- the line at p, by its digits

lf : value 10 ≡ 16
unfolding value
lf = refl

pub not-lf : (c : ℕ) → value c < 16 → c ≡ 10 → ⊥
not-lf c h e = let v : value 10 < 16 = subst (λ (x : ℕ). value x < 16) e h in omega (arith, v, lf)

-- digits before a line's rest
ends_on : (s : List ℕ) (p e q : ℕ) → p ≤ e → ((k : ℕ) → p ≤ k → k < e → value (get_or s k 0) < 16) → Ends s e q → Ends s p q
ends_on s p e q pe f h = record { from = omega (arith, h.from); to = h.to; none_before = none; last = h.last }
  where
    none : (k : ℕ) → p ≤ k → k < q → get_or s k 0 ≡ 10 → ⊥
    none k a b x = go (ltb k e) refl
      where
        go : (t : Bool) → ltb k e ≡ t → ⊥
        go true u = not-lf (get_or s k 0) (f k a (ltb-true k e u)) x
        go false u = h.none_before k (ltb-false k e u) b x

ends-here : (s : List ℕ) (e : ℕ) → e ≤ length s → (e < length s → get_or s e 0 ≡ 10) → Ends s e e
ends-here s e h l = record { from = omega arith; to = h; none_before = λ k a b x. omega (arith, a, b); last = l }

module _ (which : TextKind) (s : List ℕ) (p : ℕ) (l : p < length s) (d : Digits) (h : DigitsFrom s p d) where
  -- the text's end
  pub took-torn : d.end ≡ length s → Took (reading_of which) s p (record { frame = None; next = d.end })
  took-torn q = took-open which s p d.end (ends_on s p d.end d.end h.from h.all (ends-here s d.end h.to (λ b. absurd (omega (arith, b, q))))) l q

  -- LF
  pub took-digits : (d.end ≡ length s → ⊥) → get_or s d.end 0 ≡ 10 → (x : Reading) → x ≡ reading_by which (d.end - p) d.number
      → Took (reading_of which) s p (record { frame = x; next = d.end + 1 })
  took-digits n z x q =
      took-ended which s p d.end (ends_on s p d.end d.end h.from h.all (ends-here s d.end h.to (λ b. z))) n x
      (q ∙ ap (reading_by which (d.end - p)) h.number_is ∙ line_reads s p d.end h.from h.to which h.all)

  -- another byte, or the text's end
  pub took-other : (d.end < length s → get_or s d.end 0 ≡ 10 → ⊥) → (q : ℕ) → NextLine s d.end q → Took (reading_of which) s p (record { frame = None; next = q })
  took-other z q w = subst (λ (m : ℕ). Took (reading_of which) s p (record { frame = None; next = m })) (sym w.is) (go (eqb w.end (length s)) refl)
    where
      ends : Ends s p w.end
      ends = ends_on s p d.end w.end h.from h.all w.ends

      past : (w.end ≡ length s → ⊥) → d.end < w.end
      past u = by_eqb d.end w.end (λ v. absurd (z (omega (arith, v, u, ends.to)) (ap (λ (k : ℕ). get_or s k 0) v ∙ w.ends.last (omega (arith, u, ends.to))))) (λ v. omega (arith, v, w.ends.from))

      go : (b : Bool) → eqb w.end (length s) ≡ b → Took (reading_of which) s p (record { frame = None; next = pick b w.end (w.end + 1) })
      go true u = took-open which s p w.end ends l (eqb-true _ _ u)
      go false u =
          let n : w.end ≡ length s → ⊥ = eqb-false _ _ u in
          let f = past n in
          took-ended which s p w.end ends n None (line-bad s p w.end ends.from ends.to which d.end h.from f (h.stop (omega (arith, f, ends.to))))

-- any two readings of the line at p are equal
pub took_one : {f : Split → Reading} {s : List ℕ} {p : ℕ} {r r' : TakenLine} → Took f s p r → Took f s p r' → r ≡ r'
took_one {f} {s} {p} {r} {r'} t t' =
    let l : t.line ≡ t'.line = cc (t.here, t'.here) in
    let a : r.frame ≡ r'.frame = t.as_read ∙ ap f l ∙ sym t'.as_read in
    let b : r.next ≡ r'.next = t.place ∙ ap (λ (x : Split). p + width x) l ∙ sym t'.place in
    λ u. record { frame = a u; next = b u }

-- ---- a line that is read has three bytes at least

not-one : {P : Type 0} {f : Frame} → None ≡ Some f → P
not-one e = cc

wide : (which : TextKind) (t : List ℕ) (b : Bool) (f : Frame) → reading_of which (record { text = t; ended = b }) ≡ Some f → 3 ≤ width (record { text = t; ended = b })
wide which t false f e = not-one (sym (reading-open which t) ∙ e)
wide which t true f e = go (ltb (length t) 2) refl
  where
    go : (x : Bool) → ltb (length t) 2 ≡ x → 3 ≤ length t + 1
    go true q = not-one (sym (reading-none which t (raw-short t (ltb-true (length t) 2 q))) ∙ e)
    go false q = omega (arith, ltb-false (length t) 2 q)

pub took-wide : (which : TextKind) (s : List ℕ) (p : ℕ) (t : TakenLine) → Took (reading_of which) s p t → (f : Frame) → t.frame ≡ Some f → p + 3 ≤ t.next
took-wide which s p t k f e = omega (arith, wide which k.line.text k.line.ended f (sym k.as_read ∙ e), k.place)
