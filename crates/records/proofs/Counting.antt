-- The loop over the records of a text: what was counted and what is left come to the whole. Assumes nothing.
use mathlib.Core.Path.{◌≡◌, refl, sym, ap, subst, ◌∙◌}
use mathlib.Core.Bool.{Bool, true, false}
use mathlib.Core.List.{List}
use Prim.Native.Nat.{ℕ, zero, suc, ◌+◌, ◌≤◌, ◌<◌}
use native.Mathlib.Omega.{arith}
use lib.ListN.{length}
use borrow.Author.Tests.{lt-ltb, le-ltb, ne_eqb}
use Rattle.std.specs.declared.option.Option.TheVariants.{Some, None}
use Rattle.records.specs.declared.Record.{Record}
use Rattle.records.specs.declared.tally.Tally.{Tally}
use Rattle.records.specs.Records.{Found, record_at}
use Rattle.records.specs.Tally.{agrees, tally, no_records, one_more, tallied}
use Rattle.records.proofs.Parts.{bounded}

-- ---- one more record

module _ (t : Tally) (b : Bool) (whole : t.broken ≡ false) where
  pub more-agrees : b ≡ true → tally (t.records + 1) t.differ t.first t.broken ≡ one_more t b
  unfolding one_more
  more-agrees e = rw (e, whole, one_more)

  pub more-first : b ≡ false → t.differ ≡ 0 → tally (t.records + 1) 1 (t.records + 1) false ≡ one_more t b
  unfolding one_more
  more-first e z = rw (e, z, one_more)

  pub more-differs : b ≡ false → (t.differ ≡ 0 → ⊥) → tally (t.records + 1) (t.differ + 1) t.first t.broken ≡ one_more t b
  unfolding one_more
  more-differs e n = rw (e, whole, ne_eqb t.differ 0 n, one_more)

more-records : (t : Tally) (b : Bool) → (one_more t b).records ≡ t.records + 1
unfolding one_more
more-records t true = refl
more-records t false = refl

more-differ : (t : Tally) (b : Bool) → (one_more t b).differ ≤ t.differ + 1
unfolding one_more
more-differ t true = omega arith
more-differ t false = omega arith

more-whole : (t : Tally) (b : Bool) → (one_more t b).broken ≡ false
unfolding one_more
more-whole t true = refl
more-whole t false = refl

-- ---- the text from p on

module _ (s : List ℕ) (p : ℕ) (t : Tally) where
  at-end : (k : ℕ) → length s ≤ p → tallied k s p t ≡ t
  unfolding tallied
  at-end zero h = refl
  at-end (suc k) h = rw (le-ltb p (length s) h, tallied)

  at-broken : (k : ℕ) → p < length s → record_at s p ≡ None → tallied (suc k) s p t ≡ tally t.records t.differ t.first true
  unfolding tallied
  at-broken k h e = rw (lt-ltb p (length s) h, e, tallied)

  at-record : (k : ℕ) (r : Record) → p < length s → record_at s p ≡ Some r → tallied (suc k) s p t ≡ tallied k s r.end (one_more t (agrees s r.script r.answer r.end))
  unfolding tallied
  at-record k r h f = rw (lt-ltb p (length s) h, f, tallied)

-- with t counted before p: so many records at most are left, and they come to the whole
pub record Counting (s : List ℕ) (p : ℕ) (t : Tally) : Type 0 where
  pub left : ℕ
  pub enough : length s ≤ p + left
  pub comes : tallied left s p t ≡ tallied (length s) s 0 no_records
  pub within : p ≤ length s
  pub few : t.records ≤ p
  pub fewer : t.differ ≤ t.records
  pub whole : t.broken ≡ false

pub count_none : (s : List ℕ) → Counting s 0 no_records
count_none s = record { left = length s; enough = omega arith; comes = refl; within = omega arith; few = omega arith; fewer = omega arith; whole = refl }

module _ (s : List ℕ) (p : ℕ) (t : Tally) (c : Counting s p t) where
  pub count-end : length s ≤ p → t ≡ tallied (length s) s 0 no_records
  count-end h = sym (at-end s p t c.left h) ∙ c.comes

  module _ (h : p < length s) (x : Found) (at : x ≡ record_at s p) where
    pub count-broken : x ≡ None → tally t.records t.differ t.first true ≡ tallied (length s) s 0 no_records
    count-broken e = go c.left c.enough c.comes
      where
        go : (k : ℕ) → length s ≤ p + k → tallied k s p t ≡ tallied (length s) s 0 no_records → tally t.records t.differ t.first true ≡ tallied (length s) s 0 no_records
        go zero n q = absurd (omega arith)
        go (suc k) n q = sym (at-broken s p t k h (sym at ∙ e)) ∙ q

    module _ (f : Record) (is : x ≡ Some f) where
      pub in_row : (p + 18 ≤ f.script) × (f.script ≤ f.answer) × (f.answer ≤ f.end) × (f.end ≤ length s)
      in_row = bounded s p c.within (Some f) (sym at ∙ is)

      pub count-more : (r : Bool) → r ≡ agrees s f.script f.answer f.end → (u : Tally) → u ≡ one_more t r → Counting s f.end u
      count-more r g u q = subst (Counting s f.end) (sym (q ∙ ap (one_more t) g)) (go c.left c.enough c.comes)
        where
          go : (k : ℕ) → length s ≤ p + k → tallied k s p t ≡ tallied (length s) s 0 no_records → Counting s f.end (one_more t (agrees s f.script f.answer f.end))
          go zero n q = absurd (omega arith)
          go (suc k) n q =
              let w = in_row in
              let b = agrees s f.script f.answer f.end in
              record {
                left = k;
                enough = omega (arith, w.0, w.1, w.2, w.3);
                comes = sym (at-record s p t k f h (sym at ∙ is)) ∙ q;
                within = w.3;
                few = omega (arith, w.0, w.1, w.2, c.few, more-records t b);
                fewer = omega (arith, c.fewer, more-records t b, more-differ t b);
                whole = more-whole t b;
              }
