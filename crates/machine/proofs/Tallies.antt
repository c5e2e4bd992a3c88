-- What a whole list asks for, one line at a time: what remains gives the same. Assumes nothing.
use mathlib.Core.Path.{◌≡◌, refl, ap, ◌∙◌}
use mathlib.Core.Bool.{Bool, true, false}
use mathlib.Core.List.{List, [], ◌∷◌}
use Prim.Native.Nat.{ℕ, ◌+◌, ◌*◌, ◌-◌, ◌≤◌, ◌<◌}
use native.Mathlib.Omega.{arith}
use lib.Dec.{ltb}
use borrow.Author.Tests.{leb-false, lt-ltb, le-ltb}
use Rattle.text.specs.Shapes.{pick}
use Rattle.machine.specs.Entries.{loads_of, takes_of, over_of}
use Rattle.machine.specs.Survey.{asked, survey_of, lacking_of}
use Rattle.machine.specs.Work.{loads_in, takes_in, Reach, Reaches}
use Rattle.machine.specs.declared.entries.Entry.{Entry}
use Rattle.machine.specs.declared.entries.Entry.TheVariants.{Skip, Store, Sample, Load}
use Rattle.machine.specs.declared.survey.Asked.{Asked}
use Rattle.text.specs.Refused.{good, bad}
use Rattle.machine.proofs.Rows.{left, Took, left_end}

pub loads-small : (x : Entry) (d : ℕ) → d ≡ loads_of x → d ≤ 1
loads-small Skip d e = omega arith
loads-small (Store a v) d e = omega arith
loads-small (Sample a) d e = omega arith
loads-small (Load a) d e = omega arith

pub takes-small : (x : Entry) (d : ℕ) → d ≡ takes_of x → d ≤ 1
takes-small Skip d e = omega arith
takes-small (Store a v) d e = omega arith
takes-small (Sample a) d e = omega arith
takes-small (Load a) d e = omega arith

-- ---- the survey

module _ (t : List ℕ) (lines i n m size : ℕ) where
  pub survey-end : lines ≤ i → survey_of size i n m (left t lines i) ≡ good (asked n m)
  unfolding survey_of
  survey-end h = rw (left_end t lines i h)

  module _ (x : Entry) (k : Took t lines i x) (b : Bool) (e : b ≡ over_of size x) where
    survey-step : survey_of size i n m (left t lines i) ≡ pick b (bad 20 i) (survey_of size (i + 1) (n + loads_of x) (m + takes_of x) (left t lines (i + 1)))
    unfolding survey_of
    survey-step = rw (k.here, e)

    pub survey-over : b ≡ true → survey_of size i n m (left t lines i) ≡ bad 20 i
    survey-over q = survey-step ∙ rw q

    pub survey-on : b ≡ false → (d f : ℕ) → d ≡ loads_of x → f ≡ takes_of x → survey_of size i n m (left t lines i) ≡ survey_of size (i + 1) (n + d) (m + f) (left t lines (i + 1))
    survey-on q d f l s = survey-step ∙ rw (q, l, s)

-- ---- what it tells of a list whose addresses are low

reach-one : (x : Entry) (size m : ℕ) → over_of size x ≡ false → 2 * size ≤ m → Reach m x
reach-one Skip size m e h = tt
reach-one (Store a v) size m e h = omega (arith, leb-false size a e)
reach-one (Sample a) size m e h = omega (arith, leb-false size a e)
reach-one (Load a) size m e h = omega (arith, leb-false size a e)

pub record Surveyed (size n m loads takes : ℕ) (es : List Entry) : Type 0 where
  pub loads-are : loads ≡ n + loads_in es
  pub takes-are : takes ≡ m + takes_in es
  pub reaches : (bytes : ℕ) → 2 * size ≤ bytes → Reaches bytes es

pub surveyed : (es : List Entry) (size i n m loads takes : ℕ) → survey_of size i n m es ≡ good (asked loads takes) → Surveyed size n m loads takes es
unfolding survey_of loads_in takes_in Reaches
surveyed [] size i n m loads takes e =
    let q : asked n m ≡ asked loads takes = cc in
    let a : n ≡ loads = ap (λ (x : Asked). x.loads) q in
    let b : m ≡ takes = ap (λ (x : Asked). x.takes) q in
    record { loads-are = omega arith; takes-are = omega arith; reaches = λ k h. tt }
surveyed (x ∷ es) size i n m loads takes e = go (over_of size x) refl (λ q. surveyed es size (i + 1) (n + loads_of x) (m + takes_of x) loads takes q)
  where
    go : (b : Bool) → over_of size x ≡ b → (survey_of size (i + 1) (n + loads_of x) (m + takes_of x) es ≡ good (asked loads takes) → Surveyed size (n + loads_of x) (m + takes_of x) loads takes es)
        → Surveyed size n m loads takes (x ∷ es)
    go true q ih = let z : bad 20 i ≡ good (asked loads takes) = rw q at e in cc
    go false q ih =
        let h = ih (rw q at e) in
        record { loads-are = omega (arith, h.loads-are); takes-are = omega (arith, h.takes-are); reaches = λ k l. (reach-one x size k q l, h.reaches k l) }

-- ---- the first line without a sample

module _ (t : List ℕ) (lines i n : ℕ) where
  pub lacking-end : lines ≤ i → lacking_of i n (left t lines i) ≡ i
  unfolding lacking_of
  lacking-end h = rw (left_end t lines i h)

  module _ (x : Entry) (k : Took t lines i x) (d : ℕ) (e : d ≡ takes_of x) where
    lacking-step : lacking_of i n (left t lines i) ≡ pick (ltb n d) i (lacking_of (i + 1) (n - d) (left t lines (i + 1)))
    unfolding lacking_of
    lacking-step = rw (k.here, e)

    pub lacking-here : n < d → lacking_of i n (left t lines i) ≡ i
    lacking-here h = lacking-step ∙ rw (lt-ltb n d h)

    pub lacking-on : d ≤ n → lacking_of i n (left t lines i) ≡ lacking_of (i + 1) (n - d) (left t lines (i + 1))
    lacking-on h = lacking-step ∙ rw (le-ltb n d h)
