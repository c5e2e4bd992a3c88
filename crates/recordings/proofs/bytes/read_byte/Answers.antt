-- `read_byte` meets its contract. Assumes nothing.
use mathlib.Core.Path.{◌≡◌, sym, subst, ap, ◌∙◌}
use mathlib.Core.Bool.{false}
use Prim.Native.Nat.{ℕ, ◌+◌}
use native.Mathlib.Omega.{arith}
use Rattle.rules.specs.Recordings.{Reader, reader, fits, read_byte}
use Rattle.rules.proofs.Readers.{Sound, facts, sound-byte, sound-bad, byte-end, byte-on, byte-bad, kept-end, kept_on, kept-bad}
use Rattle.recordings.specs.Reading.{seen}
use Rattle.recordings.proofs.OneByte.{Goes, fits-end, fits_on, fits-off, fits-late}
use Rattle.recordings.proofs.bytes.read_byte.Goals.{then-line-lt-LINES+else-r-eq6+in_default, else-r-eq6-via-then-r-eq6+else-c-eq10, else-r-eq6-via-else-r-eq6, else-line-lt-LINES}
use Rattle.recordings.proofs.bytes.read_byte.Goals as goal

pub overflow_cast-r : goal.overflow_cast-r
overflow_cast-r c = omega (arith, (facts (seen c.args.r) c.args.r.left_by_bytes).value_in)

pub digits_with-requires : goal.digits_with-requires
digits_with-requires c = (facts (seen c.args.r) c.args.r.left_by_bytes).value_in

pub overflow_add-result-in-Some : goal.overflow_add-result-in-Some
overflow_add-result-in-Some c = omega (arith, (facts (seen c.args.r) c.args.r.left_by_bytes).column-in)

-- ---- LF

pub invariant_of-result : goal.invariant_of-result
invariant_of-result c = let r = seen c.args.r in record { left_by_bytes = subst Sound (byte-end r c.args.c (fits-end r c.args.c c.if-line-lt-LINES.true c.if-r-eq6.true c.if-c-eq10.true) c.if-r-eq6.true) (sound-byte r c.args.c c.args.r.left_by_bytes) }

pub returns-then-c-eq10-clause-next : goal.returns-then-c-eq10-clause-next
returns-then-c-eq10-clause-next c =
    sym (byte-end (seen c.args.r) c.args.c (fits-end (seen c.args.r) c.args.c c.if-line-lt-LINES.true c.if-r-eq6.true c.if-c-eq10.true) c.if-r-eq6.true)

pub returns-then-c-eq10-clause-left : goal.returns-then-c-eq10-clause-left
returns-then-c-eq10-clause-left c =
    c.keep.ensures
    ∙ sym (kept-end (seen c.args.r) c.args.c (fits-end (seen c.args.r) c.args.c c.if-line-lt-LINES.true c.if-r-eq6.true c.if-c-eq10.true) c.if-r-eq6.true c.args.samples.now)

-- ---- a byte within the line

goes : (r : Reader) (c v : ℕ) → Goes r c v → reader r.line (r.column + 1) v ≡ read_byte r c
goes r c v g = ap (reader r.line (r.column + 1)) g.makes ∙ sym (byte-on r c g.may g.inside)

pub invariant_of-result-in-Some : goal.invariant_of-result-in-Some
invariant_of-result-in-Some c =
    let r = seen c.args.r in
    record { left_by_bytes = subst Sound (sym (goes r c.args.c _ (fits_on r c.args.c c.if-line-lt-LINES.true _ c.in-Some.ensures))) (sound-byte r c.args.c c.args.r.left_by_bytes) }

pub returns-in-Some-clause-next : goal.returns-in-Some-clause-next
returns-in-Some-clause-next c = let r = seen c.args.r in goes r c.args.c _ (fits_on r c.args.c c.if-line-lt-LINES.true _ c.in-Some.ensures)

pub returns-in-Some-clause-left : goal.returns-in-Some-clause-left
returns-in-Some-clause-left c =
    let r = seen c.args.r in
    let g = fits_on r c.args.c c.if-line-lt-LINES.true _ c.in-Some.ensures in
    sym (kept_on r c.args.c g.may g.inside c.args.samples.now)

-- ---- a byte that may not come

pub invariant_of-result-2 : goal.invariant_of-result-2
invariant_of-result-2 c = record { left_by_bytes = sound-bad c.args.r.line (facts (seen c.args.r) c.args.r.left_by_bytes).line-in }

pub returns-clause-next : goal.returns-clause-next
returns-clause-next c =
    let r = seen c.args.r in
    let h : fits r c.args.c ≡ false
    = elim c.if-line-lt-LINES.branch [
      | then-line-lt-LINES+else-r-eq6+in_default w ↦ fits-off r c.args.c w.if-line-lt-LINES.true
          (λ k e.
          elim w.else-r-eq6.branch [
            | else-r-eq6-via-then-r-eq6+else-c-eq10 w' ↦ w'.if-c-eq10.false e
            | else-r-eq6-via-else-r-eq6 w' ↦ w'.if-r-eq6.false k
          ])
          w.in_default.ensures
      | else-line-lt-LINES w ↦ fits-late r c.args.c w.if-line-lt-LINES.false (facts r c.args.r.left_by_bytes).line-in
    ] in
    sym (byte-bad r c.args.c h)

pub returns-clause-left : goal.returns-clause-left
returns-clause-left c =
    let r = seen c.args.r in
    let h : fits r c.args.c ≡ false
    = elim c.if-line-lt-LINES.branch [
      | then-line-lt-LINES+else-r-eq6+in_default w ↦ fits-off r c.args.c w.if-line-lt-LINES.true
          (λ k e.
          elim w.else-r-eq6.branch [
            | else-r-eq6-via-then-r-eq6+else-c-eq10 w' ↦ w'.if-c-eq10.false e
            | else-r-eq6-via-else-r-eq6 w' ↦ w'.if-r-eq6.false k
          ])
          w.in_default.ensures
      | else-line-lt-LINES w ↦ fits-late r c.args.c w.if-line-lt-LINES.false (facts r c.args.r.left_by_bytes).line-in
    ] in
    sym (kept-bad r c.args.c h c.args.samples.now)
