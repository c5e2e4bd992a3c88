-- `run_over` meets its contract: a refusal after the other, and then the work. Assumes nothing.
use mathlib.Core.Path.{refl, sym, ap, subst, ◌∙◌}
use native.Mathlib.Omega.{arith}
use lib.ListN.{length}
use Rattle.std.proofs.lemmas.Result.{err_from_is_err_and}
use Rattle.rules.specs.Sizes.{base}
use Rattle.rules.proofs.Readers.{facts}
use Rattle.text.specs.Refused.{answer_of}
use Rattle.text.proofs.Bounds.{list-good}
use Rattle.recordings.specs.Reading.{seen}
use Rattle.machine.specs.Entries.{entries_of}
use Rattle.machine.specs.Work.{loads_in, Reaches}
use Rattle.machine.proofs.Tallies.{surveyed}
use Rattle.machine.proofs.Placing.{reaches-filled, loads-filled}
use Rattle.machine.proofs.Lefts.{has, enough-lacks, enough-done, whole-torn, whole-few, whole-enough, survey-high, list-unread, list_read, then-whole}
use Rattle.machine.proofs.recorded.run_over.Goals as goal

-- ---- 1, 2, 20

pub returns-in_err-read : goal.returns-in_err-read
returns-in_err-read c =
    let p = err_from_is_err_and c.from_residual.result c.from_residual.ensures.1 in
    rw (p.1, p.2) (list-unread base c.args.list.now c.args.samples.now c.args.cells.now c.args.out.now c.args.left.now c.args.reader.column c.args.reader.line _ _ _ c.in_err-read.ensures.value refl)

pub scan-requires : goal.scan-requires
unfolding base
scan-requires c = let h = list-good base (omega arith) c.args.list.now _ (sym c.in_ok-read.ensures.value) in let f = c.check_list.ensures.tabled.fits _ c.in_ok-read.was in (omega (arith, f), omega (arith, h.1))

pub returns-in_err-asked : goal.returns-in_err-asked
returns-in_err-asked c =
    let p = err_from_is_err_and c.from_residual-in_err-asked.result c.from_residual-in_err-asked.ensures.1 in
    rw (p.1, p.2)
    (list_read base c.args.list.now c.args.samples.now c.args.cells.now c.args.out.now c.args.left.now c.args.reader.column c.args.reader.line _ _ c.check_list.new.table c.in_ok-read.ensures.value (c.check_list.ensures.tabled.rows _ c.in_ok-read.was) _ _ _
    (survey-high c.args.samples.now c.args.cells.now c.args.out.now c.args.left.now _ c.args.reader.column c.args.reader.line (entries_of c.check_list.new.table 0 c.in_ok-read.read.lines) _ _ _ c.in_err-asked.ensures.value refl))

-- ---- 24, 23, 17

pub new-requires : goal.new-requires
new-requires c = omega (arith, (facts (seen c.args.reader) c.args.reader.left_by_bytes).line-in)

pub returns-then-reader-ne0 : goal.returns-then-reader-ne0
returns-then-reader-ne0 c =
    then-whole base c.args.list.now c.args.samples.now c.args.cells.now c.args.out.now c.args.left.now c.args.reader.column c.args.reader.line _ c.check_list.new.table c.in_ok-read.ensures.value (c.check_list.ensures.tabled.rows _ c.in_ok-read.was) _ c.in_ok-asked.ensures.value _ _ _ _
    (whole-torn c.args.samples.now c.args.cells.now c.args.out.now c.args.left.now _ _ _ c.args.reader.column c.args.reader.line (entries_of c.check_list.new.table 0 c.in_ok-read.read.lines) c.if-reader-ne0.true _ (ap answer_of c.new.ensures))

pub lacking-line-requires : goal.lacking-line-requires
unfolding base
lacking-line-requires c = let h = list-good base (omega arith) c.args.list.now _ (sym c.in_ok-read.ensures.value) in let f = c.check_list.ensures.tabled.fits _ c.in_ok-read.was in (omega (arith, f), omega (arith, h.1))

pub returns-then-recorded-asked : goal.returns-then-recorded-asked
returns-then-recorded-asked c =
    then-whole base c.args.list.now c.args.samples.now c.args.cells.now c.args.out.now c.args.left.now c.args.reader.column c.args.reader.line _ c.check_list.new.table c.in_ok-read.ensures.value (c.check_list.ensures.tabled.rows _ c.in_ok-read.was) _ c.in_ok-asked.ensures.value _ _ _ _
    (whole-few c.args.samples.now c.args.cells.now c.args.out.now c.args.left.now _ _ _ c.args.reader.column c.args.reader.line (entries_of c.check_list.new.table 0 c.in_ok-read.read.lines) c.if-reader-ne0.false c.if-recorded-asked.true _ _ c.lacking-line.ensures.value (ap answer_of c.new-then-recorded-asked.ensures))

pub returns-then-lacks : goal.returns-then-lacks
returns-then-lacks c =
    then-whole base c.args.list.now c.args.samples.now c.args.cells.now c.args.out.now c.args.left.now c.args.reader.column c.args.reader.line _ c.check_list.new.table c.in_ok-read.ensures.value (c.check_list.ensures.tabled.rows _ c.in_ok-read.was) _ c.in_ok-asked.ensures.value _ _ _ _
    (whole-enough c.args.samples.now c.args.cells.now c.args.out.now c.args.left.now _ _ _ c.args.reader.column c.args.reader.line (entries_of c.check_list.new.table 0 c.in_ok-read.read.lines) c.if-reader-ne0.false c.if-recorded-asked.false _ _ _ _
    (enough-lacks c.args.samples.now c.args.cells.now c.args.out.now c.args.left.now _ _ _ c.args.reader.line (entries_of c.check_list.new.table 0 c.in_ok-read.read.lines) (sym c.lacks.ensures ∙ c.if-lacks.true) _ (ap answer_of c.new-then-lacks.ensures)))

-- ---- the work

pub fill-requires-clause-lines_in_bounds : goal.fill-requires-clause-lines_in_bounds
unfolding base
fill-requires-clause-lines_in_bounds c = let h = list-good base (omega arith) c.args.list.now _ (sym c.in_ok-read.ensures.value) in let f = c.check_list.ensures.tabled.fits _ c.in_ok-read.was in (omega (arith, f), omega (arith, h.1))

pub fill-requires-clause-takes_value : goal.fill-requires-clause-takes_value
fill-requires-clause-takes_value c = omega (arith, (surveyed (entries_of c.check_list.new.table 0 c.in_ok-read.read.lines) _ 0 0 0 _ _ (sym c.in_ok-asked.ensures.value)).takes-are)

pub obey-written-requires-clause-lines_in_bounds : goal.obey-written-requires-clause-lines_in_bounds
unfolding base
obey-written-requires-clause-lines_in_bounds c = let h = list-good base (omega arith) c.args.list.now _ (sym c.in_ok-read.ensures.value) in let f = c.check_list.ensures.tabled.fits _ c.in_ok-read.was in (omega (arith, f, c.fill.auto.table), omega (arith, h.1))

pub obey-written-requires-clause-reaches : goal.obey-written-requires-clause-reaches
obey-written-requires-clause-reaches c =
    let h = has (length c.args.cells.now) (length c.args.out.now) (length c.args.samples.now) (length c.args.left.now) _ _ _ (sym c.lacks.ensures ∙ c.if-lacks.false) in
    let s = surveyed (entries_of c.check_list.new.table 0 c.in_ok-read.read.lines) _ 0 0 0 _ _ (sym c.in_ok-asked.ensures.value) in
    subst (Reaches _) (sym c.fill.ensures) (reaches-filled (entries_of c.check_list.new.table 0 c.in_ok-read.read.lines) c.args.samples.now 0 _ (s.reaches _ (omega (arith, h.cells, c.zero.auto.cells))))

pub obey-written-requires-clause-lines_in_bounds_2 : goal.obey-written-requires-clause-lines_in_bounds_2
obey-written-requires-clause-lines_in_bounds_2 c =
    let h = has (length c.args.cells.now) (length c.args.out.now) (length c.args.samples.now) (length c.args.left.now) _ _ _ (sym c.lacks.ensures ∙ c.if-lacks.false) in
    let s = surveyed (entries_of c.check_list.new.table 0 c.in_ok-read.read.lines) _ 0 0 0 _ _ (sym c.in_ok-asked.ensures.value) in
    omega (arith, ap loads_in c.fill.ensures, loads-filled (entries_of c.check_list.new.table 0 c.in_ok-read.read.lines) c.args.samples.now 0, s.loads-are, h.out)

pub overflow_cast-recorded : goal.overflow_cast-recorded
overflow_cast-recorded c = omega (arith, (facts (seen c.args.reader) c.args.reader.left_by_bytes).line-in)

pub returns : goal.returns
returns c =
    let s = surveyed (entries_of c.check_list.new.table 0 c.in_ok-read.read.lines) _ 0 0 0 _ _ (sym c.in_ok-asked.ensures.value) in
    then-whole base c.args.list.now c.args.samples.now c.args.cells.now c.args.out.now c.args.left.now c.args.reader.column c.args.reader.line _ c.check_list.new.table c.in_ok-read.ensures.value (c.check_list.ensures.tabled.rows _ c.in_ok-read.was) _ c.in_ok-asked.ensures.value _ _ _ _
    (whole-enough c.args.samples.now c.args.cells.now c.args.out.now c.args.left.now _ _ _ c.args.reader.column c.args.reader.line (entries_of c.check_list.new.table 0 c.in_ok-read.read.lines) c.if-reader-ne0.false c.if-recorded-asked.false _ _ _ _
    (enough-done c.args.samples.now c.args.cells.now c.args.out.now c.args.left.now _ _ _ c.args.reader.line (entries_of c.check_list.new.table 0 c.in_ok-read.read.lines) (sym c.lacks.ensures ∙ c.if-lacks.false) _ _ _ _ _ _ (omega (arith, s.loads-are)) c.zero.ensures c.fill.ensures c.obey-written.ensures.wrote c.obey-written.ensures.stored c.obey-written.ensures.printed c.put_left.ensures))
