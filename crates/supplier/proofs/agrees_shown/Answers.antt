-- The steps over the list's own addresses, compared with the list. Assumes nothing.
use borrow.Author.Rules.{rules}
use Rattle.supplier.proofs.Verdicts.{shown-refused, size-line, other_length, too_small, by_bytes}
use Rattle.supplier.proofs.agrees_shown.Goals as goal
use Rattle.supplier.proofs.agrees_shown.Goals.{then-list-l-via-then-list-l, then-list-l-via-else-list-l+then-size-l}

pub returns-then-list-l : goal.returns-then-list-l
returns-then-list-l c =
    elim c.then-list-l.branch [
      | then-list-l-via-then-list-l w ↦ other_length _ _ _ _ _ c.requires.0 c.in-Ok.l c.in-Ok.ensures w.if-list-l.true
      | then-list-l-via-else-list-l+then-size-l w ↦ too_small _ _ _ _ _ c.requires.0 c.in-Ok.l c.in-Ok.ensures w.if-size-l.true
    ]

pub overflow_sub-front : goal.overflow_sub-front
overflow_sub-front c = size-line _ _ _ _ _ c.requires.0 c.in-Ok.l c.in-Ok.ensures c.requires.1

pub returns-in-Err : goal.returns-in-Err
returns-in-Err c = shown-refused _ _ _ c.steps_shown.new.page _ c.requires.0 c.in-Err.field-0 c.in-Err.ensures

pub returns-else-size-l : goal.returns-else-size-l
returns-else-size-l c = by_bytes _ _ _ _ _ c.requires.0 c.in-Ok.l c.in-Ok.ensures c.if-size-l.false c.if-list-l.false c.eq.result (search rules)
