use native.Mathlib.Omega.{arith}
use Rattle.frames.proofs.Told.{handed-on}
use Rattle.frames.proofs.Allocations.{alloc-3, alloc-16, alloc-7, alloc-low, alloc-works}
use Rattle.frames.proofs.allots.alloc.Goals as goal

pub returns-in_err-top_index : goal.returns-in_err-top_index
returns-in_err-top_index c = rw (handed-on c.from_residual.result c.from_residual.ensures.1) (alloc-3 _ c.requires c.in_err-top_index.field-0.0 c.in_err-top_index.ensures)

pub returns-then-handles-ge-HANDLES : goal.returns-then-handles-ge-HANDLES
returns-then-handles-ge-HANDLES c = alloc-16 _ c.requires c.in_ok-top_index.ensures c.if-handles-ge-HANDLES.true

pub returns-in_err-first : goal.returns-in_err-first
returns-in_err-first c =
    rw (handed-on c.from_residual-in_err-first.result c.from_residual-in_err-first.ensures.1)
    (alloc-7 _ c.requires c.in_ok-top_index.ensures c.if-handles-ge-HANDLES.false c.in_err-first.field-0.0 c.in_err-first.ensures)

pub grant-requires : goal.grant-requires
grant-requires c = (omega (arith, c.if-handles-ge-HANDLES.false), alloc-low _ c.requires c.in_ok-top_index.ensures c.if-handles-ge-HANDLES.false c.in_ok-first.first c.in_ok-first.ensures)

pub returns : goal.returns
returns c = alloc-works _ c.requires c.in_ok-top_index.ensures c.if-handles-ge-HANDLES.false c.in_ok-first.first c.in_ok-first.ensures c.grant.new.self c.grant.ensures
