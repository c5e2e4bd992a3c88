use native.Mathlib.Omega.{arith}
use Rattle.frames.proofs.Told.{handed-on}
use Rattle.frames.proofs.InScope.{found-none, found-some, in-4, in-16, in-7, in-low, in-granted}
use Rattle.frames.proofs.allots.alloc_in_scope.Goals as goal

pub returns-then-is_none : goal.returns-then-is_none
returns-then-is_none c = in-4 _ c.requires c.args.id (found-none c.index_of.result c.index_of.ensures c.if-is_none.ensures)

pub returns-then-handles-ge-HANDLES : goal.returns-then-handles-ge-HANDLES
returns-then-handles-ge-HANDLES c = in-16 _ c.requires c.args.id _ (found-some c.index_of.result c.index_of.ensures c.if-is_none.ensures).1 c.if-handles-ge-HANDLES.true

pub returns-in_err-first : goal.returns-in_err-first
returns-in_err-first c =
    rw (handed-on c.from_residual.result c.from_residual.ensures.1)
    (in-7 _ c.requires c.args.id _ (found-some c.index_of.result c.index_of.ensures c.if-is_none.ensures).1 c.if-handles-ge-HANDLES.false c.in_err-first.field-0.0 c.in_err-first.ensures)

pub grant-requires : goal.grant-requires
grant-requires c =
    let k = found-some c.index_of.result c.index_of.ensures c.if-is_none.ensures in
    (omega (arith, c.if-handles-ge-HANDLES.false), in-low _ c.requires c.args.id _ k.1 c.if-handles-ge-HANDLES.false c.in_ok-first.first c.in_ok-first.ensures)

pub returns : goal.returns
returns c = in-granted _ c.requires c.args.id _ (found-some c.index_of.result c.index_of.ensures c.if-is_none.ensures).1 c.if-handles-ge-HANDLES.false c.in_ok-first.first c.in_ok-first.ensures c.grant.new.self c.grant.ensures
