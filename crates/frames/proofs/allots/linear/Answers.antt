use native.Mathlib.Omega.{arith}
use Rattle.frames.proofs.Told.{handed-on}
use Rattle.frames.proofs.Handling.{handed-few}
use Rattle.frames.proofs.Allocations.{linear-3, linear-16, linear-7, linear-none, linear-low, linear-works}
use Rattle.frames.proofs.allots.linear.Goals as goal

pub returns-in_err-top_index : goal.returns-in_err-top_index
returns-in_err-top_index c = rw (handed-on c.from_residual.result c.from_residual.ensures.1) (linear-3 _ c.requires c.args.n c.in_err-top_index.field-0.0 c.in_err-top_index.ensures)

pub overflow_add-handles : goal.overflow_add-handles
overflow_add-handles c = omega (arith, handed-few c.requires)

pub returns-then-handles-many-gt-HANDLES : goal.returns-then-handles-many-gt-HANDLES
returns-then-handles-many-gt-HANDLES c = linear-16 _ c.requires c.in_ok-top_index.ensures c.args.n (omega (arith, c.from-many.ensures, c.if-handles-many-gt-HANDLES.true))

pub returns-in_err-alloc_run : goal.returns-in_err-alloc_run
returns-in_err-alloc_run c =
    rw (handed-on c.from_residual-in_err-alloc_run.result c.from_residual-in_err-alloc_run.ensures.1)
    (linear-7 _ c.requires c.in_ok-top_index.ensures c.args.n (omega (arith, c.from-many.ensures, c.if-handles-many-gt-HANDLES.false)) c.in_err-alloc_run.field-0.0 c.in_err-alloc_run.ensures)

pub returns-in-None : goal.returns-in-None
returns-in-None c = linear-none _ c.requires c.in_ok-top_index.ensures c.args.n (rw c.in-None.is at c.in_ok-alloc_run.ensures)

pub grant-requires : goal.grant-requires
grant-requires c =
    let b = rw c.in-Some.is at c.in_ok-alloc_run.ensures in
    (c.if-handles-many-gt-HANDLES.false, omega (arith, c.from-many.ensures, linear-low _ c.requires c.in_ok-top_index.ensures c.args.n c.in-Some.first b))

pub returns-in-Some : goal.returns-in-Some
returns-in-Some c =
    let b = rw c.in-Some.is at c.in_ok-alloc_run.ensures in
    linear-works _ c.requires c.in_ok-top_index.ensures c.args.n (omega (arith, c.from-many.ensures, c.if-handles-many-gt-HANDLES.false)) c.in-Some.first b _ _ c.from-many.ensures c.run_kind.ensures.1 c.grant.new.self c.grant.ensures
