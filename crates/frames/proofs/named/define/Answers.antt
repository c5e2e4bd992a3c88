use Rattle.std.specs.Prelude.{Ok, Err}
use Rattle.frames.proofs.Told.{handed-on}
use Rattle.frames.proofs.Handling.{handed-few}
use Rattle.frames.proofs.Reading.{define-3, define-13, define-works}
use Rattle.frames.proofs.named.define.Goals as goal

pub returns-in_err-top_index : goal.returns-in_err-top_index
returns-in_err-top_index c = rw (handed-on c.from_residual.result c.from_residual.ensures.1) (define-3 c.requires c.args.name c.args.h.0 c.in_err-top_index.field-0.0 c.in_err-top_index.ensures)

pub unspent-requires : goal.unspent-requires
unspent-requires c = handed-few c.requires

pub returns-in_err-x : goal.returns-in_err-x
returns-in_err-x c =
    rw (handed-on c.from_residual-in_err-x.result c.from_residual-in_err-x.ensures.1)
    (define-13 c.requires c.args.name c.args.h.0 c.in_ok-top_index.ensures c.in_err-x.field-0.0 c.in_err-x.ensures)

pub returns-in_err-define : goal.returns-in_err-define
returns-in_err-define c =
    rw (handed-on c.from_residual-in_err-define.result c.from_residual-in_err-define.ensures.1)
    (define-works c.requires c.args.name c.args.h.0 c.in_ok-top_index.ensures c.in_ok-x.x c.in_ok-x.ensures (Err c.in_err-define.field-0.0) c.in_err-define.ensures)

pub returns : goal.returns
returns c = define-works c.requires c.args.name c.args.h.0 c.in_ok-top_index.ensures c.in_ok-x.x c.in_ok-x.ensures (Ok tt) c.in_ok-define.ensures
