-- Root is popped. Assumes nothing.
use Rattle.std.proofs.Common.{sym, ap, arith}
use Rattle.scopes.specs.View.{view, told_only}
use Rattle.scopes.proofs.Becoming.{passes, instead}
use Rattle.scopes.proofs.Finds.{tops}
use Rattle.scopes.proofs.Pops.{last-no-top, root_live, last-shuts}
use Rattle.scopes.proofs.Scopes.pop_last.Goals as goal

pub returns-in_err-top_index : goal.returns-in_err-top_index
returns-in_err-top_index c = passes c.args.self.now _ _ _ _ c.from_residual.ensures.1 c.requires (last-no-top c.args.self.now _ c.in_err-top_index.ensures)

pub close-requires : goal.close-requires
close-requires c = (c.requires, (omega arith, root_live c.args.self.now c.requires.sound (tops c.args.self.now c.requires.sound _ c.in_ok-top_index.ensures)))

pub returns : goal.returns
returns c =
    instead _ _ _ _ _
    (sym (ap (told_only (view c.args.self.now)) (last-shuts c.args.self.now c.requires.sound (tops c.args.self.now c.requires.sound _ c.in_ok-top_index.ensures))))
    c.close.ensures
