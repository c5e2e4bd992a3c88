-- `links::leave` meets its contract: the cell of `next` tells whether the address is on a list. Assumes nothing.
use native.Mathlib.Omega.{arith}
use Rattle.rules.specs.Sizes.{LISTS, SLOTS}
use Rattle.links.proofs.Unlinks.{stays}
use Rattle.links.proofs.Same.{must-be, must-not}
use borrow.Author.Rules.{rules}
use Rattle.links.proofs.leave.Goals as goal

pub unlink-requires : goal.unlink-requires
unlink-requires c =
    let p = c.requires.held in
    record {
      bounds = c.requires.bounds;
      held = (p.0, p.1, must-be SLOTS LISTS _ _ p.0 p.1 (omega arith) c.args.a c.requires.bounds c.if-t-a.true);
    }

pub returns-then-t-a : goal.returns-then-t-a
returns-then-t-a c = record {
  left = λ xs h. c.unlink.ensures.unlinked xs h (must-be SLOTS LISTS _ _ xs h (omega arith) c.args.a c.requires.bounds c.if-t-a.true);
  long = c.unlink.ensures.long;
}

pub returns-else-t-a : goal.returns-else-t-a
returns-else-t-a c = record {
  left = λ xs h. stays SLOTS LISTS _ _ xs c.args.a (must-not SLOTS LISTS _ _ xs h (omega arith) c.args.a c.requires.bounds c.if-t-a.false) h;
  long = search rules;
}
