-- `links::place` meets its contract: after `leave` the address is on no list. Assumes nothing.
use Rattle.rules.specs.Sizes.{LISTS}
use Rattle.links.specs.Links.{leaves}
use Rattle.links.proofs.Unlinks.{off-left}
use borrow.Author.Rules.{rules}
use Rattle.links.proofs.place.Goals as goal

pub append-requires : goal.append-requires
append-requires c =
    let p = c.requires.held in
    record {
      bounds = search rules;
      held = (leaves c.args.a p.0, c.leave.ensures.left p.0 p.1, off-left LISTS c.args.a p.0);
    }

pub returns : goal.returns
returns c = record {
  placed = λ xs h. c.append.ensures.appended (leaves c.args.a xs) (c.leave.ensures.left xs h) (off-left LISTS c.args.a xs);
  long = c.append.ensures.long;
}
