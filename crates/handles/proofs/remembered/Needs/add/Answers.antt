use borrow.Author.Rules.{rules}
use Rattle.handles.proofs.NeedTables.{adding, adding-22}
use Rattle.handles.proofs.remembered.Needs.add.Goals as goal

pub returns-then-self-ge-NEEDS : goal.returns-then-self-ge-NEEDS
returns-then-self-ge-NEEDS c = adding-22 c.args.self.now c.args.b c.args.h.0 c.if-self-ge-NEEDS.true (search rules) (search rules)

pub returns : goal.returns
returns c = adding c.args.self.now c.args.b c.args.h.0 c.if-self-ge-NEEDS.false (search rules) (search rules) c.set.new.self c.set.ensures
