-- `insert` is what the edition's placement does with one slot. Assumes nothing.
use Rattle.rules.specs.Slots as rule
use Rattle.slots.proofs.entries.insert.Goals as goal

pub returns : goal.returns
unfolding rule.placing rule.edition1 rule.edition2
returns c = c.insert_by.ensures
