-- `pack` meets its contract. Assumes nothing.
use borrow.Author.Rules.{rules}
use Rattle.text.proofs.Tabling.{packs}
use Rattle.text.proofs.table.pack.Goals as goal

pub returns : goal.returns
returns c = let p = packs c.args.f (search rules) (search rules) (search rules) in cc
