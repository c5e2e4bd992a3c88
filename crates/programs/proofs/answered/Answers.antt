-- `answered` meets its contract, where something was read. Assumes nothing.
use Rattle.programs.proofs.HandedOn.{one-longer, hands, answers}
use Rattle.programs.proofs.answered.Goals as goal

pub returns-in-Some-clause-answers : goal.returns-in-Some-clause-answers
returns-in-Some-clause-answers c = answers _ _ _ _ _ _ _ (hands c.in-Some.is c.handed_on.ensures c.requires.0 (one-longer c.args.program)) c.printed.ensures
