-- `beside_script` meets its contract, where the list was read. Assumes nothing.
use Rattle.programs.proofs.HandedOn.{list-longer-too, hands, answers}
use Rattle.programs.proofs.checking.beside_script.Goals as goal

pub returns-in-Some-clause-answers : goal.returns-in-Some-clause-answers
returns-in-Some-clause-answers c = answers _ _ _ _ _ _ _ (hands c.in-Some.is c.handed_on.ensures c.requires.0 (list-longer-too c.args.script.now)) c.checked.ensures
