-- `beside_samples` meets its contract, where the list was read. Assumes nothing.
use Rattle.programs.proofs.HandedOn.{hands, answers}
use Rattle.programs.proofs.Parts.{list-longer-beside}
use Rattle.programs.proofs.beside.beside_samples.Goals as goal

pub returns-in-Some-clause-answers : goal.returns-in-Some-clause-answers
returns-in-Some-clause-answers c = answers _ _ _ _ _ _ _ (hands c.in-Some.is c.handed_on.ensures c.requires.0 (list-longer-beside c.args.state c.args.samples.now)) c.recorded.ensures
