-- `answered` meets its contract, where the recording was read. Assumes nothing.
use Rattle.programs.proofs.Parts.{answers-beside}
use Rattle.programs.proofs.beside.answered.Goals as goal

pub returns-in-Some-clause-answers_beside : goal.returns-in-Some-clause-answers_beside
returns-in-Some-clause-answers_beside c = answers-beside _ _ _ _ _ _ _ _ c.in-Some.is c.beside_samples.ensures.answers
