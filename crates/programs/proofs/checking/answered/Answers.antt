-- `answered` meets its contract, where the script was read. Assumes nothing.
use Rattle.answers.proofs.Checked.{script-too-long}
use Rattle.programs.proofs.HandedOn.{hands, answers-both}
use Rattle.programs.proofs.checking.answered.Goals as goal

pub returns-in-Some-clause-answers_both : goal.returns-in-Some-clause-answers_both
returns-in-Some-clause-answers_both c =
    answers-both _ _ _ _ _ _ _ _ (λ l. hands c.in-Some.is c.handed_on.ensures c.requires.read_into.0 (λ script h. script-too-long script l h)) c.beside_script.ensures.answers
