-- `printed` meets its contract, by the program. Assumes nothing.
use mathlib.Core.Path.{sym, ap}
use Rattle.answers.proofs.Printed.{prints-as}
use Rattle.programs.specs.declared.Program.{Program}
use Rattle.programs.specs.Printed.{printed_by}
use Rattle.programs.proofs.printed.Goals as goal

pub returns-in-Translator : goal.returns-in-Translator
returns-in-Translator c =
    let a = c.args in
    prints-as (sym (ap (λ (p : Program). printed_by p a.text.now) c.in-Translator.is)) c.translated.ensures

pub returns-in-Runner : goal.returns-in-Runner
returns-in-Runner c =
    let a = c.args in
    prints-as (sym (ap (λ (p : Program). printed_by p a.text.now) c.in-Runner.is)) c.ran.ensures
