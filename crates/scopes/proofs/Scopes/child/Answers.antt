-- A child is opened. Assumes nothing.
use Rattle.std.proofs.Common.{refl}
use Rattle.scopes.proofs.Becoming.{refuses, passes, does}
use Rattle.scopes.proofs.Finds.{tops}
use Rattle.scopes.proofs.Opens.{child-no-top, child-full, child-rule, child-whole}
use Rattle.scopes.proofs.Scopes.child.Goals as goal

pub returns-in_err-top_index : goal.returns-in_err-top_index
returns-in_err-top_index c = passes c.args.self.now _ _ _ _ c.from_residual.ensures.1 c.requires (child-no-top c.args.self.now _ c.in_err-top_index.ensures)

pub returns-in_default : goal.returns-in_default
returns-in_default c = refuses c.args.self.now _ _ c.requires (child-full c.args.self.now c.requires.sound (tops c.args.self.now c.requires.sound _ c.in_ok-top_index.ensures) c.in_default.ensures.is)

pub returns : goal.returns
returns c =
    let t = tops c.args.self.now c.requires.sound _ c.in_ok-top_index.ensures in
    does c.args.self.now _ _ _
    (child-rule c.args.self.now c.requires.sound t _ c.in-Some.ensures.is _ refl c.requires.sized)
    (child-whole c.args.self.now c.requires.sound t _ c.in-Some.ensures.is _ refl c.requires.sized)
