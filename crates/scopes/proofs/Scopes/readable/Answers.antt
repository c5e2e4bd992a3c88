-- Which binding get and take mean, or why it is refused. Assumes nothing.
use Rattle.std.proofs.lemmas.Result.{err_from_is_err_and}
use Rattle.scopes.proofs.Finds.{tops}
use Rattle.scopes.proofs.Lookups.{get-no-top, get-missing, get-moved, get-found}
use Rattle.scopes.proofs.Scopes.readable.Goals as goal

pub returns-in_err-top_index : goal.returns-in_err-top_index
returns-in_err-top_index c =
    let p = err_from_is_err_and c.from_residual.result c.from_residual.ensures.1 in
    rw (p.1, p.2) (record { is = get-no-top c.args.self.now c.args.name _ c.in_err-top_index.ensures; spot = tt; unmoved = tt })

pub returns-in_default : goal.returns-in_default
returns-in_default c = record { is = get-missing c.args.self.now c.args.name (tops c.args.self.now c.requires.sound _ c.in_ok-top_index.ensures) c.in_default.ensures; spot = tt; unmoved = tt }

pub returns-then-self-j-eq1 : goal.returns-then-self-j-eq1
returns-then-self-j-eq1 c = record { is = get-moved c.args.self.now c.args.name (tops c.args.self.now c.requires.sound _ c.in_ok-top_index.ensures) _ c.in-Some.ensures c.if-self-j-eq1.true; spot = tt; unmoved = tt }

pub returns : goal.returns
returns c = record {
  is = get-found c.args.self.now c.args.name (tops c.args.self.now c.requires.sound _ c.in_ok-top_index.ensures) _ c.in-Some.ensures c.if-self-j-eq1.false;
  spot = c.in-Some.ensures.spot;
  unmoved = c.if-self-j-eq1.false;
}
