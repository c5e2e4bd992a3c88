-- Which scope is meant, or why it is refused. Assumes nothing.
use Rattle.scopes.proofs.Refusals.{unmet, at-root, other-mark, not-refused}
use Rattle.scopes.proofs.Scopes.admitted.Goals as goal
use Rattle.scopes.proofs.Scopes.admitted.Goals.{then-i-eq0-via-then-i-eq0, then-i-eq0-via-else-i-eq0+then-self-i}

pub returns-in_default : goal.returns-in_default
returns-in_default c = record { is = unmet c.args.mark _ c.in_default.ensures.is; lives = tt; inner = tt }

pub returns-then-i-eq0 : goal.returns-then-i-eq0
returns-then-i-eq0 c = record {
  is = elim c.then-i-eq0.branch [
    | then-i-eq0-via-then-i-eq0 w ↦ at-root c.args.mark c.args.self.now _ c.in-Some.i c.in-Some.ensures.is w.if-i-eq0.true
    | then-i-eq0-via-else-i-eq0+then-self-i w ↦ other-mark c.args.mark c.args.self.now _ c.in-Some.i c.in-Some.ensures.is w.if-self-i.true
  ];
  lives = tt;
  inner = tt;
}

pub returns : goal.returns
returns c = record {
  is = not-refused c.args.mark c.args.self.now _ c.in-Some.i c.in-Some.ensures.is c.if-i-eq0.false c.if-self-i.false;
  lives = c.in-Some.ensures.lives;
  inner = c.if-i-eq0.false;
}
