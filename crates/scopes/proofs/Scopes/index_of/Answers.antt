-- The live scope with an id. Assumes nothing.
use Rattle.scopes.specs.View.{id_of}
use Rattle.scopes.proofs.Finds.{by-id-here, by-id-other, by-id-dead, by-id-far}
use Rattle.scopes.proofs.Scopes.index_of.Goals as goal
use Rattle.scopes.proofs.Scopes.index_of.Goals.{else-i-lt-SCOPES-via-then-i-lt-SCOPES+then-self-i+else-self-i-2, else-i-lt-SCOPES-via-then-i-lt-SCOPES+else-self-i, else-i-lt-SCOPES-via-else-i-lt-SCOPES}

pub returns-then-self-i-2 : goal.returns-then-self-i-2
returns-then-self-i-2 c = record {
  is = by-id-here c.args.self.now (id_of c.args.id) _ c.from-i.ensures c.if-i-lt-SCOPES.true c.if-self-i.true c.if-self-i-2.true;
  lives = (c.if-i-lt-SCOPES.true, c.if-self-i.true);
}

pub returns : goal.returns
returns c = record {
  is = elim c.else-i-lt-SCOPES.branch [
    | else-i-lt-SCOPES-via-then-i-lt-SCOPES+then-self-i+else-self-i-2 w ↦ by-id-other c.args.self.now (id_of c.args.id) _ c.from-i.ensures w.if-i-lt-SCOPES.true w.if-self-i.true w.if-self-i-2.false
    | else-i-lt-SCOPES-via-then-i-lt-SCOPES+else-self-i w ↦ by-id-dead c.args.self.now (id_of c.args.id) _ c.from-i.ensures w.if-i-lt-SCOPES.true w.if-self-i.false
    | else-i-lt-SCOPES-via-else-i-lt-SCOPES w ↦ by-id-far c.args.self.now (id_of c.args.id) _ c.from-i.ensures w.if-i-lt-SCOPES.false
  ];
  lives = tt;
}
