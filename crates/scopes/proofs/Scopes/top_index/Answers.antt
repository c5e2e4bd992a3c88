-- The index of the top. Assumes nothing.
use Rattle.std.proofs.Common.{refl, sym}
use Rattle.rules.specs.Notation.{refuse◌unless◌}
use Rattle.scopes.proofs.Finds.{Topped, no_top, topped}
use Rattle.scopes.proofs.Scopes.top_index.Goals as goal

pub returns-then-self-eq-SCOPES : goal.returns-then-self-eq-SCOPES
unfolding refuse◌unless◌
returns-then-self-eq-SCOPES c = record { is = sym (rw (no_top c.args.self.now c.if-self-eq-SCOPES.true)); top = tt; lives = tt }

pub returns : goal.returns
unfolding refuse◌unless◌
returns c =
    let t : Topped c.args.self.now = topped c.args.self.now c.requires.sound c.if-self-eq-SCOPES.false in
    record { is = sym (rw t.is); top = refl; lives = (t.small, t.live) }
