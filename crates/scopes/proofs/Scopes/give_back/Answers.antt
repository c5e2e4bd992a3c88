-- A slot goes back, if the top owns it. Assumes nothing.
use Rattle.std.proofs.Common.{◌∙◌, arith, ne_eqb}
use Rattle.scopes.proofs.Becoming.{refuses}
use Rattle.scopes.proofs.Finds.{Topped, topped}
use Rattle.scopes.proofs.Frees.{far, free-no-top, free-not-owned}
use Rattle.scopes.proofs.Scopes.give_back.Goals as goal
use Rattle.scopes.proofs.Scopes.give_back.Goals.{then-self-eq-SCOPES-via-then-self-eq-SCOPES, then-self-eq-SCOPES-via-else-self-eq-SCOPES+then-x-ge-SLOTS, then-self-eq-SCOPES-via-else-self-eq-SCOPES+else-x-ge-SLOTS+then-from-self}

pub returns-then-self-eq-SCOPES : goal.returns-then-self-eq-SCOPES
returns-then-self-eq-SCOPES c =
    let s = c.args.self.now in
    let h = c.requires in
    let t = topped s h.sound in
    refuses s _ _ h (elim c.then-self-eq-SCOPES.branch [
      | then-self-eq-SCOPES-via-then-self-eq-SCOPES w ↦ free-no-top s c.args.dangles c.args.a.0 w.if-self-eq-SCOPES.true
      | then-self-eq-SCOPES-via-else-self-eq-SCOPES+then-x-ge-SLOTS w ↦
          let top : Topped s = t w.if-self-eq-SCOPES.false in
          free-not-owned s c.args.dangles c.args.a.0 top (far _ _ _ _ h.sound.ringed (rw c.from-x.ensures at w.if-x-ge-SLOTS.true) (omega (arith, top.small)))
      | then-self-eq-SCOPES-via-else-self-eq-SCOPES+else-x-ge-SLOTS+then-from-self w ↦
          let top : Topped s = t w.if-self-eq-SCOPES.false in
          free-not-owned s c.args.dangles c.args.a.0 top
          (h.sound.ringed.tells c.args.a.0 _ (rw c.from-x.ensures at w.if-x-ge-SLOTS.false) (omega (arith, top.small)) ∙ ne_eqb _ _ (rw (w.from.ensures, c.from-x.ensures) at w.if-from-self.true))
    ])
