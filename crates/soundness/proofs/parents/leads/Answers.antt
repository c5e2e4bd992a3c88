-- `parents::leads` meets its contract. Assumes nothing.
use mathlib.Core.Path.{sym, ◌∙◌}
use mathlib.Core.Bool.{false}
use native.Mathlib.Omega.{arith}
use borrow.Author.Rules.{rules}
use Rattle.scopes.specs.Sound.{up}
use Rattle.soundness.proofs.Climbs.{climb-dead, climb-last, climb-next, climb-zero, beyond, climb-tells}
use Rattle.soundness.proofs.parents.leads.Goals as goal

pub returns-then-k-ge-SCOPES : goal.returns-then-k-ge-SCOPES
returns-then-k-ge-SCOPES c = let s = c.args.s.now in climb-tells s.live s.parent (search rules) false c.args.i (sym (c.loop-step.invariant.same ∙ beyond s.live s.parent _ c.loop-step.k (omega arith)))

pub returns-then-not-s-k : goal.returns-then-not-s-k
returns-then-not-s-k c = let s = c.args.s.now in climb-tells s.live s.parent (search rules) false c.args.i (sym (c.loop-step.invariant.same ∙ climb-dead s.live s.parent _ c.loop-step.k c.if-not-s-k.true))

pub returns-then-k-eq0 : goal.returns-then-k-eq0
returns-then-k-eq0 c = let s = c.args.s.now in climb-tells s.live s.parent (search rules) _ c.args.i (sym (c.loop-step.invariant.same ∙ climb-last s.live s.parent _ c.loop-step.k (omega arith) c.if-not-s-k.false c.if-k-eq0.true))

pub loop-step-preserved : goal.loop-step-preserved
loop-step-preserved c =
    let s = c.args.s.now in let l = c.loop-step in
    record {
      same = rw c.from-k.ensures (l.invariant.same ∙ climb-next s.live s.parent _ _ l.k (omega arith) c.if-not-s-k.false c.if-k-eq0.false);
      way = rw c.from-k.ensures (λ h. l.invariant.way (up c.if-k-eq0.false c.if-not-s-k.false h));
    }

pub returns : goal.returns
returns c = let s = c.args.s.now in climb-tells s.live s.parent (search rules) false c.args.i (sym (c.loop-step.invariant.same ∙ climb-zero s.live s.parent _ c.loop-step.k (omega arith)))
