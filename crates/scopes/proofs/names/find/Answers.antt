-- A binding's place. Assumes nothing.
use Rattle.std.proofs.Common.{◌<◌, sym, ◌∙◌, arith, rules}
use Rattle.rules.specs.Sizes.{WORD}
use Rattle.scopes.proofs.Bindings.{hit, miss, missed_more, spot-none, spot-some}
use Rattle.scopes.proofs.names.find.Goals as goal

pub returns-then-bindings-j : goal.returns-then-bindings-j
returns-then-bindings-j c =
    let word : c.args.name < WORD = search rules in
    let l = c.loop-j in
    (spot-some c.args.i c.args.name c.args.bindings.now c.args.count c.requires.2 c.requires.0 l.j c.loop-j-test.true l.invariant.1 (hit _ c.args.i c.args.name word (c.if-bindings-j.true ∙ l.invariant.0))).there (omega (arith, c.loop-j-test.true, c.requires))

pub loop-j-preserved : goal.loop-j-preserved
loop-j-preserved c =
    let word : c.args.name < WORD = search rules in
    let l = c.loop-j in
    (l.invariant.0, missed_more c.args.i c.args.name c.args.bindings.now c.args.count c.requires.2 c.requires.0 l.j c.loop-j-test.true l.invariant.1 (miss _ c.args.i c.args.name word (λ e. c.if-bindings-j.false (e ∙ sym l.invariant.0))))

pub returns : goal.returns
returns c = let l = c.loop-j in (spot-none c.args.i c.args.name c.args.bindings.now c.args.count c.requires.2 c.requires.0 l.j c.loop-j-test.false l.invariant.1).missing (omega arith)
