-- The bindings of a scope go. Assumes nothing.
use Rattle.std.proofs.Common.{◌-◌, replicate, drop, length-drop, length-take-le, ap, ◌∙◌, arith}
use Rattle.scopes.proofs.Compacts.{passed-keep, passed-drop, wiped, bindings-left, clear-left}
use Rattle.scopes.proofs.names.forget_names.Goals as goal
use Rattle.scopes.proofs.names.forget_names.Goals.{then-b-i, else-b-i}

pub loop-j-preserved : goal.loop-j-preserved
loop-j-preserved c =
    let l = c.loop-j in
    let t = c.loop-j-test.true in
    elim c.if-b-i.branch [
      | then-b-i w ↦ rw (w.bindings-is, w.w-is) (passed-keep c.args.bindings.now c.args.count c.args.i c.requires.1 c.requires.0 l.bindings l.w l.j l.invariant t w.if-b-i.true)
      | else-b-i w ↦ rw (w.bindings-is, w.w-is) (passed-drop c.args.bindings.now c.args.count c.args.i c.requires.1 c.requires.0 l.bindings l.w l.j l.invariant t w.if-b-i.false)
    ]

pub returns : goal.returns
returns c =
    let l = c.loop-j in
    let h = l.invariant in
    let g = wiped l.bindings l.w c.args.count c.fill.new.self (omega (arith, h.within)) c.requires.0 h.long (c.fill.ensures.after (λ y e. e) ∙ ap (λ n. replicate n 0) (length-take-le (c.args.count - l.w) (drop l.w l.bindings) (omega (arith, length-drop l.w l.bindings, h.within, h.long, c.requires.0)))) in
    record {
      unbinds = (omega (arith, h.within), bindings-left c.args.bindings.now _ _ _ _ _ c.loop-j-test.false h _ g, g.long);
      clears_from = clear-left c.args.bindings.now _ _ _ _ _ c.loop-j-test.false h _ g;
    }
