use mathlib.Core.Path.{◌≡◌, sym, ap, ◌∙◌}
use Prim.Native.Nat.{ℕ, ◌-◌}
use native.Mathlib.Omega.{arith}
use Rattle.std.proofs.lemmas.Result.{err_from_is_err_and}
use Rattle.rules.specs.Needs as need
use Rattle.scopes.specs.View.{view, told_only}
use Rattle.allocations.specs.Inner.{down_from, back_each}
use Rattle.allocations.proofs.Goes.{stays, was-done, was-refused, has-become}
use Rattle.allocations.proofs.Rounds.{down-none, turn-done, turn-refused, far-refused}
use Rattle.allocations.proofs.linear.give_back_run.Goals as goal

pub returns-then-end-gt-ADDRESSES : goal.returns-then-end-gt-ADDRESSES
returns-then-end-gt-ADDRESSES c =
    stays c.requires (ap (told_only (view c.args.s.now)) (far-refused c.requires c.args.dangles c.args.first.0 c.args.count (omega arith) (omega arith)))

pub loop-a-init : goal.loop-a-init
loop-a-init c =
    let n : c.from-from.result ≡ c.args.first.0 = c.from-from.ensures in
    (omega arith, c.requires, ap (λ (i : ℕ). back_each c.args.dangles (down_from c.args.first.0 i) (view c.args.s.now)) (omega arith))

pub give_back-requires : goal.give_back-requires
give_back-requires c = c.loop-a.invariant.1

pub returns-in_err-give_back : goal.returns-in_err-give_back
returns-in_err-give_back c =
    let p = err_from_is_err_and c.from_residual.result c.from_residual.ensures.1 in
    let a = c.args.first.0 in
    let g = was-refused (need.give_back c.args.dangles (c.loop-a.a - 1)) _ c.in_err-give_back.ensures in
    rw (p.1, p.2)
    (stays c.requires
    (ap (told_only (view c.args.s.now))
    (sym c.loop-a.invariant.2 ∙ turn-refused c.args.dangles a (c.loop-a.a - a) (c.loop-a.a - a - 1) (c.loop-a.a - 1) _ (view c.loop-a.t) (omega arith) (omega arith) g)))

pub loop-a-preserved : goal.loop-a-preserved
loop-a-preserved c =
    let a = c.args.first.0 in
    let e : c.loop-a.a - 1 - a ≡ c.loop-a.a - a - 1 = omega arith in
    let g = was-done (need.give_back c.args.dangles (c.loop-a.a - 1)) c.in_ok-give_back.ensures in (
      omega arith,
      c.in_ok-give_back.ensures.whole,
      ap (λ (i : ℕ). back_each c.args.dangles (down_from a i) (view c.give_back.new.self)) e
          ∙ turn-done c.args.dangles a (c.loop-a.a - a) (c.loop-a.a - a - 1) (c.loop-a.a - 1) (view c.loop-a.t) _ (omega arith) (omega arith) g
          ∙ c.loop-a.invariant.2,
    )

pub returns : goal.returns
returns c =
    let a = c.args.first.0 in
    has-become (λ d. back_each c.args.dangles (down_from a c.args.count) d) c.loop-a.invariant.1
    (sym c.loop-a.invariant.2 ∙ down-none c.args.dangles a (c.loop-a.a - a) (view c.loop-a.t) (omega arith))
