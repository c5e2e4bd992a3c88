use mathlib.Core.Path.{ap}
use mathlib.Core.List.{List, ◌++◌}
use Prim.Native.Nat.{ℕ}
use lib.ListN.{drop}
use native.Mathlib.Omega.{arith}
use Rattle.allocator.proofs.Entered.{gives}
use Rattle.allocator.proofs.Drained.{short, handed}
use Rattle.allocator.proofs.drain.drain.Goals as goal

pub returns-then-out-n : goal.returns-then-out-n
returns-then-out-n c =
    let a = c.args in
    gives c.is_sound.ensures.tells_2 c.if-not-is_sound.false (short a.s a.out.now _ c.drain-n.result c.drain-n.ensures.drains.first (omega arith) (omega (arith, c.if-out-n.true)), c.is_sound.ensures.tells.holds c.if-not-is_sound.false)

pub returns : goal.returns
returns c =
    let a = c.args in
    let d = c.drain-n.ensures.drains in
    gives c.is_sound.ensures.tells_2 c.if-not-is_sound.false (
      handed a.s a.out.now _ c.drain-n.result d.first (omega arith) c.drain-n.new.self _ (omega arith) d.next
          (ap (λ (x : List ℕ). x ++ drop c.drain-n.result a.out.now) c.copy_from_slice.ensures.after),
      d.whole.sound,
    )
