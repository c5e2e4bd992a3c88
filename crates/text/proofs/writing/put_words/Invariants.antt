use mathlib.Core.Path.{◌≡◌}
use Prim.Native.Nat.{◌+◌, ◌*◌}
use lib.ListN.{length, take}
use Rattle.rules.specs.Text.{hexes}
use Rattle.text.specs.Writing.{over}
use Rattle.text.proofs.writing.put_words.Given as goal

abbrev pub invariant-loop-n : goal.invariant-loop-n
invariant-loop-n l = (l.v ≡ l.w + 4 * l.n-index) × (length l.out ≡ length l.initial.out) × (l.out ≡ over l.initial.out l.w (hexes (take l.n-index l.ws)))
