-- `is_sound` meets its contract. Assumes nothing.
use borrow.Author.Rules.{rules}
use native.Mathlib.Omega.{arith}
use Rattle.rules.specs.Tells.{Tells}
use Rattle.soundness.proofs.Tested.{fails-with}
use Rattle.soundness.proofs.Places.{slots-tells}
use Rattle.soundness.proofs.Agrees.{Unnamed, unnamed-of, sound-with, tells_both}
use Rattle.soundness.proofs.is_sound.Goals as goal

pub returns-else-rooted : goal.returns-else-rooted
returns-else-rooted c =
    let s = c.args.s in
    let slotted = slots-tells s.halves s.segments s.head c.are_sound.result c.are_sound.ensures in
    let unnamed : Tells c.if-owned.value (Unnamed s) = grind arith in
    let sound = fails-with unnamed c.if-rooted.false (unnamed-of s) in
    record { tells = sound; tells_2 = tells_both s (search rules) (search rules) c.if-owned.value sound }

pub returns-then-rooted : goal.returns-then-rooted
returns-then-rooted c =
    let s = c.args.s in
    let slotted = slots-tells s.halves s.segments s.head c.are_sound.result c.are_sound.ensures in
    let unnamed : Tells c.if-owned.value (Unnamed s) = grind arith in
    let sound = sound-with s (unnamed.holds c.if-rooted.true) c.named.result c.named.ensures in
    record { tells = sound; tells_2 = tells_both s (search rules) (search rules) c.named.result sound }
