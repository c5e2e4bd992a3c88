use mathlib.Core.Path.{sym, ◌∙◌}
use borrow.Author.Rules.{rules}
use Rattle.slots.proofs.Steps.{checked-yes, checked-no}
use Rattle.slots.proofs.Unique.{wide_of}
use Rattle.slots.proofs.entries.remove.Goals as goal

pub remove_sound-requires : goal.remove_sound-requires
remove_sound-requires c = sym c.if-is_sound.ensures

pub returns-then-is_sound : goal.returns-then-is_sound
returns-then-is_sound c = record {
  shows = (rw c.from.ensures at c.remove_sound.ensures) ∙ checked-yes _ _ _ c.if-is_sound.ensures;
  typed = record { long = search rules; wide = λ i. wide_of (search rules) };
}

pub returns-else-is_sound : goal.returns-else-is_sound
returns-else-is_sound c = record {
  shows = checked-no _ _ _ c.if-is_sound.ensures;
  typed = record { long = search rules; wide = λ i. wide_of (search rules) };
}
