use mathlib.Core.Path.{sym, ◌∙◌}
use borrow.Author.Rules.{rules}
use Rattle.slots.proofs.Steps.{checked-yes, checked-no}
use Rattle.slots.proofs.Unique.{wide_of}
use Rattle.slots.proofs.entries.push.Goals as goal

pub push_sound-requires : goal.push_sound-requires
push_sound-requires c = sym c.if-is_sound.ensures

pub returns-then-is_sound : goal.returns-then-is_sound
returns-then-is_sound c = record {
  shows = c.push_sound.ensures ∙ checked-yes _ _ _ c.if-is_sound.ensures;
  typed = record { long = search rules; wide = λ i. wide_of (search rules) };
}

pub returns-else-is_sound : goal.returns-else-is_sound
returns-else-is_sound c = record {
  shows = checked-no _ _ _ c.if-is_sound.ensures;
  typed = record { long = search rules; wide = λ i. wide_of (search rules) };
}
