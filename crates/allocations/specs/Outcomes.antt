-- What a call on a state and a need did and said, beside what the rule's answer tells. Assumes nothing.
use Rattle.std.proofs.Math.Option.{Option}
use Rattle.std.specs.Prelude.{◌≡◌, true, ℕ}
use Rattle.rules.specs.Notation.{Answer, given, refused}
use Rattle.rules.specs.Sizes.{base}
use Rattle.rules.specs.Slots.{Placement, edition1}
use Rattle.rules.specs.Scopes.{Scopes}
use Rattle.rules.specs.Needs as rule
use Rattle.scopes.specs.View.{view}
use Rattle.scopes.specs.Steps.{Whole, is_refusal}
use Rattle.scopes.specs.declared.Scopes as state
use Rattle.needs.specs.Kinds.{need_of}
use Rattle.needs.specs.declared.Need.{Need}

pub record SeenBoth (A : Type 0) : Type 0 where
  pub next : Scopes
  pub need : rule.Need
  pub says : Answer A

-- the same of a rule's answer, in the state c with the need d; "All leave state and lent memory unchanged."
abbrev pub told_both : {A X : Type 0} → (X → SeenBoth A) → Scopes → rule.Need → Answer X → SeenBoth A
told_both f c d (given x) = f x
told_both f c d (refused n) = record { next = c; need = d; says = refused n }

-- a state with a need, as the rules see them, and an answer
abbrev pub seen_both : {A : Type 0} → state.Scopes × Need → Answer A → SeenBoth A
seen_both x a = record { next = view x.0; need = need_of x.1; says = a }

-- The state and the need x become y, with this answer; that is what `f` tells of the need and the state as the rules see them. A refusal leaves both.
pub record BothBecome {A : Type 0} (x y : state.Scopes × Need) (answer : Answer A) (f : rule.Need → Scopes → SeenBoth A) : Type 0 where
  pub is : seen_both y answer ≡ f (need_of x.1) (view x.0)
  pub whole : Whole y.0
  pub kept : is_refusal answer ≡ true → y ≡ x

abbrev pub allocated_slot : rule.Allocated → SeenBoth (Option ℕ)
allocated_slot x = record { next = x.scopes; need = x.need; says = given x.slot }

-- "as output: discard"
abbrev pub allocated_output : rule.Allocated → SeenBoth rule.Output
allocated_output x = record { next = x.scopes; need = x.need; says = given (rule.as_output x.slot) }

abbrev pub done_freeing : rule.Need × Scopes → SeenBoth (Unit {0})
done_freeing x = record { next = x.1; need = x.0; says = given tt }

-- ---- what each operation does and says

-- allocating a need, where its slot goes by this placement
abbrev pub allocation_by : Placement → rule.Need → Scopes → SeenBoth (Option ℕ)
allocation_by place d c = told_both allocated_slot c d (rule.allocate_need base place d c)

-- .. in edition 1
abbrev pub allocation : rule.Need → Scopes → SeenBoth (Option ℕ)
allocation d c = allocation_by (edition1 base.segments) d c

-- allocating a need "as output", by this placement
abbrev pub output_by : Placement → rule.Need → Scopes → SeenBoth rule.Output
output_by place d c = told_both allocated_output c d (rule.allocate_need base place d c)

-- .. in edition 1
abbrev pub output_allocation : rule.Need → Scopes → SeenBoth rule.Output
output_allocation d c = output_by (edition1 base.segments) d c

-- freeing a need
abbrev pub freeing_need : rule.Need → Scopes → SeenBoth (Unit {0})
freeing_need d c = told_both done_freeing c d (rule.free_need d c)
