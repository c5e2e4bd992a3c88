-- What draining into lent numbers leaves: the state, the answer, and the numbers. Assumes nothing.
use Rattle.std.specs.Prelude.{◌≡◌, List, ℕ, length, leb}
use Rattle.rules.specs.Notation.{Answer, given, refused, provided◌then◌else◌}
use Rattle.rules.specs.Entries.{over_front}
use Rattle.rules.specs.Refusals.{says}
use Rattle.rules.specs.Scopes as rule
use Rattle.scopes.specs.View.{view}
use Rattle.scopes.specs.Sound.{Sound}
use Rattle.scopes.specs.declared.Scopes.{Scopes}
use Rattle.allocator.specs.Entries.{Checked, unsound}
use Rattle.allocator.specs.declared.Outcome.{Outcome}

-- the next state, what is answered, and the lent numbers afterwards
pub record SeenDrain : Type 0 where
  pub next : rule.Scopes
  pub says : Answer ℕ
  pub lent : List ℕ

-- "answers the dangling list in order and empties it"; 17: "lent memory too short for the answer"
unfoldable pub drained : rule.Scopes → List ℕ → SeenDrain
drained c lent =
    provided (leb (length (rule.drain_dangling c).0) (length lent))
    then record { next = (rule.drain_dangling c).1; says = given (length (rule.drain_dangling c).0); lent = over_front (rule.drain_dangling c).0 lent }
    else record { next = c; says = refused 17; lent = lent }

abbrev pub seen_drain : Outcome ℕ × List ℕ → SeenDrain
seen_drain x = record { next = view x.0.state; says = says (λ n. n) x.0.answer; lent = x.1 }

abbrev pub DrainCall : Scopes → List ℕ → SeenDrain → Outcome ℕ × List ℕ → Type 0
DrainCall s lent x r = Checked s (unsound s, lent) (λ o. (seen_drain o ≡ x) × Sound o.0.state) r
