-- A name is looked for in a scope, then in its parent: `left` falls. Assumes nothing.
use Rattle.std.proofs.Common.{◌≡◌, ℕ, suc, ◌-◌, get_or, sym, subst, arith}
use Rattle.std.specs.Prelude as code
use Rattle.scopes.specs.Leaves.{Nearest, place_in}
use Rattle.scopes.proofs.Lookups.{place-some, climb-zero, climb-none, climb-dead, climb-here, climb-up}
use Rattle.scopes.proofs.Scopes.+climb.Goals as goal
use Rattle.scopes.proofs.Scopes.+climb.Goals.{then-i-ge-SCOPES-via-then-i-ge-SCOPES, then-i-ge-SCOPES-via-else-i-ge-SCOPES+then-not-self-i, then-i-ge-SCOPES-via-else-i-ge-SCOPES+else-not-self-i+then-left-eq0}

pub returns-then-i-ge-SCOPES : goal.returns-then-i-ge-SCOPES
returns-then-i-ge-SCOPES t c name h = elim c.then-i-ge-SCOPES.branch [
  | then-i-ge-SCOPES-via-then-i-ge-SCOPES w ↦ climb-none c.args.self.now name c.args.i _ w.if-i-ge-SCOPES.true
  | then-i-ge-SCOPES-via-else-i-ge-SCOPES+then-not-self-i w ↦ climb-dead c.args.self.now name c.args.i _ w.if-i-ge-SCOPES.false w.if-not-self-i.true
  | then-i-ge-SCOPES-via-else-i-ge-SCOPES+else-not-self-i+then-left-eq0 w ↦ rw w.if-left-eq0.true (climb-zero c.args.self.now name c.args.i)
]

pub returns-then-j-lt-NO_PLACE : goal.returns-then-j-lt-NO_PLACE
returns-then-j-lt-NO_PLACE t c name h =
    let s = c.args.self.now in
    let i = c.args.i in
    let more : c.args.left ≡ suc (c.args.left - 1) = omega (arith, c.if-left-eq0.false) in
    let spot = h i c.if-i-ge-SCOPES.false in
    rw (place-some _ c.if-j-lt-NO_PLACE.true) (subst (λ (n : ℕ). Nearest s name i n (code.Some (get_or c.args.places.now i 0))) (sym more)
    (climb-here s name i _ c.if-i-ge-SCOPES.false c.if-not-self-i.false _ (spot.there c.if-j-lt-NO_PLACE.true)))

pub returns : goal.returns
returns t c name h =
    let s = c.args.self.now in
    let i = c.args.i in
    let more : c.args.left ≡ suc (c.args.left - 1) = omega (arith, c.if-left-eq0.false) in
    let spot = h i c.if-i-ge-SCOPES.false in
    subst (λ (n : ℕ). Nearest s name i n (place_in c.climb.result)) (sym more)
    (climb-up s name i _ c.if-i-ge-SCOPES.false c.if-not-self-i.false (spot.missing c.if-j-lt-NO_PLACE.false) _ c.from.ensures _ (c.climb.ensures name h))
