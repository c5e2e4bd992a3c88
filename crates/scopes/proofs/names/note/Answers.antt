-- The places of some bindings are noted, the last first. Assumes nothing.
use Rattle.std.proofs.Common.{◌≡◌, ℕ, ◌+◌, ◌-◌, ◌<◌, sym, refl, ◌∙◌, arith, length-set}
use Rattle.scopes.proofs.Notes.{noted-name, noted-over, noted_here}
use Rattle.scopes.proofs.names.note.Goals as goal
use Rattle.scopes.proofs.names.note.Goals.{else-b-key-via-then-b-key+else-i-lt-SCOPES, else-b-key-via-else-b-key}

again : (j : ℕ) → 0 < j → j ≡ (j - 1) + 1
again j h = omega arith

pub loop-j-preserved-then-i-lt-SCOPES : goal.loop-j-preserved-then-i-lt-SCOPES
loop-j-preserved-then-i-lt-SCOPES c =
    let l = c.loop-j in
    let t = c.loop-j-test.true in
    (omega (arith, t), length-set l.places _ _ ∙ l.invariant.1, λ count a h n. noted_here c.args.bindings.now c.args.name count h (l.j - 1) (omega arith) l.places (rw (again l.j (omega (arith, t))) at (l.invariant.2 count a h n)) l.invariant.1 (c.if-b-key.true ∙ c.from-key.ensures) _ refl c.if-i-lt-SCOPES.true)

pub loop-j-preserved : goal.loop-j-preserved
loop-j-preserved c =
    let l = c.loop-j in
    let t = c.loop-j-test.true in (
      omega (arith, t),
      l.invariant.1,
      λ count a h n.
          let m = rw (again l.j (omega (arith, t))) at (l.invariant.2 count a h n) in
          elim c.else-b-key.branch [
            | else-b-key-via-then-b-key+else-i-lt-SCOPES w ↦ noted-over c.args.bindings.now c.args.name count h (l.j - 1) (omega arith) l.places m (omega (arith, w.if-i-lt-SCOPES.false))
            | else-b-key-via-else-b-key w ↦ noted-name c.args.bindings.now c.args.name count h (l.j - 1) (omega arith) l.places m (λ e. w.if-b-key.false (e ∙ sym c.from-key.ensures))
          ],
    )

pub returns : goal.returns
returns c = let l = c.loop-j in let e : l.j ≡ c.args.from = omega (arith, l.invariant.0, c.loop-j-test.false) in (l.invariant.1, λ count a h n. rw e at (l.invariant.2 count a h n))
