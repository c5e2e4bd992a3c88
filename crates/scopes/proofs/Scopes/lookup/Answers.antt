-- Where each scope binds a name, by one walk over the bindings, eight at a time; then the climb. Assumes nothing.
use Rattle.std.proofs.Common.{◌≡◌, ℕ, ◌+◌, ◌*◌, ◌/◌, ◌-◌, ◌<◌, refl, arith}
use Rattle.scopes.proofs.Notes.{noted-none, noted-skip, noted-all}
use Rattle.scopes.proofs.Scopes.lookup.Goals as goal
use Rattle.scopes.proofs.Scopes.lookup.Goals.{then-named, else-named}

-- eight more, from the end on
module _ (count e : ℕ) (l : e < count / 8) where
  eight : count - 8 * e ≡ count - 8 * e - 8 + 8
  eight = omega arith

  next : count - 8 * (e + 1) ≡ count - 8 * e - 8
  next = omega arith

pub loop-e-init : goal.loop-e-init
loop-e-init c =
    let count = c.args.self.now.count in
    let z : count - 8 * 0 ≡ count = omega arith in
    (refl, rw z (noted-none c.args.self.now.bindings c.args.name count c.requires.sound.named.most))

pub loop-e-preserved : goal.loop-e-preserved
loop-e-preserved c =
    let l = c.loop-e in
    let count = c.args.self.now.count in
    let most = c.requires.sound.named.most in
    let t = c.loop-e-test.true in
    let h = rw (eight count l.e t) at l.invariant.1 in
    rw (next count l.e t) (elim c.if-named.branch [
      | then-named w ↦ let n = w.note.ensures in rw w.places-is (n.0, n.1 count (omega (arith, t)) most h)
      | else-named w ↦ rw w.places-is (l.invariant.0, noted-skip c.args.self.now.bindings c.args.name count most (count - 8 * l.e - 8) (count - 8 * l.e - 8 + 8) l.places (omega arith) (λ i j a. c.named.ensures w.if-named.false i j) h)
    ])

pub returns : goal.returns
returns c =
    let l = c.loop-e in
    let count = c.args.self.now.count in
    let most = c.requires.sound.named.most in
    let z : l.e ≡ count / 8 = omega (arith, c.loop-e-test.false, l.auto.e-end) in
    rw c.noted_place.ensures (c.climb.ensures c.args.name
    (noted-all c.args.self.now.bindings c.args.name count most c.requires.sized.bindings c.note-2.new.places (c.note-2.ensures.1 count (omega arith) most (rw z at l.invariant.1))))
