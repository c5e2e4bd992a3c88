-- A slot of the top goes back. Assumes nothing.
use Rattle.std.proofs.Common.{refl, arith}
use Rattle.scopes.specs.View.{list_of}
use Rattle.scopes.proofs.Finds.{Topped, topped}
use Rattle.scopes.proofs.Frees.{on, gives_back, gives-quietly}
use Rattle.scopes.proofs.Scopes.release.Goals as goal

pub returns-then-dangles : goal.returns-then-dangles
returns-then-dangles c =
    let s = c.args.self.now in
    let h = c.requires.0 in
    let o = c.requires.1 in
    let t : Topped s = topped s h.sound (λ e. omega (arith, o.1)) in
    gives_back s h.sound h.sized c.args.a s.top o.0 o.1 o.2 c.vacate.new.halves c.vacate.ensures.halves_after c.place.new.t
    (c.place.ensures.placed (list_of s.links) h.sound.ringed.rings) c.vacate.ensures.halves_len c.place.ensures.long _ c.if-dangles.true refl t

pub returns : goal.returns
returns c =
    let s = c.args.self.now in
    let h = c.requires.0 in
    let o = c.requires.1 in
    let t : Topped s = topped s h.sound (λ e. omega (arith, o.1)) in
    gives-quietly s h.sound h.sized c.args.a s.top o.0 o.1 o.2 c.vacate.new.halves c.vacate.ensures.halves_after c.unlink.new.t
    (c.unlink.ensures.unlinked (list_of s.links) h.sound.ringed.rings (on s h.sound h.sized c.args.a s.top o.0 o.1 o.2)) c.vacate.ensures.halves_len c.unlink.ensures.long _ c.if-dangles.false refl t
