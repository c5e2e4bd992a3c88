-- `links::unlink` meets its contract: its four stores are those of Unlinks. Assumes nothing.
use mathlib.Core.List.{List}
use Prim.Native.Nat.{ℕ, ◌<◌}
use native.Mathlib.Omega.{arith}
use Rattle.rules.specs.Sizes.{CELLS, LISTS, SLOTS}
use Rattle.links.specs.Links.{next_in, prev_in, Held, On}
use Rattle.links.proofs.Rings.{placed}
use Rattle.links.proofs.Cells.{held-stored}
use Rattle.links.proofs.Unlinks.{unlinked}
use borrow.Author.Rules.{rules}
use Rattle.links.proofs.unlink.Goals as goal

-- what stands before a and after it on its list are cells
near-below : (t : List ℕ) (a : ℕ) (xs : ℕ → List ℕ) → Held SLOTS LISTS t xs → On LISTS xs a → (prev_in CELLS t a < CELLS) × (next_in t a < CELLS)
near-below t a xs h on = let k = placed SLOTS LISTS (next_in t) (prev_in CELLS t) xs h on.0 a on.1 on.2 in (k.left.0.0, k.right.0.0)

pub bounds-t-from : goal.bounds-t-from
bounds-t-from c = let r = c.requires.held in omega (arith, c.from.ensures, near-below c.args.t.now c.args.a r.0 r.1 r.2)

pub bounds-t-from-2 : goal.bounds-t-from-2
bounds-t-from-2 c = let r = c.requires.held in omega (arith, c.from-2.ensures, near-below c.args.t.now c.args.a r.0 r.1 r.2)

pub returns-clause-unlinked : goal.returns-clause-unlinked
returns-clause-unlinked c xs h on =
    let t = c.args.t.now in
    let a = c.args.a in
    let near = near-below t a xs h on in
    rw (c.from.ensures, c.from-2.ensures) (
    held-stored SLOTS LISTS t _ (prev_in CELLS t a) (next_in t a) a 65535 (next_in t a) (prev_in CELLS t a) a 65535
    (search rules) near.0 (omega arith) near.1 (omega arith)
    (unlinked SLOTS LISTS (next_in t) (prev_in CELLS t) xs h (omega arith) on.0 a on.1 on.2))
