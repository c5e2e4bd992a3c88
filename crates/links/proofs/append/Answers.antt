-- `links::append` meets its contract: its four stores are those of Appends. Assumes nothing.
use mathlib.Core.List.{List}
use Prim.Native.Nat.{ℕ, ◌+◌, ◌<◌}
use native.Mathlib.Omega.{arith}
use Rattle.rules.specs.Sizes.{CELLS, LISTS, SLOTS}
use Rattle.links.specs.Links.{next_in, prev_in, Held, Off}
use Rattle.links.proofs.Rings.{end_of}
use Rattle.links.proofs.Cells.{held-stored}
use Rattle.links.proofs.Appends.{appended}
use borrow.Author.Rules.{rules}
use Rattle.links.proofs.append.Goals as goal

-- the last address of list i, or its end, is a cell
last-below : (t : List ℕ) (i a : ℕ) → i < LISTS → a < SLOTS → (xs : ℕ → List ℕ) → Held SLOTS LISTS t xs → Off LISTS xs a → prev_in CELLS t (SLOTS + i) < CELLS
last-below t i a hi ha xs h off = (end_of SLOTS LISTS (next_in t) (prev_in CELLS t) (SLOTS + i) a (xs i) ha (omega arith) (omega arith) (h.ring i hi) (off i hi)).0.0

pub bounds-t-from : goal.bounds-t-from
bounds-t-from c =
    let r = c.requires in
    omega (arith, c.from.ensures, last-below c.args.t.now c.args.i c.args.a r.bounds.0 r.bounds.1 r.held.0 r.held.1 r.held.2)

pub returns-clause-appended : goal.returns-clause-appended
returns-clause-appended c xs h off =
    let t = c.args.t.now in
    let i = c.args.i in
    let a = c.args.a in
    let r = c.requires.bounds in
    rw c.from.ensures (
    held-stored SLOTS LISTS t _ (prev_in CELLS t (SLOTS + i)) a a (SLOTS + i) a (prev_in CELLS t (SLOTS + i)) (SLOTS + i) a
    (search rules) (last-below t i a r.0 r.1 xs h off) (omega arith) (omega arith) (omega arith)
    (appended SLOTS LISTS (next_in t) (prev_in CELLS t) xs h (omega arith) i a r.0 r.1 off))
