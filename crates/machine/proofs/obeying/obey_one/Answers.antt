-- `obey_one` meets its contract. Assumes nothing.
use mathlib.Core.Path.{refl, ap, ◌∙◌}
use Prim.Native.Nat.{ℕ, ◌+◌, ◌*◌, ◌/◌, ◌%◌}
use native.Mathlib.Omega.{arith}
use lib.ListN.{set}
use Rattle.machine.specs.Work.{cell_at}
use Rattle.machine.specs.declared.entries.Entry.TheVariants.{Skip, Store, Sample}
use Rattle.machine.proofs.Doing.{reached, roomed, quiet, loaded}
use Rattle.machine.proofs.obeying.obey_one.Goals as goal

pub store-requires : goal.store-requires
store-requires c = let h = reached _ c.in-Store.is c.requires.reach in omega (arith, h, c.from.ensures)

pub load-v-requires : goal.load-v-requires
load-v-requires c = let h = reached _ c.in-Load.is c.requires.reach in omega (arith, h, c.from-in-Load.ensures)

pub put_line-requires : goal.put_line-requires
put_line-requires c = let h = roomed _ _ c.in-Load.is c.requires.x_in_bounds in omega (arith, h)

pub returns-in-Skip : goal.returns-in-Skip
returns-in-Skip c =
    let told = quiet Skip c.args.cells.now c.args.out.now _ c.in-Skip.is refl refl _ refl in
    record {
      next = told.0;
      stored = told.1.0;
      printed = told.1.1;
    }

pub returns-in-Store : goal.returns-in-Store
returns-in-Store c =
    let told = quiet (Store _ _) c.args.cells.now c.args.out.now _ c.in-Store.is refl refl _ (c.store.ensures ∙ ap (λ (a : ℕ). set (set c.args.cells.now (2 * a) (c.in-Store.v / 256)) (2 * a + 1) (c.in-Store.v % 256)) c.from.ensures) in
    record {
      next = told.0;
      stored = told.1.0;
      printed = told.1.1;
    }

pub returns-in-Sample : goal.returns-in-Sample
returns-in-Sample c =
    let told = quiet (Sample _) c.args.cells.now c.args.out.now _ c.in-Sample.is refl refl _ refl in
    record {
      next = told.0;
      stored = told.1.0;
      printed = told.1.1;
    }

pub returns-in-Load : goal.returns-in-Load
returns-in-Load c =
    let told = loaded _ _ c.args.cells.now c.args.out.now _ _ _ c.in-Load.is (c.load-v.ensures ∙ ap (cell_at c.args.cells.now) c.from-in-Load.ensures) c.put_line.ensures.value c.put_line.ensures.out_after in
    record {
      next = told.0;
      stored = told.1.0;
      printed = told.1.1;
    }
