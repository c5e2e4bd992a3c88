use Rattle.std.proofs.Common.{refl, arith, rules}
use Rattle.bare.proofs.Runs.{rows_start, rows-turn, rows_end}
use Rattle.bare.proofs.rows.bare_calls.Goals as goal

pub loop-i-init : goal.loop-i-init
loop-i-init c = record { long = refl; left = rows_start _ _ _ _ c.fresh-s.ensures.shows }

pub loop-i-preserved : goal.loop-i-preserved
loop-i-preserved c = record { long = search rules; left = rows-turn _ _ _ _ _ _ _ (omega arith) c.call-r.ensures c.write_row.ensures c.loop-i.invariant.left }

pub returns : goal.returns
returns c = record {
  made = search rules;
  left = rows_end _ _ _ _ _ (omega arith) c.loop-i.invariant.left;
}
