use Rattle.std.proofs.lemmas.Result.{err_from_is_err_and}
use Rattle.rules.specs.AddressSets.{run}
use Rattle.rules.specs.Scopes.{alloc_run}
use Rattle.rules.specs.Needs as need
use Rattle.slots.specs.Spots.{placement_of}
use Rattle.allocations.proofs.Goes.{goes-on}
use Rattle.allocations.proofs.FirstGiven.{no-first}
use Rattle.allocations.proofs.linear.linear.Goals as goal

pub returns-in_err-first-clause-becomes : goal.returns-in_err-first-clause-becomes
unfolding need.alloc_addresses
returns-in_err-first-clause-becomes c =
    let p = err_from_is_err_and c.from_residual.result c.from_residual.ensures.1 in
    rw (p.1, p.2) (goes-on (alloc_run (placement_of c.args.place) c.args.n) (need.run_from c.args.n) _ c.in_err-first.ensures)

pub returns-in-Some-clause-becomes : goal.returns-in-Some-clause-becomes
unfolding need.alloc_addresses
returns-in-Some-clause-becomes c =
    rw c.run_kind.ensures.1 (goes-on (alloc_run (placement_of c.args.place) c.args.n) (need.run_from c.args.n) _ (rw c.in-Some.is at c.in_ok-first.ensures))

pub returns-in-Some-clause-plain : goal.returns-in-Some-clause-plain
returns-in-Some-clause-plain c = λ z. absurd (no-first (placement_of c.args.place) c.args.n _ (rw c.in-Some.is at c.in_ok-first.ensures) z)

pub returns-in-None-clause-becomes : goal.returns-in-None-clause-becomes
unfolding need.alloc_addresses run
returns-in-None-clause-becomes c =
    rw c.empty.ensures (goes-on (alloc_run (placement_of c.args.place) c.args.n) (need.run_from c.args.n) _ (rw c.in-None.is at c.in_ok-first.ensures))
