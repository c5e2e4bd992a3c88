-- Kinds, addresses, runs and needs as the rules see them. Assumes nothing.
use Rattle.std.specs.Prelude.{◌≡◌, List, map, ℕ}
use Rattle.rules.specs.AddressSets.{run}
use Rattle.rules.specs.Needs as rule
use Rattle.scopes.specs.View.{id_of}
use Rattle.needs.specs.declared.AddressKind.{AddressKind}
use Rattle.needs.specs.declared.AddressKind.TheVariants as kind
use Rattle.needs.specs.declared.Address.{Address}
use Rattle.needs.specs.declared.Run.{Run}
use Rattle.needs.specs.declared.Need.{Need}
use Rattle.needs.specs.declared.Need.TheVariants as need

abbrev pub kind_of : AddressKind → rule.Kind
kind_of kind.Local = rule.local
kind_of kind.Dangling = rule.dangling
kind_of kind.Assigned = rule.assigned
kind_of kind.Freed = rule.freed
kind_of (kind.Scope id) = rule.scope (id_of id)

abbrev pub address_of : Address → rule.Address
address_of a = rule.address a.slot.0 (kind_of a.kind)

-- n addresses from a on, all of kind k
abbrev pub addresses : rule.Kind → ℕ → ℕ → List rule.Address
addresses k a n = map (λ b. rule.address b k) (run a n)

-- The addresses of a run are numbers: those past 65,535 are addresses that no scope owns.
abbrev pub run_of : Run → List rule.Address
run_of r = addresses (kind_of r.kind) r.first.0 r.count

-- the empty run that we hand out
abbrev pub empty_run : Run
empty_run = record { first = record { 0 = 0 }; count = 0; kind = kind.Freed }

-- a run that is empty is that one
abbrev pub Plain : Run → Type 0
Plain r = r.count ≡ 0 → r ≡ empty_run

abbrev pub need_of : Need → rule.Need
need_of (need.Defer id) = rule.defer (id_of id)
need_of (need.Address a) = rule.at (address_of a)
need_of need.Ignore = rule.ignore
need_of need.Freed = rule.freed_need
