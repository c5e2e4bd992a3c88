-- Document 01, "Scopes", linear n: "n ≥ 2 pushes n times, owner top, refused (7) exactly if g + n > 1,024." In Slots this is one test and the n slots
-- from g on (`push_run`). That these are n calls of `push` is stated here, and shown in crates/rules/proofs for any slots and any n. No rule and no
-- promise cites this file. Assumes nothing.
use Rattle.std.specs.Prelude.{◌≡◌, List, [], ◌∷◌, ℕ, zero, suc}
use Rattle.rules.specs.Notation.{Answer, given, ◌>>=◌, refuse◌unless◌}
use Rattle.rules.specs.Slots.{Slots, Placement, push, push_run}
use Rattle.rules.specs.AddressSets.{run}

-- "pushes n times": one call after another, each on the slots that the one before left; refused as soon as one of them is. Gives their addresses in
-- order, and the slots afterwards.
unfoldable pub push_times : ℕ → ℕ → Slots → Answer (List ℕ × Slots)
push_times m zero s = given ([], s)
push_times m (suc n) s = do
  p ← refuse 7 unless (push m s)
  r ← push_times m n p.next
  given (p.address ∷ r.0, r.1)

-- what a placement gives, told likewise: the n addresses from its first on
unfoldable pub addresses_by : Placement → ℕ → Slots → Answer (List ℕ × Slots)
addresses_by place n s = do
  p ← refuse 7 unless (place n s)
  given (run p.address n, p.next)

-- So the run is refused exactly where one of the calls is; else call i, from 0 on, gives the first address + i, and the last one leaves the run's slots.
unfoldable pub RunIsPushes : Type 0
RunIsPushes = (m n : ℕ) (s : Slots) → addresses_by (push_run m) n s ≡ push_times m n s
