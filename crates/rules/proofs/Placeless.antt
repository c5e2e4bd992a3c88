-- A frame that asks for no slot does the same by any placement. Assumes nothing.
use mathlib.Core.Path.{◌≡◌, refl}
use mathlib.Core.Bool.{Bool, true, false}
use Rattle.rules.specs.Sizes.{Room}
use Rattle.rules.specs.Slots.{Placement}
use Rattle.rules.specs.Frames.{Frame, child, pop, dangle, restore, pop_last, alloc, alloc_in, linear, define, get, take_from, free, free_quietly, forget, drain, write, read, read_name, new_defer, new_assigned, new_ignore, alloc_need, output_need, drop_need, State, step}
use Rattle.rules.proofs.Tells.{clash}

-- all but 06, 07, 08 and 23
abbrev pub asks_no_slot : Frame → Bool
asks_no_slot child = true
asks_no_slot (pop n) = true
asks_no_slot (dangle n) = true
asks_no_slot (restore n) = true
asks_no_slot pop_last = true
asks_no_slot alloc = false
asks_no_slot (alloc_in n) = false
asks_no_slot (linear n) = false
asks_no_slot (define name h) = true
asks_no_slot (get name) = true
asks_no_slot (take_from name) = true
asks_no_slot (free h) = true
asks_no_slot (free_quietly h) = true
asks_no_slot (forget h) = true
asks_no_slot drain = true
asks_no_slot (write h x) = true
asks_no_slot (read h) = true
asks_no_slot (read_name name) = true
asks_no_slot (new_defer n) = true
asks_no_slot (new_assigned h) = true
asks_no_slot new_ignore = true
asks_no_slot (alloc_need n) = false
asks_no_slot (output_need n) = true
asks_no_slot (drop_need n) = true

pub any_place : (room : Room) (p q : Placement) (s : State) (f : Frame) → asks_no_slot f ≡ true → step room p s f ≡ step room q s f
unfolding step
any_place room p q s child e = refl
any_place room p q s (pop n) e = refl
any_place room p q s (dangle n) e = refl
any_place room p q s (restore n) e = refl
any_place room p q s pop_last e = refl
any_place room p q s alloc e = clash e refl
any_place room p q s (alloc_in n) e = clash e refl
any_place room p q s (linear n) e = clash e refl
any_place room p q s (define name h) e = refl
any_place room p q s (get name) e = refl
any_place room p q s (take_from name) e = refl
any_place room p q s (free h) e = refl
any_place room p q s (free_quietly h) e = refl
any_place room p q s (forget h) e = refl
any_place room p q s drain e = refl
any_place room p q s (write h x) e = refl
any_place room p q s (read h) e = refl
any_place room p q s (read_name name) e = refl
any_place room p q s (new_defer n) e = refl
any_place room p q s (new_assigned h) e = refl
any_place room p q s new_ignore e = refl
any_place room p q s (alloc_need n) e = clash e refl
any_place room p q s (output_need n) e = refl
any_place room p q s (drop_need n) e = refl
