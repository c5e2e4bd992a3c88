-- "The list has one line a frame": a step that is given gives one line, wherever slots go. Assumes nothing.
use mathlib.Core.Path.{◌≡◌, refl}
use Prim.Native.Nat.{zero, suc}
use lib.ListN.{length}
use Rattle.rules.specs.Sizes.{Room}
use Rattle.rules.specs.Slots.{Placement}
use Rattle.rules.specs.Scopes.{drain_dangling}
use Rattle.rules.specs.Frames.{Frame, child, pop, dangle, restore, pop_last, alloc, alloc_in, linear, define, get, take_from, free, free_quietly, forget, drain, write, read, read_name, new_defer, new_assigned, new_ignore, alloc_need, output_need, drop_need, State, step}
use Rattle.rules.proofs.Chains.{All, all-given, all_then, all-when, all-unless}

pub one_line_lem : (room : Room) (place : Placement) (s : State) (f : Frame) → All (λ r. length r.0 ≡ 1) (step room place s f)
unfolding step drain_dangling
one_line_lem room place s child = all_then λ _ _. all-given refl
one_line_lem room place s (pop n) = all_then λ _ _. all-given refl
one_line_lem room place s (dangle n) = all_then λ _ _. all-given refl
one_line_lem room place s (restore n) = all_then λ _ _. all-given refl
one_line_lem room place s pop_last = all_then λ _ _. all-given refl
one_line_lem room place s alloc = all-unless 3 λ _ _. all_then λ _ _. all-given refl
one_line_lem room place s (alloc_in n) = all-unless 4 λ _ _. all_then λ _ _. all-given refl
one_line_lem room place s (linear zero) = all-unless 3 λ _ _. all-given refl
one_line_lem room place s (linear (suc n)) = all-unless 3 λ _ _. all_then λ _ _. all-given refl
one_line_lem room place s (define name h) = all-unless 3 λ _ _. all-when 13 _ λ _. all_then λ _ _. all-given refl
one_line_lem room place s (get name) = all_then λ _ _. all-given refl
one_line_lem room place s (take_from name) = all_then λ _ _. all-given refl
one_line_lem room place s (free h) = all_then λ _ _. all-given refl
one_line_lem room place s (free_quietly h) = all_then λ _ _. all-given refl
one_line_lem room place s (forget h) = all-when 13 _ λ _. all-given refl
one_line_lem room place s drain = all-given refl
one_line_lem room place s (write h x) = all-when 13 _ λ _. all-when 14 _ λ _. all-given refl
one_line_lem room place s (read h) = all-when 13 _ λ _. all-when 14 _ λ _. all-when 15 _ λ _. all-given refl
one_line_lem room place s (read_name name) = all_then λ _ _. all-when 14 _ λ _. all-when 15 _ λ _. all-given refl
one_line_lem room place s (new_defer n) = all-unless 4 λ _ _. all_then λ _ _. all-given refl
one_line_lem room place s (new_assigned h) = all-when 13 _ λ _. all_then λ _ _. all-given refl
one_line_lem room place s new_ignore = all_then λ _ _. all-given refl
one_line_lem room place s (alloc_need n) = all-when 21 _ λ _. all_then λ _ _. all-given refl
one_line_lem room place s (output_need n) = all-when 21 _ λ _. all_then λ _ _. all-given refl
one_line_lem room place s (drop_need n) = all-when 21 _ λ _. all_then λ _ _. all-given refl
