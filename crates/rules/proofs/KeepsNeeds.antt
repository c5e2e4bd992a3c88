-- The library calls over addresses and needs keep soundness, for every fair placement in a room whose size holds its slots; and a fresh
-- state is sound. Assumes nothing.
use mathlib.Core.Path.{◌≡◌, refl}
use mathlib.Core.Bool.{Bool, true, false}
use mathlib.Core.Option.{none}
use mathlib.Core.List.{List, [], ◌∷◌, reverse}
use Prim.Native.Nat.{ℕ, zero, suc, ◌*◌, ◌≤◌, ◌<◌}
use native.Mathlib.Omega.{arith}
use Rattle.rules.specs.Notation.{is_some}
use Rattle.rules.specs.Sizes.{Room}
use Rattle.rules.specs.Slots.{Placement, fresh_slots}
use Rattle.rules.specs.AddressSets.{member}
use Rattle.rules.specs.Scopes.{Id, Scopes, new_scope, fresh_scopes, by_id}
use Rattle.rules.specs.Needs.{Address, alloc_address, alloc_address_in, alloc_addresses, free_address, free_each, free_run, Need, defer, at, ignore, freed_need, allocate_need, free_need}
use Rattle.rules.specs.Demand3.{Fair}
use Rattle.rules.proofs.Chains.{All, all-given, all_then, all-when, all-if}
use Rattle.rules.proofs.Sets.{Once, once-nil, within-nil}
use Rattle.rules.proofs.Sound.{every-nil, lists_of, SlotsSound, LeadsToRoot, root, binds-nil, Sound}
use Rattle.rules.proofs.Tells.{clash}
use Rattle.rules.proofs.Naming.{id-here}
use Rattle.rules.proofs.Parents.{top-some}
use Rattle.rules.proofs.KeepsSlots.{keeps-alloc, keeps-alloc-in, keeps-run, keeps-back}

-- ---- freeing

module _ (room : Room) (dangles : Bool) where
  pub keeps-free : (a : Address) (c : Scopes) → Sound room c → All (λ r. Sound room r.1) (free_address dangles a c)
  unfolding free_address
  keeps-free a c s =
      all-when 13 _ λ _. all_then λ d e.
      all-given ((all-if {P = Sound room} (λ _. keeps-back room c s dangles a.slot) (λ _. all-given s)).at d e)

  keeps-each : (l : List Address) (c : Scopes) → Sound room c → All (Sound room) (free_each dangles l c)
  unfolding free_each
  keeps-each [] c s = all-given s
  keeps-each (a ∷ l) c s = all_then λ r e. keeps-each l r.1 ((keeps-free a c s).at r e)

  pub keeps-free-run : (l : List Address) (c : Scopes) → Sound room c → All (λ r. Sound room r.1) (free_run dangles l c)
  unfolding free_run
  keeps-free-run l c s = all_then λ d e. all-given ((keeps-each (reverse l) c s).at d e)

pub keeps-free-need : (room : Room) (d : Need) (c : Scopes) → Sound room c → All (λ r. Sound room r.1) (free_need d c)
unfolding free_need
keeps-free-need room (defer id) c s = all-given s
keeps-free-need room (at a) c s = all_then λ r e. all-given ((keeps-free room true a c s).at r e)
keeps-free-need room ignore c s = all-given s
keeps-free-need room freed_need c s = all-given s

-- ---- allocating

module _ (room : Room) (big : 128 * room.segments ≤ room.size) (place : Placement) (fair : Fair room place (SlotsSound room.segments)) (c : Scopes) (s : Sound room c) where
  pub keeps-address : All (λ r. Sound room r.1) (alloc_address place c)
  unfolding alloc_address
  keeps-address = all_then λ r e. all-given ((keeps-alloc room c s big place fair).at r e)

  pub keeps-address-in : (id : Id) → All (λ r. Sound room r.1) (alloc_address_in room place id c)
  unfolding alloc_address_in
  keeps-address-in id = all_then λ r e. all-given ((keeps-alloc-in room c s big place fair (by_id room c id) (id-here room c id)).at r e)

  pub keeps-addresses : (n : ℕ) → All (λ r. Sound room r.1) (alloc_addresses place n c)
  unfolding alloc_addresses
  keeps-addresses n = all_then λ r e. all-given ((keeps-run room c s big place fair n).at r e)

  pub keeps-need : (d : Need) → All (λ r. Sound room r.scopes) (allocate_need room place d c)
  unfolding allocate_need
  keeps-need (defer id) = all_then λ r e. all-given ((keeps-address-in id).at r e)
  keeps-need (at a) = all-given s
  keeps-need ignore = all-given s
  keeps-need freed_need = all-given s

-- ---- fresh

pub fresh-slots : (n : ℕ) → 0 < n → SlotsSound n fresh_slots
unfolding fresh_slots
fresh-slots n h = record { segments = omega arith; head = h; low = λ a l e. clash e refl }

pub fresh-sound : (room : Room) → 0 < room.segments → 0 < room.scopes → Sound room fresh_scopes
unfolding fresh_scopes fresh_slots member
fresh-sound room segments scopes =
    record {
      slots = fresh-slots room.segments segments;
      top = top-some (scopes, refl);
      rooted = λ i l e. go i e;
      owned = record {
        once = λ i l. once-none i;
        within = λ i l a p. clash p (member-none i a);
        taken = λ i a l p. clash p (member-none i a);
        apart = λ i j a l k p q. clash p (member-none i a);
        owner = λ a l t. clash t refl;
      };
      dangling = record { once = once-nil; within = within-nil (128 * room.segments); clear = λ a q. clash q refl };
      bindings = record { once = binds-nil; of_live = every-nil; few = omega arith };
      size = record { above = λ a l t. clash t refl; fits = omega arith };
    }
  where
    go : (i : ℕ) → is_some (fresh_scopes.live i) ≡ true → LeadsToRoot room.scopes fresh_scopes.live i
    go zero e = root (new_scope 0 none) refl refl refl refl
    go (suc i) e = clash e refl

    once-none : (i : ℕ) → Once (lists_of fresh_scopes.live i)
    once-none zero = once-nil
    once-none (suc j) = once-nil

    member-none : (i a : ℕ) → member a (lists_of fresh_scopes.live i) ≡ false
    member-none zero a = refl
    member-none (suc j) a = refl
