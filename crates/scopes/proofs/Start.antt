-- The fresh state. Assumes nothing.
use Rattle.std.proofs.Common.{◌≡◌, ℕ, zero, suc, ◌<◌, Bool, true, false, List, [], length, get_or, set, replicate, sym, refl, ap, ◌∙◌, inl, true≢false, arith, length-set, ne_eqb}
use mathlib.Core.Option.{none, some}
use lib.ListN.{get_or-replicate, length-replicate}
use Rattle.rules.specs.Sizes.{BINDINGS, HALVES, LINKS, LISTS, SCOPES, SLOTS}
use Rattle.rules.specs.AddressSets.{member}
use Rattle.rules.specs.Slots.{fresh_slots}
use Rattle.rules.specs.Scopes as rule
use Rattle.slots.specs.Halves.{occ}
use Rattle.slots.proofs.Occupied.{none-occupied}
use Rattle.links.specs.Links.{Held}
use Rattle.links.proofs.Walks.{chains-lists, held-lists}
use Rattle.scopes.specs.View.{blank, list_of, view}
use Rattle.scopes.specs.Sound.{Sound, Sized, LeadsToRoot, root}
use Rattle.scopes.specs.declared.Scopes.{Scopes}

abbrev pub fresh_state : List ℕ → Scopes
fresh_state links =
    record {
      halves = replicate HALVES 0;
      links = links;
      owner = replicate SLOTS LISTS;
      live = set (replicate SCOPES false) 0 true;
      dangled = replicate SCOPES false;
      parent = replicate SCOPES SCOPES;
      number = replicate SCOPES 0;
      bindings = replicate BINDINGS 0;
      count = 0;
      segments = 0;
      head = 0;
      top = 0;
      counter = 1;
      size = 0;
    }

pub fresh-sized : (links : List ℕ) → length links ≡ LINKS → Sized (fresh_state links)
fresh-sized links l =
    record {
      halves = length-replicate {A = ℕ} HALVES 0;
      links = l;
      owner = length-replicate {A = ℕ} SLOTS LISTS;
      live = length-set (replicate SCOPES false) 0 true ∙ length-replicate SCOPES false;
      dangled = length-replicate SCOPES false;
      parent = length-replicate {A = ℕ} SCOPES SCOPES;
      number = length-replicate {A = ℕ} SCOPES 0;
      bindings = length-replicate {A = ℕ} BINDINGS 0;
    }

-- what a blank state becomes where it stands
pub begun : (s : Scopes) (links : List ℕ) → s ≡ blank → record s { links = links; owner = replicate SLOTS LISTS; live = set s.live 0 true; parent = replicate SCOPES SCOPES; counter = 1 } ≡ fresh_state links
begun s links e = ap (λ (x : Scopes). record x { links = links; owner = replicate SLOTS LISTS; live = set x.live 0 true; parent = replicate SCOPES SCOPES; counter = 1 }) e

all_same : {A : Type 0} (n i : ℕ) (d : A) → get_or (replicate n d) i d ≡ d
all_same zero i d = refl
all_same (suc n) zero d = refl
all_same (suc n) (suc i) d = all_same n i d

none-taken : (a : ℕ) → occ (replicate HALVES 0) a ≡ false
none-taken a = ap (λ (f : ℕ → Bool). f a) (none-occupied HALVES)

live-is : (i : ℕ) → get_or (set (replicate SCOPES false) 0 true) (suc i) false ≡ false
live-is i = all_same 63 i false

module _ (links : List ℕ) (c : Held SLOTS LISTS links (λ i. [])) where
  empty : (i : ℕ) → i < LISTS → list_of links i ≡ []
  empty i hi = chains-lists SLOTS LISTS links (λ i. []) c i hi

  pub fresh-view : view (fresh_state links) ≡ rule.fresh_scopes
  unfolding rule.fresh_scopes fresh_slots
  fresh-view =
      λ t. record {
        slots = record { occupied = none-occupied HALVES t; segments = 0; head = 0 };
        live = λ i. lives i t;
        top = some 0;
        counter = 1;
        bindings = [];
        dangling = empty SCOPES (omega arith) t;
        size = 0;
      }
    where
      lives : (i : ℕ) → (view (fresh_state links)).live i ≡ (rule.fresh_scopes).live i
      lives zero = ap (λ (l : List ℕ). some (record { number = 0; parent = none; dangled = false; owned = l })) (empty 0 (omega arith))
      lives (suc i) = rw (live-is i)

  pub fresh-sound : Sound (fresh_state links)
  unfolding member
  fresh-sound =
      record {
        slotted = record { most = omega arith; front = omega arith; none = λ j _ _. none-taken j };
        ringed = record {
          rings = held-lists SLOTS LISTS links (λ i. []) c;
          tells = λ a i ha hi. rw (empty i hi, get_or-replicate {A = ℕ} SLOTS a LISTS 0 ha) (sym (ne_eqb LISTS i (λ e. (omega arith))));
          most = λ a ha. rw (get_or-replicate {A = ℕ} SLOTS a LISTS 0 ha) (omega arith);
        };
        owned = record {
          taken = λ a ha. rw (none-taken a, get_or-replicate {A = ℕ} SLOTS a LISTS 0 ha);
          alive = λ a ha. rw (get_or-replicate {A = ℕ} SLOTS a LISTS 0 ha) (λ l. absurd (omega arith));
          above = λ a ha. rw (get_or-replicate {A = ℕ} SLOTS a LISTS 0 ha) (λ l. absurd (omega arith));
          most = omega arith;
        };
        rooted = record {
          topped = inl (omega arith, refl);
          leads = leads;
          dead = λ i hi _. (all_same SCOPES i false, get_or-replicate {A = ℕ} SCOPES i SCOPES 0 hi, all_same {A = ℕ} SCOPES i 0);
          first = refl;
        };
        named = record { most = omega arith; alive = tt; once = tt; clear = λ j _. all_same {A = ℕ} BINDINGS j 0 };
      }
    where
      leads : (i : ℕ) → get_or (set (replicate SCOPES false) 0 true) i false ≡ true → LeadsToRoot (set (replicate SCOPES false) 0 true) (replicate SCOPES SCOPES) i
      leads zero h = root refl refl
      leads (suc i) h = absurd (true≢false (sym h ∙ live-is i))
