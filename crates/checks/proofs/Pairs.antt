-- In an idle state the first slot is allocated; it is freed without dangling, and the state is idle again. Assumes nothing.
use mathlib.Core.Path.{◌≡◌, refl, ap, ◌∙◌}
use mathlib.Core.Bool.{Bool, true, false, not}
use mathlib.Core.Option.{Option, none, some}
use mathlib.Core.List.{[], ◌∷◌}
use Prim.Native.Nat.{ℕ, zero, suc, ◌≤◌}
use native.Mathlib.Omega.{arith}
use Rattle.rules.specs.Notation.{given, is_some, or_else, ◌▹◌, put, first}
use Rattle.rules.specs.Sizes.{base, SEGMENTS}
use Rattle.rules.specs.Slots.{fresh_slots, placed, clear_in, has_clear, first_with_clear, insert_into, insert_new, insert, remove, edition1}
use Rattle.rules.specs.AddressSets.{member, added, without, added_all, without_all, run}
use Rattle.rules.specs.Scopes.{Scopes, new_scope, owned≔, fresh_scopes, set_scope, allocate, alloc_top}
use Rattle.rules.specs.Needs.{address, local, freed, alloc_address, goes_back, give_back, free_address}
use Rattle.rules.proofs.Searches.{first-is}
use Rattle.rules.proofs.Chains.{unless-some, when_false, if-true}
use Rattle.rules.proofs.Blanks.{then-given}
use Rattle.rules.proofs.Lockstep.{Also}
use Rattle.rules.specs.Refusals.{says}
use Rattle.scopes.specs.View.{view, told}
use Rattle.scopes.specs.declared.Scopes as state
use Rattle.needs.specs.Kinds.{address_of}
use Rattle.needs.specs.declared.Address as code
use Rattle.allocator.specs.Entries.{seen}
use Rattle.allocator.specs.declared.Outcome.{Outcome}
use Rattle.checks.specs.States.{Idle}
use Rattle.checks.proofs.Told.{top-is, gave}

-- between the two calls: root owns the first slot
pub record Busy (c : Scopes) : Type 0 where
  pub top : c.top ≡ some 0
  pub root : c.live 0 ≡ some (new_scope 0 none ▹ owned≔ (0 ∷ []))
  pub dangling : c.dangling ≡ []
  pub segments : c.slots.segments ≡ 1

pub fresh-idle : Idle fresh_scopes
unfolding fresh_scopes fresh_slots
fresh-idle = record { top = refl; root = refl; dangling = refl; clear = refl; head = refl; segments = omega arith }

-- ---- the first slot is given

module _ (f : ℕ → Bool) (e : f 0 ≡ false) where
  slot-clear : clear_in f 0 ≡ some 0
  unfolding clear_in
  slot-clear = first-is (λ a. not (f a)) 0 128 0 (record { low = omega arith; high = omega arith; before = λ j l h. absurd (omega arith); passes = ap not e })

  segment-clear : first_with_clear (record { occupied = f; segments = 1; head = 0 }) ≡ some 0
  unfolding first_with_clear
  segment-clear = first-is (has_clear f) 0 1 0 (record { low = omega arith; high = omega arith; before = λ j l h. absurd (omega arith); passes = ap is_some slot-clear })

  -- a new segment, or the one that there is
  insert-first : (l : ℕ) → l ≤ 1 → insert SEGMENTS (record { occupied = f; segments = l; head = 0 }) ≡ placed 0 (record { occupied = put f 0 true; segments = 1; head = 0 })
  unfolding insert first_with_clear insert_into insert_new first
  insert-first zero h = refl
  insert-first (suc zero) h = rw (segment-clear, insert) (ap (λ (o : Option ℕ). placed (or_else o 0) (record { occupied = put f (or_else o 0) true; segments = 1; head = 0 })) slot-clear)
  insert-first (suc (suc l)) h = absurd (omega arith)

module _ (c : Scopes) (i : Idle c) where
  place-first : edition1 SEGMENTS 1 c.slots ≡ placed 0 (record { occupied = put c.slots.occupied 0 true; segments = 1; head = 0 })
  unfolding edition1
  place-first =
      ap (insert SEGMENTS) (λ u. record { occupied = c.slots.occupied; segments = c.slots.segments; head = i.head u })
      ∙ insert-first c.slots.occupied i.clear c.slots.segments i.segments

  pub alloc-first : Also (λ r. (r.0 ≡ address 0 local) × Busy r.1) (alloc_address (edition1 base.segments) c)
  unfolding base alloc_address alloc_top allocate set_scope put run added_all added member without_all without
  alloc-first = record {
    it = _;
    is = then-given _ (unless-some 3 _ (top-is c 0 (new_scope 0 none) i.top i.root) ∙ unless-some 7 _ place-first);
    so = (refl, record { top = i.top; root = refl; dangling = ap (without_all (run 0 1)) i.dangling; segments = refl });
  }

-- ---- and goes back

module _ (c : Scopes) (b : Busy c) where
  pub free-first : Also (λ r. (r.0 ≡ address 0 freed) × Idle r.1) (free_address false (address 0 local) c)
  unfolding free_address goes_back give_back set_scope put remove member without
  free-first = record {
    it = _;
    is = when_false 13 _ refl ∙ then-given _ (if-true _ _ refl ∙ unless-some 12 _ (top-is c 0 _ b.top b.root) ∙ when_false 12 _ refl);
    so = (
      refl,
      record {
        top = b.top;
        root = refl;
        dangling = b.dangling;
        clear = rw (b.segments, remove);
        head = rw (b.segments, remove);
        segments = rw (b.segments, remove) (omega arith);
      },
    );
  }

-- ---- both calls: o is left by the first, r by the second

module _ (s : state.Scopes) (o r : Outcome code.Address) where
  pub turn : Idle (view s) → seen address_of o ≡ told (λ a. a) (view s) (alloc_address (edition1 base.segments) (view s))
      → seen address_of r ≡ told (λ a. a) (view o.state) (free_address false (address 0 local) (view o.state))
      → (says address_of r.answer ≡ given (address 0 freed)) × Idle (view r.state)
  turn i e f =
      let a = gave _ _ e (alloc-first _ i) in
      let b = gave _ _ f (free-first _ a.so.1) in
      (b.is ∙ ap given b.so.0, b.so.1)
