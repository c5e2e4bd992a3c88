-- alloc, alloc in s, linear n and giving back keep soundness, for every fair placement in a room whose size holds its slots.
-- Assumes nothing.
use mathlib.Core.Path.{◌≡◌, refl}
use mathlib.Core.Bool.{Bool, true}
use mathlib.Core.Option.{Option, some}
use Prim.Native.Nat.{ℕ, zero, suc, ◌*◌, ◌≤◌}
use borrow.Author.Tests.{not-false}
use Rattle.rules.specs.Notation.{◌▹◌, put}
use Rattle.rules.specs.Sizes.{Room}
use Rattle.rules.specs.Slots.{Placement}
use Rattle.rules.specs.AddressSets.{member, without, added_all, run}
use Rattle.rules.specs.Scopes.{Scope, Scopes, owned≔, Found, set_scope, allocate, alloc_top, alloc_in, alloc_run}
use Rattle.rules.specs.Needs.{give_back}
use Rattle.rules.specs.Demand3.{Fair}
use Rattle.rules.proofs.Chains.{All, all-given, all_then, all-when, all-unless}
use Rattle.rules.proofs.Sound.{SlotsSound, lists_of, Sound}
use Rattle.rules.proofs.Naming.{Here, top-here}
use Rattle.rules.proofs.Removing.{remove-sound}
use Rattle.rules.proofs.Changed.{after-top, after-rooted, after-bindings}
use Rattle.rules.proofs.Owners.{owned_at, lists-put, owned-alike, owned-given, dangling-given, size-given, owned-back, dangling-back, size_back}

module _ (room : Room) (c : Scopes) (s : Sound room c) where
  -- ---- alloc, alloc in s, linear n

  module _ (big : 128 * room.segments ≤ room.size) (place : Placement) (fair : Fair room place (SlotsSound room.segments)) where
    pub keeps-allocate : (k : Found) (n : ℕ) → Here room.scopes c.live k → All (λ r. Sound room r.1) (allocate place k n c)
    unfolding allocate set_scope
    keeps-allocate k n h =
        all-unless 7 λ p e.
        let g = fair.placed n c.slots p e s.slots in
        let x : Scope = k.scope ▹ owned≔ (added_all (run p.address n) k.scope.owned) in
        all-given (record {
          slots = g.0;
          top = after-top k x h s.top;
          rooted = after-rooted k x h refl refl s.rooted;
          owned = owned-alike (lists_of (put c.live k.index (some x))) (lists-put c.live k.index (some x)) (owned-given c.slots p n g.1 g.2 k.index k.scope.owned h.below (owned_at c.live k h.is) s.owned);
          dangling = dangling-given c.slots p n g.1 g.2 s.dangling;
          bindings = after-bindings k x h s.bindings;
          size = size-given c.slots p n g.1 g.2 big s.size;
        })

    pub keeps-alloc : All (λ r. Sound room r.1) (alloc_top place c)
    unfolding alloc_top
    keeps-alloc = all-unless 3 λ t e. keeps-allocate t 1 (top-here c t e room.scopes s.top)

    pub keeps-alloc-in : (o : Option Found) → ((k : Found) → o ≡ some k → Here room.scopes c.live k) → All (λ r. Sound room r.1) (alloc_in place o c)
    unfolding alloc_in
    keeps-alloc-in o here = all-unless 4 λ k e. keeps-allocate k 1 (here k e)

    pub keeps-run : (n : ℕ) → All (λ r. Sound room r.1) (alloc_run place n c)
    unfolding alloc_run
    keeps-run zero = all-unless 3 λ t e. all-given s
    keeps-run (suc n) = all-unless 3 λ t e. all_then λ r q. all-given ((keeps-allocate t (suc n) (top-here c t e room.scopes s.top)).at r q)

  -- ---- giving back

  pub keeps-back : (dangles : Bool) (a : ℕ) → All (Sound room) (give_back dangles a c)
  unfolding give_back set_scope
  keeps-back dangles a =
      all-unless 12 λ t e. all-when 12 _ λ m.
      let h = top-here c t e room.scopes s.top in
      let x : Scope = t.scope ▹ owned≔ (without a t.scope.owned) in
      let has : member a t.scope.owned ≡ true = not-false _ m in
      let old : lists_of c.live t.index ≡ t.scope.owned = owned_at c.live t h.is in
      all-given (record {
        slots = remove-sound a c.slots room.segments s.slots;
        top = after-top t x h s.top;
        rooted = after-rooted t x h refl refl s.rooted;
        owned = owned-alike (lists_of (put c.live t.index (some x))) (lists-put c.live t.index (some x)) (owned-back c.slots s.slots t.index t.scope.owned h.below old s.owned a has);
        dangling = dangling-back c.slots s.slots t.index t.scope.owned h.below old s.owned a has dangles s.dangling;
        bindings = after-bindings t x h s.bindings;
        size = size_back c.slots s.slots t.index t.scope.owned h.below old s.owned a has s.size;
      })
