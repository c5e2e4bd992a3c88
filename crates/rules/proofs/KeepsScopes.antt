-- child, dangle, restore, pop and pop last keep soundness. Assumes nothing.
use mathlib.Core.Path.{◌≡◌, refl, sym, ap, subst, ◌∙◌}
use mathlib.Core.Bool.{Bool, true, false, not, ◌||◌}
use mathlib.Core.List.{[]}
use mathlib.Core.Option.{Option, none, some}
use Prim.Native.Nat.{ℕ, ◌-◌, ◌≤◌, ◌<◌}
use native.Mathlib.Omega.{arith}
use lib.Dec.{eqb}
use borrow.Author.Tests.{eqb-false}
use Rattle.rules.specs.Notation.{is_some, ◌▹◌, put}
use Rattle.rules.specs.Sizes.{Room}
use Rattle.rules.specs.Scopes.{Scope, Scopes, live≔, top≔, counter≔, dangled≔, Found, top_scope, child_of, has_child, set_scope, open_child, closed, poppable, pop_scope, last_poppable, pop_last_scope, dangle_scope, restore_scope}
use Rattle.rules.specs.Sound.{owned_by}
use Rattle.rules.proofs.Chains.{All, all-given, all_then, all-when, all-unless}
use Rattle.rules.proofs.Tables.{put_same, put-alike}
use Rattle.rules.proofs.Searches.{first_found, first-none}
use Rattle.rules.proofs.Sound.{TopSound, lists_of, Sound}
use Rattle.rules.proofs.Tells.{clash}
use Rattle.rules.proofs.Naming.{Here, found_at, found_here, top-at, top-here}
use Rattle.rules.proofs.Removing.{remove_all-sound}
use Rattle.rules.proofs.Parents.{none_is, is-some, here-live, top-some, parent_of, opened-live, opened-rooted, closed-live, closed-rooted, closed-top}
use Rattle.rules.proofs.Changed.{after-top, after-rooted, after-bindings}
use Rattle.rules.proofs.Owners.{owned_at, lists-put, owned-alike, owned-closed, dangling-closed, size-closed}
use Rattle.rules.proofs.Names.{every-as, unbound-every, unbound-once, unbound-length}

module _ (room : Room) (c : Scopes) (s : Sound room c) where
  -- ---- child

  child-sound : (i : ℕ) (x : Scope) (t : Found) (n : ℕ) → top_scope c ≡ some t → c.live i ≡ none → 1 ≤ i → i < room.scopes → x.parent ≡ c.top → x.owned ≡ []
      → Sound room (c ▹ live≔ (put c.live i (some x)) ▹ top≔ (some i) ▹ counter≔ n)
  child-sound i x t n e free low high parent owned =
      record {
        slots = s.slots;
        top = top-some (high, is-some (put_same c.live i (some x)));
        rooted = opened-rooted room.scopes c.live i x free t.index (parent ∙ (top-at c t e).0) (here-live (top-here c t e room.scopes s.top)) (λ z. omega arith) s.rooted;
        owned = owned-alike (lists_of (put c.live i (some x))) (put-alike c.live i (some x) owned_by (owned ∙ sym (ap owned_by free))) s.owned;
        dangling = s.dangling;
        bindings = record {
          once = s.bindings.once;
          of_live = every-as (λ b h. (h.0, opened-live room.scopes c.live i x free b.scope h.1)) s.bindings.of_live;
          few = s.bindings.few;
        };
        size = s.size;
      }

  free-is : (o : Option Scope) → not (is_some o) ≡ true → o ≡ none
  free-is none e = refl
  free-is (some k) e = clash e refl

  pub keeps-child : All (λ r. Sound room r.1) (open_child room c)
  unfolding open_child
  keeps-child =
      all-unless 3 λ t e. all-unless 8 λ i q.
      let f = first_found (λ j. not (is_some (c.live j))) 1 (room.scopes - 1) i q in
      all-given (child-sound i _ t _ e (free-is (c.live i) f.passes) f.low (omega (arith, f.low, f.high)) refl refl)

  -- ---- dangle, restore: a scope changes its mark, and the top

  marked : (k : Found) (d : Bool) (top : Option ℕ) → Here room.scopes c.live k
      → TopSound room.scopes c.live top
      → Sound room (c ▹ set_scope k (k.scope ▹ dangled≔ d) ▹ top≔ top)
  unfolding set_scope
  marked k d top h t =
      let x : Scope = k.scope ▹ dangled≔ d in
      record {
        slots = s.slots;
        top = after-top k x h t;
        rooted = after-rooted k x h refl refl s.rooted;
        owned = owned-alike (lists_of (put c.live k.index (some x))) (put-alike c.live k.index (some x) owned_by (sym (owned_at c.live k h.is))) s.owned;
        dangling = s.dangling;
        bindings = after-bindings k x h s.bindings;
        size = s.size;
      }

  not_root : (d : Bool) (i : ℕ) → (d || eqb i 0) ≡ false → i ≡ 0 → ⊥
  not_root true i e z = clash refl e
  not_root false i e z = eqb-false i 0 e z

  pub keeps-dangle : (o : Option Found) → ((k : Found) → o ≡ some k → Here room.scopes c.live k) → All (Sound room) (dangle_scope o c)
  unfolding dangle_scope
  keeps-dangle o here = all-unless 4 λ k e. all-when 5 _ λ q. all-given (go k (here k e) (not_root k.scope.dangled k.index q))
    where
      go : (k : Found) → Here room.scopes c.live k → (k.index ≡ 0 → ⊥) → Sound room (c ▹ set_scope k (k.scope ▹ dangled≔ true) ▹ top≔ k.scope.parent)
      go k h nz =
          let p = parent_of k.scope h.is nz (s.rooted k.index h.below (is-some h.is)) in
          marked k true k.scope.parent h (subst (TopSound room.scopes c.live) (sym p.is) (top-some p.live_at))

  pub keeps-restore : (o : Option Found) → ((k : Found) → o ≡ some k → Here room.scopes c.live k) → All (Sound room) (restore_scope o c)
  unfolding restore_scope
  keeps-restore o here = all-unless 4 λ k e. all-when 5 _ λ _. all-given (marked k false (some k.index) (here k e) (top-some (here-live (here k e))))

  -- ---- pop, pop last

  childless : (i : ℕ) → has_child room c i ≡ false → (j : ℕ) → j < room.scopes → child_of i (c.live j) ≡ false
  unfolding has_child
  childless i e j l = first-none (λ a. child_of i (c.live a)) 0 room.scopes (none_is _ e) j (omega arith) (omega arith)

  pub closed-sound : (k : Found) → Here room.scopes c.live k → has_child room c k.index ≡ false → Sound room (closed k c)
  unfolding closed
  closed-sound k h e =
      let no-child : (j : ℕ) → j < room.scopes → child_of k.index (c.live j) ≡ false = childless k.index e in
      let old : lists_of c.live k.index ≡ k.scope.owned = owned_at c.live k h.is in
      record {
        slots = remove_all-sound room.segments k.scope.owned c.slots s.slots;
        top = closed-top room.scopes c.live k.index no-child k.scope h.below h.is s.rooted;
        rooted = closed-rooted room.scopes c.live k.index no-child s.rooted;
        owned = owned-alike (lists_of (put c.live k.index none)) (lists-put c.live k.index none) (owned-closed c.slots s.slots k.index k.scope.owned h.below old s.owned);
        dangling = dangling-closed c.slots s.slots k.index k.scope.owned h.below old s.owned s.dangling;
        bindings = record {
          once = unbound-once k.index s.bindings.once;
          of_live = unbound-every k.index (λ b ne q. (q.0, closed-live room.scopes c.live k.index no-child b.scope (λ z. ne (sym z)) q.1)) s.bindings.of_live;
          few = omega (arith, unbound-length k.index c.bindings, s.bindings.few);
        };
        size = size-closed c.slots s.slots k.index k.scope.owned h.below old s.owned s.size;
      }

  pub poppable-is : (o : Option Found) → ((k : Found) → o ≡ some k → Here room.scopes c.live k) → All (λ k. Here room.scopes c.live k × (has_child room c k.index ≡ false)) (poppable room o c)
  unfolding poppable
  poppable-is o here = all-unless 4 λ k e. all-when 5 _ λ _. all-when 6 _ λ q. all-given (here k e, q)

  pub keeps-pop : (o : Option Found) → ((k : Found) → o ≡ some k → Here room.scopes c.live k) → All (Sound room) (pop_scope room o c)
  unfolding pop_scope
  keeps-pop o here = all_then λ k e. let p = (poppable-is o here).at k e in all-given (closed-sound k p.0 p.1)

  pub last-is : All (λ k. Here room.scopes c.live k × (has_child room c k.index ≡ false)) (last_poppable room c)
  unfolding last_poppable
  last-is =
      all-unless 3 λ t e. all-unless 3 λ k q. all-when 6 _ λ p.
      all-given (
        found_here room.scopes c.live 0 k (omega (arith, (top-here c t e room.scopes s.top).below)) q,
        subst (λ (i : ℕ). has_child room c i ≡ false) (sym (found_at c.live 0 k q).0) p,
      )

  pub keeps-pop-last : All (Sound room) (pop_last_scope room c)
  unfolding pop_last_scope
  keeps-pop-last = all_then λ k e. let p = last-is.at k e in all-given (closed-sound k p.0 p.1)
