-- define, take and drain keep soundness; get changes nothing. Assumes nothing.
use mathlib.Core.Path.{◌≡◌, refl}
use mathlib.Core.Bool.{true, false, not, ◌&&◌}
use Prim.Native.Nat.{ℕ, ◌*◌, ◌≤◌}
use native.Mathlib.Omega.{arith}
use lib.Dec.{leb}
use lib.ListN.{length}
use borrow.Author.Tests.{leb-false}
use Rattle.rules.specs.Notation.{is_some, ◌▹◌}
use Rattle.rules.specs.Sizes.{Room}
use Rattle.rules.specs.AddressSets.{member}
use Rattle.rules.specs.Scopes.{Binding, Scopes, bindings≔, moved≔, Found, bound_in, rebound, bind_in, define_name, take_name, drain_dangling}
use Rattle.rules.proofs.Chains.{All, all-given, all_then, all-when, all-unless}
use Rattle.rules.proofs.Sets.{once-nil, within-nil}
use Rattle.rules.proofs.Sound.{IsLive, Sound}
use Rattle.rules.proofs.Tells.{clash, decided}
use Rattle.rules.proofs.Naming.{Here, top-here}
use Rattle.rules.proofs.Parents.{is-some, here-live}
use Rattle.rules.proofs.Names.{bound-is, rebound-every, rebound-once, rebound-length, rebound-as-many, BoundAs, got}

module _ (room : Room) (c : Scopes) (s : Sound room c) where
  rebound-sound : (x : Binding) → IsLive room.scopes c.live x.scope → length (rebound x c.bindings) ≤ room.bindings → Sound room (c ▹ bindings≔ (rebound x c.bindings))
  rebound-sound x l few = record {
    slots = s.slots;
    top = s.top;
    rooted = s.rooted;
    owned = s.owned;
    dangling = s.dangling;
    bindings = record { once = rebound-once x s.bindings.once; of_live = rebound-every x l s.bindings.of_live; few = few };
    size = s.size;
  }

  -- ---- define

  pub keeps-bind : (t : Found) (name address handle : ℕ) → Here room.scopes c.live t → All (Sound room) (bind_in room t name address handle c)
  unfolding bind_in
  keeps-bind t name address handle h =
      all-when 9 _ λ q.
      all-given (rebound-sound x (here-live h) (few q))
    where
      x : Binding
      x = record { scope = t.index; name = name; address = address; handle = handle; moved = false }

      few : (leb room.bindings (length c.bindings) && not (is_some (bound_in t.index name c.bindings))) ≡ false → length (rebound x c.bindings) ≤ room.bindings
      few q =
          decided (is_some (bound_in t.index name c.bindings))
          (λ e. omega (arith, rebound-as-many x c.bindings e, s.bindings.few))
          (λ e. decided (leb room.bindings (length c.bindings))
          (λ f. clash (rw (f, e)) q)
          (λ f. omega (arith, rebound-length x c.bindings, leb-false room.bindings (length c.bindings) f)))

  pub keeps-define : (name address handle : ℕ) → All (Sound room) (define_name room name address handle c)
  keeps-define name address handle = all-unless 3 λ t e. keeps-bind t name address handle (top-here c t e room.scopes s.top)

  -- ---- take

  pub keeps-take : (name : ℕ) → All (λ r. Sound room r.1) (take_name room name c)
  unfolding take_name
  keeps-take name = all_then λ b e. all-given (go b ((got room name c).at b e))
    where
      go : (b : Binding) → BoundAs c.bindings name b → Sound room (c ▹ bindings≔ (rebound (b ▹ moved≔ true) c.bindings))
      go b w =
          let r = bound-is w.index name c.bindings b w.is s.bindings.of_live in
          let there : is_some (bound_in b.scope b.name c.bindings) ≡ true = rw (r.0, r.1) (is-some w.is) in
          rebound-sound (b ▹ moved≔ true) r.2 (omega (arith, rebound-as-many (b ▹ moved≔ true) c.bindings there, s.bindings.few))

  -- ---- drain

  pub keeps-drain : Sound room (drain_dangling c).1
  unfolding drain_dangling member
  keeps-drain = record {
    slots = s.slots;
    top = s.top;
    rooted = s.rooted;
    owned = s.owned;
    dangling = record { once = once-nil; within = within-nil (128 * room.segments); clear = λ a q. clash q refl };
    bindings = s.bindings;
    size = s.size;
  }
