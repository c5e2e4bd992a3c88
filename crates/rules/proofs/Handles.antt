-- Held handles and occupied slots match one to one, and keep doing so when slots are given, when a scope is closed and when a slot goes
-- back; and bindings still agree with their handles. Assumes nothing.
use mathlib.Core.Path.{◌≡◌, sym, ap, subst, ◌∙◌}
use mathlib.Core.Bool.{Bool, true, false}
use mathlib.Core.List.{List}
use Prim.Native.Nat.{ℕ, ◌+◌, ◌*◌, ◌-◌, ◌≤◌, ◌<◌}
use native.Mathlib.Omega.{arith}
use lib.Dec.{ltb}
use borrow.Author.Tests.{le-leb, lt-leb, lt-ltb, ltb-true, ltb-false}
use Rattle.rules.specs.Notation.{put}
use Rattle.rules.specs.AddressSets.{member}
use Rattle.rules.specs.Slots.{Slots, Placed, remove, remove_all}
use Rattle.rules.specs.Scopes.{Binding}
use Rattle.rules.specs.Needs.{Kind}
use Rattle.rules.specs.Frames.{Handle, grant, let_go}
use Rattle.rules.specs.Demand3.{Gives}
use Rattle.rules.proofs.Tables.{by_eqb, put_same, put_other, let_go-held, remove-other, remove_all-other}
use Rattle.rules.proofs.Members.{run-within}
use Rattle.rules.proofs.Removing.{remove-was, remove-clears, remove_all-was}
use Rattle.rules.proofs.Owners.{given-only}
use Rattle.rules.proofs.Sound.{SlotsSound, Holder, HandlesSound, Agrees}
use Rattle.rules.proofs.Tells.{clash, decided}

-- ---- handles as they were

pub handles-alike : {m most handed : ℕ} {occupied : ℕ → Bool} {handles : ℕ → Handle} (next : ℕ → Handle)
    → ((h : ℕ) → (next h).held ≡ (handles h).held) → ((h : ℕ) → (next h).address ≡ (handles h).address)
    → HandlesSound m most occupied handles handed → HandlesSound m most occupied next handed
handles-alike {occupied = occupied} {handles = handles} next held address s =
    let was : (h : ℕ) → (next h).held ≡ true → (handles h).held ≡ true = λ h e. sym (held h) ∙ e in
    record {
      few = s.few;
      within = λ h l e. rw (address h) (s.within h l (was h e));
      taken = λ h l e. rw (address h) (s.taken h l (was h e));
      apart = λ g h k l d e q. s.apart g h k l (was g d) (was h e) (sym (address g) ∙ q ∙ address h);
      holder = λ a l t. let w = s.holder a l t in record { handle = w.handle; below = w.below; held = held w.handle ∙ w.held; address = address w.handle ∙ w.address };
    }

pub agrees-alike : (handles next : ℕ → Handle) (handed more : ℕ) → handed ≤ more
    → ((h : ℕ) → h < handed → (next h).address ≡ (handles h).address) → (b : Binding) → Agrees handles handed b → Agrees next more b
agrees-alike handles next handed more up same b q = (omega (arith, q.0), same b.handle q.0 ∙ q.1)

-- ---- slots are given

module _ (next n a : ℕ) (kind : Kind) (f : ℕ → Handle) (h : ℕ) where
  pub grant-new : next ≤ h → h < next + n → grant next n a kind f h ≡ record { address = a + (h - next); kind = kind; held = true; written = false }
  unfolding grant
  grant-new lo hi = rw (le-leb next h lo, lt-ltb h (next + n) hi, grant)

  pub grant-old : h < next → grant next n a kind f h ≡ f h
  unfolding grant
  grant-old l = rw (lt-leb next h l, grant)

module _ {m most handed : ℕ} {handles : ℕ → Handle} (s : Slots) (p : Placed) (n : ℕ) (kind : Kind) (g : Gives n s p) (room : p.address + n ≤ m) (fits : handed + n ≤ most) (r : HandlesSound m most s.occupied handles handed) where
  abbrev granted : ℕ → Handle
  granted = grant handed n p.address kind handles

  -- a handle below the new count is one of those that were, or the i-th new one
  which {ℓ} : (X : Type ℓ) (h : ℕ) → h < handed + n → (h < handed → granted h ≡ handles h → X) → (handed ≤ h → (granted h).address ≡ p.address + (h - handed) → (granted h).held ≡ true → X) → X
  which X h l old new =
      decided (ltb h handed)
      (λ e. let k = ltb-true h handed e in old k (grant-old handed n p.address kind handles h k))
      (λ e. let k = ltb-false h handed e in let q = grant-new handed n p.address kind handles h k l in new k (ap (λ (x : Handle). x.address) q) (ap (λ (x : Handle). x.held) q))

  was-held : (h : ℕ) → granted h ≡ handles h → (granted h).held ≡ true → (handles h).held ≡ true
  was-held h q e = sym (ap (λ (x : Handle). x.held) q) ∙ e

  same_address : (h : ℕ) → granted h ≡ handles h → (granted h).address ≡ (handles h).address
  same_address h q = ap (λ (x : Handle). x.address) q

  new-clear : (i : ℕ) (b : ℕ) → i < n → b ≡ p.address + i → s.occupied b ≡ false
  new-clear i b l q = subst (λ (y : ℕ). s.occupied y ≡ false) (sym q) (g.clear i l)

  apart-given : (x y : ℕ) → x < handed + n → y < handed + n → (granted x).held ≡ true → (granted y).held ≡ true → (granted x).address ≡ (granted y).address → x ≡ y
  apart-given x y k l d e q =
      which (x ≡ y) x k
      (λ kx sx. which (x ≡ y) y l
      (λ ly sy. r.apart x y kx ly (was-held x sx d) (was-held y sy e) (sym (same_address x sx) ∙ q ∙ same_address y sy))
      (λ ly ay _. clash (r.taken x kx (was-held x sx d)) (new-clear (y - handed) (handles x).address (omega arith) (sym (same_address x sx) ∙ q ∙ ay))))
      (λ kx ax _. which (x ≡ y) y l
      (λ ly sy. clash (r.taken y ly (was-held y sy e)) (new-clear (x - handed) (handles y).address (omega arith) (sym (same_address y sy) ∙ sym q ∙ ax)))
      (λ ly ay _. omega arith))

  pub handles-given : HandlesSound m most p.next.occupied granted (handed + n)
  handles-given = record {
    few = fits;
    within = λ h l e. which ((granted h).address < m) h l
        (λ k q. rw (same_address h q) (r.within h k (was-held h q e)))
        (λ k q _. rw q (omega arith));
    taken = λ h l e. which (p.next.occupied (granted h).address ≡ true) h l
        (λ k q. rw (same_address h q) (g.kept (handles h).address (r.taken h k (was-held h q e))))
        (λ k q _. rw q (g.taken (h - handed) (omega arith)));
    apart = apart-given;
    holder = λ b l t. given-only s p n g room (Holder (handed + n) granted b) b t
        (λ o. let w = r.holder b l o in
        let q = grant-old handed n p.address kind handles w.handle w.below in
        record { handle = w.handle; below = omega (arith, w.below); held = ap (λ (x : Handle). x.held) q ∙ w.held; address = same_address w.handle q ∙ w.address })
        (λ o. let i = run-within n p.address b o in
        let q = grant-new handed n p.address kind handles (handed + (b - p.address)) (omega arith) (omega arith) in
        record { handle = handed + (b - p.address); below = omega arith; held = ap (λ (x : Handle). x.held) q; address = ap (λ (x : Handle). x.address) q ∙ omega arith });
  }

-- ---- a scope is closed

pub let_go-address : (l : List ℕ) (f : ℕ → Handle) (h : ℕ) → (let_go l f h).address ≡ (f h).address
unfolding let_go
let_go-address l f h = decided (member (f h).address l) (λ e. rw (e, let_go)) (λ e. rw (e, let_go))

pub let_go-other : (l : List ℕ) (f : ℕ → Handle) (h : ℕ) → member (f h).address l ≡ false → let_go l f h ≡ f h
unfolding let_go
let_go-other l f h e = rw (e, let_go)

pub agrees-closed : (handles : ℕ → Handle) (handed : ℕ) (gone : List ℕ) (b : Binding) → Agrees handles handed b → Agrees (let_go gone handles) handed b
agrees-closed handles handed gone b q = (q.0, let_go-address gone handles b.handle ∙ q.1)

pub handles-closed : {segments most handed : ℕ} {handles : ℕ → Handle} (s : Slots) (gone : List ℕ) → SlotsSound segments s
    → HandlesSound (128 * segments) most s.occupied handles handed → HandlesSound (128 * segments) most (remove_all gone s).occupied (let_go gone handles) handed
handles-closed {segments = segments} {handles = handles} s gone sound r =
    let was : (h : ℕ) → (let_go gone handles h).held ≡ true → (handles h).held ≡ true
    = λ h e. sym (ap (λ (x : Handle). x.held) (let_go-held gone handles h e).1) ∙ e in
    record {
      few = r.few;
      within = λ h l e. rw (let_go-address gone handles h) (r.within h l (was h e));
      taken = λ h l e. rw (let_go-address gone handles h) (remove_all-other gone (handles h).address s (let_go-held gone handles h e).0 (r.taken h l (was h e)));
      apart = λ g h k l d e q. r.apart g h k l (was g d) (was h e) (sym (let_go-address gone handles g) ∙ q ∙ let_go-address gone handles h);
      holder = λ a l t.
          let o = remove_all-was segments gone a s sound l t in
          let w = r.holder a l o.0 in
          let q = let_go-other gone handles w.handle (ap (λ (b : ℕ). member b gone) w.address ∙ o.1) in
          record { handle = w.handle; below = w.below; held = ap (λ (x : Handle). x.held) q ∙ w.held; address = ap (λ (x : Handle). x.address) q ∙ w.address };
    }

-- ---- the slot of h goes back: h becomes x, which holds nothing

module _ {segments most handed : ℕ} {handles : ℕ → Handle} (s : Slots) (sound : SlotsSound segments s) (r : HandlesSound (128 * segments) most s.occupied handles handed) (h : ℕ) (l : h < handed) (e : (handles h).held ≡ true) (x : Handle) (free : x.held ≡ false) where
  abbrev after : ℕ → Handle
  after = put handles h x

  other : (j : ℕ) → (after j).held ≡ true → (h ≡ j → ⊥) × (after j ≡ handles j)
  other j d =
      by_eqb h j
      (λ q. clash d (subst (λ (i : ℕ). (after i).held ≡ false) q (ap (λ (y : Handle). y.held) (put_same handles h x) ∙ free)))
      (λ ne. (ne, put_other handles h x j ne))

  other-held : (j : ℕ) → (after j).held ≡ true → (handles j).held ≡ true
  other-held j d = sym (ap (λ (y : Handle). y.held) (other j d).1) ∙ d

  other-address : (j : ℕ) → (after j).held ≡ true → (after j).address ≡ (handles j).address
  other-address j d = ap (λ (y : Handle). y.address) (other j d).1

  pub handles-back : HandlesSound (128 * segments) most (remove (handles h).address s).occupied after handed
  handles-back = record {
    few = r.few;
    within = λ j k d. rw (other-address j d) (r.within j k (other-held j d));
    taken = λ j k d. rw (other-address j d) (remove-other (handles h).address (handles j).address s (λ q. (other j d).0 (r.apart h j l k e (other-held j d) q)) (r.taken j k (other-held j d)));
    apart = λ i j k k' d d' q. r.apart i j k k' (other-held i d) (other-held j d') (sym (other-address i d) ∙ q ∙ other-address j d');
    holder = λ b k t.
        let w = r.holder b k (remove-was (handles h).address s b t) in
        let ne : h ≡ w.handle → ⊥
        = λ q. clash t (subst (λ (y : ℕ). (remove (handles h).address s).occupied y ≡ false) (ap (λ (i : ℕ). (handles i).address) q ∙ w.address) (remove-clears (handles h).address s segments sound (r.within h l e))) in
        let q = put_other handles h x w.handle ne in
        record { handle = w.handle; below = w.below; held = ap (λ (y : Handle). y.held) q ∙ w.held; address = ap (λ (y : Handle). y.address) q ∙ w.address };
  }
