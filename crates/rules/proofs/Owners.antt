-- Owned lists, the dangling list and the size stay sound when slots are given to one scope, when a scope is closed and when a slot goes
-- back. Assumes nothing.
use mathlib.Core.Path.{◌≡◌, refl, sym, ap, subst, ◌∙◌}
use mathlib.Core.Bool.{Bool, true, false}
use mathlib.Core.List.{List, []}
use mathlib.Core.Option.{Option, some}
use Prim.Native.Nat.{ℕ, ◌+◌, ◌*◌, ◌-◌, ◌≤◌, ◌<◌, max}
use native.Mathlib.Omega.{arith}
use Rattle.rules.specs.Notation.{put}
use Rattle.rules.specs.AddressSets.{member, added, without, added_all, without_all, run}
use Rattle.rules.specs.Slots.{Slots, Placed, remove, remove_all}
use Rattle.rules.specs.Scopes.{Scope, Found}
use Rattle.rules.specs.Sound.{owned_by}
use Rattle.rules.specs.Demand3.{Gives}
use Rattle.rules.proofs.Tables.{by_eqb, put_same, put_other, remove-other, remove_all-other}
use Rattle.rules.proofs.Sets.{without-member, Once, once-nil, once-added, once-added_all, once-without, once-without_all, Within, within-nil, within-added, within-added_all, within-without, within-without_all, within-run}
use Rattle.rules.proofs.Members.{added-cases, added_all-old, added_all-new, added_all-cases, without_all-member, without-keeps, run-member, run-within}
use Rattle.rules.proofs.Removing.{remove-stays, remove-was, remove-clears, remove_all-stays, remove_all-clears, remove_all-was}
use Rattle.rules.proofs.Sound.{SlotsSound, OwnedSound, lists_of, DanglingSound, SizeSound}
use Rattle.rules.proofs.Tells.{clash, decided, is_false}

-- ---- in general

-- the same lists
pub owned-alike : {m n : ℕ} {occupied : ℕ → Bool} {lists : ℕ → List ℕ} (next : ℕ → List ℕ) → ((i : ℕ) → next i ≡ lists i) → OwnedSound m n occupied lists → OwnedSound m n occupied next
owned-alike {n = n} {lists = lists} next same o =
    let was : (i a : ℕ) → member a (next i) ≡ true → member a (lists i) ≡ true = λ i a p. sym (ap (member a) (same i)) ∙ p in
    record {
      once = λ i l. rw (same i) (o.once i l);
      within = λ i l a p. o.within i l a (was i a p);
      taken = λ i a l p. o.taken i a l (was i a p);
      apart = λ i j a l k p q. o.apart i j a l k (was i a p) (was j a q);
      owner = λ a l t. let w = o.owner a l t in record { index = w.index; below = w.below; has = ap (member a) (same w.index) ∙ w.has };
    }

-- What has to be shown where only the list of i changes, from old to new.
pub record Moved (m n : ℕ) (before after : ℕ → Bool) (lists : ℕ → List ℕ) (i : ℕ) (old new : List ℕ) : Type 0 where
  pub once : Once new
  pub within : Within m new
  pub mine : (a : ℕ) → member a new ≡ true → after a ≡ true
  pub theirs : (j a : ℕ) → j < n → (i ≡ j → ⊥) → member a (lists j) ≡ true → (after a ≡ true) × (member a new ≡ false)
  pub rest : (a : ℕ) → a < m → after a ≡ true → member a new ≡ false → (before a ≡ true) × (member a old ≡ false)

module _ {m n : ℕ} {before after : ℕ → Bool} {lists : ℕ → List ℕ} (i : ℕ) (old new : List ℕ) (l : i < n) (was : lists i ≡ old) (o : OwnedSound m n before lists) (v : Moved m n before after lists i old new) where
  abbrev next : ℕ → List ℕ
  next = put lists i new

  -- of the list at j: it is the new one, or one of the others
  at_place {ℓ} : (X : Type ℓ) (j a : ℕ) → member a (next j) ≡ true → (i ≡ j → member a new ≡ true → X) → ((i ≡ j → ⊥) → member a (lists j) ≡ true → X) → X
  at_place X j a p here there =
      by_eqb i j
      (λ q. here q (sym (ap (member a) (put_same lists i new)) ∙ subst (λ (k : ℕ). member a (next k) ≡ true) (sym q) p))
      (λ ne. there ne (sym (ap (member a) (put_other lists i new j ne)) ∙ p))

  pub owned-moved : OwnedSound m n after next
  owned-moved = record {
    once = λ j k. by_eqb i j (λ q. subst (λ (y : ℕ). Once (next y)) q (rw (put_same lists i new) v.once)) (λ ne. rw (put_other lists i new j ne) (o.once j k));
    within = λ j k a p. at_place (a < m) j a p (λ _ w. v.within a w) (λ _ w. o.within j k a w);
    taken = λ j a k p. at_place (after a ≡ true) j a p (λ _ w. v.mine a w) (λ ne w. (v.theirs j a k ne w).0);
    apart = λ j j' a k k' p p'.
        at_place (j ≡ j') j a p
        (λ q w. at_place (j ≡ j') j' a p' (λ q' _. sym q ∙ q') (λ ne w'. clash w (v.theirs j' a k' ne w').1))
        (λ ne w. at_place (j ≡ j') j' a p' (λ _ w'. clash w' (v.theirs j a k ne w).1) (λ _ w'. o.apart j j' a k k' w w'));
    owner = λ a k t.
        decided (member a new)
        (λ p. record { index = i; below = l; has = ap (member a) (put_same lists i new) ∙ p })
        (λ p. let r = v.rest a k t p in
        let w = o.owner a k r.0 in
        by_eqb i w.index
        (λ q. clash (sym (ap (member a) was) ∙ subst (λ (y : ℕ). member a (lists y) ≡ true) (sym q) w.has) r.1)
        (λ ne. record { index = w.index; below = w.below; has = ap (member a) (put_other lists i new w.index ne) ∙ w.has }));
  }

-- ---- the lists of live scopes

-- the owned list of a found scope, and the lists where it is put back with another
pub owned_at : (live : ℕ → Option Scope) (k : Found) → live k.index ≡ some k.scope → lists_of live k.index ≡ k.scope.owned
owned_at live k e = rw e

pub lists-put : (live : ℕ → Option Scope) (i : ℕ) (o : Option Scope) (j : ℕ) → lists_of (put live i o) j ≡ put (lists_of live) i (owned_by o) j
lists-put live i o j =
    by_eqb i j
    (λ q. subst (λ (y : ℕ). lists_of (put live i o) y ≡ put (lists_of live) i (owned_by o) y) q (ap owned_by (put_same live i o) ∙ sym (put_same (lists_of live) i (owned_by o))))
    (λ ne. ap owned_by (put_other live i o j ne) ∙ sym (put_other (lists_of live) i (owned_by o) j ne))

-- ---- slots are given

module _ {m : ℕ} (s : Slots) (p : Placed) (count : ℕ) (g : Gives count s p) (room : p.address + count ≤ m) where
  abbrev pub given : List ℕ
  given = run p.address count

  pub given-clear : (a : ℕ) → member a given ≡ true → s.occupied a ≡ false
  given-clear a q = let r = run-within count p.address a q in subst (λ (y : ℕ). s.occupied y ≡ false) (omega arith) (g.clear (a - p.address) (omega arith))

  pub given-taken : (a : ℕ) → member a given ≡ true → p.next.occupied a ≡ true
  given-taken a q = let r = run-within count p.address a q in subst (λ (y : ℕ). p.next.occupied y ≡ true) (omega arith) (g.taken (a - p.address) (omega arith))

  -- a slot that is occupied now was so, or is one of those given
  pub given-only {ℓ} : (X : Type ℓ) (a : ℕ) → p.next.occupied a ≡ true → (s.occupied a ≡ true → X) → (member a given ≡ true → X) → X
  given-only X a t was new = decided (s.occupied a) was (λ f. let r = g.only a t f in new (run-member count p.address a r.0 r.1))

  pub owned-given : {n : ℕ} {lists : ℕ → List ℕ} (i : ℕ) (old : List ℕ) → i < n → lists i ≡ old → OwnedSound m n s.occupied lists
      → OwnedSound m n p.next.occupied (put lists i (added_all given old))
  owned-given {lists = lists} i old l was o =
      let mine : (a : ℕ) → member a old ≡ true → member a (lists i) ≡ true = λ a q. ap (member a) was ∙ q in
      owned-moved i old (added_all given old) l was o
      (record {
        once = once-added_all given old (rw was at (o.once i l));
        within = within-added_all m given old (within-run m count p.address room) (λ a q. o.within i l a (mine a q));
        mine = λ a q. added_all-cases given old a q (given-taken a) (λ r. g.kept a (o.taken i a l (mine a r)));
        theirs = λ j a k ne q. (
          g.kept a (o.taken j a k q),
          is_false _ (λ r. added_all-cases given old a r (λ w. clash (o.taken j a k q) (given-clear a w)) (λ w. ne (o.apart i j a l k (mine a w) q))),
        );
        rest = λ a k t f.
            given-only _ a t
            (λ u. (u, is_false _ (λ q. clash (added_all-old given old a q) f)))
            (λ u. clash (added_all-new given old a u) f);
      })

  pub dangling-given : {dangling : List ℕ} → DanglingSound m s.occupied dangling → DanglingSound m p.next.occupied (without_all given dangling)
  dangling-given {dangling = dangling} d = record {
    once = once-without_all given dangling d.once;
    within = within-without_all m given dangling d.within;
    clear = λ a q. let w = without_all-member given dangling a q in is_false _ (λ t. given-only ⊥ a t (λ u. clash u (d.clear a w.0)) (λ u. clash u w.1));
  }

  pub size-given : {most size : ℕ} → m ≤ most → SizeSound m most s.occupied size → SizeSound m most p.next.occupied (max size (p.address + count))
  size-given fits z = record {
    above = λ a l t. given-only _ a t (λ u. omega (arith, z.above a l u)) (λ u. let r = run-within count p.address a u in omega arith);
    fits = omega (arith, z.fits);
  }

-- ---- slots are removed

pub size-fewer : {m most size : ℕ} {before after : ℕ → Bool} → ((a : ℕ) → a < m → after a ≡ true → before a ≡ true) → SizeSound m most before size → SizeSound m most after size
size-fewer fewer z = record { above = λ a l t. z.above a l (fewer a l t); fits = z.fits }

module _ {segments n : ℕ} (s : Slots) (sound : SlotsSound segments s) {lists : ℕ → List ℕ} (i : ℕ) (old : List ℕ) (l : i < n) (was : lists i ≡ old) (o : OwnedSound (128 * segments) n s.occupied lists) where
  mine : (a : ℕ) → member a old ≡ true → member a (lists i) ≡ true
  mine a q = ap (member a) was ∙ q

  old-within : Within (128 * segments) old
  old-within a q = o.within i l a (mine a q)

  -- all of them
  pub owned-closed : OwnedSound (128 * segments) n (remove_all old s).occupied (put lists i [])
  unfolding member
  owned-closed =
      owned-moved i old [] l was o
      (record {
        once = once-nil;
        within = within-nil (128 * segments);
        mine = λ a q. clash q refl;
        theirs = λ j a k ne q. (remove_all-other old a s (is_false _ (λ r. ne (o.apart i j a l k (mine a r) q))) (o.taken j a k q), refl);
        rest = λ a k t _. remove_all-was segments old a s sound k t;
      })

  pub dangling-closed : {dangling : List ℕ} → DanglingSound (128 * segments) s.occupied dangling → DanglingSound (128 * segments) (remove_all old s).occupied (added_all old dangling)
  dangling-closed {dangling = dangling} d = record {
    once = once-added_all old dangling d.once;
    within = within-added_all (128 * segments) old dangling old-within d.within;
    clear = λ a q. added_all-cases old dangling a q (λ r. remove_all-clears segments old a s sound (old-within a r) r) (λ r. remove_all-stays old a s (d.clear a r));
  }

  pub size-closed : {most size : ℕ} → SizeSound (128 * segments) most s.occupied size → SizeSound (128 * segments) most (remove_all old s).occupied size
  size-closed = size-fewer (λ a k t. (remove_all-was segments old a s sound k t).0)

  -- one of them
  module _ (a : ℕ) (has : member a old ≡ true) where
    pub owned-back : OwnedSound (128 * segments) n (remove a s).occupied (put lists i (without a old))
    owned-back =
        let other : (b : ℕ) → (remove a s).occupied b ≡ true → b ≡ a → ⊥
        = λ b t e. clash t (subst (λ (y : ℕ). (remove a s).occupied y ≡ false) (sym e) (remove-clears a s segments sound (old-within a has))) in
        owned-moved i old (without a old) l was o
        (record {
          once = once-without a old (rw was at (o.once i l));
          within = within-without (128 * segments) a old old-within;
          mine = λ b q. let w = without-member a b old q in remove-other a b s (λ e. w.1 (sym e)) (o.taken i b l (mine b w.0));
          theirs = λ j b k ne q. (
            remove-other a b s (λ e. ne (o.apart i j b l k (mine b (subst (λ (y : ℕ). member y old ≡ true) e has)) q)) (o.taken j b k q),
            is_false _ (λ r. ne (o.apart i j b l k (mine b (without-member a b old r).0) q)),
          );
          rest = λ b k t f. (remove-was a s b t, is_false _ (λ q. clash (without-keeps a b old (other b t) q) f));
        })

    pub dangling-back : {dangling : List ℕ} (dangles : Bool) → DanglingSound (128 * segments) s.occupied dangling
        → DanglingSound (128 * segments) (remove a s).occupied (elim dangles [ true ↦ added a dangling | false ↦ dangling ])
    dangling-back {dangling = dangling} false d = record { once = d.once; within = d.within; clear = λ b q. remove-stays a s b (d.clear b q) }
    dangling-back {dangling = dangling} true d = record {
      once = once-added a dangling d.once;
      within = within-added (128 * segments) a dangling (old-within a has) d.within;
      clear = λ b q. added-cases a b dangling q
          (λ e. subst (λ (y : ℕ). (remove a s).occupied y ≡ false) (sym e) (remove-clears a s segments sound (old-within a has)))
          (λ r. remove-stays a s b (d.clear b r));
    }

    pub size_back : {most size : ℕ} → SizeSound (128 * segments) most s.occupied size → SizeSound (128 * segments) most (remove a s).occupied size
    size_back = size-fewer (λ b _ t. remove-was a s b t)
