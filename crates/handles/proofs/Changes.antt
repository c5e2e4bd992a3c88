-- What the handles are after a slot or several went back, after one handle changed, and after new ones were handed out.
-- Assumes nothing.
use mathlib.Core.Path.{◌≡◌, refl, sym, ap, subst, ◌∙◌}
use mathlib.Core.Bool.{Bool, true, false, ◌&&◌}
use mathlib.Core.List.{List}
use Prim.Native.Nat.{ℕ, ◌+◌, ◌-◌, ◌%◌, ◌≤◌, ◌<◌}
use native.Mathlib.Omega.{arith}
use native.Mathlib.Decide.{dec_lt}
use mathlib.Core.Logic.{◌⊎◌, inl, inr, ⊎_elim, by_cases}
use lib.Dec.{eqb}
use lib.ListN.{length, get_or}
use lib.Seq.{get_or-set_same, get_or-set_other}
use borrow.Author.Tests.{ne_eqb, eq-eqb, le-leb, lt-leb, lt-ltb, le-ltb}
use Rattle.rules.specs.Notation.{put, ◌▹◌}
use Rattle.rules.specs.AddressSets.{member}
use Rattle.rules.specs.Needs.{Kind}
use Rattle.rules.specs.Frames.{Handle, held≔, grant, let_go}
use Rattle.rules.proofs.Tables.{by_eqb, put_same, put_other}
use Rattle.rules.proofs.Tells.{decided}
use Rattle.handles.specs.Handles.{slot_in, kind_in, handle_at, with_number, HandsOut}
use Rattle.handles.specs.declared.Handles.{Handles}

and-false : (b : Bool) → (b && false) ≡ false
and-false true = refl
and-false false = refl

-- the handle h, but that its slot's state is another
abbrev seen_as : Handles → ℕ → Bool → Handle
seen_as t h held = record { address = slot_in (get_or t.table h 0); kind = kind_in (get_or t.table h 0); held = held; written = eqb (get_or t.table h 0 % 2) 1 }

-- a handle is the same where its slot's state is
module _ (occupied occupied' : ℕ → Bool) (t : Handles) where
  abbrev slot : ℕ → ℕ
  slot h = slot_in (get_or t.table h 0)

  same_at : (h : ℕ) → occupied' (slot h) ≡ occupied (slot h) → handle_at occupied' t h ≡ handle_at occupied t h
  same_at h e = ap (λ (b : Bool). seen_as t h (b && eqb (get_or t.holders (slot h) 0) h)) e

  clear_at : (h : ℕ) → occupied' (slot h) ≡ false → handle_at occupied' t h ≡ (handle_at occupied t h ▹ held≔ false)
  clear_at h e = ap (λ (b : Bool). seen_as t h (b && eqb (get_or t.holders (slot h) 0) h)) e

  -- the slots of a closed scope are clear, and the others are as they were
  pub closing : (gone : List ℕ) → ((a : ℕ) → member a gone ≡ true → occupied' a ≡ false) → ((a : ℕ) → member a gone ≡ false → occupied' a ≡ occupied a)
      → handle_at occupied' t ≡ let_go gone (handle_at occupied t)
  unfolding let_go
  closing gone clear kept = λ u h. at h u
    where
      at : (h : ℕ) → handle_at occupied' t h ≡ let_go gone (handle_at occupied t) h
      at h = decided (member (slot h) gone)
          (λ e. clear_at h (clear (slot h) e) ∙ rw (e, let_go))
          (λ e. same_at h (kept (slot h) e) ∙ rw (e, let_go))

  -- the slot of h, which holds it, is clear, and the others are as they were
  pub clearing : (h : ℕ) → occupied' (slot h) ≡ false → ((b : ℕ) → (slot h ≡ b → ⊥) → occupied' b ≡ occupied b) → get_or t.holders (slot h) 0 ≡ h
      → handle_at occupied' t ≡ put (handle_at occupied t) h (handle_at occupied t h ▹ held≔ false)
  clearing h clear kept holds = λ u g. at g u
    where
      f : ℕ → Handle
      f = handle_at occupied t

      other : (g : ℕ) → (h ≡ g → ⊥) → handle_at occupied' t g ≡ f g
      other g ne =
          by_eqb (slot h) (slot g)
          (λ e.
          let none : eqb (get_or t.holders (slot g) 0) g ≡ false = ne_eqb _ _ (λ q. ne (sym holds ∙ ap (λ (a : ℕ). get_or t.holders a 0) e ∙ q)) in
          clear_at g (subst (λ (a : ℕ). occupied' a ≡ false) e clear) ∙ ap (seen_as t g) (sym (ap (λ (b : Bool). occupied (slot g) && b) none ∙ and-false (occupied (slot g)))))
          (λ q. same_at g (kept (slot g) q))

      at : (g : ℕ) → handle_at occupied' t g ≡ put f h (f h ▹ held≔ false) g
      at g =
          by_eqb h g
          (λ e. subst (λ (i : ℕ). handle_at occupied' t i ≡ put f h (f h ▹ held≔ false) i) e (clear_at h clear ∙ sym (put_same f h (f h ▹ held≔ false))))
          (λ ne. other g ne ∙ sym (put_other f h (f h ▹ held≔ false) g ne))

-- the number of h is another one, for the same slot
module _ (occupied : ℕ → Bool) (t : Handles) (h b : ℕ) (known : h < length t.table) where
  abbrev pub recoded : Handle
  recoded = record { address = slot_in b; kind = kind_in b; held = occupied (slot_in b) && eqb (get_or t.holders (slot_in b) 0) h; written = eqb (b % 2) 1 }

  pub recoding : handle_at occupied (with_number t h b) ≡ put (handle_at occupied t) h recoded
  recoding = λ u g. at g u
    where
      f : ℕ → Handle
      f = handle_at occupied t

      at : (g : ℕ) → handle_at occupied (with_number t h b) g ≡ put f h recoded g
      at g =
          by_eqb h g
          (λ e. subst (λ (i : ℕ). handle_at occupied (with_number t h b) i ≡ put f h recoded i) e (rw (get_or-set_same t.table h b 0 known) (sym (put_same f h recoded))))
          (λ ne. rw (get_or-set_other t.table h g b 0 (λ q. ne (sym q))) (sym (put_other f h recoded g ne)))

-- n handles from `handed` on were handed out for the n slots from a on, which were clear
pub record Granted (occupied occupied' : ℕ → Bool) (t t' : Handles) (n a : ℕ) (kind : Kind) : Type 0 where
  pub was-clear : (i : ℕ) → i < n → occupied (a + i) ≡ false
  pub taken : (i : ℕ) → i < n → occupied' (a + i) ≡ true
  pub kept : (b : ℕ) → (b < a) ⊎ (a + n ≤ b) → occupied' b ≡ occupied b
  pub hands : HandsOut t n a kind t'

module _ {occupied occupied' : ℕ → Bool} {t t' : Handles} {n a : ℕ} {kind : Kind} (g : Granted occupied occupied' t t' n a kind) where
  abbrev slot' : ℕ → ℕ
  slot' h = slot_in (get_or t'.table h 0)

  new-at : (i : ℕ) → i < n → handle_at occupied' t' (t.handed + i) ≡ record { address = a + i; kind = kind; held = true; written = false }
  new-at i l =
      let s : slot' (t.handed + i) ≡ a + i = g.hands.slots i l in
      let o : occupied' (slot' (t.handed + i)) ≡ true = rw s (g.taken i l) in
      let e : eqb (get_or t'.holders (slot' (t.handed + i)) 0) (t.handed + i) ≡ true = rw s (eq-eqb _ _ (g.hands.holds i l)) in
      let k : kind_in (get_or t'.table (t.handed + i) 0) ≡ kind = g.hands.kinds i l in
      λ u. record { address = s u; kind = k u; held = o u && e u; written = g.hands.unwritten i l u }

  -- an older handle of one of these slots was not held, and isn't
  old-held : (h x : ℕ) → (h < t.handed) ⊎ (t.handed + n ≤ h) → (occupied' x && eqb (get_or t'.holders x 0) h) ≡ (occupied x && eqb (get_or t.holders x 0) h)
  old-held h x w =
      by_cases (dec_lt x a)
      (λ l. outside (inl l))
      (λ l. by_cases (dec_lt x (a + n)) (λ u. inside (x - a) (omega arith) (omega arith)) (λ u. outside (inr (omega arith))))
    where
      outside : (x < a) ⊎ (a + n ≤ x) → (occupied' x && eqb (get_or t'.holders x 0) h) ≡ (occupied x && eqb (get_or t.holders x 0) h)
      outside q = rw (g.kept x q, g.hands.held-others x q)

      inside : (i : ℕ) → i < n → x ≡ a + i → (occupied' x && eqb (get_or t'.holders x 0) h) ≡ (occupied x && eqb (get_or t.holders x 0) h)
      inside i l e =
          let other : eqb (get_or t'.holders (a + i) 0) h ≡ false = ne_eqb (get_or t'.holders (a + i) 0) h (λ q. ⊎_elim (λ v. omega (arith, g.hands.holds i l)) (λ v. omega (arith, g.hands.holds i l)) w) in
          rw (e, g.was-clear i l, other, and-false (occupied' (a + i)))

  old-at : (h : ℕ) → (h < t.handed) ⊎ (t.handed + n ≤ h) → handle_at occupied' t' h ≡ handle_at occupied t h
  old-at h w =
      let b : get_or t'.table h 0 ≡ get_or t.table h 0 = g.hands.others h w in
      (λ u. record { address = slot_in (b u); kind = kind_in (b u); held = occupied' (slot_in (b u)) && eqb (get_or t'.holders (slot_in (b u)) 0) h; written = eqb (b u % 2) 1 })
      ∙ ap (seen_as t h) (old-held h (slot_in (get_or t.table h 0)) w)

  pub granting : handle_at occupied' t' ≡ grant t.handed n a kind (handle_at occupied t)
  unfolding grant
  granting = λ u h. at h u
    where
      f : ℕ → Handle
      f = handle_at occupied t

      new : (h : ℕ) → t.handed ≤ h → h < t.handed + n → handle_at occupied' t' h ≡ grant t.handed n a kind f h
      new h lo hi =
          let e : t.handed + (h - t.handed) ≡ h = omega arith in
          subst (λ (i : ℕ). handle_at occupied' t' i ≡ record { address = a + (h - t.handed); kind = kind; held = true; written = false }) e (new-at (h - t.handed) (omega arith))
          ∙ rw (le-leb t.handed h lo, lt-ltb h (t.handed + n) hi, grant)

      at : (h : ℕ) → handle_at occupied' t' h ≡ grant t.handed n a kind f h
      at h =
          by_cases (dec_lt h t.handed)
          (λ l. old-at h (inl l) ∙ rw (lt-leb t.handed h l, grant))
          (λ l. by_cases (dec_lt h (t.handed + n)) (λ u. new h (omega arith) u) (λ u. old-at h (inr (omega arith)) ∙ rw (le-leb t.handed h (omega arith), le-ltb h (t.handed + n) (omega arith), grant)))
