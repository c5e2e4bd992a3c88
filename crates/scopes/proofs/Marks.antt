-- A scope is dangled, or restored. Assumes nothing.
use Rattle.std.proofs.Common.{Ok, Err, ◌≡◌, ℕ, ◌<◌, Bool, true, false, ◌≢◌, List, length, get_or, set, sym, refl, ap, ◌∙◌, subst, inl, arith, length-set, get_or-set_other, get_or-set_same, lt-ltb}
use mathlib.Core.Option.{Option, some}
use Rattle.rules.specs.Notation.{given, refused, put}
use Rattle.rules.specs.Refusals.{number_of}
use Rattle.rules.specs.declared.refusal.Refusal.{Refusal}
use Rattle.rules.specs.Sizes.{base, SCOPES}
use Rattle.rules.specs.Scopes as rule
use Rattle.rules.proofs.Tells.{clash}
use Rattle.scopes.specs.View.{index, view, scope_of, Seen, told_only}
use Rattle.scopes.specs.Sound.{Sound, LeadsToRoot, root, up, Sized}
use Rattle.scopes.specs.Leaves.{Admits}
use Rattle.scopes.specs.Steps.{Whole, Becomes}
use Rattle.scopes.specs.declared.Scopes.{Scopes}
use Rattle.scopes.proofs.Tables.{put-ext}
use Rattle.scopes.proofs.Finds.{in-range}
use Rattle.scopes.proofs.Refusals.{refused-by, admitted}
use Rattle.scopes.proofs.Becoming.{refuses, does}

abbrev pub marked : Scopes → ℕ → Bool → ℕ → Scopes
marked s i b top = record s { dangled = set s.dangled i b; top = top }

pub leads-live : {live : List Bool} {parent : List ℕ} {j : ℕ} → LeadsToRoot live parent j → get_or live j false ≡ true
leads-live (root l q) = l
leads-live (up n l r) = l

-- root is live where any scope is
pub leads-root : {live : List Bool} {parent : List ℕ} {j : ℕ} → LeadsToRoot live parent j → (get_or live 0 false ≡ true) × (get_or parent 0 0 ≡ SCOPES)
leads-root (root l q) = (l, q)
leads-root (up n l r) = leads-root r

-- the parent of a live scope that isn't root is live
pub parent_live : (s : Scopes) → Sound s → (i : ℕ) → get_or s.live i false ≡ true → i ≢ 0 → get_or s.live (get_or s.parent i 0) false ≡ true
parent_live s h i l nz = go i refl (h.rooted.leads i l)
  where
    go : (j : ℕ) → j ≡ i → LeadsToRoot s.live s.parent j → get_or s.live (get_or s.parent i 0) false ≡ true
    go j e (root _ _) = absurd (nz (sym e))
    go j e (up n _ r) = subst (λ (x : ℕ). get_or s.live (get_or s.parent x 0) false ≡ true) e (leads-live r)

module _ (s : Scopes) (h : Sound s) (i : ℕ) (hi : i < SCOPES) (li : get_or s.live i false ≡ true) (ld : length s.dangled ≡ SCOPES) (b : Bool) where
  live-is : (top : ℕ) → (view (marked s i b top)).live ≡ put (view s).live i (some (rule.dangled≔ b (scope_of s i)))
  live-is top =
      put-ext _ _ i _
      (rw (li, get_or-set_same s.dangled i b false (omega arith)))
      (λ j n. rw (get_or-set_other s.dangled i j b false n))

  marked-sound : (top : ℕ) → top < SCOPES → get_or s.live top false ≡ true → Sound (marked s i b top)
  marked-sound top ht lt =
      record {
        slotted = h.slotted;
        ringed = h.ringed;
        owned = h.owned;
        rooted = record {
          topped = inl (ht, lt);
          leads = h.rooted.leads;
          dead = λ j hj l. rw (get_or-set_other s.dangled i j b false (λ e. clash li (subst (λ (x : ℕ). get_or s.live x false ≡ false) e l))) (h.rooted.dead j hj l);
          first = h.rooted.first;
        };
        named = h.named;
      }

marked-sized : (s : Scopes) → Sized s → (i : ℕ) (b : Bool) (top : ℕ) → Sized (marked s i b top)
marked-sized s z i b top =
    record { halves = z.halves; links = z.links; owner = z.owner; live = z.live; dangled = length-set s.dangled i b ∙ z.dangled; parent = z.parent; number = z.number; bindings = z.bindings }

module _ (s : Scopes) (id : rule.Id) where
  abbrev o : Option rule.Found
  o = rule.by_id base (view s) id

  abbrev Dangles : rule.Scopes → Seen (Unit {0})
  Dangles c = told_only c (rule.dangle_scope (rule.by_id base c id) c)

  abbrev Restores : rule.Scopes → Seen (Unit {0})
  Restores c = told_only c (rule.restore_scope (rule.by_id base c id) c)

  module _ (h : Whole s) where
    pub dangle-refused : (e : Refusal) → Admits s false o (Err e) → Becomes s s (refused (number_of e)) Dangles
    unfolding rule.dangle_scope
    dangle-refused e a = refuses s (number_of e) Dangles h (sym (ap (told_only (view s)) (refused-by false _ s o e a)))

    pub restore-refused : (e : Refusal) → Admits s true o (Err e) → Becomes s s (refused (number_of e)) Restores
    unfolding rule.restore_scope
    restore-refused e a = refuses s (number_of e) Restores h (sym (ap (told_only (view s)) (refused-by true _ s o e a)))

    module _ (i : ℕ) where
      pub dangle-marks : Admits s false o (Ok i) → (p : ℕ) → p ≡ get_or s.parent i 0 → Becomes s (marked s i true p) (given tt) Dangles
      unfolding rule.dangle_scope rule.set_scope
      dangle-marks a p ep =
          let l = live-is s h.sound i a.lives.0 a.lives.1 h.sized.dangled true p in
          let q : get_or s.live p false ≡ true = subst (λ (x : ℕ). get_or s.live x false ≡ true) (sym ep) (parent_live s h.sound i a.lives.1 a.inner) in
          does s (marked s i true p) tt Dangles
          ((λ u. record {
            next = record { slots = (view s).slots; live = l u; top = index (ep u); counter = s.counter; bindings = (view s).bindings; dangling = (view s).dangling; size = s.size };
            says = given tt;
          })
          ∙ sym (ap (told_only (view s)) (admitted false _ s o i a)))
          (record { sound = marked-sound s h.sound i a.lives.0 a.lives.1 h.sized.dangled true p (in-range s h.sized.live p q) q; sized = marked-sized s h.sized i true p })

      pub restore-unmarks : Admits s true o (Ok i) → Becomes s (marked s i false i) (given tt) Restores
      unfolding rule.restore_scope rule.set_scope
      restore-unmarks a =
          let l = live-is s h.sound i a.lives.0 a.lives.1 h.sized.dangled false i in
          let x : index i ≡ some i = rw (lt-ltb i SCOPES a.lives.0, index) in
          does s (marked s i false i) tt Restores
          ((λ u. record {
            next = record { slots = (view s).slots; live = l u; top = x u; counter = s.counter; bindings = (view s).bindings; dangling = (view s).dangling; size = s.size };
            says = given tt;
          })
          ∙ sym (ap (told_only (view s)) (admitted true _ s o i a)))
          (record { sound = marked-sound s h.sound i a.lives.0 a.lives.1 h.sized.dangled false i a.lives.0 a.lives.1; sized = marked-sized s h.sized i false i })
