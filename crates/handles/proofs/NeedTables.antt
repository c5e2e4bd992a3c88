-- Needs by their numbers in the tables: what a number says, whose handle it is, and one need set. Assumes nothing.
use mathlib.Core.Path.{◌≡◌, refl, sym, ap, subst, ◌∙◌}
use mathlib.Core.Bool.{Bool, true, false, ◌&&◌}
use mathlib.Core.Option.{none}
use Prim.Native.Nat.{ℕ, zero, suc, ◌+◌, ◌-◌, ◌≤◌, ◌<◌}
use native.Mathlib.Omega.{arith}
use lib.Dec.{eqb}
use lib.ListN.{length, get_or, length-set}
use lib.Seq.{get_or-set_same, get_or-set_other}
use borrow.Author.Tests.{ne_eqb, eq-eqb, eqb-true, le-leb, lt-leb}
use Rattle.std.specs.Prelude.{Ok, Err}
use Rattle.rules.specs.Notation.{given, ◌>>=◌, refuse◌when◌, put, is_some, first}
use Rattle.rules.specs.Scopes.{Id}
use Rattle.rules.specs.Needs.{Kind, Address, allocated_kind, assigned, scope, defer, at, ignore, freed_need}
use Rattle.rules.specs.Frames.{owns, is_scope_kind, keeps, Remembered, add_need, set_need}
use Rattle.rules.specs.declared.refusal.Refusal.TheVariants.{NeedsFull}
use Rattle.rules.proofs.Tells.{clash}
use Rattle.rules.proofs.Tables.{put-ext}
use Rattle.rules.specs.Sizes.{base, NEEDS}
use Rattle.handles.specs.declared.remembered.Needs.{Needs}
use Rattle.handles.specs.Handles.{handle_at, slot_in, id_in, kind_in, kind_coded}
use Rattle.handles.specs.NeedTable.{code_in, need_in, remembered_at, belongs_in, with_need, AddsNeed}

-- ---- one number

kind-scope : (k : ℕ) (id : Id) → is_scope_kind (kind_coded k id) ≡ eqb k 4
kind-scope k id = go (eqb k 1) (eqb k 2) (eqb k 3) (eqb k 4) refl refl refl refl
  where
    go : (a b c d : Bool) → eqb k 1 ≡ a → eqb k 2 ≡ b → eqb k 3 ≡ c → eqb k 4 ≡ d → is_scope_kind (kind_coded k id) ≡ eqb k 4
    go true b c d p q r s = rw (p) (sym (ne_eqb k 4 (λ z. omega (arith, eqb-true k 1 p))))
    go false true c d p q r s = rw (p, q) (sym (ne_eqb k 4 (λ z. omega (arith, eqb-true k 2 q))))
    go false false true d p q r s = rw (p, q, r) (sym (ne_eqb k 4 (λ z. omega (arith, eqb-true k 3 r))))
    go false false false true p q r s = rw (p, q, r, s)
    go false false false false p q r s = rw (p, q, r, s)

-- allocating an Address leaves it as it is: it is Assigned or Scope
pub again : (b : ℕ) (a : Address) → need_in b ≡ at a → at (record { slot = a.slot; kind = allocated_kind a.kind }) ≡ need_in b
again b a e = go (eqb (code_in b) 5) (eqb (code_in b) 6) (eqb (code_in b) 3) (eqb (code_in b) 4) refl refl refl refl
  where
    fixed : (k : Kind) → a ≡ record { slot = slot_in b; kind = k } → allocated_kind k ≡ k → at (record { slot = a.slot; kind = allocated_kind a.kind }) ≡ need_in b
    fixed k q z = (λ t. at (record { slot = (q t).slot; kind = allocated_kind (q t).kind })) ∙ (λ t. at (record { slot = slot_in b; kind = z t })) ∙ (λ t. at (sym q t)) ∙ sym e

    go : (x y z w : Bool) → eqb (code_in b) 5 ≡ x → eqb (code_in b) 6 ≡ y → eqb (code_in b) 3 ≡ z → eqb (code_in b) 4 ≡ w → at (record { slot = a.slot; kind = allocated_kind a.kind }) ≡ need_in b
    go true y z w p q r u = absurd (let x : defer (id_in b) ≡ at a = rw p at e in let z : ◌≡◌ {A = ℕ} 0 1 = cc in omega arith)
    go false true z w p q r u = absurd (let x : ignore ≡ at a = rw (p, q) at e in let z : ◌≡◌ {A = ℕ} 0 1 = cc in omega arith)
    go false false true w p q r u = let x : at (record { slot = slot_in b; kind = assigned }) ≡ at a = rw (p, q, r) at e in fixed assigned (cc) refl
    go false false false true p q r u = let x : at (record { slot = slot_in b; kind = scope (id_in b) }) ≡ at a = rw (p, q, r, u) at e in fixed (scope (id_in b)) (cc) refl
    go false false false false p q r u = absurd (let x : freed_need ≡ at a = rw (p, q, r, u) at e in let z : ◌≡◌ {A = ℕ} 0 1 = cc in omega arith)

-- the number of a handle of kind Scope, as a need's
pub own_is : (b : ℕ) → is_scope_kind (kind_in b) ≡ true → need_in b ≡ at (record { slot = slot_in b; kind = kind_in b })
own_is b e =
    let k : code_in b ≡ 4 = eqb-true (code_in b) 4 (sym (kind-scope (code_in b) (id_in b)) ∙ e) in
    rw (ne_eqb (code_in b) 5 (λ q. omega (arith, k)), ne_eqb (code_in b) 6 (λ q. omega (arith, k)), ne_eqb (code_in b) 3 (λ q. omega (arith, k)), eq-eqb (code_in b) 4 k, ne_eqb (code_in b) 1 (λ q. omega (arith, k)), ne_eqb (code_in b) 2 (λ q. omega (arith, k)))

-- ---- whose handle it is

module _ (t : Needs) (h : ℕ) where
  abbrev pub test : ℕ → Bool
  test n = keeps (remembered_at t n) h

  pub belongs-all : belongs_in t h ≡ is_some (first test 0 (t.needed - 0))
  unfolding belongs_in
  belongs-all = let e : t.needed ≡ t.needed - 0 = omega arith in ap (λ (n : ℕ). is_some (first test 0 n)) e

  -- those from i on decide it
  abbrev pub Left : ℕ → Type 0
  Left i = belongs_in t h ≡ is_some (first test i (t.needed - i))

  pub belongs-here : (i : ℕ) → i < t.needed → Left i → test i ≡ true → belongs_in t h ≡ true
  unfolding first
  belongs-here i l w e = let m : t.needed - i ≡ suc (t.needed - i - 1) = omega arith in w ∙ ap (λ (n : ℕ). is_some (first test i n)) m ∙ rw (e, first)

  pub belongs-next : (i : ℕ) → i < t.needed → Left i → test i ≡ false → Left (i + 1)
  unfolding first
  belongs-next i l w e =
      let m : t.needed - i ≡ suc (t.needed - (i + 1)) = omega arith in
      let n : suc i ≡ i + 1 = omega arith in
      w ∙ ap (λ (n : ℕ). is_some (first test i n)) m ∙ rw (e, first) (ap (λ (j : ℕ). is_some (first test j (t.needed - (i + 1)))) n)

  pub belongs-none : (i : ℕ) → t.needed ≤ i → Left i → belongs_in t h ≡ false
  unfolding first
  belongs-none i l w = let m : t.needed - i ≡ 0 = omega arith in w ∙ ap (λ (n : ℕ). is_some (first test i n)) m

  -- none of them remembers h
  other : (i : ℕ) → (get_or t.remembers i 0 ≡ h → ⊥) → test i ≡ false
  other i n = rw (ne_eqb (get_or t.remembers i 0) h n) (go (owns (need_in (get_or t.table i 0))))
    where
      go : (b : Bool) → (b && false) ≡ false
      go true = refl
      go false = refl

  none_from : (n i : ℕ) → i + n ≡ t.needed → ((j : ℕ) → j < t.needed → get_or t.remembers j 0 ≡ h → ⊥) → first test i n ≡ none
  unfolding first
  none_from zero i e a = refl
  none_from (suc n) i e a = rw (other i (a i (omega (arith, e))), first) (none_from n (suc i) (omega (arith, e)) a)

  pub belongs-nobody : ((j : ℕ) → j < t.needed → get_or t.remembers j 0 ≡ h → ⊥) → belongs_in t h ≡ false
  unfolding belongs_in
  belongs-nobody a = ap is_some (none_from t.needed 0 (omega arith) a)

-- ---- the need n is b now, and remembers h

module _ (t : Needs) (n b h : ℕ) (l : n < length t.table) (k : n < length t.remembers) where
  pub need-set : remembered_at (with_need t n b h) ≡ put (remembered_at t) n (record { need = need_in b; handle = h })
  need-set =
      put-ext (remembered_at t) n _ (remembered_at (with_need t n b h))
      (λ u. record { need = need_in (get_or-set_same t.table n b 0 l u); handle = get_or-set_same t.remembers n h 0 k u })
      (λ j ne u. record { need = need_in (get_or-set_other t.table n j b 0 (λ q. ne (sym q)) u); handle = get_or-set_other t.remembers n j h 0 (λ q. ne (sym q)) u })

-- ---- one more

module _ (t : Needs) (b h : ℕ) where
  abbrev x : Remembered
  x = record { need = need_in b; handle = h }

  pub adding-22 : NEEDS ≤ t.needed → length t.table ≡ NEEDS → length t.remembers ≡ NEEDS → AddsNeed x t (Err NeedsFull) t
  unfolding add_need base ◌>>=◌ refuse◌when◌
  adding-22 l long long' = record { does = λ c handles. rw (le-leb NEEDS t.needed l, add_need); numbered = tt; stays = λ _. refl; needs-length = long; remembers-length = long' }

  pub adding : t.needed < NEEDS → length t.table ≡ NEEDS → length t.remembers ≡ NEEDS → (u : Needs) → u ≡ with_need t t.needed b h
      → AddsNeed x t (Ok (record { 0 = t.needed })) (record { table = u.table; remembers = u.remembers; needed = u.needed + 1 })
  unfolding add_need set_need base ◌>>=◌ refuse◌when◌
  adding l long long' u is =
      subst (λ (v : Needs). AddsNeed x t (Ok (record { 0 = t.needed })) (record { table = v.table; remembers = v.remembers; needed = v.needed + 1 })) (sym is) (record {
        does = λ c handles.
            rw (lt-leb NEEDS t.needed l, add_need)
            (λ v. given (record {
              scopes = c;
              handles = handle_at c.slots.occupied handles;
              handed = handles.handed;
              needs = sym (need-set t t.needed b h (omega arith) (omega arith)) v;
              needed = t.needed + 1;
            }));
        numbered = refl;
        stays = λ q. clash q refl;
        needs-length = simp length-set long;
        remembers-length = simp length-set long';
      })
