-- Bindings stay sound when one is defined or marked moved and when a scope's bindings go; and what a lookup finds is bound. Assumes nothing.
use mathlib.Core.Path.{◌≡◌, refl, sym, ap, subst, ◌∙◌}
use mathlib.Core.Bool.{Bool, true, false}
use mathlib.Core.Option.{Option, none, some}
use mathlib.Core.List.{List, [], ◌∷◌}
use Prim.Native.Nat.{ℕ, zero, suc, ◌≤◌}
use native.Mathlib.Omega.{arith}
use lib.Dec.{eqb}
use lib.ListN.{length}
use borrow.Author.Tests.{eqb-false}
use Rattle.rules.specs.Notation.{is_some}
use Rattle.rules.specs.Sizes.{Room}
use Rattle.rules.specs.Scopes.{Scope, Binding, Scopes, is_for, bound_in, rebound, unbound, lookup, get_name}
use Rattle.rules.proofs.Chains.{All, all-given, all-when, all-unless, none-some}
use Rattle.rules.proofs.Sound.{Every, every-nil, every, BindsOnce, binds-nil, binds}
use Rattle.rules.proofs.Tells.{clash, decided, is_false, tells-and, tells-eq}

pub every-as : {A : Type 0} {P Q : A → Type 0} {l : List A} → ((a : A) → P a → Q a) → Every P l → Every Q l
every-as f every-nil = every-nil
every-as f (every p ps) = every (f _ p) (every-as f ps)

-- ---- one binding

for-is : (i name : ℕ) (b : Binding) → is_for i name b ≡ true → (b.scope ≡ i) × (b.name ≡ name)
for-is i name b e = (tells-and (tells-eq b.scope i) (tells-eq b.name name)).holds e

is-for : (i name : ℕ) (b : Binding) → b.scope ≡ i → b.name ≡ name → is_for i name b ≡ true
is-for i name b p q = (tells-and (tells-eq b.scope i) (tells-eq b.name name)).shows (p, q)

-- ---- what is bound

module _ (i name : ℕ) where
  bound-same : (b : Binding) (l : List Binding) → is_for i name b ≡ true → bound_in i name (b ∷ l) ≡ some b
  unfolding bound_in
  bound-same b l e = rw (e, bound_in)

  bound-skip : (b : Binding) (l : List Binding) → is_for i name b ≡ false → bound_in i name (b ∷ l) ≡ bound_in i name l
  unfolding bound_in
  bound-skip b l e = rw (e, bound_in)

  bound-none : (b : Binding) (l : List Binding) → bound_in i name (b ∷ l) ≡ none → (is_for i name b ≡ false) × (bound_in i name l ≡ none)
  bound-none b l n =
      decided (is_for i name b)
      (λ e. none-some (sym n ∙ bound-same b l e))
      (λ e. (e, sym (bound-skip b l e) ∙ n))

  pub bound-is : {P : Binding → Type 0} (l : List Binding) (x : Binding) → bound_in i name l ≡ some x → Every P l → (x.scope ≡ i) × (x.name ≡ name) × P x
  unfolding bound_in
  bound-is [] x e ps = none-some e
  bound-is {P = P} (b ∷ l) x e (every p ps) = go (is_for i name b) refl (λ q. bound-is l x q ps)
    where
      go : (y : Bool) → is_for i name b ≡ y → (bound_in i name l ≡ some x → (x.scope ≡ i) × (x.name ≡ name) × P x) → (x.scope ≡ i) × (x.name ≡ name) × P x
      go true q ih =
          let r : some b ≡ some x = sym (bound-same b l q) ∙ e in
          let s : b ≡ x = cc in
          let t = for-is i name b q in
          subst (λ (y : Binding). (y.scope ≡ i) × (y.name ≡ name) × P y) s (t.0, t.1, p)
      go false q ih = ih (sym (bound-skip b l q) ∙ e)

-- ---- define, take: the binding x

module _ (x : Binding) where
  abbrev Mine : Binding → Bool
  Mine b = is_for x.scope x.name b

  rebound-same : (b : Binding) (l : List Binding) → Mine b ≡ true → rebound x (b ∷ l) ≡ x ∷ l
  unfolding rebound
  rebound-same b l e = rw (e, rebound)

  rebound-skip : (b : Binding) (l : List Binding) → Mine b ≡ false → rebound x (b ∷ l) ≡ b ∷ rebound x l
  unfolding rebound
  rebound-skip b l e = rw (e, rebound)

  pub rebound-every : {P : Binding → Type 0} {l : List Binding} → P x → Every P l → Every P (rebound x l)
  unfolding rebound
  rebound-every p every-nil = every p every-nil
  rebound-every {P = P} p (every {a = b} {l = l} q qs) =
      decided (Mine b)
      (λ e. subst (Every P) (sym (rebound-same b l e)) (every p qs))
      (λ e. subst (Every P) (sym (rebound-skip b l e)) (every q (rebound-every p qs)))

  -- another scope's or name's stays unbound
  rebound-none : (i name : ℕ) (l : List Binding) → is_for i name x ≡ false → bound_in i name l ≡ none → bound_in i name (rebound x l) ≡ none
  unfolding rebound bound_in
  rebound-none i name [] f n = bound-skip i name x [] f ∙ n
  rebound-none i name (b ∷ l) f n =
      let w = bound-none i name b l n in
      decided (Mine b)
      (λ e. ap (bound_in i name) (rebound-same b l e) ∙ bound-skip i name x l f ∙ w.1)
      (λ e. ap (bound_in i name) (rebound-skip b l e) ∙ bound-skip i name b (rebound x l) w.0 ∙ rebound-none i name l f w.1)

  pub rebound-once : {l : List Binding} → BindsOnce l → BindsOnce (rebound x l)
  unfolding rebound bound_in
  rebound-once binds-nil = binds refl binds-nil
  rebound-once (binds {b = b} {l = l} n o) =
      decided (Mine b)
      (λ e. let w = for-is x.scope x.name b e in
      subst BindsOnce (sym (rebound-same b l e)) (binds (subst (λ (i : ℕ). bound_in i x.name l ≡ none) w.0 (subst (λ (m : ℕ). bound_in b.scope m l ≡ none) w.1 n)) o))
      (λ e. subst BindsOnce (sym (rebound-skip b l e))
      (binds (rebound-none b.scope b.name l (is_false _ (λ q. let w = for-is b.scope b.name x q in clash (is-for x.scope x.name b (sym w.0) (sym w.1)) e)) n) (rebound-once o)))

  -- one more, or as many where the name was bound
  pub rebound-length : (l : List Binding) → length (rebound x l) ≤ suc (length l)
  unfolding rebound
  rebound-length [] = omega arith
  rebound-length (b ∷ l) =
      decided (Mine b)
      (λ e. rw (rebound-same b l e) (omega arith))
      (λ e. rw (rebound-skip b l e) (omega (arith, rebound-length l)))

  pub rebound-as-many : (l : List Binding) → is_some (bound_in x.scope x.name l) ≡ true → length (rebound x l) ≡ length l
  unfolding rebound bound_in
  rebound-as-many [] s = clash s refl
  rebound-as-many (b ∷ l) s =
      decided (Mine b)
      (λ e. ap length (rebound-same b l e))
      (λ e. ap length (rebound-skip b l e) ∙ ap suc (rebound-as-many l (sym (ap is_some (bound-skip x.scope x.name b l e)) ∙ s)))

-- ---- pop: the bindings of the scope at i go

module _ (i : ℕ) where
  unbound-same : (b : Binding) (l : List Binding) → eqb b.scope i ≡ true → unbound i (b ∷ l) ≡ unbound i l
  unfolding unbound
  unbound-same b l e = rw (e, unbound)

  unbound-skip : (b : Binding) (l : List Binding) → eqb b.scope i ≡ false → unbound i (b ∷ l) ≡ b ∷ unbound i l
  unfolding unbound
  unbound-skip b l e = rw (e, unbound)

  pub unbound-every : {P Q : Binding → Type 0} {l : List Binding} → ((b : Binding) → (b.scope ≡ i → ⊥) → P b → Q b) → Every P l → Every Q (unbound i l)
  unfolding unbound
  unbound-every f every-nil = every-nil
  unbound-every {Q = Q} f (every {a = b} {l = l} p ps) =
      decided (eqb b.scope i)
      (λ e. subst (Every Q) (sym (unbound-same b l e)) (unbound-every f ps))
      (λ e. subst (Every Q) (sym (unbound-skip b l e)) (every (f b (eqb-false b.scope i e) p) (unbound-every f ps)))

  unbound-none : (j name : ℕ) (l : List Binding) → bound_in j name l ≡ none → bound_in j name (unbound i l) ≡ none
  unfolding unbound
  unbound-none j name [] n = n
  unbound-none j name (b ∷ l) n =
      let w = bound-none j name b l n in
      decided (eqb b.scope i)
      (λ e. ap (bound_in j name) (unbound-same b l e) ∙ unbound-none j name l w.1)
      (λ e. ap (bound_in j name) (unbound-skip b l e) ∙ bound-skip j name b (unbound i l) w.0 ∙ unbound-none j name l w.1)

  pub unbound-once : {l : List Binding} → BindsOnce l → BindsOnce (unbound i l)
  unfolding unbound
  unbound-once binds-nil = binds-nil
  unbound-once (binds {b = b} {l = l} n o) =
      decided (eqb b.scope i)
      (λ e. subst BindsOnce (sym (unbound-same b l e)) (unbound-once o))
      (λ e. subst BindsOnce (sym (unbound-skip b l e)) (binds (unbound-none b.scope b.name l n) (unbound-once o)))

  pub unbound-length : (l : List Binding) → length (unbound i l) ≤ length l
  unfolding unbound
  unbound-length [] = omega arith
  unbound-length (b ∷ l) =
      decided (eqb b.scope i)
      (λ e. rw (unbound-same b l e) (omega (arith, unbound-length l)))
      (λ e. rw (unbound-skip b l e) (omega (arith, unbound-length l)))

-- ---- get, take: what a lookup finds is bound in some scope

pub record BoundAs (l : List Binding) (name : ℕ) (b : Binding) : Type 0 where
  pub index : ℕ
  pub is : bound_in index name l ≡ some b

lookup-bound : (n : ℕ) (c : Scopes) (name : ℕ) (from : Option ℕ) (b : Binding) → lookup n c name from ≡ some b → BoundAs c.bindings name b
unfolding lookup
lookup-bound zero c name from b e = none-some e
lookup-bound (suc n) c name none b e = none-some e
lookup-bound (suc n) c name (some i) b e = go (c.live i) refl (λ o. lookup-bound n c name o b)
  where
    inner : (k : Scope) → c.live i ≡ some k → (lookup n c name k.parent ≡ some b → BoundAs c.bindings name b) → (o : Option Binding) → bound_in i name c.bindings ≡ o → BoundAs c.bindings name b
    inner k q ih (some x) r = record { index = i; is = r ∙ (rw (q, r, lookup) at e) }
    inner k q ih none r = ih (rw (q, r, lookup) at e)

    go : (o : Option Scope) → c.live i ≡ o → ((p : Option ℕ) → lookup n c name p ≡ some b → BoundAs c.bindings name b) → BoundAs c.bindings name b
    go none q ih = none-some (rw (q, lookup) at e)
    go (some k) q ih = inner k q (ih k.parent) (bound_in i name c.bindings) refl

-- what get answers is one of the bindings
pub got : (room : Room) (name : ℕ) (c : Scopes) → All (BoundAs c.bindings name) (get_name room name c)
unfolding get_name
got room name c = all-unless 3 λ _ _. all-unless 10 λ b e. all-when 11 _ λ _. all-given (lookup-bound room.scopes c name c.top b e)
