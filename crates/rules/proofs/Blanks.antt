-- The scopes without what depends on where allocations go: `blank` has no slots, no owned addresses, and no addresses in its bindings.
-- Calls that place nothing do to it what they do to the scopes. Assumes nothing.
use mathlib.Core.Path.{◌≡◌, refl, sym, ap, ◌∙◌, fun_ext}
use mathlib.Core.Bool.{Bool, true, false, not, ◌&&◌}
use mathlib.Core.Option.{Option, none, some}
use mathlib.Core.List.{List, [], ◌∷◌, map}
use Prim.Native.Nat.{ℕ, zero, suc, ◌-◌}
use lib.Dec.{eqb, leb}
use lib.ListN.{length, length-map}
use Rattle.rules.specs.Notation.{Answer, given, ◌>>=◌, is_some, ◌▹◌, put, first}
use Rattle.rules.specs.Sizes.{Room}
use Rattle.rules.specs.Slots.{fresh_slots, remove_all}
use Rattle.rules.specs.AddressSets.{added_all}
use Rattle.rules.specs.Scopes.{Scope, Binding, Scopes, live≔, top≔, counter≔, bindings≔, dangled≔, owned≔, moved≔, new_scope, Found, found, top_scope, has_number, by_number, child_of, has_child, set_scope, after_counter, open_child, unbound, closed, poppable, last_poppable, dangle_scope, restore_scope, is_for, bound_in, rebound, bind_in, lookup, get_name, take_name}
use Rattle.rules.proofs.Chains.{All, all-given, all_then, all-when, all-unless, none-some, unless-some, when_false}
use Rattle.rules.proofs.Naming.{found_at}
use Rattle.rules.proofs.Tables.{put_same, put_other, put-ext}

pub then-given : {A B : Type 0} {m : Answer A} {a : A} (f : A → Answer B) → m ≡ given a → (m >>= f) ≡ f a
unfolding ◌>>=◌
then-given {A = A} f e = ap (λ (x : Answer A). x >>= f) e

-- ---- blanks

abbrev pub blank_scope : Scope → Scope
blank_scope k = k ▹ owned≔ []

abbrev pub blank_live : Option Scope → Option Scope
blank_live none = none
blank_live (some k) = some (blank_scope k)

abbrev pub blank_found : Found → Found
blank_found k = record { index = k.index; scope = blank_scope k.scope }

abbrev pub blank_binding : Binding → Binding
blank_binding b = record { scope = b.scope; name = b.name; address = 0; handle = b.handle; moved = b.moved }

abbrev pub blank_bound : Option Binding → Option Binding
blank_bound none = none
blank_bound (some b) = some (blank_binding b)

abbrev pub blank : Scopes → Scopes
blank c =
    record {
      slots = fresh_slots;
      live = λ i. blank_live (c.live i);
      top = c.top;
      counter = c.counter;
      bindings = map blank_binding c.bindings;
      dangling = [];
      size = 0;
    }

-- ---- which scope is meant

pub number-blank : (n : ℕ) (o : Option Scope) → has_number n (blank_live o) ≡ has_number n o
number-blank n none = refl
number-blank n (some k) = refl

pub some-blank : (o : Option Scope) → is_some (blank_live o) ≡ is_some o
some-blank none = refl
some-blank (some k) = refl

child-of-blank : (i : ℕ) (o : Option Scope) → child_of i (blank_live o) ≡ child_of i o
child-of-blank i none = refl
child-of-blank i (some k) = refl

pub found-blank : (i : ℕ) (o : Option Scope) (k : Found) → found i o ≡ some k → found i (blank_live o) ≡ some (blank_found k)
found-blank i none k e = none-some e
found-blank i (some c) k e = let y : record { index = i; scope = c } ≡ k = cc in ap (λ (z : Found). some (blank_found z)) y

put-blank : (f : ℕ → Option Scope) (i : ℕ) (x : Option Scope) → put (λ j. blank_live (f j)) i (blank_live x) ≡ (λ j. blank_live (put f i x j))
put-blank f i x = sym (put-ext (λ j. blank_live (f j)) i (blank_live x) (λ j. blank_live (put f i x j)) (ap blank_live (put_same f i x)) (λ j ne. ap blank_live (put_other f i x j ne)))

module _ (c : Scopes) where
  pub top-blank : (k : Found) → top_scope c ≡ some k → top_scope (blank c) ≡ some (blank_found k)
  unfolding top_scope
  top-blank k e = go c.top refl
    where
      go : (o : Option ℕ) → c.top ≡ o → top_scope (blank c) ≡ some (blank_found k)
      go none q = none-some (rw (q, top_scope) at e)
      go (some i) q = rw (q, top_scope) (found-blank i (c.live i) k (rw (q, top_scope) at e))

  module _ (room : Room) where
    pub by-number-blank : (n : ℕ) (k : Found) → by_number room c n ≡ some k → by_number room (blank c) n ≡ some (blank_found k)
    unfolding by_number
    by-number-blank n k e = go (first (λ i. has_number n (c.live i)) 0 room.scopes) refl
      where
        same : first (λ i. has_number n (blank_live (c.live i))) 0 room.scopes ≡ first (λ i. has_number n (c.live i)) 0 room.scopes
        same = ap (λ (f : ℕ → Bool). first f 0 room.scopes) (fun_ext (λ i. number-blank n (c.live i)))

        go : (o : Option ℕ) → first (λ i. has_number n (c.live i)) 0 room.scopes ≡ o → by_number room (blank c) n ≡ some (blank_found k)
        go none q = none-some (rw (q, by_number) at e)
        go (some i) q = rw (same, q, by_number) (found-blank i (c.live i) k (rw (q, by_number) at e))

    -- a scope that is found by its number is live
    pub by-number-at : (n : ℕ) (k : Found) → by_number room c n ≡ some k → c.live k.index ≡ some k.scope
    unfolding by_number
    by-number-at n k e = go (first (λ i. has_number n (c.live i)) 0 room.scopes) refl
      where
        go : (o : Option ℕ) → first (λ i. has_number n (c.live i)) 0 room.scopes ≡ o → c.live k.index ≡ some k.scope
        go none q = none-some (rw (q, by_number) at e)
        go (some i) q = (found_at c.live i k (rw (q, by_number) at e)).1

    pub has-child-blank : (i : ℕ) → has_child room (blank c) i ≡ has_child room c i
    unfolding has_child
    has-child-blank i = ap (λ (f : ℕ → Bool). is_some (first f 0 room.scopes)) (fun_ext (λ j. child-of-blank i (c.live j)))

    -- ---- child, pop, dangle, restore

    pub child-blank : All (λ r. open_child room (blank c) ≡ given (r.0, blank r.1)) (open_child room c)
    unfolding open_child
    child-blank =
        all-unless 3 λ t e. all-unless 8 λ i q.
        all-given
        (unless-some 3 _ (top-blank t e)
        ∙ unless-some 8 _ (ap (λ (f : ℕ → Bool). first f 1 (room.scopes - 1)) (fun_ext (λ j. ap not (some-blank (c.live j)))) ∙ q)
        ∙ ap (λ (l : ℕ → Option Scope). given (record { index = i; number = c.counter }, blank c ▹ live≔ l ▹ top≔ (some i) ▹ counter≔ (after_counter c.counter))) (put-blank c.live i (some (new_scope c.counter c.top))))

    pub pop-blank : (n : ℕ) → All (λ k. poppable room (by_number room (blank c) n) (blank c) ≡ given (blank_found k)) (poppable room (by_number room c n) c)
    unfolding poppable
    pop-blank n =
        all-unless 4 λ k e. all-when 5 _ λ p. all-when 6 _ λ q.
        all-given (unless-some 4 _ (by-number-blank n k e) ∙ when_false 5 _ p ∙ when_false 6 _ (has-child-blank k.index ∙ q))

    pub last-blank : All (λ k. last_poppable room (blank c) ≡ given (blank_found k)) (last_poppable room c)
    unfolding last_poppable
    last-blank =
        all-unless 3 λ t e. all-unless 3 λ k p. all-when 6 _ λ q.
        all-given (unless-some 3 _ (top-blank t e) ∙ unless-some 3 _ (found-blank 0 (c.live 0) k p) ∙ when_false 6 _ (has-child-blank 0 ∙ q))

    pub dangle-blank : (n : ℕ) → All (λ d. dangle_scope (by_number room (blank c) n) (blank c) ≡ given (blank d)) (dangle_scope (by_number room c n) c)
    unfolding dangle_scope set_scope
    dangle-blank n =
        all-unless 4 λ k e. all-when 5 _ λ p.
        all-given
        (unless-some 4 _ (by-number-blank n k e)
        ∙ when_false 5 _ p
        ∙ ap (λ (l : ℕ → Option Scope). given (blank c ▹ live≔ l ▹ top≔ k.scope.parent)) (put-blank c.live k.index (some (k.scope ▹ dangled≔ true))))

    pub restore-blank : (n : ℕ) → All (λ d. restore_scope (by_number room (blank c) n) (blank c) ≡ given (blank d)) (restore_scope (by_number room c n) c)
    unfolding restore_scope set_scope
    restore-blank n =
        all-unless 4 λ k e. all-when 5 _ λ p.
        all-given
        (unless-some 4 _ (by-number-blank n k e)
        ∙ when_false 5 _ p
        ∙ ap (λ (l : ℕ → Option Scope). given (blank c ▹ live≔ l ▹ top≔ (some k.index))) (put-blank c.live k.index (some (k.scope ▹ dangled≔ false))))

-- ---- bindings

pub bound-blank : (i name : ℕ) (l : List Binding) → bound_in i name (map blank_binding l) ≡ blank_bound (bound_in i name l)
unfolding bound_in
bound-blank i name [] = refl
bound-blank i name (b ∷ l) = go (is_for i name b) refl (bound-blank i name l)
  where
    go : (y : Bool) → is_for i name b ≡ y → bound_in i name (map blank_binding l) ≡ blank_bound (bound_in i name l)
        → bound_in i name (map blank_binding (b ∷ l)) ≡ blank_bound (bound_in i name (b ∷ l))
    go true q ih = rw (q, bound_in)
    go false q ih = rw (q, bound_in) ih

rebound-blank : (x : Binding) (l : List Binding) → rebound (blank_binding x) (map blank_binding l) ≡ map blank_binding (rebound x l)
unfolding rebound
rebound-blank x [] = refl
rebound-blank x (b ∷ l) = go (is_for x.scope x.name b) refl (rebound-blank x l)
  where
    go : (y : Bool) → is_for x.scope x.name b ≡ y → rebound (blank_binding x) (map blank_binding l) ≡ map blank_binding (rebound x l)
        → rebound (blank_binding x) (map blank_binding (b ∷ l)) ≡ map blank_binding (rebound x (b ∷ l))
    go true q ih = rw (q, rebound)
    go false q ih = rw (q, rebound) (ap (λ (m : List Binding). blank_binding b ∷ m) ih)

unbound-blank : (i : ℕ) (l : List Binding) → unbound i (map blank_binding l) ≡ map blank_binding (unbound i l)
unfolding unbound
unbound-blank i [] = refl
unbound-blank i (b ∷ l) = go (eqb b.scope i) refl (unbound-blank i l)
  where
    go : (y : Bool) → eqb b.scope i ≡ y → unbound i (map blank_binding l) ≡ map blank_binding (unbound i l)
        → unbound i (map blank_binding (b ∷ l)) ≡ map blank_binding (unbound i (b ∷ l))
    go true q ih = rw (q, unbound) ih
    go false q ih = rw (q, unbound) (ap (λ (m : List Binding). blank_binding b ∷ m) ih)

pub some-bound : (o : Option Binding) → is_some (blank_bound o) ≡ is_some o
some-bound none = refl
some-bound (some b) = refl

pub closed-blank : (k : Found) (c : Scopes) → closed (blank_found k) (blank c) ≡ blank (closed k c)
unfolding closed remove_all added_all
closed-blank k c =
    ap (λ (l : ℕ → Option Scope). blank c ▹ live≔ l ▹ bindings≔ (unbound k.index (map blank_binding c.bindings)) ▹ top≔ k.scope.parent) (put-blank c.live k.index none)
    ∙ ap (λ (m : List Binding). blank c ▹ live≔ (λ j. blank_live (put c.live k.index none j)) ▹ bindings≔ m ▹ top≔ k.scope.parent) (unbound-blank k.index c.bindings)

module _ (room : Room) (c : Scopes) where
  pub bind-blank : (t : Found) (name a h : ℕ) → All (λ d. bind_in room (blank_found t) name 0 h (blank c) ≡ given (blank d)) (bind_in room t name a h c)
  unfolding bind_in
  bind-blank t name a h =
      all-when 9 _ λ e.
      all-given
      (when_false 9 _
      (ap (λ (n : ℕ). leb room.bindings n && not (is_some (bound_in t.index name (map blank_binding c.bindings)))) (length-map c.bindings blank_binding)
      ∙ ap (λ (b : Bool). leb room.bindings (length c.bindings) && not b) (ap is_some (bound-blank t.index name c.bindings) ∙ some-bound (bound_in t.index name c.bindings))
      ∙ e)
      ∙ ap (λ (m : List Binding). given (blank c ▹ bindings≔ m)) (rebound-blank (record { scope = t.index; name = name; address = a; handle = h; moved = false }) c.bindings))

  pub lookup-blank : (n name : ℕ) (o : Option ℕ) → lookup n (blank c) name o ≡ blank_bound (lookup n c name o)
  unfolding lookup
  lookup-blank zero name o = refl
  lookup-blank (suc n) name none = refl
  lookup-blank (suc n) name (some i) = go (c.live i) refl (lookup-blank n name)
    where
      in_scope : (k : Scope) (b : Option Binding) → c.live i ≡ some k → bound_in i name c.bindings ≡ b → ((o : Option ℕ) → lookup n (blank c) name o ≡ blank_bound (lookup n c name o))
          → lookup (suc n) (blank c) name (some i) ≡ blank_bound (lookup (suc n) c name (some i))
      in_scope k (some b) q p ih = rw (q, bound-blank i name c.bindings, p, lookup)
      in_scope k none q p ih = rw (q, bound-blank i name c.bindings, p, lookup) (ih k.parent)

      go : (x : Option Scope) → c.live i ≡ x → ((o : Option ℕ) → lookup n (blank c) name o ≡ blank_bound (lookup n c name o))
          → lookup (suc n) (blank c) name (some i) ≡ blank_bound (lookup (suc n) c name (some i))
      go none q ih = rw (q, lookup)
      go (some k) q ih = in_scope k (bound_in i name c.bindings) q refl ih

  pub get-blank : (name : ℕ) → All (λ b. get_name room name (blank c) ≡ given (blank_binding b)) (get_name room name c)
  unfolding get_name
  get-blank name =
      all-unless 3 λ t e. all-unless 10 λ b p. all-when 11 _ λ q.
      all-given (unless-some 3 _ (top-blank c t e) ∙ unless-some 10 _ (lookup-blank room.scopes name c.top ∙ ap blank_bound p) ∙ when_false 11 _ q)

  pub take-blank : (name : ℕ) → All (λ r. take_name room name (blank c) ≡ given (blank_binding r.0, blank r.1)) (take_name room name c)
  unfolding take_name
  take-blank name =
      all_then λ b e.
      all-given
      (then-given _ ((get-blank name).at b e)
      ∙ ap (λ (m : List Binding). given (blank_binding b, blank c ▹ bindings≔ m)) (rebound-blank (b ▹ moved≔ true) c.bindings))
