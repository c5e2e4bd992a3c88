-- Two states with the same names (`blank`): a scope or a binding that is found in the one is found in the other, and what a call of "Scopes"
-- that places nothing gives in the one, it gives in the other. Assumes nothing.
use mathlib.Core.Path.{◌≡◌, refl, sym, ap, ◌∙◌, fun_ext}
use mathlib.Core.Bool.{Bool, true, false, not, ◌&&◌, ◌||◌}
use mathlib.Core.Option.{Option, none, some}
use mathlib.Core.List.{map}
use Prim.Native.Nat.{ℕ, ◌-◌}
use lib.Dec.{eqb, leb, ltb}
use lib.ListN.{length, length-map}
use Rattle.rules.specs.Notation.{Answer, given, is_some, first}
use Rattle.rules.specs.Sizes.{Room}
use Rattle.rules.specs.Scopes.{Id, Scope, Binding, Scopes, Found, found, top_scope, has_number, by_id, by_number, has_child, open_child, poppable, last_poppable, dangle_scope, restore_scope, bound_in, bind_in, lookup, get_name}
use Rattle.rules.proofs.Chains.{All, all-given, all-when, all-unless, none-some, unless-some, when_false}
use Rattle.rules.proofs.Blanks.{blank_scope, blank_live, blank_found, blank_binding, blank_bound, blank, number-blank, some-blank, has-child-blank, bound-blank, lookup-blank, some-bound}

-- ---- the same scope is meant

-- o has the scope that k is, but for its list
pub record Met (k : Found) (o : Option Found) : Type 0 where
  pub it : Found
  pub is : o ≡ some it
  pub same : blank_found k ≡ blank_found it

-- m is given too, with R
pub record Also {A : Type 0} (R : A → Type 0) (m : Answer A) : Type 0 where
  pub it : A
  pub is : m ≡ given it
  pub so : R it

abbrev pub Whatever : {A : Type 0} → A → Type 0
Whatever a = Unit {0}

module _ (c d : Scopes) (names : blank c ≡ blank d) where
  live-too : (i : ℕ) → blank_live (c.live i) ≡ blank_live (d.live i)
  live-too i = ap (λ (x : Scopes). x.live i) names

  number-too : (n i : ℕ) → has_number n (d.live i) ≡ has_number n (c.live i)
  number-too n i = sym (number-blank n (d.live i)) ∙ ap (has_number n) (sym (live-too i)) ∙ number-blank n (c.live i)

  found-met : (i : ℕ) (k : Found) → found i (c.live i) ≡ some k → Met k (found i (d.live i))
  found-met i k e = go (c.live i) (d.live i) refl refl
    where
      go : (o p : Option Scope) → c.live i ≡ o → d.live i ≡ p → Met k (found i (d.live i))
      go none p x y = none-some (sym (ap (found i) x) ∙ e)
      go (some v) none x y = none-some (sym (ap blank_live y) ∙ sym (live-too i) ∙ ap blank_live x)
      go (some v) (some w) x y =
          let a : some (record { index = i; scope = v }) ≡ some k = sym (ap (found i) x) ∙ e in
          let its : record { index = i; scope = v } ≡ k = cc in
          let b : some (blank_scope v) ≡ some (blank_scope w) = sym (ap blank_live x) ∙ live-too i ∙ ap blank_live y in
          let blanks : blank_scope v ≡ blank_scope w = cc in
          record {
            it = record { index = i; scope = w };
            is = ap (found i) y;
            same = ap blank_found (sym its) ∙ ap (λ (z : Scope). record { index = i; scope = z }) blanks;
          }

  pub top-met : (k : Found) → top_scope c ≡ some k → Met k (top_scope d)
  unfolding top_scope
  top-met k e = go c.top refl
    where
      go : (o : Option ℕ) → c.top ≡ o → Met k (top_scope d)
      go none x = none-some (rw (x, top_scope) at e)
      go (some i) x =
          let y : d.top ≡ some i = ap (λ (z : Scopes). z.top) (sym names) ∙ x in
          rw (y, top_scope) (found-met i k (rw (x, top_scope) at e))

  module _ (room : Room) where
    pub number-met : (n : ℕ) (k : Found) → by_number room c n ≡ some k → Met k (by_number room d n)
    unfolding by_number
    number-met n k e = go (first (λ i. has_number n (c.live i)) 0 room.scopes) refl
      where
        go : (o : Option ℕ) → first (λ i. has_number n (c.live i)) 0 room.scopes ≡ o → Met k (by_number room d n)
        go none x = none-some (rw (x, by_number) at e)
        go (some i) x =
            let y : first (λ j. has_number n (d.live j)) 0 room.scopes ≡ some i = ap (λ (f : ℕ → Bool). first f 0 room.scopes) (fun_ext (number-too n)) ∙ x in
            rw (y, by_number) (found-met i k (rw (x, by_number) at e))

    pub id_met : (id : Id) (k : Found) → by_id room c id ≡ some k → Met k (by_id room d id)
    unfolding by_id
    id_met id k e = go (ltb id.index room.scopes && has_number id.number (c.live id.index)) refl
      where
        go : (b : Bool) → (ltb id.index room.scopes && has_number id.number (c.live id.index)) ≡ b → Met k (by_id room d id)
        go false x = none-some (rw (x, by_id) at e)
        go true x =
            let y : (ltb id.index room.scopes && has_number id.number (d.live id.index)) ≡ true = ap (λ (b : Bool). ltb id.index room.scopes && b) (number-too id.number id.index) ∙ x in
            rw (y, by_id) (found-met id.index k (rw (x, by_id) at e))

    child-too : (i : ℕ) → has_child room d i ≡ has_child room c i
    child-too i = sym (has-child-blank d room i) ∙ ap (λ (x : Scopes). has_child room x i) (sym names) ∙ has-child-blank c room i

    free-too : (i n : ℕ) → first (λ j. not (is_some (d.live j))) i n ≡ first (λ j. not (is_some (c.live j))) i n
    free-too i n =
        ap (λ (f : ℕ → Bool). first f i n)
        (fun_ext (λ j. ap not (sym (some-blank (d.live j)) ∙ ap (λ (o : Option Scope). is_some o) (sym (live-too j)) ∙ some-blank (c.live j))))

    -- ---- what is given there is given here

    pub open-too : All (λ r. Also Whatever (open_child room d)) (open_child room c)
    unfolding open_child
    open-too = all-unless 3 λ t e. all-unless 8 λ i q. all-given (record { it = _; is = unless-some 3 _ (top-met t e).is ∙ unless-some 8 _ (free-too 1 (room.scopes - 1) ∙ q); so = tt })

    pub pop-too : (n : ℕ) → All (λ k. Also (λ (l : Found). blank_found k ≡ blank_found l) (poppable room (by_number room d n) d)) (poppable room (by_number room c n) c)
    unfolding poppable
    pop-too n =
        all-unless 4 λ k e. all-when 5 _ λ p. all-when 6 _ λ q.
        let w = number-met n k e in
        all-given
        (record {
          it = w.it;
          is = unless-some 4 _ w.is
              ∙ when_false 5 _ (ap (λ (x : Found). x.scope.dangled || eqb x.index 0) (sym w.same) ∙ p)
              ∙ when_false 6 _ (child-too w.it.index ∙ ap (λ (x : Found). has_child room c x.index) (sym w.same) ∙ q);
          so = w.same;
        })

    pub last-too : All (λ k. Also (λ (l : Found). blank_found k ≡ blank_found l) (last_poppable room d)) (last_poppable room c)
    unfolding last_poppable
    last-too =
        all-unless 3 λ t e. all-unless 3 λ k p. all-when 6 _ λ q.
        let w = found-met 0 k p in
        all-given (record { it = w.it; is = unless-some 3 _ (top-met t e).is ∙ unless-some 3 _ w.is ∙ when_false 6 _ (child-too 0 ∙ q); so = w.same })

    pub dangle-too : (n : ℕ) → All (λ r. Also Whatever (dangle_scope (by_number room d n) d)) (dangle_scope (by_number room c n) c)
    unfolding dangle_scope
    dangle-too n =
        all-unless 4 λ k e. all-when 5 _ λ p.
        let w = number-met n k e in
        all-given (record { it = _; is = unless-some 4 _ w.is ∙ when_false 5 _ (ap (λ (x : Found). x.scope.dangled || eqb x.index 0) (sym w.same) ∙ p); so = tt })

    pub restore-too : (n : ℕ) → All (λ r. Also Whatever (restore_scope (by_number room d n) d)) (restore_scope (by_number room c n) c)
    unfolding restore_scope
    restore-too n =
        all-unless 4 λ k e. all-when 5 _ λ p.
        let w = number-met n k e in
        all-given (record { it = _; is = unless-some 4 _ w.is ∙ when_false 5 _ (ap (λ (x : Found). not x.scope.dangled || eqb x.index 0) (sym w.same) ∙ p); so = tt })

    bindings-too : map blank_binding d.bindings ≡ map blank_binding c.bindings
    bindings-too = ap (λ (x : Scopes). x.bindings) (sym names)

    pub bind-too : (k l : Found) → blank_found k ≡ blank_found l → (name a b h : ℕ) → All (λ r. Also Whatever (bind_in room l name b h d)) (bind_in room k name a h c)
    unfolding bind_in
    bind-too k l same name a b h =
        all-when 9 _ λ e.
        let many : length d.bindings ≡ length c.bindings = sym (length-map d.bindings blank_binding) ∙ ap length bindings-too ∙ length-map c.bindings blank_binding in
        let index : l.index ≡ k.index = ap (λ (x : Found). x.index) (sym same) in
        let bound : is_some (bound_in l.index name d.bindings) ≡ is_some (bound_in k.index name c.bindings)
        = sym (some-bound (bound_in l.index name d.bindings))
        ∙ ap (λ (o : Option Binding). is_some o)
        (sym (bound-blank l.index name d.bindings)
        ∙ ap (bound_in l.index name) bindings-too
        ∙ ap (λ (i : ℕ). bound_in i name (map blank_binding c.bindings)) index
        ∙ bound-blank k.index name c.bindings)
        ∙ some-bound (bound_in k.index name c.bindings) in
        all-given
        (record {
          it = _;
          is = when_false 9 _
              (ap (λ (n : ℕ). leb room.bindings n && not (is_some (bound_in l.index name d.bindings))) many
              ∙ ap (λ (x : Bool). leb room.bindings (length c.bindings) && not x) bound
              ∙ e);
          so = tt;
        })

    pub get-too : (name : ℕ) → All (λ b. Also (λ (y : Binding). blank_binding b ≡ blank_binding y) (get_name room name d)) (get_name room name c)
    unfolding get_name
    get-too name =
        all-unless 3 λ t e. all-unless 10 λ b p. all-when 11 _ λ q.
        all-given (go t b (top-met t e) p q (lookup room.scopes d name d.top) refl)
      where
        same : blank_bound (lookup room.scopes d name d.top) ≡ blank_bound (lookup room.scopes c name c.top)
        same =
            sym (lookup-blank room d room.scopes name d.top)
            ∙ ap (λ (y : Scopes). lookup room.scopes y name y.top) (sym names)
            ∙ lookup-blank room c room.scopes name c.top

        go : (t : Found) (b : Binding) → Met t (top_scope d) → lookup room.scopes c name c.top ≡ some b → b.moved ≡ false → (o : Option Binding) → lookup room.scopes d name d.top ≡ o
            → Also (λ (y : Binding). blank_binding b ≡ blank_binding y) (get_name room name d)
        go t b w p q none x = none-some (sym (ap blank_bound x) ∙ same ∙ ap blank_bound p)
        go t b w p q (some y) x =
            let z : some (blank_binding y) ≡ some (blank_binding b) = sym (ap blank_bound x) ∙ same ∙ ap blank_bound p in
            let s : blank_binding y ≡ blank_binding b = cc in
            record { it = y; is = unless-some 3 _ w.is ∙ unless-some 10 _ x ∙ when_false 11 _ (ap (λ (v : Binding). v.moved) s ∙ q); so = sym s }
