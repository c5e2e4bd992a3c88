-- The place of a name's binding, and what a new binding does to the others. Assumes nothing.
use Rattle.std.proofs.Common.{◌≡◌, ℕ, suc, ◌+◌, ◌*◌, ◌/◌, ◌%◌, ◌<◌, ◌≤◌, Bool, true, false, eqb, ◌≢◌, List, [], ◌∷◌, ◌++◌, map, length, get_or, take, drop, sym, refl, ap, ◌∙◌, subst, append-nil, add-one, arith, length-take-le, take_all, get_or-take, take-suc, eq-eqb, ne_eqb, eqb-true}
use mathlib.Core.Logic.{by_cases}
use mathlib.Core.Option.{Option, none, some}
use mathlib.Core.List.{map-append}
use native.Mathlib.Decide.{ℕ_discrete}
use lib.Seq.{take-set-lt, split_at, set_split}
use Rattle.rules.specs.Sizes.{BINDINGS, WORD}
use Rattle.rules.specs.Notation.{is_some}
use Rattle.rules.specs.Scopes as rule
use Rattle.rules.proofs.Tells.{clash}
use Rattle.scopes.specs.View.{binding, bindings_of, ADDRESS_PART, HANDLE_PART, NAME_PART, SCOPE_PART}
use Rattle.scopes.specs.Sound.{Each, BoundOnce}
use Rattle.scopes.specs.Leaves.{Spot}
use Rattle.scopes.proofs.Tables.{and_left, and_right, and_both}
use Rattle.scopes.proofs.Opens.{each_map}

-- ---- a binding in one number

-- the test of a key is the rules' test
pub hit : (b i name : ℕ) → name < WORD → b / NAME_PART ≡ i * WORD + name → rule.is_for i name (binding b) ≡ true
hit b i name hn e = and_both _ _ (eq-eqb (b / SCOPE_PART) i (omega arith)) (eq-eqb (b / NAME_PART % WORD) name (omega arith))

pub miss : (b i name : ℕ) → name < WORD → b / NAME_PART ≢ i * WORD + name → rule.is_for i name (binding b) ≡ false
miss b i name hn n =
    by_cases (ℕ_discrete (b / SCOPE_PART) i)
    (λ e. rw (eq-eqb (b / SCOPE_PART) i e, ne_eqb (b / NAME_PART % WORD) name (λ q. n (omega arith))))
    (λ e. rw (ne_eqb (b / SCOPE_PART) i e))

module _ (i name address handle b : ℕ) (hn : name < WORD) (ha : address < WORD) (hh : handle < WORD) (e : b ≡ (i * WORD + name) * NAME_PART + (address * ADDRESS_PART + handle * 2)) where
  scope-is : b / SCOPE_PART ≡ i
  scope-is = omega arith

  name-is : b / NAME_PART % WORD ≡ name
  name-is = omega arith

  address_is : b / ADDRESS_PART % WORD ≡ address
  address_is = omega arith

  handle-is : b / HANDLE_PART % WORD ≡ handle
  handle-is = omega arith

  pub pack-is : binding b ≡ record { scope = i; name = name; address = address; handle = handle; moved = false }
  pack-is = λ t. record { scope = scope-is t; name = name-is t; address = address_is t; handle = handle-is t; moved = ne_eqb (b % 2) 1 (omega arith) t }

-- one more is the same binding, moved
module _ (b : ℕ) (e : b % 2 ≢ 1) where
  scope_kept : (b + 1) / SCOPE_PART ≡ b / SCOPE_PART
  scope_kept = omega arith

  name-kept : (b + 1) / NAME_PART ≡ b / NAME_PART
  name-kept = omega arith

  address_kept : (b + 1) / ADDRESS_PART ≡ b / ADDRESS_PART
  address_kept = omega arith

  handle-kept : (b + 1) / 2 ≡ b / 2
  handle-kept = omega arith

  pub marked-moved : binding (b + 1) ≡ rule.moved≔ true (binding b)
  marked-moved = λ t. record { scope = scope_kept t; name = name-kept t % WORD; address = address_kept t % WORD; handle = handle-kept t % WORD; moved = eq-eqb ((b + 1) % 2) 1 (omega arith) t }

-- ---- the search

module _ (i name : ℕ) where
  -- none of these binds the name in the scope
  abbrev pub Missed : List ℕ → Type 0
  Missed [] = Unit
  Missed (b ∷ l) = (rule.is_for i name (binding b) ≡ false) × Missed l

  missed-end : (l : List ℕ) (b : ℕ) → Missed l → rule.is_for i name (binding b) ≡ false → Missed (l ++ (b ∷ []))
  missed-end [] b h m = (m, tt)
  missed-end (x ∷ l) b h m = (h.0, missed-end l b h.1 m)

  bound-skip : (xs : List ℕ) (l : List rule.Binding) → Missed xs → rule.bound_in i name (map binding xs ++ l) ≡ rule.bound_in i name l
  unfolding rule.bound_in
  bound-skip [] l h = refl
  bound-skip (x ∷ xs) l h = rw (h.0, rule.bound_in) (bound-skip xs l h.1)

  rebound-skip : (x : rule.Binding) → x.scope ≡ i → x.name ≡ name → (xs : List ℕ) (l : List rule.Binding) → Missed xs → rule.rebound x (map binding xs ++ l) ≡ map binding xs ++ rule.rebound x l
  unfolding rule.rebound
  rebound-skip x p q [] l h = refl
  rebound-skip x p q (b ∷ xs) l h =
      let e : rule.is_for x.scope x.name (binding b) ≡ false = rw (p, q) h.0 in
      rw (e, rule.rebound) (ap (λ (t : List rule.Binding). binding b ∷ t) (rebound-skip x p q xs l h.1))

  bound-here : (b : ℕ) (l : List rule.Binding) → rule.is_for i name (binding b) ≡ true → rule.bound_in i name (binding b ∷ l) ≡ some (binding b)
  unfolding rule.bound_in
  bound-here b l h = rw (h, rule.bound_in)

  rebound-here : (x : rule.Binding) → x.scope ≡ i → x.name ≡ name → (b : ℕ) (l : List rule.Binding) → rule.is_for i name (binding b) ≡ true → rule.rebound x (binding b ∷ l) ≡ x ∷ l
  unfolding rule.rebound
  rebound-here x p q b l h = let e : rule.is_for x.scope x.name (binding b) ≡ true = rw (p, q) h in rw (e, rule.rebound)

  module _ (bindings : List ℕ) (count : ℕ) (long : length bindings ≡ BINDINGS) (hc : count ≤ BINDINGS) where
    abbrev L : List ℕ
    L = take count bindings

    len : length L ≡ count
    len = length-take-le count bindings (omega arith)

    pub missed_more : (j : ℕ) → j < count → Missed (take j L) → rule.is_for i name (binding (get_or bindings j 0)) ≡ false → Missed (take (j + 1) L)
    missed_more j hj h m =
        rw (add-one j, take-suc L j 0 (omega (arith, len)))
        (missed-end (take j L) (get_or L j 0) h (rw (get_or-take count bindings j 0 hj) m))

    pub spot-none : (j : ℕ) → count ≤ j → Missed (take j L) → Spot bindings count i name BINDINGS
    unfolding rule.bound_in rule.rebound
    spot-none j l h =
        let all : Missed L = rw (take_all j L (omega (arith, len))) at h in
        record {
          most = omega arith;
          there = λ z. absurd (omega arith);
          missing = λ _. record {
            is = subst (λ (t : List rule.Binding). rule.bound_in i name t ≡ none) (append-nil (map binding L)) (bound-skip L [] all);
            appended = λ b p q. subst (λ (t : List rule.Binding). rule.rebound (binding b) t ≡ map binding L ++ (binding b ∷ [])) (append-nil (map binding L)) (rebound-skip (binding b) p q L [] all);
          };
        }

    pub spot-some : (j : ℕ) → j < count → Missed (take j L) → rule.is_for i name (binding (get_or bindings j 0)) ≡ true → Spot bindings count i name j
    spot-some j hj h t =
        let s : L ≡ take j L ++ (get_or bindings j 0 ∷ drop (suc j) L) = split_at L j 0 (omega (arith, len)) ∙ ap (λ (x : ℕ). take j L ++ (x ∷ drop (suc j) L)) (get_or-take count bindings j 0 hj) in
        let ms : bindings_of bindings count ≡ map binding (take j L) ++ (binding (get_or bindings j 0) ∷ map binding (drop (suc j) L)) = ap (map binding) s ∙ map-append binding (take j L) _ in
        record {
          most = omega arith;
          missing = λ z. absurd (omega arith);
          there = λ _. record {
            inside = hj;
            is = ap (rule.bound_in i name) ms ∙ bound-skip (take j L) _ h ∙ bound-here (get_or bindings j 0) _ t;
            in_scope = eqb-true _ _ (and_left _ _ t);
            of-name = eqb-true _ _ (and_right (eqb (get_or bindings j 0 / SCOPE_PART) i) _ t);
            replaced = λ b p q.
                ap (map binding) (take-set-lt count bindings j b hj ∙ set_split L j b (omega (arith, len))) ∙ map-append binding (take j L) _
                ∙ sym (ap (rule.rebound (binding b)) ms ∙ rebound-skip (binding b) p q (take j L) _ h ∙ ap (λ (x : List rule.Binding). map binding (take j L) ++ x) (rebound-here (binding b) p q (get_or bindings j 0) _ t));
          };
        }

-- ---- what a new binding keeps

pub each-bound : (P : rule.Binding → Type 0) (i name : ℕ) (x : rule.Binding) (l : List rule.Binding) → rule.bound_in i name l ≡ some x → Each P l → P x
unfolding rule.bound_in
each-bound P i name x [] e h = absurd (none-some e)
  where
    none-some : none ≡ some x → ⊥
    none-some q = clash (ap is_some q) refl
each-bound P i name x (b ∷ l) e h = go (rule.is_for i name b) refl (each-bound P i name x l)
  where
    go : (t : Bool) → rule.is_for i name b ≡ t → (rule.bound_in i name l ≡ some x → Each P l → P x) → P x
    go true q r = subst P (some_is (sym here ∙ e)) h.0
      where
        here : rule.bound_in i name (b ∷ l) ≡ some b
        here = rw (q, rule.bound_in)

        some_is : some b ≡ some x → b ≡ x
        some_is z = ap (λ (o : Option rule.Binding). elim o [ none ↦ b | some y ↦ y ]) z
    go false q r = r (sym here ∙ e) h.1
      where
        here : rule.bound_in i name (b ∷ l) ≡ rule.bound_in i name l
        here = rw (q, rule.bound_in)

pub each-rebound : (P : rule.Binding → Type 0) (x : rule.Binding) → P x → (l : List rule.Binding) → Each P l → Each P (rule.rebound x l)
unfolding rule.rebound
each-rebound P x p [] h = (p, tt)
each-rebound P x p (b ∷ l) h = go (rule.is_for x.scope x.name b) refl (each-rebound P x p l h.1)
  where
    go : (t : Bool) → rule.is_for x.scope x.name b ≡ t → Each P (rule.rebound x l) → Each P (rule.rebound x (b ∷ l))
    go true e r = rw (e, rule.rebound) (p, h.1)
    go false e r = rw (e, rule.rebound) (h.0, r)

same-for : (x b y : rule.Binding) → rule.is_for x.scope x.name b ≡ true → rule.is_for b.scope b.name y ≡ false → rule.is_for x.scope x.name y ≡ false
same-for x b y e h =
    let p : b.scope ≡ x.scope = eqb-true _ _ (and_left (eqb b.scope x.scope) _ e) in
    let q : b.name ≡ x.name = eqb-true _ _ (and_right (eqb b.scope x.scope) _ e) in
    subst (λ (n : ℕ). rule.is_for x.scope n y ≡ false) q (subst (λ (n : ℕ). rule.is_for n b.name y ≡ false) p h)

flip-for : (x b : rule.Binding) → rule.is_for x.scope x.name b ≡ false → rule.is_for b.scope b.name x ≡ false
flip-for x b h =
    by_cases (ℕ_discrete b.scope x.scope)
    (λ p. by_cases (ℕ_discrete b.name x.name)
    (λ q. clash (and_both _ _ (eq-eqb b.scope x.scope p) (eq-eqb b.name x.name q)) h)
    (λ q. rw (eq-eqb x.scope b.scope (sym p), ne_eqb x.name b.name (λ e. q (sym e)))))
    (λ p. rw (ne_eqb x.scope b.scope (λ e. p (sym e))))

pub once-rebound : (x : rule.Binding) (l : List rule.Binding) → BoundOnce l → BoundOnce (rule.rebound x l)
unfolding rule.rebound
once-rebound x [] h = (tt, tt)
once-rebound x (b ∷ l) h = go (rule.is_for x.scope x.name b) refl (once-rebound x l h.1)
  where
    go : (t : Bool) → rule.is_for x.scope x.name b ≡ t → BoundOnce (rule.rebound x l) → BoundOnce (rule.rebound x (b ∷ l))
    go true e r = rw (e, rule.rebound) (each_map (λ y n. same-for x b y e n) l h.0, h.1)
    go false e r = rw (e, rule.rebound) (each-rebound (λ y. rule.is_for b.scope b.name y ≡ false) x (flip-for x b e) l h.0, r)
