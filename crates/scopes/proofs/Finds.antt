-- Which scope is meant: the top, or the one with an id, or with a number. Assumes nothing.
use Rattle.std.proofs.Common.{Ok, ◌≡◌, ℕ, ◌<◌, ◌≤◌, Bool, true, false, ◌&&◌, ltb, ◌≢◌, length, get_or, sym, refl, ap, ◌∙◌, ⊎_elim, arith, le-ltb, lt-ltb, eq-eqb, ne_eqb}
use mathlib.Core.Logic.{by_cases}
use mathlib.Core.Option.{none, some}
use native.Mathlib.Decide.{dec_lt}
use lib.ListN.{get_or-eq_default}
use Rattle.rules.specs.Notation.{is_some, first}
use Rattle.rules.specs.Sizes.{base, SCOPES}
use Rattle.rules.specs.Scopes as rule
use Rattle.rules.proofs.Searches.{first-none}
use Rattle.rules.proofs.Tells.{clash}
use Rattle.scopes.specs.View.{view, found_at}
use Rattle.scopes.specs.Sound.{Sound}
use Rattle.scopes.specs.Leaves.{has_number, child_of, has_child, NoChild, Tops}
use Rattle.scopes.specs.declared.Scopes.{Scopes}
use Rattle.scopes.proofs.Tables.{none_is, first-here, first-nowhere}

-- ---- the arrays' tests are the rules'

module _ (s : Scopes) where
  pub lives : (j : ℕ) → is_some ((view s).live j) ≡ get_or s.live j false
  lives j = go (get_or s.live j false) refl
    where
      go : (b : Bool) → get_or s.live j false ≡ b → is_some ((view s).live j) ≡ get_or s.live j false
      go true e = rw e
      go false e = rw e

  has-number : (n j : ℕ) → rule.has_number n ((view s).live j) ≡ has_number s.live s.number n j
  has-number n j = go (get_or s.live j false) refl
    where
      go : (b : Bool) → get_or s.live j false ≡ b → rule.has_number n ((view s).live j) ≡ has_number s.live s.number n j
      go true e = rw e
      go false e = rw e

  child-of : (i j : ℕ) → i < SCOPES → rule.child_of i ((view s).live j) ≡ child_of s.live s.parent i j
  child-of i j hi = go (get_or s.live j false) refl
    where
      go : (b : Bool) → get_or s.live j false ≡ b → rule.child_of i ((view s).live j) ≡ child_of s.live s.parent i j
      go false e = rw e
      go true e =
          by_cases (dec_lt (get_or s.parent j 0) SCOPES)
          (λ l. rw (e, lt-ltb (get_or s.parent j 0) SCOPES l, rule.child_of))
          (λ l. rw (e, le-ltb (get_or s.parent j 0) SCOPES (omega arith), ne_eqb (get_or s.parent j 0) i (λ q. (omega arith)), rule.child_of))

  -- a live scope is below SCOPES
  pub in-range : length s.live ≡ SCOPES → (j : ℕ) → get_or s.live j false ≡ true → j < SCOPES
  in-range n j l = by_cases (dec_lt j SCOPES) (λ q. q) (λ q. clash l (get_or-eq_default s.live false (omega arith)))

  -- ---- the top

  pub no_top : s.top ≡ SCOPES → rule.top_scope (view s) ≡ none
  unfolding rule.top_scope
  no_top e = rw e

  pub record Topped : Type 0 where
    pub small : s.top < SCOPES
    pub live : get_or s.live s.top false ≡ true
    pub is : rule.top_scope (view s) ≡ some (found_at s s.top)

  pub topped : Sound s → s.top ≢ SCOPES → Topped
  unfolding rule.top_scope
  topped h n = ⊎_elim (λ t. record { small = t.0; live = t.1; is = rw (lt-ltb s.top SCOPES t.0, t.1, rule.top_scope) }) (λ t. absurd (n t.0)) h.rooted.topped

  -- .. from the leaf that asks for it
  pub tops : Sound s → (i : ℕ) → Tops s (Ok i) → Topped
  tops h i t = topped h (λ e. omega (arith, t.lives.0, t.top))

  -- ---- by id

  module _ (id : rule.Id) (i : ℕ) (e : i ≡ id.index) where
    pub by-id-here : i < SCOPES → get_or s.live i false ≡ true → get_or s.number i 0 ≡ id.number → some (found_at s i) ≡ rule.by_id base (view s) id
    unfolding rule.by_id base
    by-id-here a l n = sym here ∙ ap (rule.by_id base (view s)) (λ t. record { index = e t; number = n t })
      where
        here : rule.by_id base (view s) (record { index = i; number = get_or s.number i 0 }) ≡ some (found_at s i)
        here =
            let f : (ltb i SCOPES && rule.has_number (get_or s.number i 0) ((view s).live i)) ≡ true = rw (lt-ltb i SCOPES a, l, eq-eqb (get_or s.number i 0) (get_or s.number i 0) refl) in
            rw (f, l, rule.by_id)

    by-id-missed : (ltb i SCOPES && has_number s.live s.number id.number i) ≡ false → none ≡ rule.by_id base (view s) id
    unfolding rule.by_id base
    by-id-missed t =
        let f : (ltb id.index SCOPES && rule.has_number id.number ((view s).live id.index)) ≡ false =
        ap (λ (b : Bool). ltb id.index SCOPES && b) (has-number id.number id.index) ∙ ap (λ (x : ℕ). ltb x SCOPES && has_number s.live s.number id.number x) (sym e) ∙ t in
        sym (rw (f, rule.by_id))

    pub by-id-other : i < SCOPES → get_or s.live i false ≡ true → get_or s.number i 0 ≢ id.number → none ≡ rule.by_id base (view s) id
    by-id-other a l n = by-id-missed (rw (lt-ltb i SCOPES a, l, ne_eqb (get_or s.number i 0) id.number n))

    pub by-id-dead : i < SCOPES → get_or s.live i false ≡ false → none ≡ rule.by_id base (view s) id
    by-id-dead a l = by-id-missed (rw (lt-ltb i SCOPES a, l))

    pub by-id-far : SCOPES ≤ i → none ≡ rule.by_id base (view s) id
    by-id-far a = by-id-missed (rw (le-ltb i SCOPES a))

  -- ---- by number

  module _ (n : ℕ) where
    numbers : ◌≡◌ {A = ℕ → Bool} (λ j. rule.has_number n ((view s).live j)) (has_number s.live s.number n)
    numbers = λ t j. has-number n j t

    pub by-number-here : (i : ℕ) → i < SCOPES → ((j : ℕ) → 0 ≤ j → j < i → has_number s.live s.number n j ≡ false) → get_or s.live i false ≡ true → get_or s.number i 0 ≡ n
        → some (found_at s i) ≡ rule.by_number base (view s) n
    unfolding rule.by_number base
    by-number-here i h before l m =
        let f : first (λ j. rule.has_number n ((view s).live j)) 0 SCOPES ≡ some i =
        ap (λ (g : ℕ → Bool). first g 0 SCOPES) numbers ∙ sym (first-here (has_number s.live s.number n) 0 i (omega arith) h before (rw (l, eq-eqb (get_or s.number i 0) n m))) in
        sym (rw (f, l, rule.by_number))

    pub by-number-none : ((j : ℕ) → 0 ≤ j → j < SCOPES → has_number s.live s.number n j ≡ false) → none ≡ rule.by_number base (view s) n
    unfolding rule.by_number base
    by-number-none before =
        let f : first (λ j. rule.has_number n ((view s).live j)) 0 SCOPES ≡ none = ap (λ (g : ℕ → Bool). first g 0 SCOPES) numbers ∙ sym (first-nowhere (has_number s.live s.number n) 0 (omega arith) before) in
        sym (rw (f, rule.by_number))

  -- ---- children

  module _ (i : ℕ) (hi : i < SCOPES) (r : Bool) (e : r ≡ has_child s.live s.parent i) where
    children : ◌≡◌ {A = ℕ → Bool} (λ j. rule.child_of i ((view s).live j)) (child_of s.live s.parent i)
    children = λ t j. child-of i j hi t

    pub has-child : rule.has_child base (view s) i ≡ r
    unfolding rule.has_child base
    has-child = ap (λ (g : ℕ → Bool). is_some (first g 0 SCOPES)) children ∙ sym e

    pub no-child : length s.live ≡ SCOPES → r ≡ false → NoChild s.live s.parent i
    no-child n q j lj z = clash (and lj z) (first-none (child_of s.live s.parent i) 0 SCOPES (none_is _ (sym e ∙ q)) j (omega arith) (omega (arith, in-range n j lj)))
      where
        and : get_or s.live j false ≡ true → get_or s.parent j 0 ≡ i → child_of s.live s.parent i j ≡ true
        and a b = rw (a, eq-eqb (get_or s.parent j 0) i b)
