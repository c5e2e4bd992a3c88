-- A state is filled turn by turn: a child more, all slots at once, a name more. Assumes nothing.
use mathlib.Core.Path.{◌≡◌, refl, sym, ap, ◌∙◌}
use mathlib.Core.Bool.{Bool, true, false, not, ◌&&◌, ◌||◌}
use mathlib.Core.Option.{Option, none, some}
use mathlib.Core.List.{List, [], ◌∷◌, ◌++◌}
use Prim.Native.Nat.{ℕ, zero, suc, ◌+◌, ◌-◌, ◌≤◌, ◌<◌}
use native.Mathlib.Omega.{arith}
use lib.Dec.{eqb, leb, ltb}
use lib.ListN.{length, length-append}
use borrow.Author.Tests.{le-leb, lt-leb, lt-ltb, le-ltb, ne_eqb, eq-eqb, ltb-true, ltb-false}
use Rattle.rules.specs.Notation.{is_some, put, first}
use Rattle.rules.specs.Sizes.{base, BINDINGS, SCOPES, SEGMENTS, SLOTS}
use Rattle.rules.specs.Slots.{Slots, fresh_slots, placed, past_greatest, pushes, push_run, edition1, by_head, placing}
use Rattle.rules.specs.AddressSets.{member, run}
use Rattle.rules.specs.Scopes.{Scope, Binding, Scopes, new_scope, fresh_scopes, top_scope, child_of, set_scope, open_child, allocate, alloc_run, is_for, bound_in, rebound, bind_in, define_name}
use Rattle.rules.specs.Sound.{owned_by, sound_slots}
use Rattle.rules.specs.Tells.{Tells}
use Rattle.rules.proofs.Tables.{put_same, put-cases, put-alike}
use Rattle.rules.proofs.Searches.{first-is, past-within, past-last}
use Rattle.rules.proofs.Tells.{decided, clash, tells-le, tells-lt, tells-eq}
use Rattle.rules.proofs.Chains.{unless-some, when_false}
use Rattle.rules.proofs.Blanks.{then-given}
use Rattle.rules.proofs.Lockstep.{Also}
use Rattle.rules.proofs.Members.{added_all-new, run-member}
use Rattle.rules.proofs.Kept.{base-fair}
use Rattle.checks.specs.States.{Filled}
use Rattle.checks.proofs.Told.{top-is}

-- two tests that tell the same
alike : {a b : Bool} {P Q : Type 0} → Tells a P → Tells b Q → (P → Q) → (Q → P) → a ≡ b
alike {a = true} s t f g = sym (t.shows (f (s.holds refl)))
alike {a = false} {b = false} s t f g = refl
alike {a = false} {b = true} s t f g = s.shows (g (t.holds refl))

-- what there is
the : {A : Type 0} (o : Option A) → is_some o ≡ true → (a : A) × (o ≡ some a)
the none e = clash refl (sym e)
the (some a) e = (a, refl)

no_names : (i x : ℕ) (l : List Binding) → length l ≡ 0 → is_some (bound_in i x l) ≡ false
unfolding bound_in
no_names i x [] e = refl
no_names i x (b ∷ l) e = absurd (omega arith)

below_none : (x : ℕ) → ltb x 0 ≡ false
below_none x = le-ltb x 0 (omega arith)

pub fresh-filled : Filled 0 0 0 fresh_scopes
unfolding fresh_scopes fresh_slots bound_in
fresh-filled = record {
  live = one;
  line = λ j l. absurd (omega arith);
  top = refl;
  slots = λ a l. sym (below_none a);
  owned = λ a l. absurd (omega arith);
  count = refl;
  names = λ x. sym (below_none x);
}
  where
    one : (j : ℕ) → j < SCOPES → is_some (fresh_scopes.live j) ≡ leb j 0
    one zero l = refl
    one (suc j) l = sym (lt-leb (suc j) 0 (omega arith))

module _ (i n m : ℕ) (c : Scopes) (f : Filled i n m c) (h : i < SCOPES) where
  the-top : (k : Scope) × (c.live i ≡ some k)
  the-top = the (c.live i) (f.live i h ∙ le-leb i i (omega arith))

  top-found : top_scope c ≡ some (record { index = i; scope = the-top.0 })
  top-found = top-is c i the-top.0 f.top the-top.1

-- ---- a child

module _ (i : ℕ) (c : Scopes) (f : Filled i 0 0 c) (h : i < SCOPES - 1) where
  lowest-free : first (λ j. not (is_some (c.live j))) 1 (SCOPES - 1) ≡ some (i + 1)
  lowest-free = first-is _ 1 (SCOPES - 1) (i + 1) (record {
    low = omega arith;
    high = omega arith;
    before = λ j l k. ap not (f.live j (omega arith) ∙ le-leb j i (omega arith));
    passes = ap not (f.live (i + 1) (omega arith) ∙ lt-leb (i + 1) i (omega arith));
  })

  pub child-more : Also (λ r. Filled (i + 1) 0 0 r.1) (open_child base c)
  unfolding base open_child
  child-more = record {
    it = _;
    is = unless-some 3 _ (top-found i 0 0 c f (omega arith)) ∙ unless-some 8 _ lowest-free;
    so = record { live = live; line = line; top = refl; slots = f.slots; owned = λ a l. absurd (omega arith); count = f.count; names = λ x. no_names (i + 1) x c.bindings f.count ∙ sym (below_none x) };
  }
    where
      x : Option Scope
      x = some (new_scope c.counter c.top)

      live : (j : ℕ) → j < SCOPES → is_some (put c.live (i + 1) x j) ≡ leb j (i + 1)
      live j l =
          put-cases c.live (i + 1) x j
          (λ e q. ap is_some q ∙ sym (le-leb j (i + 1) (omega arith)))
          (λ n q. ap is_some q ∙ f.live j l ∙ alike (tells-le j i) (tells-le j (i + 1)) (λ p. omega arith) (λ p. omega (arith, n)))

      line : (j : ℕ) → j < i + 1 → child_of j (put c.live (i + 1) x (suc j)) ≡ true
      line j l =
          put-cases c.live (i + 1) x (suc j)
          (λ e q. ap (child_of j) q ∙ rw f.top (eq-eqb i j (omega arith)))
          (λ n q. ap (child_of j) q ∙ f.line j (omega (arith, n)))

-- ---- all slots

-- a run of two or more in slots of which none is occupied goes to the first n
module _ (s : Slots) (y : sound_slots base.segments s ≡ true) (clear : (a : ℕ) → a < SLOTS → s.occupied a ≡ false) (n : ℕ) (l : 2 ≤ n) (h : n ≤ SLOTS) where
  none-past : past_greatest SEGMENTS s ≡ 0
  unfolding past_greatest
  none-past = go (past_greatest SEGMENTS s) refl
    where
      go : (g : ℕ) → past_greatest SEGMENTS s ≡ g → past_greatest SEGMENTS s ≡ 0
      go zero e = e
      go (suc g) e = clash (past-last s.occupied SLOTS g e) (clear g (omega (arith, e, past-within s.occupied SLOTS)))

  run-first : placing base.segments by_head n s ≡ placed 0 (pushes 0 n s)
  unfolding base placing edition1 push_run
  run-first = rw (ne_eqb n 1 (λ q. omega arith), none-past, le-ltb SLOTS (0 + n) (omega arith), edition1, push_run) (ap (λ (g : ℕ). placed g (pushes g n s)) none-past)

  run-taken : (a : ℕ) → a < n → (pushes 0 n s).occupied a ≡ true
  run-taken a b = let z : 0 + a ≡ a = omega arith in rw z at (((base-fair by_head).placed n s _ run-first y).1.taken a b)

module _ (i : ℕ) (c : Scopes) (f : Filled i 0 0 c) (h : i < SCOPES) (y : sound_slots base.segments c.slots ≡ true) where
  no_slot : (a : ℕ) → a < SLOTS → c.slots.occupied a ≡ false
  no_slot a l = f.slots a l ∙ below_none a

  of-all : Also (λ r. Filled i SLOTS 0 r.1) (alloc_run (placing base.segments by_head) SLOTS c)
  unfolding alloc_run allocate set_scope
  of-all =
      let k = (the-top i 0 0 c f h).1 in
      record {
        it = _;
        is = unless-some 3 _ (top-found i 0 0 c f h) ∙ then-given _ (unless-some 7 _ (run-first c.slots y no_slot SLOTS (omega arith) (omega arith)));
        so = record {
          live = λ j l. put-alike c.live i _ is_some (sym (ap is_some k)) j ∙ f.live j l;
          line = λ j l. put-alike c.live i _ (child_of j) (sym (ap (child_of j) k)) (suc j) ∙ f.line j l;
          top = f.top;
          slots = λ a l. run-taken c.slots y no_slot SLOTS (omega arith) (omega arith) a l ∙ sym (lt-ltb a SLOTS l);
          owned = λ a l. ap (λ (o : Option Scope). member a (owned_by o)) (put_same c.live i _) ∙ added_all-new (run 0 SLOTS) _ a (run-member SLOTS 0 a (omega arith) (omega arith));
          count = f.count;
          names = f.names;
        };
      }

  -- a run of all slots
  pub slots-all : (n : ℕ) → n ≡ SLOTS → Also (λ r. Filled i SLOTS 0 r.1) (alloc_run (placing base.segments by_head) n c)
  slots-all n e = rw e of-all

-- ---- a name

rebound-last : (x : Binding) (l : List Binding) → is_some (bound_in x.scope x.name l) ≡ false → rebound x l ≡ l ++ (x ∷ [])
unfolding bound_in rebound
rebound-last x [] e = refl
rebound-last x (b ∷ l) e =
    decided (is_for x.scope x.name b)
    (λ p. clash refl (rw (p, bound_in) at e))
    (λ p. rw (p, rebound) (ap (λ (r : List Binding). b ∷ r) (rebound-last x l (rw (p, bound_in) at e))))

bound-last : (i y : ℕ) (x : Binding) (l : List Binding) → is_some (bound_in i y (l ++ (x ∷ []))) ≡ (is_some (bound_in i y l) || is_for i y x)
unfolding bound_in
bound-last i y x [] = decided (is_for i y x) (λ p. rw (p, bound_in)) (λ p. rw (p, bound_in))
bound-last i y x (b ∷ l) =
    decided (is_for i y b)
    (λ p. rw (p, bound_in))
    (λ p. rw (p, bound_in) (bound-last i y x l))

module _ (i n m : ℕ) (c : Scopes) (f : Filled i n m c) (h : i < SCOPES) (few : m < BINDINGS) (address handle : ℕ) where
  pub name-more : Also (Filled i n (m + 1)) (define_name base m address handle c)
  unfolding base bind_in
  name-more = record {
    it = _;
    is = unless-some 3 _ (top-found i n m c f h) ∙ when_false 9 _ (rw (lt-leb BINDINGS (length c.bindings) (omega (arith, f.count))));
    so = record {
      live = f.live;
      line = f.line;
      top = f.top;
      slots = f.slots;
      owned = f.owned;
      count = ap length last ∙ length-append c.bindings (x ∷ []) ∙ omega (arith, f.count);
      names = λ y. ap (λ (l : List Binding). is_some (bound_in i y l)) last ∙ bound-last i y x c.bindings ∙ rw (f.names y) (one_more_lem y);
    };
  }
    where
      x : Binding
      x = record { scope = i; name = m; address = address; handle = handle; moved = false }

      last : rebound x c.bindings ≡ c.bindings ++ (x ∷ [])
      last = rebound-last x c.bindings (f.names m ∙ le-ltb m m (omega arith))

      one_more_lem : (y : ℕ) → (ltb y m || (eqb i i && eqb m y)) ≡ ltb y (m + 1)
      one_more_lem y =
          decided (ltb y m)
          (λ p. rw p (sym (lt-ltb y (m + 1) (omega (arith, ltb-true y m p)))))
          (λ p. rw (p, eq-eqb i i refl) (alike (tells-eq m y) (tells-lt y (m + 1)) (λ q. omega arith) (λ q. omega (arith, ltb-false y m p))))
