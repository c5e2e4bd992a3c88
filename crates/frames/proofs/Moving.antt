-- Frames that leave the handles alone: what the state's operation answers is what the rules' step adds, over the same handles.
-- Assumes nothing.
use mathlib.Core.Path.{◌≡◌, refl, sym, ap, ◌∙◌}
use mathlib.Core.Option.{Option, none, some}
use mathlib.Core.List.{List, [], ◌∷◌}
use Prim.Native.Nat.{ℕ, ◌%◌}
use native.Mathlib.Omega.{arith}
use Rattle.std.specs.Prelude.{Result, Ok, Err}
use Rattle.rules.specs.Notation.{Answer, given, refused, ◌>>=◌, refuse◌unless◌, ◌▹◌}
use Rattle.rules.specs.Refusals.{number_of, says}
use Rattle.rules.specs.declared.refusal.Refusal.{Refusal}
use Rattle.rules.specs.Sizes.{base, WORD}
use Rattle.rules.specs.Slots.{Placement, remove_all}
use Rattle.rules.specs.Scopes as rule
use Rattle.rules.specs.Scopes.{Found, by_number, by_id}
use Rattle.rules.specs.Frames.{no_need, State, scopes≔, Frame, child, pop, dangle, restore, pop_last, shows, one_line, close, let_go, Step, step}
use Rattle.rules.proofs.Tables.{remove_all-other}
use Rattle.rules.proofs.Tells.{decided}
use Rattle.rules.proofs.Removing.{remove_all-stays, remove_all-clears}
use Rattle.rules.proofs.Naming.{Here, number-here, number-id}
use Rattle.rules.proofs.KeepsScopes.{poppable-is, last-is}
use Rattle.rules.proofs.Leaves.{child-leaves, dangle-leaves, restore-leaves}
use Rattle.scopes.specs.View.{view, id_of, Seen, told, told_only, replied}
use Rattle.scopes.specs.Steps.{Becomes, Whole}
use Rattle.scopes.specs.declared.Scopes.{Scopes}
use Rattle.scopes.specs.declared.ScopeId.{ScopeId}
use Rattle.handles.specs.Handles.{handle_at, state_of}
use Rattle.handles.specs.declared.Handles.{Handles}
use Rattle.handles.proofs.Changes.{closing}
use Rattle.frames.specs.Steps.{nowhere, stepped, Few, Stands, Works, Comes}
use Rattle.frames.specs.declared.steps.Adds.{Adds}
use Rattle.frames.specs.declared.steps.Adds.TheVariants.{Nothing, Number}
use Rattle.frames.proofs.Told.{adding, few-adding, refusal-kept, told-then, only-then, given-refused}

-- ---- a refused step, and one that moves to another state over the same handles

module _ {s : Scopes} {handles : Handles} (stands : Stands s handles) where
  pub works-refused : {place : Placement} (f : Frame) (o : ℕ) (e : Refusal) → step base place (state_of (view s) handles) f ≡ refused (number_of e) → (drained : List ℕ) → Works place f o s handles (Err e) s handles drained
  works-refused f o e q drained =
      record { does = q; stays = λ _. (refl, refl); whole = stands.whole; few = tt; handles-length = stands.handles-length; holders-length = stands.holders-length }

  pub comes-refused : (m : Step) (o : ℕ) (e : Refusal) → m ≡ refused (number_of e) → (drained : List ℕ) → Comes s handles m o (Err e) s handles drained
  comes-refused m o e q drained =
      record { does = q; stays = λ _. (refl, refl); whole = stands.whole; few = tt; handles-length = stands.handles-length; holders-length = stands.holders-length }

  pub moved-works : {V B : Type 0} (f : V → B) (k : V → Adds) → ((v : V) → Few (Ok (k v))) → {s' : Scopes} (r : Result V Refusal) {F : rule.Scopes → Seen B} → Becomes s s' (says f r) F
      → (x : Frame) (o : ℕ) (drained : List ℕ) → step base nowhere (state_of (view s) handles) x ≡ stepped o (adding k r) (state_of (view s') handles) drained → Works nowhere x o s handles (adding k r) s' handles drained
  moved-works f k few r b x o drained e =
      record { does = e; stays = λ q. (b.kept (refusal-kept f k r q), refl); whole = b.whole; few = few-adding k few r; handles-length = stands.handles-length; holders-length = stands.holders-length }

-- ---- what several frames do

module _ {s s' : Scopes} {handles handles' : Handles} {r : Result Adds Refusal} {drained : List ℕ} (o : ℕ) where
  pub comes-by : {m m' : Step} → m ≡ m' → Comes s handles m' o r s' handles' drained → Comes s handles m o r s' handles' drained
  comes-by e w = record { does = e ∙ w.does; stays = w.stays; whole = w.whole; few = w.few; handles-length = w.handles-length; holders-length = w.holders-length }

  -- a frame that does just that
  pub works-by : {place : Placement} (f : Frame) {m : Step} → step base place (state_of (view s) handles) f ≡ m → Comes s handles m o r s' handles' drained → Works place f o s handles r s' handles' drained
  works-by f e w = record { does = e ∙ w.does; stays = w.stays; whole = w.whole; few = w.few; handles-length = w.handles-length; holders-length = w.holders-length }

-- ---- a scope that a script names by its number

module _ (s : Scopes) (n : ℕ) (r : Result ScopeId Refusal) (is : says id_of r ≡ replied rule.id_of (refuse 4 unless (by_number base (view s) n))) where
  -- there is one, and its id tells it; or there is none
  pub numbered-some : (id : ScopeId) → r ≡ Ok id → (k : Found) × ((by_number base (view s) n ≡ some k) × (id_of id ≡ rule.id_of k))
  unfolding refuse◌unless◌
  numbered-some id e = go (by_number base (view s) n) refl
    where
      tells : says id_of (Ok id) ≡ replied rule.id_of (refuse 4 unless (by_number base (view s) n))
      tells = ap (says id_of) (sym e) ∙ is

      go : (o : Option Found) → by_number base (view s) n ≡ o → (k : Found) × ((by_number base (view s) n ≡ some k) × (id_of id ≡ rule.id_of k))
      go none q = given-refused (tells ∙ ap (λ (o : Option Found). replied rule.id_of (refuse 4 unless o)) q)
      go (some k) q = (k, (q, let p = tells ∙ ap (λ (o : Option Found). replied rule.id_of (refuse 4 unless o)) q in cc))

  pub numbered-is : (id : ScopeId) → r ≡ Ok id → by_id base (view s) (id_of id) ≡ by_number base (view s) n
  numbered-is id e = let k = numbered-some id e in ap (by_id base (view s)) k.1.1 ∙ number-id base (view s) n k.0 k.1.0 ∙ sym k.1.0

  pub numbered-none : (e : Refusal) → r ≡ Err e → (by_number base (view s) n ≡ none) × (number_of e ≡ 4)
  unfolding refuse◌unless◌
  numbered-none e q = go (by_number base (view s) n) refl
    where
      tells : refused (number_of e) ≡ replied rule.id_of (refuse 4 unless (by_number base (view s) n))
      tells = ap (says id_of) (sym q) ∙ is

      go : (o : Option Found) → by_number base (view s) n ≡ o → (by_number base (view s) n ≡ none) × (number_of e ≡ 4)
      go none p = (p, let z = tells ∙ ap (λ (o : Option Found). replied rule.id_of (refuse 4 unless o)) p in cc)
      go (some k) p = given-refused (sym (tells ∙ ap (λ (o : Option Found). replied rule.id_of (refuse 4 unless o)) p))

-- ---- the same handles, over other scopes

module _ (s s' : Scopes) (handles : Handles) (drained : List ℕ) where
  abbrev c : rule.Scopes
  c = view s

  abbrev standing : State
  standing = state_of c handles

  -- .. with the same slots
  pub over-same : (x d : rule.Scopes) → d ≡ x → x.slots ≡ c.slots → (standing ▹ scopes≔ x) ≡ state_of d handles
  over-same x d e k =
      let p : c.slots ≡ d.slots = sym k ∙ ap (λ (y : rule.Scopes). y.slots) (sym e) in
      λ t. record { scopes = sym e t; handles = handle_at (p t).occupied handles; handed = handles.handed; needs = λ n. no_need; needed = 0 }

  pub nothing-does : (o : ℕ) (r : Result (Unit {0}) Refusal) (ans : Answer rule.Scopes) → record { next = view s'; says = says (λ u. u) r } ≡ told_only c ans
      → ((x : rule.Scopes) → ans ≡ given x → x.slots ≡ c.slots)
      → (ans >>= λ x. one_line (shows o []) (standing ▹ scopes≔ x)) ≡ stepped o (adding (λ _. Nothing) r) (state_of (view s') handles) drained
  nothing-does o r ans e k = only-then (λ u. u) (λ _. Nothing) o (state_of (view s') handles) drained c (view s') r ans e _ (λ x _ q d _. ap (one_line (shows o [])) (over-same x (view s') d (k x q)))

  -- a scope is closed, whose slots are then clear
  pub close-does : (o : ℕ) (r : Result (Unit {0}) Refusal) (ans : Answer Found) → record { next = view s'; says = says (λ u. u) r } ≡ told_only c (ans >>= λ k. given (rule.closed k c))
      → ((k : Found) → ans ≡ given k → handle_at (rule.closed k c).slots.occupied handles ≡ let_go k.scope.owned (handle_at c.slots.occupied handles))
      → (ans >>= λ k. one_line (shows o []) (close k standing)) ≡ stepped o (adding (λ _. Nothing) r) (state_of (view s') handles) drained
  unfolding ◌>>=◌ close
  close-does o r (given k) e h =
      only-then (λ u. u) (λ _. Nothing) o (state_of (view s') handles) drained c (view s') r (given (rule.closed k c)) e (λ x. one_line (shows o []) (close k standing))
      (λ x _ q d _.
      let same : view s' ≡ rule.closed k c = d ∙ cc in
      (λ t. one_line (shows o []) (record { scopes = rule.closed k c; handles = sym (h k refl) t; handed = handles.handed; needs = λ n. no_need; needed = 0 }))
      ∙ λ t. one_line (shows o []) (state_of (sym same t) handles))
  close-does o r (refused n) e h = only-then (λ u. u) (λ _. Nothing) o (state_of (view s') handles) drained c (view s') r (refused n) e (λ x. one_line (shows o []) standing) (λ x _ q. given-refused (sym q))

-- ---- the steps

module _ {s : Scopes} {handles : Handles} (stands : Stands s handles) where
  abbrev c' : rule.Scopes
  c' = view s

  -- the slots of a live scope, and no others, are clear once it is closed
  closes : (k : Found) → Here base.scopes c'.live k → handle_at (rule.closed k c').slots.occupied handles ≡ let_go k.scope.owned (handle_at c'.slots.occupied handles)
  unfolding rule.closed
  closes k here =
      let gone = k.scope.owned in
      let slots = stands.state.scopes.slots in
      closing c'.slots.occupied (remove_all gone c'.slots).occupied handles gone
      (λ a m. remove_all-clears base.segments gone a c'.slots slots (stands.state.scopes.owned.within k.index here.below a (rw here.is m)) m)
      (λ a m. decided (c'.slots.occupied a)
      (λ e. remove_all-other gone a c'.slots m e ∙ sym e)
      (λ e. remove_all-stays gone a c'.slots e ∙ sym e))

  pub child-works : (r : Result ScopeId Refusal) → {s' : Scopes} → Becomes s s' (says id_of r) (λ c. told (λ i. i) c (rule.open_child base c)) → (drained : List ℕ) → Works nowhere child 0x01 s handles (adding (λ i. Number (i.number % WORD)) r) s' handles drained
  unfolding step
  child-works r {s'} b drained =
      moved-works stands id_of (λ i. Number (i.number % WORD)) (λ _. tt) r b child 0x01 drained
      (told-then id_of (λ i. Number (i.number % WORD)) 0x01 (state_of (view s') handles) drained (λ i. i) c' (view s') r (rule.open_child base c') b.is _
      (λ x v q d _ i.
      let leaves = (child-leaves base c').at x q in
      let n : x.0.number ≡ v.number % WORD = omega (arith, ap (λ (y : rule.Id). y.number) i, leaves.0, stands.counted) in
      λ t. one_line (shows 0x01 (n t ∷ [])) (over-same s s' handles drained x.1 (view s') d leaves.1.slots-are t)))

  -- .. of which it is the scope with this number
  pub dangle-works : (n : ℕ) (r : Result (Unit {0}) Refusal) → {s' : Scopes} → Becomes s s' (says (λ u. u) r) (λ c. told_only c (rule.dangle_scope (by_number base c n) c)) → (drained : List ℕ) → Works nowhere (dangle n) 0x03 s handles (adding (λ _. Nothing) r) s' handles drained
  unfolding step
  dangle-works n r {s'} b drained =
      moved-works stands (λ (u : Unit {0}). u) (λ _. Nothing) (λ _. tt) r b (dangle n) 0x03 drained
      (nothing-does s s' handles drained 0x03 r (rule.dangle_scope (by_number base c' n) c') b.is (λ x q. ((dangle-leaves c' (by_number base c' n)).at x q).slots-are))

  pub restore-works : (n : ℕ) (r : Result (Unit {0}) Refusal) → {s' : Scopes} → Becomes s s' (says (λ u. u) r) (λ c. told_only c (rule.restore_scope (by_number base c n) c)) → (drained : List ℕ) → Works nowhere (restore n) 0x04 s handles (adding (λ _. Nothing) r) s' handles drained
  unfolding step
  restore-works n r {s'} b drained =
      moved-works stands (λ (u : Unit {0}). u) (λ _. Nothing) (λ _. tt) r b (restore n) 0x04 drained
      (nothing-does s s' handles drained 0x04 r (rule.restore_scope (by_number base c' n) c') b.is (λ x q. ((restore-leaves c' (by_number base c' n)).at x q).slots-are))

  pub pop-works : (n : ℕ) (r : Result (Unit {0}) Refusal) → {s' : Scopes} → Becomes s s' (says (λ u. u) r) (λ c. told_only c (rule.pop_scope base (by_number base c n) c)) → (drained : List ℕ) → Works nowhere (pop n) 0x02 s handles (adding (λ _. Nothing) r) s' handles drained
  unfolding step rule.pop_scope
  pop-works n r {s'} b drained =
      moved-works stands (λ (u : Unit {0}). u) (λ _. Nothing) (λ _. tt) r b (pop n) 0x02 drained
      (close-does s s' handles drained 0x02 r (rule.poppable base (by_number base c' n) c') b.is
      (λ k q. closes k ((poppable-is base c' stands.state.scopes (by_number base c' n) (number-here base c' n)).at k q).0))

  pub pop-last-works : (r : Result (Unit {0}) Refusal) → {s' : Scopes} → Becomes s s' (says (λ u. u) r) (λ c. told_only c (rule.pop_last_scope base c)) → (drained : List ℕ) → Works nowhere pop_last 0x05 s handles (adding (λ _. Nothing) r) s' handles drained
  unfolding step rule.pop_last_scope
  pop-last-works r {s'} b drained =
      moved-works stands (λ (u : Unit {0}). u) (λ _. Nothing) (λ _. tt) r b pop_last 0x05 drained
      (close-does s s' handles drained 0x05 r (rule.last_poppable base c') b.is (λ k q. closes k ((last-is base c' stands.state.scopes).at k q).0))

-- ---- an operation on the scope with this number, which the code has as m: there is none, or it is the one with this id

module _ (s : Scopes) (n : ℕ) (op : Option Found → rule.Scopes → Answer rule.Scopes) {m : ℕ} (same : m ≡ n) where
  pub number-refused : Whole s → op none (view s) ≡ refused 4 → (e : Refusal) → refused (number_of e) ≡ replied rule.id_of (refuse 4 unless (by_number base (view s) m))
      → Becomes s s (refused (number_of e)) (λ c. told_only c (op (by_number base c n) c))
  number-refused whole q e is =
      let z = numbered-none s m (Err e) is e refl in
      let p : op (by_number base (view s) n) (view s) ≡ refused (number_of e)
      = (λ t. op (by_number base (view s) (sym same t)) (view s)) ∙ ap (λ (x : Option Found). op x (view s)) z.0 ∙ q ∙ ap refused (sym z.1) in
      record { is = sym (ap (told_only (view s)) p); whole = whole; kept = λ _. refl }

  pub number-becomes : (id : ScopeId) → given (id_of id) ≡ replied rule.id_of (refuse 4 unless (by_number base (view s) m)) → {s' : Scopes} {a : Answer (Unit {0})}
      → Becomes s s' a (λ c. told_only c (op (by_id base c (id_of id)) c)) → Becomes s s' a (λ c. told_only c (op (by_number base c n) c))
  number-becomes id is b = record {
    is = b.is ∙ ap (λ (x : Option Found). told_only (view s) (op x (view s))) (numbered-is s m (Ok id) is id refl ∙ ap (by_number base (view s)) same);
    whole = b.whole;
    kept = b.kept;
  }

pub none-refused-4 : (c : rule.Scopes) → (rule.pop_scope base none c ≡ refused 4) × (rule.dangle_scope none c ≡ refused 4) × (rule.restore_scope none c ≡ refused 4)
unfolding rule.pop_scope rule.poppable rule.dangle_scope rule.restore_scope ◌>>=◌ refuse◌unless◌
none-refused-4 c = (refl, refl, refl)
