-- As long as the scope of a need's Scope address is live, the need's own handle is held and its slot is on that scope's list: every step
-- of a script keeps this, while the child counter has not gone round. Assumes nothing.
use mathlib.Core.Path.{◌≡◌, refl, sym, ap, subst, ◌∙◌}
use mathlib.Core.Bool.{Bool, true, false}
use mathlib.Core.Option.{Option, none, some}
use Prim.Native.Nat.{ℕ, zero, suc, ◌+◌, ◌<◌}
use native.Mathlib.Omega.{arith}
use borrow.Author.Tests.{not-false}
use Rattle.rules.specs.Notation.{◌▹◌, put}
use Rattle.rules.specs.Sizes.{Room}
use Rattle.rules.specs.Slots.{Placement}
use Rattle.rules.specs.AddressSets.{member}
use Rattle.rules.specs.Scopes.{Id, Scope, Scopes, live≔, top≔, counter≔, new_scope, Found, fresh_scopes, by_number, open_child, by_id, closed, drain_dangling}
use Rattle.rules.specs.Needs.{Kind, local, dangling, assigned, freed, scope, allocated_kind, Address, address, Need, defer, at, ignore, freed_need}
use Rattle.rules.specs.Frames.{Frame, child, pop, dangle, restore, pop_last, alloc, alloc_in, linear, define, get, take_from, free, free_quietly, forget, drain, write, read, read_name, new_defer, new_assigned, new_ignore, alloc_need, output_need, drop_need, Handle, kind≔, held≔, Remembered, no_need, owns, keeps, State, start, scopes≔, handles≔, handed≔, needed≔, set_handle, spent, belongs, barred, grant, let_go, allot, close, hand_back, free_as, free_handle, set_need, add_need, allot_need, free_own, step}
use Rattle.rules.proofs.Chains.{All, all-as, all-given, all_then, all-when, all-unless, all-if, none-some}
use Rattle.rules.proofs.Tables.{put_other, put-cases, put-alike}
use Rattle.rules.proofs.Searches.{first-none}
use Rattle.rules.proofs.Sound.{lists_of, NeedAgrees, StateSound}
use Rattle.rules.proofs.Tells.{clash, is_false, neither, tells-and, tells-eq, tells-true}
use Rattle.rules.proofs.Naming.{Here, top-here, id-here, id-is, number-here}
use Rattle.rules.proofs.Parents.{none_is}
use Rattle.rules.proofs.Owners.{owned_at}
use Rattle.rules.proofs.Handles.{grant-old, grant-new, let_go-other}
use Rattle.rules.proofs.Needing.{found, own-known}
use Rattle.rules.proofs.KeepsScopes.{poppable-is, last-is}
use Rattle.rules.proofs.KeepsSteps.{unbarred}
use Rattle.rules.proofs.LiveBefore.{Grows, from-same, dangle-grows, restore-grows, bind-grows, take-grows, closed-grows, allocate-grows, allocate-gives, back-grows, Any}

-- ---- what is kept

-- the handle h is held for the scope of id, if that one is live; its number was handed out, so that no later scope has it
pub record Kept (room : Room) (c : Scopes) (handles : ℕ → Handle) (id : Id) (h : ℕ) : Type 0 where
  pub index : id.index < room.scopes
  pub number : id.number < c.counter
  pub holds : (k : Scope) → c.live id.index ≡ some k → k.number ≡ id.number → ((handles h).held ≡ true) × (member (handles h).address k.owned ≡ true)

-- the need n has a Scope address of id, and so a handle of its own
abbrev Owns : State → ℕ → ℕ → Id → Type 0
Owns s n a id = (s.needs n).need ≡ at (address a (scope id))

-- every live scope's number was handed out before the counter's
abbrev Older : Room → Scopes → Type 0
Older room c = (i : ℕ) (k : Scope) → i < room.scopes → c.live i ≡ some k → k.number < c.counter

-- what every state of a script holds
pub record Owned (room : Room) (s : State) : Type 0 where
  pub older : Older room s.scopes
  pub kept : (n a : ℕ) (id : Id) → n < s.needed → Owns s n a id → Kept room s.scopes s.handles id (s.needs n).handle

pub start-owned : (room : Room) → Owned room start
unfolding start fresh_scopes
start-owned room = record { older = λ i k l e. at_first i k e; kept = λ n a id l e. absurd (omega arith) }
  where
    at_first : (i : ℕ) (k : Scope) → fresh_scopes.live i ≡ some k → k.number < 1
    at_first zero k e = let q : new_scope 0 none ≡ k = cc in subst (λ (x : Scope). x.number < 1) q (omega arith)
    at_first (suc i) k e = none-some e

-- ---- the need n becomes x; there are `count` of them then

set-owned : (room : Room) (t : State) (n : ℕ) (x : Remembered) (count : ℕ) → Older room t.scopes
    → ((j a : ℕ) (id : Id) → j < count → (n ≡ j → ⊥) → Owns t j a id → Kept room t.scopes t.handles id (t.needs j).handle)
    → ((a : ℕ) (id : Id) → x.need ≡ at (address a (scope id)) → Kept room t.scopes t.handles id x.handle)
    → Owned room (t ▹ set_need n x ▹ needed≔ count)
unfolding set_need
set-owned room t n x count older there here = record { older = older; kept = λ j a id l. put-cases t.needs n x j (λ _ q. like q (here a id)) (λ ne q. like q (there j a id l ne)) }
  where
    like : {y z : Remembered} {a : ℕ} {id : Id} → y ≡ z → (z.need ≡ at (address a (scope id)) → Kept room t.scopes t.handles id z.handle)
        → y.need ≡ at (address a (scope id)) → Kept room t.scopes t.handles id y.handle
    like {a = a} {id = id} q k = subst (λ (v : Remembered). v.need ≡ at (address a (scope id)) → Kept room t.scopes t.handles id v.handle) (sym q) k

-- ---- one step on, the needs as they were

module _ (room : Room) (s : State) (ok : StateSound room s) (own : Owned room s) where
  abbrev c : Scopes
  c = s.scopes

  -- t has the needs of s, and of those the handles that have P are kept
  record Carries (P : ℕ → Type 0) (t : State) : Type 0 where
    needs : t.needs ≡ s.needs
    needed : t.needed ≡ s.needed
    older : Older room t.scopes
    kept : (n a : ℕ) (id : Id) → n < s.needed → Owns s n a id → P (s.needs n).handle → Kept room t.scopes t.handles id (s.needs n).handle

  -- the need n of t, whose handle has P if it was that of s
  kept-as : {P : ℕ → Type 0} {t : State} → Carries P t → (n a : ℕ) (id : Id) → n < t.needed → Owns t n a id → (n < s.needed → Owns s n a id → P (s.needs n).handle) → Kept room t.scopes t.handles id (t.needs n).handle
  kept-as {t = t} w n a id l e p =
      let k : n < s.needed = omega (arith, w.needed) in
      subst (λ (f : ℕ → Remembered). (f n).need ≡ at (address a (scope id)) → Kept room t.scopes t.handles id (f n).handle) (sym w.needs) (λ q. w.kept n a id k q (p k q)) e

  all-kept : {P : ℕ → Type 0} {t : State} → Carries P t → ((n a : ℕ) (id : Id) → n < s.needed → Owns s n a id → P (s.needs n).handle) → Owned room t
  all-kept w p = record { older = w.older; kept = λ n a id l e. kept-as w n a id l e (p n a id) }

  every-kept : {t : State} → Carries Any t → Owned room t
  every-kept w = all-kept w (λ _ _ _ _ _. tt)

  -- a need's own handle was handed out
  handed_out : (n a : ℕ) (id : Id) → n < s.needed → Owns s n a id → (s.needs n).handle < s.handed
  handed_out n a id l e = own-known s.handles s.handed (s.needs n).handle (s.needs n).need (ok.needing.agree n l) (ap owns e)

  -- h holds in f what it held in s, an address that has Q
  record Stays (Q : ℕ → Type 0) (f : ℕ → Handle) (h : ℕ) : Type 0 where
    is : Q (s.handles h).address
    held : (f h).held ≡ true
    address : (f h).address ≡ (s.handles h).address

  -- whatever scope is live still was live, so what its needs hold follows from what they held
  carries : {P Q : ℕ → Type 0} (d : Scopes) (f : ℕ → Handle) (m : ℕ) → Grows Q c d
      → ((i h : ℕ) (y : Scope) → i < room.scopes → d.live i ≡ some y → h < s.handed → P h → (s.handles h).held ≡ true → member (s.handles h).address (lists_of c.live i) ≡ true → Stays Q f h)
      → Carries P (s ▹ scopes≔ d ▹ handles≔ f ▹ handed≔ m)
  carries d f m grows stays = record {
    needs = refl;
    needed = refl;
    older = λ i y l e. let w = grows.from i y e in omega (arith, own.older i w.scope l w.is, w.number, grows.counter);
    kept = λ n a id l e p.
        let k = own.kept n a id l e in
        record {
          index = k.index;
          number = omega (arith, k.number, grows.counter);
          holds = λ y q number.
              let w = grows.from id.index y q in
              let r = k.holds w.scope w.is (w.number ∙ number) in
              let t = stays id.index (s.needs n).handle y k.index q (handed_out n a id l e) p r.0 (rw w.is r.1) in
              (t.held, rw t.address (w.more (s.handles (s.needs n).handle).address t.is r.1));
        };
  }

  -- ---- scopes

  -- no handle changes
  with-scopes : {P : ℕ → Type 0} (d : Scopes) → Grows Any c d → Carries P (s ▹ scopes≔ d)
  with-scopes d grows = carries d s.handles s.handed grows (λ i h y _ _ _ _ e _. record { is = tt; held = e; address = refl })

  as_it_was : {P : ℕ → Type 0} → Carries P s
  as_it_was = with-scopes c (record { counter = refl; from = from-same c.live })

  -- a new scope x, whose number no need's scope has
  opened : (i : ℕ) (x : Scope) (top : Option ℕ) (m : ℕ) → x.number ≡ c.counter → m ≡ c.counter + 1 → Owned room (s ▹ scopes≔ (c ▹ live≔ (put c.live i (some x)) ▹ top≔ top ▹ counter≔ m))
  opened i x top m number counter =
      let new : (y : Scope) → some x ≡ some y → y.number ≡ c.counter = λ y e. let q : x ≡ y = cc in subst (λ (z : Scope). z.number ≡ c.counter) q number in
      record {
        older = λ j y l e.
            put-cases c.live i (some x) j
            (λ _ p. omega (arith, new y (sym p ∙ e), counter))
            (λ _ p. omega (arith, own.older j y l (sym p ∙ e), counter));
        kept = λ n a id l e.
            let k = own.kept n a id l e in
            record {
              index = k.index;
              number = omega (arith, k.number, counter);
              holds = λ y q r.
                  put-cases c.live i (some x) id.index
                  (λ _ p. absurd (omega (arith, new y (sym p ∙ q), r, k.number)))
                  (λ _ p. k.holds y (sym p ∙ q) r);
            };
      }

  child-owned : c.counter < 4294967295 → All (λ r. Owned room (s ▹ scopes≔ r.1)) (open_child room c)
  unfolding open_child
  child-owned early = all-unless 3 λ t _. all-unless 8 λ i _. all-given (opened i _ _ _ refl (omega arith))

  -- a scope's slots are no other's
  close-owned : (k : Found) → Here room.scopes c.live k → Owned room (close k s)
  unfolding close closed
  close-owned k here = every-kept (carries {Q = Any} (closed k c) (let_go k.scope.owned s.handles) s.handed (closed-grows room c k) stays)
    where
      stays : (i h : ℕ) (y : Scope) → i < room.scopes → put c.live k.index none i ≡ some y → h < s.handed → Any h → (s.handles h).held ≡ true
          → member (s.handles h).address (lists_of c.live i) ≡ true → Stays Any (let_go k.scope.owned s.handles) h
      stays i h y l e _ _ held has =
          let ne : k.index ≡ i → ⊥ = λ q. put-cases c.live k.index none i (λ _ p. none-some (sym p ∙ e)) (λ ne _. ne q) in
          let mine : member (s.handles h).address k.scope.owned ≡ true → ⊥
          = λ q. ne (ok.scopes.owned.apart k.index i (s.handles h).address here.below l (ap (member (s.handles h).address) (owned_at c.live k here.is) ∙ q) has) in
          let same = let_go-other k.scope.owned s.handles h (is_false _ mine) in
          record { is = tt; held = ap (λ (x : Handle). x.held) same ∙ held; address = ap (λ (x : Handle). x.address) same }

  -- ---- slots are given

  allot-owned : (place : Placement) (k : Found) (kind : Kind) (n : ℕ) → Here room.scopes c.live k → All (λ r. Owned room r.1) (allot room place k kind n s)
  unfolding allot
  allot-owned place k kind n here =
      all-when 16 _ λ _. all_then λ r e.
      let same : (h : ℕ) → h < s.handed → grant s.handed n r.0 kind s.handles h ≡ s.handles h = grant-old s.handed n r.0 kind s.handles in
      all-given
      (every-kept
      (carries r.1 (grant s.handed n r.0 kind s.handles) (s.handed + n) ((allocate-grows room c place k n here).at r e)
      (λ i h y _ _ l _ held _. record { is = tt; held = ap (λ (x : Handle). x.held) (same h l) ∙ held; address = ap (λ (x : Handle). x.address) (same h l) })))

  -- ---- a handle is changed, or its slot goes back

  with-handle : {P : ℕ → Type 0} (h : ℕ) (x : Handle) → x.held ≡ (s.handles h).held → x.address ≡ (s.handles h).address → Carries P (s ▹ set_handle h x)
  unfolding set_handle
  with-handle h x held address =
      carries {Q = Any} c (put s.handles h x) s.handed (record { counter = refl; from = from-same c.live })
      (λ i g y _ _ _ _ e _. record { is = tt; held = put-alike s.handles h x (λ z. z.held) held g ∙ e; address = put-alike s.handles h x (λ z. z.address) address g })

  -- no other handle holds the slot
  back-carries : (dangles : Bool) (h : ℕ) → h < s.handed → All (Carries (λ g. h ≡ g → ⊥)) (hand_back dangles h s)
  unfolding hand_back set_handle
  back-carries dangles h l =
      all-when 14 _ λ q. all_then λ d e.
      let z : Handle = s.handles h ▹ held≔ false ▹ kind≔ freed in
      all-given
      (carries d (put s.handles h z) s.handed ((back-grows room c ok.scopes.top dangles (s.handles h).address).at d e)
      (λ i g y _ _ k ne held _.
      let same = put_other s.handles h z g ne in
      record {
        is = λ p. ne (ok.handles.apart h g l k (not-false _ q) held (sym p));
        held = ap (λ (x : Handle). x.held) same ∙ held;
        address = ap (λ (x : Handle). x.address) same;
      }))

  free-as-carries : (k : Kind) (dangles : Bool) (h : ℕ) → h < s.handed → All (Carries (λ g. h ≡ g → ⊥)) (free_as k dangles h s)
  unfolding free_as
  free-as-carries k dangles h l = all-if (λ _. back-carries dangles h l) (λ _. all-given (with-handle h _ refl refl))

  -- ---- 0c, 0d: of a handle that no need has

  not_own : (h : ℕ) → barred s h ≡ false → (n a : ℕ) (id : Id) → n < s.needed → Owns s n a id → h ≡ (s.needs n).handle → ⊥
  unfolding barred belongs
  not_own h q n a id l e p =
      clash
      ((tells-and (tells-true (owns (s.needs n).need)) (tells-eq (s.needs n).handle h)).shows (ap owns e, sym p))
      (first-none (λ j. keeps (s.needs j) h) 0 s.needed (none_is _ (neither (spent s h) _ q).1) n (omega arith) (omega arith))

  free-owned : (dangles : Bool) (h : ℕ) → All (Owned room) (free_handle dangles h s)
  unfolding free_handle
  free-owned dangles h =
      all-when 13 _ λ q. record { at = λ t e. all-kept ((free-as-carries (s.handles h).kind dangles h (unbarred s h q)).at t e) (not_own h q) }

  -- ---- needs

  add-owned : (x : Remembered) → owns x.need ≡ false → All (Owned room) (add_need room x s)
  unfolding add_need
  add-owned x q = all-when 22 _ λ _. all-given (set-owned room s s.needed x (s.needed + 1) own.older (λ j a id l ne e. own.kept j a id (omega (arith, ne)) e) (λ a id e. clash (ap owns e) q))

  -- the handle that a deferred need takes
  first-kept : (place : Placement) (id : Id) (k : Found) → by_id room c id ≡ some k → All (λ r. Kept room r.1.scopes r.1.handles id s.handed) (allot room place k (scope id) 1 s)
  unfolding allot
  first-kept place id k i =
      let here = id-here room c id k i in
      let is = id-is room c id k i in
      all-when 16 _ λ _. all_then λ r e.
      let new = grant-new s.handed 1 r.0 (scope id) s.handles s.handed (omega arith) (omega arith) in
      let at_first : (grant s.handed 1 r.0 (scope id) s.handles s.handed).address ≡ r.0 = ap (λ (x : Handle). x.address) new ∙ omega arith in
      all-given
      (record {
        index = omega (arith, is.0, here.below);
        number = omega (arith, is.1, own.older k.index k.scope here.below here.is, ((allocate-grows room c place k 1 here).at r e).counter);
        holds = λ y q _. (
          ap (λ (x : Handle). x.held) new,
          rw at_first ((allocate-gives room c place k).at r e y (ap r.1.live is.0 ∙ q)),
        );
      })

  allocated-scope : (k : Kind) (id : Id) → allocated_kind k ≡ scope id → k ≡ scope id
  allocated-scope local id e = cc
  allocated-scope dangling id e = cc
  allocated-scope assigned id e = cc
  allocated-scope freed id e = cc
  allocated-scope (scope i) id e = e

  -- allocating an Address makes no Scope address
  again-owns : (n : ℕ) (a : Address) → (s.needs n).need ≡ at a → (b : ℕ) (id : Id) → at (address a.slot (allocated_kind a.kind)) ≡ at (address b (scope id)) → Owns s n b id
  again-owns n a e b id p =
      let q : address a.slot (allocated_kind a.kind) ≡ address b (scope id) = cc in
      let kind : a.kind ≡ scope id = allocated-scope a.kind id (ap (λ (x : Address). x.kind) q) in
      e ∙ ap (λ (k : Kind). at (address a.slot k)) kind ∙ ap (λ (x : Address). at (address x.slot (scope id))) q

  need-owned : (place : Placement) (n : ℕ) (d : Need) → n < s.needed → (s.needs n).need ≡ d → All (λ r. Owned room r.1) (allot_need room place n s d)
  unfolding allot_need set_need
  need-owned place n (defer id) l e =
      all-unless 4 λ k w. all_then λ r q.
      let t = (allot-owned place k (scope id) 1 (id-here room c id k w)).at r q in
      let new = (first-kept place id k w).at r q in
      all-given
      (set-owned room r.1 n (record { need = at (address r.0 (scope id)); handle = s.handed }) r.1.needed t.older (λ j a i m _ p. t.kept j a i m p)
      (λ a i p.
      let kind : scope id ≡ scope i = ap (λ (x : Address). x.kind) (let q : address r.0 (scope id) ≡ address a (scope i) = cc in q) in
      let same : id ≡ i = cc in
      subst (λ (x : Id). Kept room r.1.scopes r.1.handles x s.handed) same new))
  need-owned place n (at a) l e =
      all-given
      (set-owned room s n (record { need = at (address a.slot (allocated_kind a.kind)); handle = (s.needs n).handle }) s.needed own.older (λ j b i m _ p. own.kept j b i m p)
      (λ b i p. own.kept n b i l (again-owns n a e b i p)))
  need-owned place n ignore l e = all-given own
  need-owned place n freed_need l e = all-given own

  -- ---- 25

  fewer-carries : {P P' : ℕ → Type 0} {t : State} → ((h : ℕ) → P' h → P h) → Carries P t → Carries P' t
  fewer-carries f w = record { needs = w.needs; needed = w.needed; older = w.older; kept = λ n a id l e p. w.kept n a id l e (f _ p) }

  -- a handle that isn't the need's own stays, even where the need remembers it (21)
  own-carries : (h : ℕ) (d : Need) → NeedAgrees s.handles s.handed h d → All (Carries (λ g. owns d ≡ true → h ≡ g → ⊥)) (free_own h s d)
  unfolding free_own
  own-carries h (defer id) w = all-given as_it_was
  own-carries h (at a) w = all-if (λ q. all-as (λ t. fewer-carries (λ g f. f q)) (free-as-carries a.kind true h w.0)) (λ _. all-given as_it_was)
  own-carries h ignore w = all-given as_it_was
  own-carries h freed_need w = all-given as_it_was

  -- a handle belongs to one need at most
  drop-owned : (n : ℕ) → n < s.needed → All (λ t. Owned room (t ▹ set_need n no_need)) (free_own (s.needs n).handle s (s.needs n).need)
  unfolding set_need
  drop-owned n l = record {
    at = λ t e.
        let w = (own-carries (s.needs n).handle (s.needs n).need (ok.needing.agree n l)).at t e in
        set-owned room t n no_need t.needed w.older
        (λ j a id m ne p. kept-as w j a id m p (λ k q o same. ne (ok.needing.apart n j l k o (ap owns q) same)))
        (λ a id p. clash (ap owns p) refl);
  }

  -- ---- a frame

  pub owned-step : c.counter < 4294967295 → (place : Placement) (f : Frame) → All (λ r. Owned room r.1) (step room place s f)
  unfolding step set_need drain_dangling
  owned-step early place child = all_then λ r e. all-given ((child-owned early).at r e)
  owned-step early place (pop n) = all_then λ k e. all-given (close-owned k ((poppable-is room c ok.scopes (by_number room c n) (number-here room c n)).at k e).0)
  owned-step early place (dangle n) = all_then λ d e. all-given (every-kept (with-scopes d ((dangle-grows room c (by_number room c n) (number-here room c n)).at d e)))
  owned-step early place (restore n) = all_then λ d e. all-given (every-kept (with-scopes d ((restore-grows room c (by_number room c n) (number-here room c n)).at d e)))
  owned-step early place pop_last = all_then λ k e. all-given (close-owned k ((last-is room c ok.scopes).at k e).0)
  owned-step early place alloc = all-unless 3 λ t e. all_then λ r q. all-given ((allot-owned place t _ 1 (top-here c t e room.scopes ok.scopes.top)).at r q)
  owned-step early place (alloc_in n) = all-unless 4 λ k e. all_then λ r q. all-given ((allot-owned place k _ 1 (number-here room c n k e)).at r q)
  owned-step early place (linear zero) = all-unless 3 λ _ _. all-given own
  owned-step early place (linear (suc n)) = all-unless 3 λ t e. all_then λ r q. all-given ((allot-owned place t _ (suc n) (top-here c t e room.scopes ok.scopes.top)).at r q)
  owned-step early place (define name h) = all-unless 3 λ t _. all-when 13 _ λ _. all_then λ d e. all-given (every-kept (with-scopes d ((bind-grows room c t name _ h).at d e)))
  owned-step early place (get name) = all_then λ b _. all-given own
  owned-step early place (take_from name) = all_then λ r e. all-given (every-kept (with-scopes r.1 ((take-grows room c name).at r e)))
  owned-step early place (free h) = all_then λ t e. all-given ((free-owned true h).at t e)
  owned-step early place (free_quietly h) = all_then λ t e. all-given ((free-owned false h).at t e)
  owned-step early place (forget h) = all-when 13 _ λ _. all-given (every-kept (with-handle h _ refl refl))
  owned-step early place drain = all-given (every-kept (with-scopes _ (record { counter = refl; from = from-same c.live })))
  owned-step early place (write h v) = all-when 13 _ λ _. all-when 14 _ λ _. all-given (every-kept (with-handle h _ refl refl))
  owned-step early place (read h) = all-when 13 _ λ _. all-when 14 _ λ _. all-when 15 _ λ _. all-given own
  owned-step early place (read_name name) = all_then λ b _. all-when 14 _ λ _. all-when 15 _ λ _. all-given own
  owned-step early place (new_defer n) = all-unless 4 λ k _. all_then λ t e. all-given ((add-owned _ refl).at t e)
  owned-step early place (new_assigned h) = all-when 13 _ λ _. all_then λ t e. all-given ((add-owned _ refl).at t e)
  owned-step early place new_ignore = all_then λ t e. all-given ((add-owned _ refl).at t e)
  owned-step early place (alloc_need n) = all-when 21 _ λ q. all_then λ r e. all-given ((need-owned place n (s.needs n).need (found s n q) refl).at r e)
  owned-step early place (output_need n) = all-when 21 _ λ _. all_then λ o _. all-given own
  owned-step early place (drop_need n) = all-when 21 _ λ q. all_then λ t e. all-given ((drop-owned n (found s n q)).at t e)
