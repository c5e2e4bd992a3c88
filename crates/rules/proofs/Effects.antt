-- Each step of the rules has one of the core's effects, for every fair placement. Assumes nothing.
use mathlib.Core.Path.{◌≡◌, refl, sym, ap, subst, ◌∙◌}
use mathlib.Core.Bool.{Bool, true, false, true≢false}
use mathlib.Core.List.{List, [], ◌∷◌}
use Prim.Native.Nat.{ℕ, zero, suc, ◌+◌}
use native.Mathlib.Omega.{arith}
use native.Mathlib.Nat.{le_refl}
use borrow.Author.Tests.{not-false}
use Rattle.rules.specs.Notation.{given, ◌▹◌, put}
use Rattle.rules.specs.Sizes.{Room}
use Rattle.rules.specs.Slots.{Slots, Placement, remove, remove_all}
use Rattle.rules.specs.Scopes.{Binding, Scopes, Found, closed, get_name, drain_dangling}
use Rattle.rules.specs.Needs.{Kind, freed, Need, defer, at, ignore, freed_need}
use Rattle.rules.specs.Frames.{Frame, child, pop, dangle, restore, pop_last, alloc, alloc_in, linear, define, get, take_from, free, free_quietly, forget, drain, write, read, read_name, new_defer, new_assigned, new_ignore, alloc_need, output_need, drop_need, Handle, kind≔, held≔, State, scopes≔, handles≔, handed≔, set_handle, grant, allot, close, hand_back, free_as, free_handle, Remembered, no_need, needs≔, needed≔, set_need, add_need, allot_need, free_own, Line, loads, shows, step}
use Rattle.rules.specs.Meaning.{Deed, nothing, deed}
use Rattle.rules.specs.Demand3.{Fair}
use Rattle.rules.proofs.Chains.{All, all-given, all_then, all-when, all-unless, all-if}
use Rattle.rules.proofs.Tables.{put_same, put_other, put-alike, let_go-held, remove-other, remove_all-other}
use Rattle.rules.proofs.Leaves.{Leaves, left, child-leaves, bind-leaves, take-leaves, dangle-leaves, restore-leaves, back-leaves, Allotted, allotted}
use Rattle.rules.proofs.Core.{View, still, Effect, fewer, back, placing, storing, loading}

abbrev pub view : State → View
view s = record { occupied = s.scopes.slots.occupied; size = s.scopes.size; handles = s.handles }

-- ---- a step

module _ (room : Room) (place : Placement) (InOrder : Slots → Type 0) (fair : Fair room place InOrder) where
  -- one line, the effect of the step, and slots in order after it
  pub record Good (s : State) (d : Deed) (ls : List Line) (t : State) : Type 0 where
    pub line : Line
    pub only : ls ≡ line ∷ []
    pub effect : Effect (view s) d line (view t)
    pub order : InOrder t.scopes.slots

  in-order-all : (l : List ℕ) (s : Slots) → InOrder s → InOrder (remove_all l s)
  unfolding remove_all
  in-order-all [] s o = o
  in-order-all (a ∷ l) s o = in-order-all l (remove a s) (fair.removed a s o)

  module _ (s : State) (order : InOrder s.scopes.slots) where
    abbrev Shows : ℕ → List ℕ → State → Type 0
    Shows o l t = Good s nothing (shows o l ∷ []) t

    good : {d : Deed} {l : Line} {t : State} → Effect (view s) d l (view t) → InOrder t.scopes.slots → Good s d (l ∷ []) t
    good e o = record { line = _; only = refl; effect = e; order = o }

    -- handles, slots and size stay
    same : (o : ℕ) (l : List ℕ) (c : Scopes) {bindings : List Binding} {counter : ℕ} → Leaves s.scopes.slots bindings counter s.scopes.size c → Shows o l (s ▹ scopes≔ c)
    same o l c q =
        let t : View = view (s ▹ scopes≔ c) in
        good
        (fewer {w = t} (rw q.size_is (le_refl _)) (λ h e. still (view s) t h refl e) (λ h e w. rw q.slots-are w))
        (rw q.slots-are order)

    quiet : (o : ℕ) (l : List ℕ) → Shows o l s
    quiet o l = same o l s.scopes (left _)

    kind-only : (o : ℕ) (l : List ℕ) (h : ℕ) (k : Kind) → Shows o l (s ▹ set_handle h (s.handles h ▹ kind≔ k))
    unfolding set_handle
    kind-only o l h k =
        let z : Handle = s.handles h ▹ kind≔ k in
        good
        (fewer (le_refl _)
        (λ j e. record {
          held = sym (put-alike s.handles h z (λ x. x.held) refl j) ∙ e;
          address = put-alike s.handles h z (λ x. x.address) refl j;
          written = λ w. sym (put-alike s.handles h z (λ x. x.written) refl j) ∙ w;
        })
        (λ j e w. w))
        order

    closing : (o : ℕ) (l : List ℕ) (k : Found) → Shows o l (close k s)
    unfolding close closed
    closing o l k =
        let gone = k.scope.owned in
        good
        (fewer (le_refl _)
        (λ h e. still (view s) (view (close k s)) h (let_go-held gone s.handles h e).1 e)
        (λ h e w. remove_all-other gone (s.handles h).address s.scopes.slots (let_go-held gone s.handles h e).0 w))
        (in-order-all gone s.scopes.slots order)

    allot-good : (kind : Kind) (n o : ℕ) (l : List ℕ) (r : ℕ × Scopes) → Allotted place n s.scopes r
        → Shows o l (s ▹ scopes≔ r.1 ▹ handles≔ (grant s.handed n r.0 kind s.handles) ▹ handed≔ (s.handed + n))
    allot-good kind n o l r w =
        let g = fair.placed n s.scopes.slots w.placed w.from order in
        let z = w.leaves.size_is in
        good
        (placing {w = view (s ▹ scopes≔ r.1 ▹ handles≔ (grant s.handed n r.0 kind s.handles) ▹ handed≔ (s.handed + n))}
        s.handed n w.placed.address kind (omega arith) (omega arith) g.1.clear (λ i q. rw w.leaves.slots-are (g.1.taken i q)) (λ b q. rw w.leaves.slots-are (g.1.kept b q)) (rw w.address))
        (rw w.leaves.slots-are g.0)

    allot-effect : (k : Found) (kind : Kind) (n o : ℕ) (l : List ℕ) → All (λ r. Shows o l r.1) (allot room place k kind n s)
    unfolding allot
    allot-effect k kind n o l = all-when 16 _ λ _. all_then λ r e. all-given (allot-good kind n o l r ((allotted place k n s.scopes).at r e))

    back-effect : (dangles : Bool) (h o : ℕ) (l : List ℕ) → All (Shows o l) (hand_back dangles h s)
    unfolding hand_back set_handle
    back-effect dangles h o l =
        let z : Handle = s.handles h ▹ held≔ false ▹ kind≔ freed in
        let lost : (j : ℕ) → (put s.handles h z j).held ≡ true → h ≡ j → ⊥
        = λ j p e. true≢false (sym p ∙ subst (λ (i : ℕ). (put s.handles h z i).held ≡ false) e (ap (λ (x : Handle). x.held) (put_same s.handles h z))) in
        all-when 14 _ λ e. all_then λ c q.
        let w = (back-leaves s.scopes dangles (s.handles h).address).at c q in
        all-given
        (good
        (back h (not-false _ e) (rw w.size_is (le_refl _))
        (λ j p. (lost j p, still (view s) (view (s ▹ scopes≔ c ▹ handles≔ (put s.handles h z))) j (put_other s.handles h z j (lost j p)) p))
        (λ b ne p. rw w.slots-are (remove-other (s.handles h).address b s.scopes.slots ne p)))
        (rw w.slots-are (fair.removed (s.handles h).address s.scopes.slots order)))

    free-as-effect : (k : Kind) (dangles : Bool) (h o : ℕ) (l : List ℕ) → All (Shows o l) (free_as k dangles h s)
    unfolding free_as
    free-as-effect k dangles h o l = all-if (λ _. back-effect dangles h o l) (λ _. all-given (kind-only o l h freed))

    free_effect : (dangles : Bool) (h o : ℕ) (l : List ℕ) → All (Shows o l) (free_handle dangles h s)
    unfolding free_handle
    free_effect dangles h o l = all-when 13 _ λ _. free-as-effect (s.handles h).kind dangles h o l

    -- the needs are not looked at
    with-needs : {d : Deed} {ls : List Line} {t : State} (needs : ℕ → Remembered) (needed : ℕ) → Good s d ls t → Good s d ls (t ▹ needs≔ needs ▹ needed≔ needed)
    with-needs needs needed g = record { line = g.line; only = g.only; effect = g.effect; order = g.order }

    add-effect : (x : Remembered) (o : ℕ) (l : List ℕ) → All (Shows o l) (add_need room x s)
    unfolding add_need set_need
    add-effect x o l = all-when 22 _ λ _. all-given (with-needs (put s.needs s.needed x) (s.needed + 1) (quiet o l))

    need-effect : (n : ℕ) (d : Need) (o : ℕ) (l : List ℕ) → All (λ r. Shows o l r.1) (allot_need room place n s d)
    unfolding allot_need set_need
    need-effect n (defer id) o l = all-unless 4 λ k _. all_then λ r e. all-given (with-needs (put r.1.needs n _) r.1.needed ((allot-effect k _ 1 o l).at r e))
    need-effect n (at a) o l = all-given (with-needs (put s.needs n _) s.needed (quiet o l))
    need-effect n ignore o l = all-given (quiet o l)
    need-effect n freed_need o l = all-given (quiet o l)

    own-effect : (h : ℕ) (d : Need) (o : ℕ) (l : List ℕ) → All (Shows o l) (free_own h s d)
    unfolding free_own
    own-effect h (defer id) o l = all-given (quiet o l)
    own-effect h (at a) o l = all-if (λ _. free-as-effect a.kind true h o l) (λ _. all-given (quiet o l))
    own-effect h ignore o l = all-given (quiet o l)
    own-effect h freed_need o l = all-given (quiet o l)

    named : (name : ℕ) (b : Binding) → get_name room name s.scopes ≡ given b → (s.handles b.handle).held ≡ true → (s.handles b.handle).written ≡ true
        → Good s (deed room s (read_name name)) (loads 0x12 (s.handles b.handle).address ∷ []) s
    unfolding deed
    named name b r e w = rw r (good (loading b.handle e w) order)

    pub effect : (f : Frame) → All (λ r. Good s (deed room s f) r.0 r.1) (step room place s f)
    unfolding step deed set_handle set_need drain_dangling
    effect child = all_then λ r e. all-given (same _ _ _ ((child-leaves room s.scopes).at r e).1)
    effect (pop n) = all_then λ k _. all-given (closing _ _ k)
    effect (dangle n) = all_then λ c e. all-given (same _ _ _ ((dangle-leaves s.scopes _).at c e))
    effect (restore n) = all_then λ c e. all-given (same _ _ _ ((restore-leaves s.scopes _).at c e))
    effect pop_last = all_then λ k _. all-given (closing _ _ k)
    effect alloc = all-unless 3 λ t _. all_then λ r e. all-given ((allot-effect t _ 1 0x06 _).at r e)
    effect (alloc_in n) = all-unless 4 λ k _. all_then λ r e. all-given ((allot-effect k _ 1 0x07 _).at r e)
    effect (linear zero) = all-unless 3 λ _ _. all-given (quiet _ _)
    effect (linear (suc n)) = all-unless 3 λ t _. all_then λ r e. all-given ((allot-effect t _ (suc n) 0x08 _).at r e)
    effect (define name h) = all-unless 3 λ t _. all-when 13 _ λ _. all_then λ c e. all-given (same _ _ _ ((bind-leaves room s.scopes t name _ h).at c e))
    effect (get name) = all_then λ b _. all-given (quiet _ _)
    effect (take_from name) = all_then λ r e. all-given (same _ _ _ ((take-leaves room s.scopes name).at r e).1)
    effect (free h) = all_then λ t e. all-given ((free_effect true h 0x0c []).at t e)
    effect (free_quietly h) = all_then λ t e. all-given ((free_effect false h 0x0d []).at t e)
    effect (forget h) = all-when 13 _ λ _. all-given (kind-only _ _ h freed)
    effect drain = all-given (same _ _ _ (left _))
    effect (write h v) = all-when 13 _ λ _. all-when 14 _ λ e. all-given (good (storing h v _ (not-false _ e)) order)
    effect (read h) = all-when 13 _ λ _. all-when 14 _ λ e. all-when 15 _ λ w. all-given (good (loading h (not-false _ e) (not-false _ w)) order)
    effect (read_name name) = all_then λ b r. all-when 14 _ λ e. all-when 15 _ λ w. all-given (named name b r (not-false _ e) (not-false _ w))
    effect (new_defer n) = all-unless 4 λ k _. all_then λ t e. all-given ((add-effect _ 0x20 _).at t e)
    effect (new_assigned h) = all-when 13 _ λ _. all_then λ t e. all-given ((add-effect _ 0x21 _).at t e)
    effect new_ignore = all_then λ t e. all-given ((add-effect _ 0x22 _).at t e)
    effect (alloc_need n) = all-when 21 _ λ _. all_then λ r e. all-given ((need-effect n (s.needs n).need 0x23 _).at r e)
    effect (output_need n) = all-when 21 _ λ _. all_then λ o _. all-given (quiet _ _)
    effect (drop_need n) = all-when 21 _ λ _. all_then λ t e. all-given (with-needs (put t.needs n no_need) t.needed ((own-effect (s.needs n).handle (s.needs n).need 0x25 []).at t e))
