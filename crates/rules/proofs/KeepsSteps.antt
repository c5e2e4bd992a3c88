-- Every step of a script keeps soundness with handles: in any room whose size holds its slots, for every fair placement. Assumes nothing.
use mathlib.Core.Path.{◌≡◌, refl, sym, ap, subst, ◌∙◌}
use mathlib.Core.Bool.{Bool, true, false}
use mathlib.Core.List.{List}
use Prim.Native.Nat.{ℕ, zero, suc, ◌+◌, ◌*◌, ◌≤◌, ◌<◌}
use native.Mathlib.Omega.{arith}
use native.Mathlib.Nat.{le_refl}
use borrow.Author.Tests.{leb-false, ltb-false, not-false}
use Rattle.rules.specs.Notation.{◌▹◌, put}
use Rattle.rules.specs.Sizes.{Room}
use Rattle.rules.specs.Slots.{Placement, remove}
use Rattle.rules.specs.Scopes.{Id, Binding, Scopes, moved≔, Found, by_number, has_child, closed, bind_in, take_name, drain_dangling}
use Rattle.rules.specs.Needs.{Kind, local, dangling, assigned, freed, scope, is_freed, allocated_kind, Address, Need, defer, at, ignore, freed_need}
use Rattle.rules.specs.Frames.{Frame, child, pop, dangle, restore, pop_last, alloc, alloc_in, linear, define, get, take_from, free, free_quietly, forget, drain, write, read, read_name, new_defer, new_assigned, new_ignore, alloc_need, output_need, drop_need, Handle, kind≔, held≔, Remembered, no_need, is_scope_kind, owns, State, scopes≔, handles≔, handed≔, set_handle, unknown, spent, barred, let_go, grant, allot, close, hand_back, free_as, free_handle, set_need, add_need, allot_need, free_own, step}
use Rattle.rules.specs.Demand3.{Fair}
use Rattle.rules.proofs.Chains.{All, all-given, all_then, all-when, all-unless, all-if}
use Rattle.rules.proofs.Tables.{put-alike}
use Rattle.rules.proofs.Sound.{Every, SlotsSound, Sound, Agrees, NeedAgrees, StateSound}
use Rattle.rules.proofs.Tells.{clash, neither}
use Rattle.rules.proofs.Naming.{Here, top-here, id-here, number-here}
use Rattle.rules.proofs.Names.{every-as, bound-is, rebound-every, unbound-every}
use Rattle.rules.proofs.Leaves.{Leaves, left, child-leaves, bind-leaves, take-leaves, dangle-leaves, restore-leaves, back-leaves, Allotted, allotted}
use Rattle.rules.proofs.Handles.{handles-alike, agrees-alike, grant-old, grant-new, handles-given, let_go-address, agrees-closed, handles-closed, handles-back}
use Rattle.rules.proofs.Needing.{found, needs-alike, own-known, needs-put}
use Rattle.rules.proofs.KeepsScopes.{keeps-child, keeps-dangle, keeps-restore, closed-sound, poppable-is, last-is}
use Rattle.rules.proofs.KeepsSlots.{keeps-allocate, keeps-back}
use Rattle.rules.proofs.KeepsNames.{keeps-bind, keeps-take, keeps-drain}

-- ---- states

-- the need n becomes x, whose handle is no other need's
with-need : (room : Room) (t : State) → StateSound room t → (n : ℕ) → n < t.needed → (x : Remembered) → NeedAgrees t.handles t.handed x.handle x.need
    → ((j : ℕ) → j < t.needed → owns x.need ≡ true → owns (t.needs j).need ≡ true → (n ≡ j → ⊥) → x.handle ≡ (t.needs j).handle → ⊥) → StateSound room (t ▹ set_need n x)
unfolding set_need
with-need room t ok n l x w alone = record {
  scopes = ok.scopes;
  handles = ok.handles;
  agreeing = ok.agreeing;
  needing = needs-put ok.needing n x w t.needed ok.needing.few (λ j k _. k) alone;
}

-- a handle that is not refused by 13 has been handed out
module _ (s : State) where
  pub known : (h : ℕ) → unknown s h ≡ false → h < s.handed
  unfolding unknown
  known h e = leb-false s.handed h e

  pub unspent : (h : ℕ) → spent s h ≡ false → h < s.handed
  unfolding spent
  unspent h e = known h (neither (unknown s h) (is_freed (s.handles h).kind) e).0

  pub unbarred : (h : ℕ) → barred s h ≡ false → h < s.handed
  unfolding barred
  unbarred h e = unspent h (neither (spent s h) _ e).0

module _ (room : Room) (s : State) (ok : StateSound room s) where
  abbrev c : Scopes
  c = s.scopes

  -- other scopes in the same slots
  with-scopes : (d : Scopes) (bindings : List Binding) {counter size : ℕ} → Sound room d → Leaves c.slots bindings counter size d → Every (Agrees s.handles s.handed) bindings → StateSound room (s ▹ scopes≔ d)
  with-scopes d bindings sound l agrees = record {
    scopes = sound;
    handles = rw l.slots-are ok.handles;
    agreeing = rw l.bindings-are agrees;
    needing = ok.needing;
  }

  -- handle h with another kind or mark
  with-handle : (h : ℕ) (x : Handle) → x.held ≡ (s.handles h).held → x.address ≡ (s.handles h).address → StateSound room (s ▹ set_handle h x)
  unfolding set_handle
  with-handle h x held address = record {
    scopes = ok.scopes;
    handles = handles-alike (put s.handles h x) (put-alike s.handles h x (λ y. y.held) held) (put-alike s.handles h x (λ y. y.address) address) ok.handles;
    agreeing = every-as (agrees-alike s.handles (put s.handles h x) s.handed s.handed (le_refl _) (λ j _. put-alike s.handles h x (λ y. y.address) address j)) ok.agreeing;
    needing = needs-alike s.handles (put s.handles h x) s.handed s.handed (le_refl _) (λ j _. put-alike s.handles h x (λ y. y.address) address j) ok.needing;
  }

  close-kept : (k : Found) → Here room.scopes c.live k → has_child room c k.index ≡ false → StateSound room (close k s)
  unfolding close closed
  close-kept k h e = record {
    scopes = closed-sound room c ok.scopes k h e;
    handles = handles-closed c.slots k.scope.owned ok.scopes.slots ok.handles;
    agreeing = unbound-every k.index (λ b _. agrees-closed s.handles s.handed k.scope.owned b) ok.agreeing;
    needing = needs-alike s.handles (let_go k.scope.owned s.handles) s.handed s.handed (le_refl _) (λ j _. let_go-address k.scope.owned s.handles j) ok.needing;
  }

  back-kept : (dangles : Bool) (h : ℕ) → h < s.handed → All (StateSound room) (hand_back dangles h s)
  unfolding hand_back set_handle
  back-kept dangles h l = all-when 14 _ λ held. all_then λ d e. all-given (go d (not-false _ held) ((keeps-back room c ok.scopes dangles (s.handles h).address).at d e) ((back-leaves c dangles (s.handles h).address).at d e))
    where
      x : Handle
      x = s.handles h ▹ held≔ false ▹ kind≔ freed

      go : (d : Scopes) → (s.handles h).held ≡ true → Sound room d → Leaves (remove (s.handles h).address c.slots) c.bindings c.counter c.size d → StateSound room (s ▹ scopes≔ d ▹ handles≔ (put s.handles h x))
      go d held sound v = record {
        scopes = sound;
        handles = rw v.slots-are (handles-back c.slots ok.scopes.slots ok.handles h l held x refl);
        agreeing = rw v.bindings-are (every-as (agrees-alike s.handles (put s.handles h x) s.handed s.handed (le_refl _) (λ j _. put-alike s.handles h x (λ y. y.address) refl j)) ok.agreeing);
        needing = needs-alike s.handles (put s.handles h x) s.handed s.handed (le_refl _) (λ j _. put-alike s.handles h x (λ y. y.address) refl j) ok.needing;
      }

  free-as-kept : (k : Kind) (dangles : Bool) (h : ℕ) → h < s.handed → All (StateSound room) (free_as k dangles h s)
  unfolding free_as
  free-as-kept k dangles h l = all-if (λ _. back-kept dangles h l) (λ _. all-given (with-handle h (s.handles h ▹ kind≔ freed) refl refl))

  free-kept : (dangles : Bool) (h : ℕ) → All (StateSound room) (free_handle dangles h s)
  unfolding free_handle
  free-kept dangles h = all-when 13 _ λ q. free-as-kept (s.handles h).kind dangles h (unbarred s h q)

  -- ---- needs

  own-kept : (h : ℕ) (d : Need) → NeedAgrees s.handles s.handed h d → All (StateSound room) (free_own h s d)
  unfolding free_own
  own-kept h (defer id) w = all-given ok
  own-kept h (at a) w = all-if (λ _. free-as-kept a.kind true h w.0) (λ _. all-given ok)
  own-kept h ignore w = all-given ok
  own-kept h freed_need w = all-given ok

  own-needed : (h : ℕ) (d : Need) → All (λ t. t.needed ≡ s.needed) (free_own h s d)
  unfolding free_own free_as hand_back set_handle
  own-needed h (defer id) = all-given refl
  own-needed h (at a) = all-if (λ _. all-if (λ _. all-when 14 _ λ _. all_then λ c _. all-given refl) (λ _. all-given refl)) (λ _. all-given refl)
  own-needed h ignore = all-given refl
  own-needed h freed_need = all-given refl

  drop-kept : (n : ℕ) → n < s.needed → All (λ t. StateSound room (t ▹ set_need n no_need)) (free_own (s.needs n).handle s (s.needs n).need)
  drop-kept n l = record {
    at = λ t e.
        let many : n < t.needed = omega (arith, (own-needed (s.needs n).handle (s.needs n).need).at t e) in
        with-need room t ((own-kept (s.needs n).handle (s.needs n).need (ok.needing.agree n l)).at t e) n many no_need tt (λ j _ o _ _ _. clash o refl);
  }

  -- one more need, that has no handle of its own
  add_kept : (x : Remembered) → NeedAgrees s.handles s.handed x.handle x.need → owns x.need ≡ false → All (StateSound room) (add_need room x s)
  unfolding add_need set_need
  add_kept x w e =
      all-when 22 _ λ q. all-given
      (record {
        scopes = ok.scopes;
        handles = ok.handles;
        agreeing = ok.agreeing;
        needing = needs-put ok.needing s.needed x w (s.needed + 1) (omega (arith, leb-false room.needs s.needed q)) (λ j l ne. omega (arith, ne)) (λ j l o _ _ _. clash o e);
      })

  module _ (big : 128 * room.segments ≤ room.size) (place : Placement) (fair : Fair room place (SlotsSound room.segments)) where
    allot-kept : (k : Found) (kind : Kind) (n : ℕ) → Here room.scopes c.live k → All (λ r. StateSound room r.1) (allot room place k kind n s)
    unfolding allot
    allot-kept k kind n h = all-when 16 _ λ q. all_then λ r e. all-given (go r (ltb-false room.handles (s.handed + n) q) ((keeps-allocate room c ok.scopes big place fair k n h).at r e) ((allotted place k n c).at r e))
      where
        go : (r : ℕ × Scopes) → s.handed + n ≤ room.handles → Sound room r.1 → Allotted place n c r → StateSound room (s ▹ scopes≔ r.1 ▹ handles≔ (grant s.handed n r.0 kind s.handles) ▹ handed≔ (s.handed + n))
        go r fits sound w =
            let g = fair.placed n c.slots w.placed w.from ok.scopes.slots in
            record {
              scopes = sound;
              handles = rw (w.leaves.slots-are, w.address) (handles-given c.slots w.placed n kind g.1 g.2 fits ok.handles);
              needing = needs-alike s.handles (grant s.handed n r.0 kind s.handles) s.handed (s.handed + n) (omega arith) (λ j l. ap (λ (x : Handle). x.address) (grant-old s.handed n r.0 kind s.handles j l)) ok.needing;
              agreeing = rw w.leaves.bindings-are (every-as (agrees-alike s.handles (grant s.handed n r.0 kind s.handles) s.handed (s.handed + n) (omega arith) (λ j l. ap (λ (x : Handle). x.address) (grant-old s.handed n r.0 kind s.handles j l))) ok.agreeing);
            }

    -- one handle, the next; the needs as they were
    record Handed (a : ℕ) (t : State) : Type 0 where
      handed : t.handed ≡ s.handed + 1
      address : (t.handles s.handed).address ≡ a
      needs : t.needs ≡ s.needs
      needed : t.needed ≡ s.needed

    allot-hands : (k : Found) (kind : Kind) → All (λ r. Handed r.0 r.1) (allot room place k kind 1 s)
    unfolding allot
    allot-hands k kind = all-when 16 _ λ _. all_then λ r _. all-given (record {
      handed = refl;
      address = ap (λ (x : Handle). x.address) (grant-new s.handed 1 r.0 kind s.handles s.handed (omega arith) (omega arith)) ∙ omega arith;
      needs = refl;
      needed = refl;
    })

    -- a new handle is no need's
    new-alone : (j : ℕ) → j < s.needed → owns (s.needs j).need ≡ true → s.handed ≡ (s.needs j).handle → ⊥
    new-alone j l o q = let k = own-known s.handles s.handed (s.needs j).handle (s.needs j).need (ok.needing.agree j l) o in omega arith

    first-kept : (n : ℕ) → n < s.needed → (id : Id) (a : ℕ) (t : State) → Handed a t → StateSound room t
        → StateSound room (t ▹ set_need n (record { need = at (record { slot = a; kind = scope id }); handle = s.handed }))
    first-kept n l id a t w sound =
        with-need room t sound n (omega (arith, w.needed)) _ (omega (arith, w.handed), w.address)
        (λ j k _ o _ q. subst (λ (f : ℕ → Remembered). owns (f j).need ≡ true → s.handed ≡ (f j).handle → ⊥) (sym w.needs) (new-alone j (omega (arith, w.needed))) o q)

    owns-allocated : (k : Kind) → is_scope_kind (allocated_kind k) ≡ is_scope_kind k
    owns-allocated local = refl
    owns-allocated dangling = refl
    owns-allocated assigned = refl
    owns-allocated freed = refl
    owns-allocated (scope id) = refl

    again_kept : (n : ℕ) → n < s.needed → (a : Address) → (s.needs n).need ≡ at a
        → StateSound room (s ▹ set_need n (record { need = at (record { slot = a.slot; kind = allocated_kind a.kind }); handle = (s.needs n).handle }))
    again_kept n l a e =
        let w : NeedAgrees s.handles s.handed (s.needs n).handle (at a) = subst (NeedAgrees s.handles s.handed (s.needs n).handle) e (ok.needing.agree n l) in
        with-need room s ok n l _ w
        (λ j k o o' ne q. ne (ok.needing.apart n j l k (ap owns e ∙ sym (owns-allocated a.kind) ∙ o) o' q))

    need-kept : (n : ℕ) → n < s.needed → (d : Need) → (s.needs n).need ≡ d → All (λ r. StateSound room r.1) (allot_need room place n s d)
    unfolding allot_need
    need-kept n l (defer id) e =
        all-unless 4 λ k p. all_then λ r q.
        all-given (first-kept n l id r.0 r.1 ((allot-hands k _).at r q) ((allot-kept k _ 1 (id-here room c id k p)).at r q))
    need-kept n l (at a) e = all-given (again_kept n l a e)
    need-kept n l ignore e = all-given ok
    need-kept n l freed_need e = all-given ok

    bind-kept : (t : Found) (name h : ℕ) → Here room.scopes c.live t → h < s.handed → All (λ d. StateSound room (s ▹ scopes≔ d)) (bind_in room t name (s.handles h).address h c)
    bind-kept t name h here l = record {
      at = λ d e. with-scopes d _ ((keeps-bind room c ok.scopes t name (s.handles h).address h here).at d e) ((bind-leaves room c t name (s.handles h).address h).at d e)
          (rebound-every (record { scope = t.index; name = name; address = (s.handles h).address; handle = h; moved = false }) (l, refl) ok.agreeing);
    }

    take-kept : (name : ℕ) → All (λ r. StateSound room (s ▹ scopes≔ r.1)) (take_name room name c)
    take-kept name = record {
      at = λ r e.
          let v = (take-leaves room c name).at r e in
          with-scopes r.1 _ ((keeps-take room c ok.scopes name).at r e) v.1
          (rebound-every (r.0 ▹ moved≔ true) (bound-is v.0.index name c.bindings r.0 v.0.is ok.agreeing).2 ok.agreeing);
    }

    pub keeps-step : (f : Frame) → All (λ r. StateSound room r.1) (step room place s f)
    unfolding step set_need drain_dangling
    keeps-step child = all_then λ r e. all-given (with-scopes r.1 c.bindings ((keeps-child room c ok.scopes).at r e) ((child-leaves room c).at r e).1 ok.agreeing)
    keeps-step (pop n) = all_then λ k e. let p = (poppable-is room c ok.scopes (by_number room c n) (number-here room c n)).at k e in all-given (close-kept k p.0 p.1)
    keeps-step (dangle n) = all_then λ d e. all-given (with-scopes d c.bindings ((keeps-dangle room c ok.scopes (by_number room c n) (number-here room c n)).at d e) ((dangle-leaves c (by_number room c n)).at d e) ok.agreeing)
    keeps-step (restore n) = all_then λ d e. all-given (with-scopes d c.bindings ((keeps-restore room c ok.scopes (by_number room c n) (number-here room c n)).at d e) ((restore-leaves c (by_number room c n)).at d e) ok.agreeing)
    keeps-step pop_last = all_then λ k e. let p = (last-is room c ok.scopes).at k e in all-given (close-kept k p.0 p.1)
    keeps-step alloc = all-unless 3 λ t e. all_then λ r q. all-given ((allot-kept t _ 1 (top-here c t e room.scopes ok.scopes.top)).at r q)
    keeps-step (alloc_in n) = all-unless 4 λ k e. all_then λ r q. all-given ((allot-kept k _ 1 (number-here room c n k e)).at r q)
    keeps-step (linear zero) = all-unless 3 λ _ _. all-given ok
    keeps-step (linear (suc n)) = all-unless 3 λ t e. all_then λ r q. all-given ((allot-kept t _ (suc n) (top-here c t e room.scopes ok.scopes.top)).at r q)
    keeps-step (define name h) = all-unless 3 λ t e. all-when 13 _ λ q. all_then λ d p. all-given ((bind-kept t name h (top-here c t e room.scopes ok.scopes.top) (unspent s h q)).at d p)
    keeps-step (get name) = all_then λ b _. all-given ok
    keeps-step (take_from name) = all_then λ r e. all-given ((take-kept name).at r e)
    keeps-step (free h) = all_then λ t e. all-given ((free-kept true h).at t e)
    keeps-step (free_quietly h) = all_then λ t e. all-given ((free-kept false h).at t e)
    keeps-step (forget h) = all-when 13 _ λ _. all-given (with-handle h (s.handles h ▹ kind≔ freed) refl refl)
    keeps-step drain = all-given (with-scopes (drain_dangling c).1 c.bindings (keeps-drain room c ok.scopes) (left _) ok.agreeing)
    keeps-step (write h v) = all-when 13 _ λ _. all-when 14 _ λ _. all-given (with-handle h _ refl refl)
    keeps-step (read h) = all-when 13 _ λ _. all-when 14 _ λ _. all-when 15 _ λ _. all-given ok
    keeps-step (read_name name) = all_then λ b _. all-when 14 _ λ _. all-when 15 _ λ _. all-given ok
    keeps-step (new_defer n) = all-unless 4 λ k _. all_then λ t e. all-given ((add_kept _ tt refl).at t e)
    keeps-step (new_assigned h) = all-when 13 _ λ q. all_then λ t e. all-given ((add_kept _ (known s h q, refl) refl).at t e)
    keeps-step new_ignore = all_then λ t e. all-given ((add_kept _ tt refl).at t e)
    keeps-step (alloc_need n) = all-when 21 _ λ q. all_then λ r e. all-given ((need-kept n (found s n q) (s.needs n).need refl).at r e)
    keeps-step (output_need n) = all-when 21 _ λ _. all_then λ o _. all-given ok
    keeps-step (drop_need n) = all-when 21 _ λ q. all_then λ t e. all-given ((drop-kept n (found s n q)).at t e)
