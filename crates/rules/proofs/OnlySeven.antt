-- Where allocations go decides nothing but addresses and 7: of two runs of a script, placed otherwise, one refuses a frame that the other
-- accepts by 7 only, and only because its placement has no place for the slots that the frame asks for. Assumes nothing.
use mathlib.Core.Path.{◌≡◌, refl, sym, ap, subst, ◌∙◌}
use mathlib.Core.Bool.{true, false, not}
use mathlib.Core.Option.{some}
use mathlib.Core.List.{List, [], ◌∷◌}
use Prim.Native.Nat.{ℕ, zero, suc, ◌*◌, ◌≤◌, ◌<◌}
use native.Mathlib.Omega.{arith}
use Rattle.rules.specs.Notation.{given, refused, ◌▹◌}
use Rattle.rules.specs.Sizes.{Room}
use Rattle.rules.specs.Slots.{Placement}
use Rattle.rules.specs.Scopes.{Id, Binding, bindings≔, moved≔, rebound, Found, id_of, top_scope, by_number, get_name, take_name, drain_dangling}
use Rattle.rules.specs.Needs.{Kind, local, assigned, scope, allocated_kind, Need, defer, at, ignore}
use Rattle.rules.specs.Frames.{Frame, child, pop, dangle, restore, pop_last, alloc, alloc_in, linear, define, get, take_from, free, free_quietly, forget, drain, write, read, read_name, new_defer, new_assigned, new_ignore, alloc_need, output_need, drop_need, kind≔, written≔, no_need, State, set_handle, allot, allot_need, free_own, Line, Step, step, start, Outcome, accepted, refused_at, before, onward, steps}
use Rattle.rules.specs.Demand3.{Fair}
use Rattle.rules.specs.Suppliers.{slots_asked}
use Rattle.rules.proofs.Chains.{All, all-given, all_then, all-when, all-unless, unless-some, when_false}
use Rattle.rules.proofs.Sound.{SlotsSound, StateSound}
use Rattle.rules.proofs.Naming.{top-here, id-here, number-here}
use Rattle.rules.proofs.Names.{got, bound-is}
use Rattle.rules.proofs.Needing.{found}
use Rattle.rules.proofs.KeepsScopes.{poppable-is, last-is}
use Rattle.rules.proofs.Blanks.{then-given, blank}
use Rattle.rules.proofs.Said.{names-on}
use Rattle.rules.proofs.KeepsSteps.{known, unbarred, keeps-step}
use Rattle.rules.proofs.Reached.{start-sound}
use Rattle.rules.proofs.Demand3.{Split, split-first}
use Rattle.rules.proofs.Lockstep.{top-met, number-met, id_met, open-too, pop-too, last-too, dangle-too, restore-too, bind-too, get-too}
use Rattle.rules.proofs.Rests.{NeedAlike, defers, addresses, ignores, gone, Rest, rest-same, with-need, with-handle, with-lists, open-lists, dangle-lists, restore-lists, bind-lists, take-lists, closing}
use Rattle.rules.proofs.Locks.{NoPlace, Or7, or7-is, or7-as, or7-then, allot-lock, output-alike, unknown-too, spent-too, barred-too, lost-too, forget-rest, free-lock, add-lock, own-lock}

-- ---- a step

module _ (room : Room) (p q : Placement) (fp : Fair room p (SlotsSound room.segments)) (fq : Fair room q (SlotsSound room.segments))
    (s t : State) (names : blank s.scopes ≡ blank t.scopes) (os : StateSound room s) (ot : StateSound room t) (r : Rest room.scopes s t) where
  abbrev Full : ℕ → Type 0
  Full = NoPlace q t.scopes.slots

  alloc-top : (k : Found) (e : top_scope s.scopes ≡ some k) (kind : Kind) (n : ℕ)
      → All (λ x. Or7 (Full n) (λ u. Rest room.scopes x.1 u.1) (allot room q (top-met s.scopes t.scopes names k e).it kind n t)) (allot room p k kind n s)
  alloc-top k e kind n =
      let w = top-met s.scopes t.scopes names k e in
      allot-lock room p q fp fq s t os ot r k w.it (top-here s.scopes k e room.scopes os.scopes.top) (top-here t.scopes w.it w.is room.scopes ot.scopes.top)
      (ap (λ (z : Found). z.index) w.same) kind n

  -- a binding that is found has a handle that was handed out
  bound-known : (name : ℕ) (b : Binding) → get_name room name s.scopes ≡ given b → b.handle < s.handed
  bound-known name b e = let w = (got room name s.scopes).at b e in (bound-is w.index name s.scopes.bindings b w.is os.agreeing).2.0

  taken-from : (name : ℕ) → All (λ x. (b : Binding) × (get_name room name s.scopes ≡ given b)) (take_name room name s.scopes)
  unfolding take_name
  taken-from name = all_then λ b d. all-given (b, d)

  take-given : (name : ℕ) (b : Binding) → get_name room name t.scopes ≡ given b → take_name room name t.scopes ≡ given (b, t.scopes ▹ bindings≔ (rebound (b ▹ moved≔ true) t.scopes.bindings))
  unfolding take_name
  take-given name b e = then-given _ e

  -- the first 23 on a deferred need
  defer-lock : (n : ℕ) (id : Id) → All (λ x. Or7 (Full 1) (λ u. Rest room.scopes x.1 u.1) (allot_need room q n t (defer id))) (allot_need room p n s (defer id))
  unfolding allot_need
  defer-lock n id =
      all-unless 4 λ k e. all_then λ x d.
      let w = id_met s.scopes t.scopes names room id k e in
      all-given
      (or7-as (unless-some 4 _ w.is)
      (or7-then
      ((allot-lock room p q fp fq s t os ot r k w.it (id-here room s.scopes id k e) (id-here room t.scopes id w.it w.is) (ap (λ (z : Found). z.index) w.same) (scope id) 1).at x d)
      (λ u z. or7-is refl (with-need z n _ _ (record { need = addresses _ _ refl; handle = r.handed })))))

  need-lock : (n : ℕ) {d e : Need} → NeedAlike d e → All (λ x. Or7 (Full 1) (λ u. Rest room.scopes x.1 u.1) (allot_need room q n t e)) (allot_need room p n s d)
  unfolding allot_need
  need-lock n (defers i j x) = subst (λ (id : Id). All (λ x. Or7 (Full 1) (λ u. Rest room.scopes x.1 u.1) (allot_need room q n t (defer id))) (allot_need room p n s (defer i))) x (defer-lock n i)
  need-lock n (addresses a b x) = all-given (or7-is refl (with-need r n _ _ (record { need = addresses _ _ (ap allocated_kind x); handle = (r.needs n).handle })))
  need-lock n ignores = all-given (or7-is refl r)
  need-lock n gone = all-given (or7-is refl r)

  -- what one placement lets pass, the other lets pass too, or refuses by 7 because it has no place for the slots that the frame asks for
  pub lock : (f : Frame) → All (λ x. Or7 (Full (slots_asked f)) (λ u. Rest room.scopes x.1 u.1) (step room q t f)) (step room p s f)
  unfolding step drain_dangling set_handle
  lock child =
      all_then λ x e.
      let g = (open-too s.scopes t.scopes names room).at x e in
      all-given (or7-is (then-given _ g.is) (with-lists r x.1 g.it.1 ((open-lists room s.scopes).at x e) ((open-lists room t.scopes).at g.it g.is)))
  lock (pop n) =
      all_then λ k e.
      let g = (pop-too s.scopes t.scopes names room n).at k e in
      all-given
      (or7-is (then-given _ g.is)
      (closing r k g.it ((poppable-is room s.scopes os.scopes (by_number room s.scopes n) (number-here room s.scopes n)).at k e).0
      ((poppable-is room t.scopes ot.scopes (by_number room t.scopes n) (number-here room t.scopes n)).at g.it g.is).0
      (ap (λ (z : Found). z.index) g.so)))
  lock (dangle n) =
      all_then λ c e.
      let g = (dangle-too s.scopes t.scopes names room n).at c e in
      all-given (or7-is (then-given _ g.is) (with-lists r c g.it ((dangle-lists room s.scopes n).at c e) ((dangle-lists room t.scopes n).at g.it g.is)))
  lock (restore n) =
      all_then λ c e.
      let g = (restore-too s.scopes t.scopes names room n).at c e in
      all-given (or7-is (then-given _ g.is) (with-lists r c g.it ((restore-lists room s.scopes n).at c e) ((restore-lists room t.scopes n).at g.it g.is)))
  lock pop_last =
      all_then λ k e.
      let g = (last-too s.scopes t.scopes names room).at k e in
      all-given
      (or7-is (then-given _ g.is)
      (closing r k g.it ((last-is room s.scopes os.scopes).at k e).0 ((last-is room t.scopes ot.scopes).at g.it g.is).0 (ap (λ (z : Found). z.index) g.so)))
  lock alloc =
      all-unless 3 λ k e. all_then λ x d.
      all-given (or7-as (unless-some 3 _ (top-met s.scopes t.scopes names k e).is) (or7-then ((alloc-top k e local 1).at x d) (λ u w. or7-is refl w)))
  lock (alloc_in n) =
      all-unless 4 λ k e. all_then λ x d.
      let w = number-met s.scopes t.scopes names room n k e in
      let id : scope (id_of w.it) ≡ scope (id_of k) = ap (λ (z : Found). scope (id_of z)) (sym w.same) in
      all-given
      (or7-as (unless-some 4 _ w.is)
      (or7-then
      (or7-as (ap (λ (z : Kind). allot room q w.it z 1 t) id)
      ((allot-lock room p q fp fq s t os ot r k w.it (number-here room s.scopes n k e) (number-here room t.scopes n w.it w.is) (ap (λ (z : Found). z.index) w.same) (scope (id_of k)) 1).at x d))
      (λ u z. or7-is refl z)))
  lock (linear zero) = all-unless 3 λ k e. all-given (or7-is (unless-some 3 _ (top-met s.scopes t.scopes names k e).is) r)
  lock (linear (suc n)) =
      all-unless 3 λ k e. all_then λ x d.
      all-given (or7-as (unless-some 3 _ (top-met s.scopes t.scopes names k e).is) (or7-then ((alloc-top k e _ (suc n)).at x d) (λ u w. or7-is refl w)))
  lock (define name h) =
      all-unless 3 λ k e. all-when 13 _ λ d. all_then λ c x.
      let w = top-met s.scopes t.scopes names k e in
      let g = (bind-too s.scopes t.scopes names room k w.it w.same name (s.handles h).address (t.handles h).address h).at c x in
      all-given
      (or7-is (unless-some 3 _ w.is ∙ when_false 13 _ (spent-too room s t names os ot r h d) ∙ then-given _ g.is)
      (with-lists r c g.it ((bind-lists room s.scopes k name _ h).at c x) ((bind-lists room t.scopes w.it name _ h).at g.it g.is)))
  lock (get name) = all_then λ b e. let g = (get-too s.scopes t.scopes names room name).at b e in all-given (or7-is (then-given _ g.is) r)
  lock (take_from name) =
      all_then λ x e.
      let b = (taken-from name).at x e in
      let g = (get-too s.scopes t.scopes names room name).at b.0 b.1 in
      let m = take-given name g.it g.is in
      all-given (or7-is (then-given _ m) (with-lists r x.1 _ ((take-lists room s.scopes name).at x e) ((take-lists room t.scopes name).at _ m)))
  lock (free h) = all_then λ x e. let g = (free-lock room s t names os ot r true h).at x e in all-given (or7-is (then-given _ g.is) g.so)
  lock (free_quietly h) = all_then λ x e. let g = (free-lock room s t names os ot r false h).at x e in all-given (or7-is (then-given _ g.is) g.so)
  lock (forget h) =
      all-when 13 _ λ d.
      all-given (or7-is (when_false 13 _ (barred-too room s t names os ot r h d)) (forget-rest room s t names os ot r h (unbarred s h d)))
  lock drain = all-given (or7-is refl (with-lists r _ _ (λ i. refl) (λ i. refl)))
  lock (write h v) =
      all-when 13 _ λ d. all-when 14 _ λ e.
      let lt = known s h d in
      all-given
      (or7-is (when_false 13 _ (unknown-too room s t names os ot r h ∙ d) ∙ when_false 14 _ (ap not (sym (r.held h lt)) ∙ e))
      (with-handle r h (s.handles h ▹ written≔ true ▹ kind≔ (allocated_kind (s.handles h).kind)) (t.handles h ▹ written≔ true ▹ kind≔ (allocated_kind (t.handles h).kind)) refl refl
      (ap allocated_kind (r.kind h lt)) (r.held h lt) refl (λ z. z)))
  lock (read h) =
      all-when 13 _ λ d. all-when 14 _ λ e. all-when 15 _ λ w.
      let lt = known s h d in
      all-given
      (or7-is (when_false 13 _ (unknown-too room s t names os ot r h ∙ d) ∙ when_false 14 _ (ap not (sym (r.held h lt)) ∙ e) ∙ when_false 15 _ (ap not (sym (r.written h lt)) ∙ w)) r)
  lock (read_name name) =
      all_then λ b d. all-when 14 _ λ e. all-when 15 _ λ w.
      let g = (get-too s.scopes t.scopes names room name).at b d in
      let same : g.it.handle ≡ b.handle = ap (λ (z : Binding). z.handle) (sym g.so) in
      let lt : b.handle < s.handed = bound-known name b d in
      all-given
      (or7-is
      (then-given _ g.is
      ∙ when_false 14 _ (ap (λ (h : ℕ). not (t.handles h).held) same ∙ ap not (sym (r.held b.handle lt)) ∙ e)
      ∙ when_false 15 _ (ap (λ (h : ℕ). not (t.handles h).written) same ∙ ap not (sym (r.written b.handle lt)) ∙ w))
      r)
  lock (new_defer n) =
      all-unless 4 λ k e. all_then λ x d.
      let w = number-met s.scopes t.scopes names room n k e in
      let g = (add-lock room s t names os ot r _ (record { need = defer (id_of w.it); handle = 0 }) (record { need = defers _ _ (ap id_of w.same); handle = refl })).at x d in
      all-given (or7-is (unless-some 4 _ w.is ∙ then-given _ g.is) g.so)
  lock (new_assigned h) =
      all-when 13 _ λ d. all_then λ x e.
      let g = (add-lock room s t names os ot r _ (record { need = at (record { slot = (t.handles h).address; kind = assigned }); handle = h }) (record { need = addresses _ _ refl; handle = refl })).at x e in
      all-given (or7-is (when_false 13 _ (unknown-too room s t names os ot r h ∙ d) ∙ then-given _ g.is) g.so)
  lock new_ignore =
      all_then λ x e.
      let g = (add-lock room s t names os ot r _ (record { need = ignore; handle = 0 }) (record { need = ignores; handle = refl })).at x e in
      all-given (or7-is (then-given _ g.is) g.so)
  lock (alloc_need n) =
      all-when 21 _ λ d. all_then λ x e.
      all-given (or7-as (when_false 21 _ (lost-too room s t names os ot r n ∙ d)) (or7-then ((need-lock n (r.needs n).need).at x e) (λ u w. or7-is refl w)))
  lock (output_need n) =
      all-when 21 _ λ d. all_then λ o e.
      let g = (output-alike (r.needs n).need).at o e in
      all-given (or7-is (when_false 21 _ (lost-too room s t names os ot r n ∙ d) ∙ then-given _ g.is) r)
  lock (drop_need n) =
      all-when 21 _ λ d. all_then λ x e.
      let g = (own-lock room s t names os ot r (s.needs n).handle (r.needs n).need (os.needing.agree n (found s n d))).at x e in
      all-given
      (or7-is
      (when_false 21 _ (lost-too room s t names os ot r n ∙ d)
      ∙ then-given _ (ap (λ (h : ℕ). free_own h t (t.needs n).need) (sym (r.needs n).handle) ∙ g.is))
      (with-need g.so n no_need no_need (record { need = gone; handle = refl })))

-- ---- a script

pub before-refused : (ls : List Line) (o : Outcome) (n k : ℕ) → before ls o ≡ refused_at n k → o ≡ refused_at n k
before-refused ls (accepted more size) n k e = absurd (let z : ◌≡◌ {A = ℕ} 0 1 = cc in omega arith)
before-refused ls (refused_at m i) n k e = e

module _ (room : Room) (big : 128 * room.segments ≤ room.size) (p q : Placement) (fp : Fair room p (SlotsSound room.segments)) (fq : Fair room q (SlotsSound room.segments)) where
  goes_on : (fs : List Frame) (i j : ℕ) (s t : State) → blank s.scopes ≡ blank t.scopes → StateSound room s → StateSound room t → Rest room.scopes s t
      → (ls : List Line) (m n k : ℕ) → steps room p i s fs ≡ accepted ls m → steps room q j t fs ≡ refused_at n k → n ≡ 7
  unfolding steps onward
  goes_on [] i j s t names os ot r ls m n k e d = absurd (let z : ◌≡◌ {A = ℕ} 0 1 = cc in omega arith)
  goes_on (f ∷ fs) i j s t names os ot r ls m n k e d =
      let w = split-first room p i s f fs ls m e in
      let l = (lock room p q fp fq s t names os ot r f).at w.result w.stepped in
      go w l (step room q t f) refl
      (λ u x y. goes_on fs (suc i) (suc j) w.result.1 u.1 (names-on room p q s t names f w.result u w.stepped x)
      ((keeps-step room s os big p fp f).at w.result w.stepped) ((keeps-step room t ot big q fq f).at u x) (l.gives u x) w.tail.rest m n k w.tail.went y)
    where
      go : (w : Split room p i s f fs ls m) → Or7 (NoPlace q t.scopes.slots (slots_asked f)) (λ u. Rest room.scopes w.result.1 u.1) (step room q t f) → (a : Step) → step room q t f ≡ a
          → ((u : List Line × State) → step room q t f ≡ given u → steps room q (suc j) u.1 fs ≡ refused_at n k → n ≡ 7) → n ≡ 7
      go w l (refused x) y ih = let z : refused_at x j ≡ refused_at n k = rw (y, onward) at d in let v : x ≡ n = cc in sym v ∙ (l.only x y).0
      go w l (given u) y ih = ih u y (before-refused u.0 (steps room q (suc j) u.1 fs) n k (rw (y, onward) at d))

  -- a script that one placement accepts, another accepts too or refuses by 7
  pub only-seven : 0 < room.segments → 0 < room.scopes → (fs : List Frame) (i j : ℕ) (ls : List Line) (m n k : ℕ) → steps room p i start fs ≡ accepted ls m → steps room q j start fs ≡ refused_at n k → n ≡ 7
  only-seven a b fs i j ls m n k e d = goes_on fs i j start start refl (start-sound room a b) (start-sound room a b) (rest-same room.scopes start) ls m n k e d
