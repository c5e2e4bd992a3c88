-- The same slots occupied, with another L and another H: a run that is placed where another run was placed goes the same way. Assumes nothing.
use mathlib.Core.Path.{◌≡◌, refl, sym, ap, subst, ◌∙◌, fun_ext}
use mathlib.Core.Bool.{Bool, true, false, true≢false}
use mathlib.Core.Option.{Option, none, some}
use mathlib.Core.List.{List, [], ◌∷◌, ◌++◌}
use Prim.Native.Nat.{ℕ, zero, suc, ◌+◌, ◌*◌, ◌-◌, ◌/◌, ◌≤◌, ◌<◌}
use native.Mathlib.Omega.{arith}
use lib.Dec.{ltb}
use borrow.Author.Tests.{ltb-false}
use Rattle.rules.specs.Notation.{Answer, given, ◌▹◌, put}
use Rattle.rules.specs.Sizes.{Room}
use Rattle.rules.specs.Slots.{Slots, Placed, Placement, fresh_slots, remove, remove_all, vacant, take_run, exactly, exactly_at, placing}
use Rattle.rules.specs.Scopes.{Binding, Scope, Scopes, slots≔, Found, top_scope, by_id, by_number, has_child, set_scope, open_child, allocate, closed, poppable, last_poppable, dangle_scope, restore_scope, bound_in, bind_in, lookup, get_name, take_name, drain_dangling}
use Rattle.rules.specs.Needs.{Kind, local, dangling, assigned, freed, scope, goes_back, give_back, Need, defer, at, ignore, freed_need}
use Rattle.rules.specs.Frames.{Frame, child, pop, dangle, restore, pop_last, alloc, alloc_in, linear, define, get, take_from, free, free_quietly, forget, drain, write, read, read_name, new_defer, new_assigned, new_ignore, alloc_need, output_need, drop_need, Remembered, State, scopes≔, set_handle, unknown, spent, belongs, barred, allot, close, hand_back, free_as, free_handle, set_need, add_need, lost, allot_need, free_own, slot_shown, Line, Step, step}
use Rattle.rules.specs.Demand3.{Gives, Fair}
use Rattle.rules.specs.Suppliers.{as_shown}
use Rattle.rules.proofs.Chains.{All, all-given, all_then, all-when, all-unless, all-if, all-as, if-true, if-false, unless-some, when_false}
use Rattle.rules.proofs.Tables.{put-ext}
use Rattle.rules.proofs.Tells.{decided, clash, is_false}
use Rattle.rules.proofs.Removing.{remove-was}
use Rattle.rules.proofs.Editions.{InOrder, vacant-tells, placing-fair}
use Rattle.rules.proofs.Leaves.{child-leaves, bind-leaves, take-leaves, dangle-leaves, restore-leaves, back-leaves}
use Rattle.rules.proofs.Blanks.{then-given}

-- ---- slots

-- in order, and nothing is occupied from segment L on, wherever
pub record Tight (m : ℕ) (s : Slots) : Type 0 where
  pub order : InOrder m s
  pub low : (a : ℕ) → s.occupied a ≡ true → a < 128 * s.segments

-- a placement that keeps slots in order keeps them tight, as it places below the room only
pub tight-fair : {room : Room} {place : Placement} → Fair room place (InOrder room.segments) → Fair room place (Tight room.segments)
unfolding fresh_slots
tight-fair {room = room} f =
    record {
      at_first = record { order = f.at_first; low = λ a p. absurd (true≢false (sym p)) };
      removed = λ a s t.
          let o = f.removed a s t.order in
          record { order = o; low = λ b p. o.low b (omega (arith, t.order.segments, t.low b (remove-was a s b p))) p };
      placed = λ n s p e t.
          let g = f.placed n s p e t.order in
          let within : (b : ℕ) → p.next.occupied b ≡ true → b < 128 * room.segments
          = λ b q. decided (s.occupied b) (λ z. omega (arith, t.order.segments, t.low b z)) (λ z. omega (arith, g.1.only b q z, g.2)) in
          (record { order = g.0; low = λ b q. g.0.low b (within b q) q }, g.1, g.2);
    }

module _ (m : ℕ) where
  -- a slot that is removed is clear, and no other changes
  remove-occupied : (a : ℕ) (s : Slots) → Tight m s → (remove a s).occupied ≡ put s.occupied a false
  unfolding remove
  remove-occupied a s t = go (ltb (a / 128) s.segments) refl
    where
      go : (r : Bool) → ltb (a / 128) s.segments ≡ r → (remove a s).occupied ≡ put s.occupied a false
      go true e = rw (e, remove)
      go false e =
          let high : s.segments ≤ a / 128 = ltb-false (a / 128) s.segments e in
          let clear : s.occupied a ≡ false = is_false (s.occupied a) (λ p. omega (arith, t.low a p)) in
          rw (e, remove) (put-ext s.occupied a false s.occupied clear (λ j ne. refl))

  -- two placements that give the same slots leave the same ones occupied
  taken-too : (n : ℕ) (s t : Slots) (p q : Placed) → Gives n s p → Gives n t q → p.address ≡ q.address → s.occupied ≡ t.occupied
      → (b : ℕ) → p.next.occupied b ≡ true → q.next.occupied b ≡ true
  taken-too n s t p q g h a e b x =
      decided (s.occupied b)
      (λ z. h.kept b (ap (λ (f : ℕ → Bool). f b) (sym e) ∙ z))
      (λ z. let w = g.only b x z in let k : q.address + (b - q.address) ≡ b = omega arith in subst (λ (c : ℕ). q.next.occupied c ≡ true) k (h.taken (b - q.address) (omega arith)))

  gives_one : (n : ℕ) (s t : Slots) (p q : Placed) → Gives n s p → Gives n t q → p.address ≡ q.address → s.occupied ≡ t.occupied → p.next.occupied ≡ q.next.occupied
  gives_one n s t p q g h a e =
      fun_ext (λ b. decided (p.next.occupied b)
      (λ x. x ∙ sym (taken-too n s t p q g h a e b x))
      (λ x. x ∙ sym (is_false (q.next.occupied b) (λ y. clash (taken-too n t s q p h g (sym a) (sym e) b y) x))))

  pub exactly-there : (a n : ℕ) (s : Slots) → a + n ≤ 128 * m → ((i : ℕ) → i < n → s.occupied (a + i) ≡ false) → exactly m a n s ≡ some (record { address = a; next = take_run a n s })
  unfolding exactly
  exactly-there a n s l c = let e : vacant m a n s ≡ true = (vacant-tells m a n s).shows (l, c) in rw (e, exactly)

-- x has the slots of s
pub record Twin (m : ℕ) (s x : Slots) : Type 0 where
  pub same : x.occupied ≡ s.occupied
  pub mine : Tight m s
  pub its : Tight m x

-- ---- scopes with other slots

module _ (room : Room) (c : Scopes) (x : Slots) where
  child-twin : All (λ r. open_child room (c ▹ slots≔ x) ≡ given (r.0, r.1 ▹ slots≔ x)) (open_child room c)
  unfolding open_child top_scope
  child-twin = all-unless 3 λ t e. all-unless 8 λ i q. all-given (unless-some 3 _ e ∙ unless-some 8 _ q)

  pop-twin : (n : ℕ) → All (λ k. poppable room (by_number room (c ▹ slots≔ x) n) (c ▹ slots≔ x) ≡ given k) (poppable room (by_number room c n) c)
  unfolding poppable by_number has_child
  pop-twin n = all-unless 4 λ k e. all-when 5 _ λ p. all-when 6 _ λ q. all-given (unless-some 4 _ e ∙ when_false 5 _ p ∙ when_false 6 _ q)

  last-twin : All (λ k. last_poppable room (c ▹ slots≔ x) ≡ given k) (last_poppable room c)
  unfolding last_poppable top_scope has_child
  last-twin = all-unless 3 λ t e. all-unless 3 λ k p. all-when 6 _ λ q. all-given (unless-some 3 _ e ∙ unless-some 3 _ p ∙ when_false 6 _ q)

  dangle-twin : (n : ℕ) → All (λ d. dangle_scope (by_number room (c ▹ slots≔ x) n) (c ▹ slots≔ x) ≡ given (d ▹ slots≔ x)) (dangle_scope (by_number room c n) c)
  unfolding dangle_scope by_number set_scope
  dangle-twin n = all-unless 4 λ k e. all-when 5 _ λ p. all-given (unless-some 4 _ e ∙ when_false 5 _ p)

  restore-twin : (n : ℕ) → All (λ d. restore_scope (by_number room (c ▹ slots≔ x) n) (c ▹ slots≔ x) ≡ given (d ▹ slots≔ x)) (restore_scope (by_number room c n) c)
  unfolding restore_scope by_number set_scope
  restore-twin n = all-unless 4 λ k e. all-when 5 _ λ p. all-given (unless-some 4 _ e ∙ when_false 5 _ p)

  bind-twin : (t : Found) (name a h : ℕ) → All (λ d. bind_in room t name a h (c ▹ slots≔ x) ≡ given (d ▹ slots≔ x)) (bind_in room t name a h c)
  unfolding bind_in
  bind-twin t name a h = all-when 9 _ λ e. all-given (when_false 9 _ e)

  lookup-twin : (n name : ℕ) (o : Option ℕ) → lookup n (c ▹ slots≔ x) name o ≡ lookup n c name o
  unfolding lookup
  lookup-twin zero name o = refl
  lookup-twin (suc n) name none = refl
  lookup-twin (suc n) name (some i) = go (c.live i) (bound_in i name c.bindings) refl refl (lookup-twin n name)
    where
      go : (k : Option Scope) (b : Option Binding) → c.live i ≡ k → bound_in i name c.bindings ≡ b → ((o : Option ℕ) → lookup n (c ▹ slots≔ x) name o ≡ lookup n c name o)
          → lookup (suc n) (c ▹ slots≔ x) name (some i) ≡ lookup (suc n) c name (some i)
      go none b q p ih = rw (q, lookup)
      go (some k) (some b) q p ih = rw (q, p, lookup)
      go (some k) none q p ih = rw (q, p, lookup) (ih k.parent)

  get-twin : (name : ℕ) → All (λ b. get_name room name (c ▹ slots≔ x) ≡ given b) (get_name room name c)
  unfolding get_name top_scope
  get-twin name = all-unless 3 λ t e. all-unless 10 λ b p. all-when 11 _ λ q. all-given (unless-some 3 _ e ∙ unless-some 10 _ (lookup-twin room.scopes name c.top ∙ p) ∙ when_false 11 _ q)

  take-twin : (name : ℕ) → All (λ r. take_name room name (c ▹ slots≔ x) ≡ given (r.0, r.1 ▹ slots≔ x)) (take_name room name c)
  unfolding take_name
  take-twin name = all_then λ b e. all-given (then-given _ ((get-twin name).at b e))

  back-twin : (dangles : Bool) (a : ℕ) → All (λ d. give_back dangles a (c ▹ slots≔ x) ≡ given (d ▹ slots≔ (remove a x))) (give_back dangles a c)
  unfolding give_back set_scope top_scope
  back-twin dangles a = all-unless 12 λ t e. all-when 12 _ λ q. all-given (unless-some 12 _ e ∙ when_false 12 _ q)

  goes-twin : (k : Kind) → goes_back (c ▹ slots≔ x) k ≡ goes_back c k
  unfolding goes_back top_scope
  goes-twin local = refl
  goes-twin dangling = refl
  goes-twin assigned = refl
  goes-twin freed = refl
  goes-twin (scope i) = refl

-- ---- a step

abbrev pub reslot : Slots → State → State
reslot x s = s ▹ scopes≔ (s.scopes ▹ slots≔ x)

module _ (room : Room) (place : Placement) (fair : Fair room place (Tight room.segments)) where
  at-fair : (a : ℕ) → Fair room (exactly room.segments a) (Tight room.segments)
  unfolding placing
  at-fair a = tight-fair (placing-fair room (exactly_at a))

  module _ (s : State) (x : Slots) (w : Twin room.segments s.scopes.slots x) where
    -- m is given what gave r, over other slots
    pub record Alike {A : Type 0} (m : Answer (A × State)) (r : A × State) : Type 0 where
      pub slots : Slots
      pub goes : m ≡ given (r.0, reslot slots r.1)
      pub twin : Twin room.segments r.1.scopes.slots slots

    -- the same where a state alone is given
    record AlikeState (m : Answer State) (t : State) : Type 0 where
      slots : Slots
      goes : m ≡ given (reslot slots t)
      twin : Twin room.segments t.scopes.slots slots

    stays : {A : Type 0} {m : Answer (A × State)} {r : A × State} → r.1.scopes.slots ≡ s.scopes.slots → m ≡ given (r.0, reslot x r.1) → Alike m r
    stays e g = record { slots = x; goes = g; twin = subst (λ (y : Slots). Twin room.segments y x) (sym e) w }

    remove-twin : (a : ℕ) (y z : Slots) → Twin room.segments y z → Twin room.segments (remove a y) (remove a z)
    remove-twin a y z v =
        record {
          same = remove-occupied room.segments a z v.its ∙ ap (λ (f : ℕ → Bool). put f a false) v.same ∙ sym (remove-occupied room.segments a y v.mine);
          mine = fair.removed a y v.mine;
          its = fair.removed a z v.its;
        }

    removes-twin : (l : List ℕ) (y z : Slots) → Twin room.segments y z → Twin room.segments (remove_all l y) (remove_all l z)
    unfolding remove_all
    removes-twin [] y z v = v
    removes-twin (a ∷ l) y z v = removes-twin l (remove a y) (remove a z) (remove-twin a y z v)

    closing : (k : Found) (m : Step) (l : List Line) → m ≡ given (l, close k (reslot x s)) → Alike m (l, close k s)
    unfolding close closed
    closing k m l e = record { slots = remove_all k.scope.owned x; goes = e; twin = removes-twin k.scope.owned s.scopes.slots x w }

    -- the slots that the placement gave, named by their first address
    record There (r : ℕ × Scopes) (k : Found) (n : ℕ) : Type 0 where
      slots : Slots
      goes : allocate (exactly room.segments r.0) k n (s.scopes ▹ slots≔ x) ≡ given (r.0, r.1 ▹ slots≔ slots)
      twin : Twin room.segments r.1.slots slots

    allocate-twin : (k : Found) (n : ℕ) → All (λ r. There r k n) (allocate place k n s.scopes)
    unfolding allocate set_scope
    allocate-twin k n =
        all-unless 7 λ p e.
        let g = fair.placed n s.scopes.slots p e w.mine in
        let q : Placed = record { address = p.address; next = take_run p.address n x } in
        let there : exactly room.segments p.address n x ≡ some q
        = exactly-there room.segments p.address n x g.2 (λ i l. ap (λ (f : ℕ → Bool). f (p.address + i)) w.same ∙ g.1.clear i l) in
        let h = (at-fair p.address).placed n x q there w.its in
        all-given
        (record {
          slots = take_run p.address n x;
          goes = unless-some 7 _ there;
          twin = record { same = gives_one room.segments n x s.scopes.slots q p h.1 g.1 refl w.same; mine = g.0; its = h.0 };
        })

    allot-twin : (k : Found) (kind : Kind) (n : ℕ) → All (λ r. Alike (allot room (placing room.segments (exactly_at r.0)) k kind n (reslot x s)) r) (allot room place k kind n s)
    unfolding allot placing
    allot-twin k kind n =
        all-when 16 _ λ h. all_then λ r e.
        let v = (allocate-twin k n).at r e in
        all-given (record { slots = v.slots; goes = when_false 16 _ h ∙ then-given _ v.goes; twin = v.twin })

    -- the handle's slot goes back, or the handle alone changes
    free-as-twin : (k : Kind) (dangles : Bool) (h : ℕ) → All (AlikeState (free_as k dangles h (reslot x s))) (free_as k dangles h s)
    unfolding free_as hand_back set_handle
    free-as-twin k dangles h =
        all-if
        (λ b. all-when 14 _ λ q. all_then λ c e.
        all-given
        (record {
          slots = remove (s.handles h).address x;
          goes =
              if-true _ _ (goes-twin room s.scopes x k ∙ b)
              ∙ when_false 14 _ q
              ∙ then-given _ ((back-twin room s.scopes x dangles (s.handles h).address).at c e);
          twin =
              subst (λ (y : Slots). Twin room.segments y (remove (s.handles h).address x)) (sym ((back-leaves s.scopes dangles (s.handles h).address).at c e).slots-are)
              (remove-twin (s.handles h).address s.scopes.slots x w);
        }))
        (λ b. all-given (record { slots = x; goes = if-false _ _ (goes-twin room s.scopes x k ∙ b); twin = w }))

    free-twin : (dangles : Bool) (h : ℕ) → All (AlikeState (free_handle dangles h (reslot x s))) (free_handle dangles h s)
    unfolding free_handle barred spent unknown belongs
    free-twin dangles h =
        all-when 13 _ λ p. all-as (λ t v. record { slots = v.slots; goes = when_false 13 _ p ∙ v.goes; twin = v.twin }) (free-as-twin (s.handles h).kind dangles h)

    -- needs: the table of them doesn't look at slots
    record Added (d : Remembered) (t : State) : Type 0 where
      goes : add_need room d (reslot x s) ≡ given (reslot x t)
      slots-are : t.scopes.slots ≡ s.scopes.slots

    add-twin : (d : Remembered) → All (Added d) (add_need room d s)
    unfolding add_need set_need
    add-twin d = all-when 22 _ λ p. all-given (record { goes = when_false 22 _ p; slots-are = refl })

    need-twin : (n : ℕ) (d : Need) → All (λ r. Alike (allot_need room (placing room.segments (exactly_at (slot_shown r.0))) n (reslot x s) d) r) (allot_need room place n s d)
    unfolding allot_need set_need by_id
    need-twin n (defer id) =
        all-unless 4 λ k q. all_then λ r e.
        let v = (allot-twin k (scope id) 1).at r e in
        all-given (record { slots = v.slots; goes = unless-some 4 _ q ∙ then-given _ v.goes; twin = v.twin })
    need-twin n (at a) = all-given (stays refl refl)
    need-twin n ignore = all-given (stays refl refl)
    need-twin n freed_need = all-given (stays refl refl)

    own-twin : (h : ℕ) (d : Need) → All (AlikeState (free_own h (reslot x s) d)) (free_own h s d)
    unfolding free_own
    own-twin h (defer id) = all-given (record { slots = x; goes = refl; twin = w })
    own-twin h (at a) =
        all-if
        (λ b. all-as (λ t v. record { slots = v.slots; goes = if-true _ _ b ∙ v.goes; twin = v.twin }) (free-as-twin a.kind true h))
        (λ b. all-given (record { slots = x; goes = if-false _ _ b; twin = w }))
    own-twin h ignore = all-given (record { slots = x; goes = refl; twin = w })
    own-twin h freed_need = all-given (record { slots = x; goes = refl; twin = w })

    -- a step, placed where its line shows it
    abbrev pub Follows : Frame → List Line × State → Type 0
    Follows f r = (rest : List Line) → Alike (step room (as_shown room (r.0 ++ rest)) (reslot x s) f) r

    pub follows : (f : Frame) → All (Follows f) (step room place s f)
    unfolding step as_shown top_scope by_number set_handle set_need lost barred spent unknown belongs drain_dangling
    follows child = all_then λ r e. all-given (λ rest. stays ((child-leaves room s.scopes).at r e).1.slots-are (then-given _ ((child-twin room s.scopes x).at r e)))
    follows (pop n) = all_then λ k e. all-given (λ rest. closing k _ _ (then-given _ ((pop-twin room s.scopes x n).at k e)))
    follows (dangle n) = all_then λ c e. all-given (λ rest. stays ((dangle-leaves s.scopes _).at c e).slots-are (then-given _ ((dangle-twin room s.scopes x n).at c e)))
    follows (restore n) = all_then λ c e. all-given (λ rest. stays ((restore-leaves s.scopes _).at c e).slots-are (then-given _ ((restore-twin room s.scopes x n).at c e)))
    follows pop_last = all_then λ k e. all-given (λ rest. closing k _ _ (then-given _ ((last-twin room s.scopes x).at k e)))
    follows alloc =
        all-unless 3 λ t q. all_then λ r e.
        let v = (allot-twin t local 1).at r e in
        all-given (λ rest. record { slots = v.slots; goes = unless-some 3 _ q ∙ then-given _ v.goes; twin = v.twin })
    follows (alloc_in n) =
        all-unless 4 λ k q. all_then λ r e.
        let v = (allot-twin k _ 1).at r e in
        all-given (λ rest. record { slots = v.slots; goes = unless-some 4 _ q ∙ then-given _ v.goes; twin = v.twin })
    follows (linear zero) = all-unless 3 λ _ q. all-given (λ rest. stays refl (unless-some 3 _ q))
    follows (linear (suc n)) =
        all-unless 3 λ t q. all_then λ r e.
        let v = (allot-twin t _ (suc n)).at r e in
        all-given (λ rest. record { slots = v.slots; goes = unless-some 3 _ q ∙ then-given _ v.goes; twin = v.twin })
    follows (define name h) =
        all-unless 3 λ t q. all-when 13 _ λ p. all_then λ c e.
        all-given (λ rest. stays ((bind-leaves room s.scopes t name _ h).at c e).slots-are (unless-some 3 _ q ∙ when_false 13 _ p ∙ then-given _ ((bind-twin room s.scopes x t name _ h).at c e)))
    follows (get name) = all_then λ b e. all-given (λ rest. stays refl (then-given _ ((get-twin room s.scopes x name).at b e)))
    follows (take_from name) = all_then λ r e. all-given (λ rest. stays ((take-leaves room s.scopes name).at r e).1.slots-are (then-given _ ((take-twin room s.scopes x name).at r e)))
    follows (free h) = all_then λ t e. let v = (free-twin true h).at t e in all-given (λ rest. record { slots = v.slots; goes = then-given _ v.goes; twin = v.twin })
    follows (free_quietly h) = all_then λ t e. let v = (free-twin false h).at t e in all-given (λ rest. record { slots = v.slots; goes = then-given _ v.goes; twin = v.twin })
    follows (forget h) = all-when 13 _ λ p. all-given (λ rest. stays refl (when_false 13 _ p))
    follows drain = all-given (λ rest. stays refl refl)
    follows (write h v) = all-when 13 _ λ p. all-when 14 _ λ q. all-given (λ rest. stays refl (when_false 13 _ p ∙ when_false 14 _ q))
    follows (read h) = all-when 13 _ λ p. all-when 14 _ λ q. all-when 15 _ λ z. all-given (λ rest. stays refl (when_false 13 _ p ∙ when_false 14 _ q ∙ when_false 15 _ z))
    follows (read_name name) =
        all_then λ b e. all-when 14 _ λ q. all-when 15 _ λ z.
        all-given (λ rest. stays refl (then-given _ ((get-twin room s.scopes x name).at b e) ∙ when_false 14 _ q ∙ when_false 15 _ z))
    follows (new_defer n) =
        all-unless 4 λ k q. all_then λ t e.
        let v = (add-twin _).at t e in
        all-given (λ rest. stays v.slots-are (unless-some 4 _ q ∙ then-given _ v.goes))
    follows (new_assigned h) =
        all-when 13 _ λ p. all_then λ t e.
        let v = (add-twin _).at t e in
        all-given (λ rest. stays v.slots-are (when_false 13 _ p ∙ then-given _ v.goes))
    follows new_ignore = all_then λ t e. let v = (add-twin _).at t e in all-given (λ rest. stays v.slots-are (then-given _ v.goes))
    follows (alloc_need n) =
        all-when 21 _ λ p. all_then λ r e.
        let v = (need-twin n (s.needs n).need).at r e in
        all-given (λ rest. record { slots = v.slots; goes = when_false 21 _ p ∙ then-given _ v.goes; twin = v.twin })
    follows (output_need n) = all-when 21 _ λ p. all_then λ o e. all-given (λ rest. stays refl (when_false 21 _ p ∙ then-given _ e))
    follows (drop_need n) =
        all-when 21 _ λ p. all_then λ t e.
        let v = (own-twin (s.needs n).handle (s.needs n).need).at t e in
        all-given (λ rest. record { slots = v.slots; goes = when_false 21 _ p ∙ then-given _ v.goes; twin = v.twin })
