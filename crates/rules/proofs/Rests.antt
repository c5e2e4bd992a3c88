-- What two runs of a script, placed otherwise, have alike besides names: the handles' kinds, what is held and written, which scope owns what
-- is held, and the needs but for their slots. Calls that both give keep it so. Assumes nothing.
use mathlib.Core.Path.{◌≡◌, refl, sym, ap, subst, ◌∙◌}
use mathlib.Core.Bool.{Bool, true, false, not}
use mathlib.Core.Option.{Option, none, some}
use mathlib.Core.List.{List, []}
use Prim.Native.Nat.{ℕ, ◌+◌, ◌-◌, ◌<◌}
use Rattle.rules.specs.Notation.{is_some, ◌▹◌, put}
use Rattle.rules.specs.Sizes.{Room}
use Rattle.rules.specs.AddressSets.{member}
use Rattle.rules.specs.Scopes.{Id, Scope, Scopes, dangled≔, new_scope, Found, by_number, set_scope, open_child, closed, dangle_scope, restore_scope, bind_in, take_name}
use Rattle.rules.specs.Needs.{Address, Need, defer, at, ignore, freed_need}
use Rattle.rules.specs.Frames.{Handle, Remembered, State, scopes≔, needs≔, needed≔, set_handle, set_need, let_go, close}
use Rattle.rules.specs.Sound.{owned_by}
use Rattle.rules.proofs.Chains.{All, all-given, all_then, all-when, all-unless}
use Rattle.rules.proofs.Tables.{by_eqb, put_same, put_other, put-alike, let_go-held}
use Rattle.rules.proofs.Tells.{decided, clash}
use Rattle.rules.proofs.Searches.{first_found}
use Rattle.rules.proofs.Sound.{lists_of}
use Rattle.rules.proofs.Naming.{Here, number-here}
use Rattle.rules.proofs.Owners.{owned_at, lists-put}
use Rattle.rules.proofs.Handles.{let_go-address}

-- ---- what is alike

-- two needs, alike but for their slots
pub data NeedAlike : Need → Need → Type 0 where
  defers : (i j : Id) → i ≡ j → NeedAlike (defer i) (defer j)
  addresses : (a b : Address) → a.kind ≡ b.kind → NeedAlike (at a) (at b)
  ignores : NeedAlike ignore ignore
  gone : NeedAlike freed_need freed_need

pub record RememberedAlike (x y : Remembered) : Type 0 where
  pub need : NeedAlike x.need y.need
  pub handle : x.handle ≡ y.handle

-- the slot of h is on the list of the scope at index i
abbrev on_list : State → ℕ → ℕ → Bool
on_list s h i = member (s.handles h).address (lists_of s.scopes.live i)

-- of n scopes
pub record Rest (n : ℕ) (s t : State) : Type 0 where
  pub handed : s.handed ≡ t.handed
  pub kind : (h : ℕ) → h < s.handed → (s.handles h).kind ≡ (t.handles h).kind
  pub held : (h : ℕ) → h < s.handed → (s.handles h).held ≡ (t.handles h).held
  pub written : (h : ℕ) → h < s.handed → (s.handles h).written ≡ (t.handles h).written
  pub owned : (h i : ℕ) → h < s.handed → i < n → (s.handles h).held ≡ true → on_list s h i ≡ on_list t h i
  pub needed : s.needed ≡ t.needed
  pub needs : (j : ℕ) → RememberedAlike (s.needs j) (t.needs j)

pub need-same : (d : Need) → NeedAlike d d
need-same (defer id) = defers id id refl
need-same (at a) = addresses a a refl
need-same ignore = ignores
need-same freed_need = gone

pub rest-same : (n : ℕ) (s : State) → Rest n s s
rest-same n s =
    record {
      handed = refl;
      kind = λ h l. refl;
      held = λ h l. refl;
      written = λ h l. refl;
      owned = λ h i l b p. refl;
      needed = refl;
      needs = λ j. record { need = need-same (s.needs j).need; handle = refl };
    }

-- ---- needs change in both

with-needs : {n : ℕ} {s t : State} → Rest n s t → (f g : ℕ → Remembered) (k l : ℕ) → k ≡ l → ((j : ℕ) → RememberedAlike (f j) (g j)) → Rest n (s ▹ needs≔ f ▹ needed≔ k) (t ▹ needs≔ g ▹ needed≔ l)
with-needs r f g k l many alike =
    record { handed = r.handed; kind = r.kind; held = r.held; written = r.written; owned = r.owned; needed = many; needs = alike }

put-needs : {n : ℕ} {s t : State} → Rest n s t → (i : ℕ) (x y : Remembered) → RememberedAlike x y → (j : ℕ) → RememberedAlike (put s.needs i x j) (put t.needs i y j)
put-needs {s = s} {t = t} r i x y e j =
    by_eqb i j
    (λ q. subst (λ (k : ℕ). RememberedAlike (put s.needs i x k) (put t.needs i y k)) q (rw (put_same s.needs i x, put_same t.needs i y) e))
    (λ ne. rw (put_other s.needs i x j ne, put_other t.needs i y j ne) (r.needs j))

pub with-need : {n : ℕ} {s t : State} → Rest n s t → (i : ℕ) (x y : Remembered) → RememberedAlike x y → Rest n (s ▹ set_need i x) (t ▹ set_need i y)
unfolding set_need
with-need {s = s} {t = t} r i x y e = with-needs r (put s.needs i x) (put t.needs i y) s.needed t.needed r.needed (put-needs r i x y e)

pub one-more-need : {n : ℕ} {s t : State} → Rest n s t → (x y : Remembered) → RememberedAlike x y
    → Rest n (s ▹ set_need s.needed x ▹ needed≔ (s.needed + 1)) (t ▹ set_need t.needed y ▹ needed≔ (t.needed + 1))
unfolding set_need
one-more-need {s = s} {t = t} r x y e =
    with-needs r (put s.needs s.needed x) (put t.needs t.needed y) (s.needed + 1) (t.needed + 1) (ap (λ (k : ℕ). k + 1) r.needed)
    (subst (λ (k : ℕ). (j : ℕ) → RememberedAlike (put s.needs s.needed x j) (put t.needs k y j)) r.needed (put-needs r s.needed x y e))

-- ---- a handle changes in both

pub put_both : {A : Type 0} (f g : ℕ → Handle) (h : ℕ) (x y : Handle) (P : Handle → A) → P x ≡ P y → (j : ℕ) → P (f j) ≡ P (g j) → P (put f h x j) ≡ P (put g h y j)
put_both f g h x y P q j o =
    by_eqb h j
    (λ z. subst (λ (i : ℕ). P (put f h x i) ≡ P (put g h y i)) z (ap P (put_same f h x) ∙ q ∙ sym (ap P (put_same g h y))))
    (λ ne. ap P (put_other f h x j ne) ∙ o ∙ sym (ap P (put_other g h y j ne)))

-- not its address; it is held after it only if it was
pub with-handle : {n : ℕ} {s t : State} → Rest n s t → (h : ℕ) (x y : Handle) → x.address ≡ (s.handles h).address → y.address ≡ (t.handles h).address → x.kind ≡ y.kind → x.held ≡ y.held
    → x.written ≡ y.written → (x.held ≡ true → (s.handles h).held ≡ true) → Rest n (s ▹ set_handle h x) (t ▹ set_handle h y)
unfolding set_handle
with-handle {s = s} {t = t} r h x y a b k e w was =
    let address : (j : ℕ) → (put s.handles h x j).address ≡ (s.handles j).address = put-alike s.handles h x (λ z. z.address) a in
    let address' : (j : ℕ) → (put t.handles h y j).address ≡ (t.handles j).address = put-alike t.handles h y (λ z. z.address) b in
    let before : (j : ℕ) → (put s.handles h x j).held ≡ true → (s.handles j).held ≡ true
    = λ j p. by_eqb h j
    (λ z. subst (λ (i : ℕ). (s.handles i).held ≡ true) z (was (ap (λ (v : Handle). v.held) (sym (put_same s.handles h x)) ∙ subst (λ (i : ℕ). (put s.handles h x i).held ≡ true) (sym z) p)))
    (λ ne. ap (λ (v : Handle). v.held) (sym (put_other s.handles h x j ne)) ∙ p) in
    record {
      handed = r.handed;
      kind = λ j l. put_both s.handles t.handles h x y (λ z. z.kind) k j (r.kind j l);
      held = λ j l. put_both s.handles t.handles h x y (λ z. z.held) e j (r.held j l);
      written = λ j l. put_both s.handles t.handles h x y (λ z. z.written) w j (r.written j l);
      owned = λ j i l m p.
          ap (λ (v : ℕ). member v (lists_of s.scopes.live i)) (address j)
          ∙ r.owned j i l m (before j p)
          ∙ sym (ap (λ (v : ℕ). member v (lists_of t.scopes.live i)) (address' j));
      needed = r.needed;
      needs = r.needs;
    }

-- ---- lists that stay

abbrev pub SameLists : Scopes → Scopes → Type 0
SameLists c d = (i : ℕ) → lists_of d.live i ≡ lists_of c.live i

pub with-lists : {n : ℕ} {s t : State} → Rest n s t → (c d : Scopes) → SameLists s.scopes c → SameLists t.scopes d → Rest n (s ▹ scopes≔ c) (t ▹ scopes≔ d)
with-lists {s = s} {t = t} r c d x y =
    record {
      handed = r.handed;
      kind = r.kind;
      held = r.held;
      written = r.written;
      owned = λ h i l j p. ap (member (s.handles h).address) (x i) ∙ r.owned h i l j p ∙ sym (ap (member (t.handles h).address) (y i));
      needed = r.needed;
      needs = r.needs;
    }

no-list : (o : Option Scope) → not (is_some o) ≡ true → owned_by o ≡ []
no-list none e = refl
no-list (some k) e = clash e refl

module _ (room : Room) (c : Scopes) where
  -- a scope whose mark alone changes
  marked-lists : (k : Found) (mark : Bool) → c.live k.index ≡ some k.scope → (i : ℕ) → lists_of (put c.live k.index (some (k.scope ▹ dangled≔ mark))) i ≡ lists_of c.live i
  marked-lists k mark e i = lists-put c.live k.index (some (k.scope ▹ dangled≔ mark)) i ∙ put-alike (lists_of c.live) k.index k.scope.owned (λ l. l) (sym (owned_at c.live k e)) i

  pub open-lists : All (λ r. SameLists c r.1) (open_child room c)
  unfolding open_child
  open-lists =
      all-unless 3 λ _ _. all-unless 8 λ j q.
      all-given (λ i.
      lists-put c.live j (some (new_scope c.counter c.top)) i
      ∙ put-alike (lists_of c.live) j [] (λ l. l) (sym (no-list (c.live j) (first_found (λ k. not (is_some (c.live k))) 1 (room.scopes - 1) j q).passes)) i)

  pub dangle-lists : (n : ℕ) → All (SameLists c) (dangle_scope (by_number room c n) c)
  unfolding dangle_scope set_scope
  dangle-lists n = all-unless 4 λ k e. all-when 5 _ λ _. all-given (marked-lists k true (number-here room c n k e).is)

  pub restore-lists : (n : ℕ) → All (SameLists c) (restore_scope (by_number room c n) c)
  unfolding restore_scope set_scope
  restore-lists n = all-unless 4 λ k e. all-when 5 _ λ _. all-given (marked-lists k false (number-here room c n k e).is)

  pub bind-lists : (t : Found) (name a h : ℕ) → All (SameLists c) (bind_in room t name a h c)
  unfolding bind_in
  bind-lists t name a h = all-when 9 _ λ _. all-given (λ i. refl)

  pub take-lists : (name : ℕ) → All (λ r. SameLists c r.1) (take_name room name c)
  unfolding take_name
  take-lists name = all_then λ b _. all-given (λ i. refl)

-- ---- a scope is closed

module _ (l : List ℕ) (f : ℕ → Handle) (h : ℕ) where
  go-kind : (let_go l f h).kind ≡ (f h).kind
  unfolding let_go
  go-kind = decided (member (f h).address l) (λ e. rw (e, let_go)) (λ e. rw (e, let_go))

  go-written : (let_go l f h).written ≡ (f h).written
  unfolding let_go
  go-written = decided (member (f h).address l) (λ e. rw (e, let_go)) (λ e. rw (e, let_go))

  go-gone : member (f h).address l ≡ true → (let_go l f h).held ≡ false
  unfolding let_go
  go-gone e = rw (e, let_go)

  go-stays : member (f h).address l ≡ false → (let_go l f h).held ≡ (f h).held
  unfolding let_go
  go-stays e = rw (e, let_go)

  go-free : (f h).held ≡ false → (let_go l f h).held ≡ false
  go-free p = decided (member (f h).address l) go-gone (λ e. go-stays e ∙ p)

closed-lists : (c : Scopes) (k : Found) (i : ℕ) → lists_of (closed k c).live i ≡ put (lists_of c.live) k.index [] i
unfolding closed
closed-lists c k i = lists-put c.live k.index none i

pub closing : {n : ℕ} {s t : State} → Rest n s t → (k l : Found) → Here n s.scopes.live k → Here n t.scopes.live l → k.index ≡ l.index → Rest n (close k s) (close l t)
unfolding close closed member
closing {n = n} {s = s} {t = t} r k l here there same =
    let mine : k.scope.owned ≡ lists_of s.scopes.live k.index = sym (owned_at s.scopes.live k here.is) in
    let its : l.scope.owned ≡ lists_of t.scopes.live k.index = sym (owned_at t.scopes.live l there.is) ∙ ap (lists_of t.scopes.live) (sym same) in
    let leaves : (h : ℕ) → h < s.handed → (s.handles h).held ≡ true → member (s.handles h).address k.scope.owned ≡ member (t.handles h).address l.scope.owned
    = λ h x p. ap (member (s.handles h).address) mine ∙ r.owned h k.index x here.below p ∙ ap (member (t.handles h).address) (sym its) in
    record {
      handed = r.handed;
      kind = λ h x. go-kind k.scope.owned s.handles h ∙ r.kind h x ∙ sym (go-kind l.scope.owned t.handles h);
      held = λ h x.
          decided (s.handles h).held
          (λ p. decided (member (s.handles h).address k.scope.owned)
          (λ e. go-gone k.scope.owned s.handles h e ∙ sym (go-gone l.scope.owned t.handles h (sym (leaves h x p) ∙ e)))
          (λ e. go-stays k.scope.owned s.handles h e ∙ r.held h x ∙ sym (go-stays l.scope.owned t.handles h (sym (leaves h x p) ∙ e))))
          (λ p. go-free k.scope.owned s.handles h p ∙ sym (go-free l.scope.owned t.handles h (sym (r.held h x) ∙ p)));
      written = λ h x. go-written k.scope.owned s.handles h ∙ r.written h x ∙ sym (go-written l.scope.owned t.handles h);
      owned = λ h i x j p.
          let was : (s.handles h).held ≡ true = ap (λ (v : Handle). v.held) (sym (let_go-held k.scope.owned s.handles h p).1) ∙ p in
          ap (λ (v : ℕ). member v (lists_of (closed k s.scopes).live i)) (let_go-address k.scope.owned s.handles h)
          ∙ ap (member (s.handles h).address) (closed-lists s.scopes k i)
          ∙ by_eqb k.index i
          (λ e. subst (λ (v : ℕ). member (s.handles h).address (put (lists_of s.scopes.live) k.index [] v) ≡ member (t.handles h).address (put (lists_of t.scopes.live) l.index [] v)) e
          (ap (member (s.handles h).address) (put_same (lists_of s.scopes.live) k.index [])
          ∙ sym (ap (member (t.handles h).address) (ap (put (lists_of t.scopes.live) l.index []) same ∙ put_same (lists_of t.scopes.live) l.index []))))
          (λ ne.
          ap (member (s.handles h).address) (put_other (lists_of s.scopes.live) k.index [] i ne)
          ∙ r.owned h i x j was
          ∙ sym (ap (member (t.handles h).address) (put_other (lists_of t.scopes.live) l.index [] i (λ e. ne (same ∙ e)))))
          ∙ sym (ap (member (t.handles h).address) (closed-lists t.scopes l i))
          ∙ sym (ap (λ (v : ℕ). member v (lists_of (closed l t.scopes).live i)) (let_go-address l.scope.owned t.handles h));
      needed = r.needed;
      needs = r.needs;
    }
