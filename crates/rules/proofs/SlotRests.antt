-- Two runs of a script, placed otherwise, stay alike (Rests) where both are given slots for the same owner, and where the slot of a handle
-- goes back in both. Assumes nothing.
use mathlib.Core.Path.{◌≡◌, refl, sym, ap, subst, ◌∙◌}
use mathlib.Core.Bool.{Bool, true, false}
use mathlib.Core.Option.{Option, some}
use mathlib.Core.List.{List}
use Prim.Native.Nat.{ℕ, ◌+◌, ◌-◌, ◌≤◌, ◌<◌}
use native.Mathlib.Omega.{arith}
use lib.Dec.{eqb, leb, ltb}
use borrow.Author.Tests.{leb-true, leb-false, eq-eqb, ne_eqb, lt-ltb, not-false}
use Rattle.rules.specs.Notation.{◌▹◌, put}
use Rattle.rules.specs.Sizes.{Room}
use Rattle.rules.specs.Slots.{Placed, Placement}
use Rattle.rules.specs.AddressSets.{member, without, added_all, run}
use Rattle.rules.specs.Scopes.{Scope, Scopes, owned≔, Found, top_scope, set_scope, allocate}
use Rattle.rules.specs.Needs.{Kind, freed, give_back}
use Rattle.rules.specs.Frames.{Handle, kind≔, held≔, State, scopes≔, handles≔, handed≔, set_handle, grant}
use Rattle.rules.specs.Demand3.{Gives, Fair}
use Rattle.rules.proofs.Chains.{All, all-given, all-when, all-unless}
use Rattle.rules.proofs.Tables.{by_eqb, put_same, put_other, put-alike}
use Rattle.rules.proofs.Tells.{decided, clash, is_false}
use Rattle.rules.proofs.Sets.{without-member}
use Rattle.rules.proofs.Members.{added_all-old, added_all-new, added_all-cases, without-keeps, run-member, run-within}
use Rattle.rules.proofs.Sound.{SlotsSound, lists_of, StateSound}
use Rattle.rules.proofs.Naming.{Here, top-at}
use Rattle.rules.proofs.Owners.{owned_at, lists-put}
use Rattle.rules.proofs.Rests.{Rest, put_both}

-- ---- slots are given

module _ (room : Room) (place : Placement) (fair : Fair room place (SlotsSound room.segments)) (s : State) (ok : StateSound room s) (k : Found) (here : Here room.scopes s.scopes.live k) (n : ℕ) where
  pub record SlotsGiven (r : ℕ × Scopes) : Type 0 where
    pub placed : Placed
    pub from : place n s.scopes.slots ≡ some placed
    pub at-is : r.0 ≡ placed.address
    pub live-is : r.1.live ≡ put s.scopes.live k.index (some (k.scope ▹ owned≔ (added_all (run placed.address n) k.scope.owned)))

  pub slots-given : All SlotsGiven (allocate place k n s.scopes)
  unfolding allocate set_scope
  slots-given = all-unless 7 λ p e. all-given (record { placed = p; from = e; at-is = refl; live-is = refl })

  module _ (r : ℕ × Scopes) (w : SlotsGiven r) where
    abbrev new : List ℕ
    new = run w.placed.address n

    gives : Gives n s.scopes.slots w.placed
    gives = (fair.placed n s.scopes.slots w.placed w.from ok.scopes.slots).1

    given-lists : (i : ℕ) → lists_of r.1.live i ≡ put (lists_of s.scopes.live) k.index (added_all new k.scope.owned) i
    given-lists i = ap (λ (f : ℕ → Option Scope). lists_of f i) w.live-is ∙ lists-put s.scopes.live k.index (some (k.scope ▹ owned≔ (added_all new k.scope.owned))) i

    -- an address that was taken is on the lists that it was on
    old-lists : (a i : ℕ) → s.scopes.slots.occupied a ≡ true → member a (lists_of r.1.live i) ≡ member a (lists_of s.scopes.live i)
    old-lists a i taken =
        let away : member a new ≡ false
        = is_false (member a new) (λ q. let z = run-within n w.placed.address a q in let e : w.placed.address + (a - w.placed.address) ≡ a = omega arith in
        clash taken (subst (λ (b : ℕ). s.scopes.slots.occupied b ≡ false) e (gives.clear (a - w.placed.address) (omega arith)))) in
        let added : member a (added_all new k.scope.owned) ≡ member a k.scope.owned
        = decided (member a k.scope.owned)
        (λ p. added_all-old new k.scope.owned a p ∙ sym p)
        (λ p. is_false _ (λ q. added_all-cases new k.scope.owned a q (λ z. clash z away) (λ z. clash z p)) ∙ sym p) in
        ap (member a) (given-lists i)
        ∙ put-alike (lists_of s.scopes.live) k.index (added_all new k.scope.owned) (member a) (added ∙ ap (member a) (sym (owned_at s.scopes.live k here.is))) i

    -- a new one is on the owner's
    new-lists : (j i : ℕ) → j < n → i < room.scopes → member (w.placed.address + j) (lists_of r.1.live i) ≡ eqb k.index i
    new-lists j i l b =
        ap (member (w.placed.address + j)) (given-lists i)
        ∙ by_eqb k.index i
        (λ e. ap (member (w.placed.address + j)) (subst (λ (v : ℕ). put (lists_of s.scopes.live) k.index (added_all new k.scope.owned) v ≡ added_all new k.scope.owned) e (put_same (lists_of s.scopes.live) k.index (added_all new k.scope.owned)))
        ∙ added_all-new new k.scope.owned (w.placed.address + j) (run-member n w.placed.address (w.placed.address + j) (omega arith) (omega arith))
        ∙ sym (eq-eqb k.index i e))
        (λ ne. ap (member (w.placed.address + j)) (put_other (lists_of s.scopes.live) k.index (added_all new k.scope.owned) i ne)
        ∙ is_false _ (λ q. clash (ok.scopes.owned.taken i (w.placed.address + j) b q) (gives.clear j l))
        ∙ sym (ne_eqb k.index i ne))

abbrev pub after_grant : State → ℕ → Kind → ℕ × Scopes → State
after_grant s n kind r = s ▹ scopes≔ r.1 ▹ handles≔ (grant s.handed n r.0 kind s.handles) ▹ handed≔ (s.handed + n)

module _ (room : Room) (p q : Placement) (fp : Fair room p (SlotsSound room.segments)) (fq : Fair room q (SlotsSound room.segments))
    (s t : State) (os : StateSound room s) (ot : StateSound room t) (r : Rest room.scopes s t)
    (k l : Found) (hk : Here room.scopes s.scopes.live k) (hl : Here room.scopes t.scopes.live l) (same : k.index ≡ l.index)
    (kind : Kind) (n : ℕ) where
  -- a handle is one of those that were, or new in both
  data Which (x y : ℕ × Scopes) (h : ℕ) : Type 0 where
    old : h < s.handed → grant s.handed n x.0 kind s.handles h ≡ s.handles h → grant t.handed n y.0 kind t.handles h ≡ t.handles h → Which x y h
    fresh : (j : ℕ) → j < n
        → grant s.handed n x.0 kind s.handles h ≡ record { address = x.0 + j; kind = kind; held = true; written = false }
        → grant t.handed n y.0 kind t.handles h ≡ record { address = y.0 + j; kind = kind; held = true; written = false }
        → Which x y h

  which : (x y : ℕ × Scopes) (h : ℕ) → h < s.handed + n → Which x y h
  unfolding grant
  which x y h m = go (leb s.handed h) refl
    where
      go : (b : Bool) → leb s.handed h ≡ b → Which x y h
      go false e =
          let lt : h < s.handed = leb-false s.handed h e in
          let e' : leb t.handed h ≡ false = ap (λ (v : ℕ). leb v h) (sym r.handed) ∙ e in
          old lt (rw (e, grant)) (rw (e', grant))
      go true e =
          let le : s.handed ≤ h = leb-true s.handed h e in
          let e' : leb t.handed h ≡ true = ap (λ (v : ℕ). leb v h) (sym r.handed) ∙ e in
          let u : ltb h (s.handed + n) ≡ true = lt-ltb h (s.handed + n) m in
          let u' : ltb h (t.handed + n) ≡ true = ap (λ (v : ℕ). ltb h (v + n)) (sym r.handed) ∙ u in
          let z : h - t.handed ≡ h - s.handed = ap (λ (v : ℕ). h - v) (sym r.handed) in
          fresh (h - s.handed) (omega arith) (rw (e, u, grant)) (rw (e', u', grant) (ap (λ (v : ℕ). record { address = y.0 + v; kind = kind; held = true; written = false }) z))

  pub granting : (x y : ℕ × Scopes) → SlotsGiven room p fp s os k hk n x → SlotsGiven room q fq t ot l hl n y → Rest room.scopes (after_grant s n kind x) (after_grant t n kind y)
  granting x y v w =
      record {
        handed = ap (λ (m : ℕ). m + n) r.handed;
        kind = λ h m. alike (λ z. z.kind) (λ a b. refl) h (which x y h m) (r.kind h);
        held = λ h m. alike (λ z. z.held) (λ a b. refl) h (which x y h m) (r.held h);
        written = λ h m. alike (λ z. z.written) (λ a b. refl) h (which x y h m) (r.written h);
        owned = λ h i m b d. own h i b (which x y h m) d;
        needed = r.needed;
        needs = r.needs;
      }
    where
      alike : {A : Type 0} (P : Handle → A)
          → ((a b : ℕ) → P (record { address = a; kind = kind; held = true; written = false }) ≡ P (record { address = b; kind = kind; held = true; written = false }))
          → (h : ℕ) → Which x y h → (h < s.handed → P (s.handles h) ≡ P (t.handles h))
          → P (grant s.handed n x.0 kind s.handles h) ≡ P (grant t.handed n y.0 kind t.handles h)
      alike P new h (old lt e e') was = ap P e ∙ was lt ∙ sym (ap P e')
      alike P new h (fresh j b e e') was = ap P e ∙ new (x.0 + j) (y.0 + j) ∙ sym (ap P e')

      own : (h i : ℕ) → i < room.scopes → Which x y h → (grant s.handed n x.0 kind s.handles h).held ≡ true
          → member (grant s.handed n x.0 kind s.handles h).address (lists_of x.1.live i) ≡ member (grant t.handed n y.0 kind t.handles h).address (lists_of y.1.live i)
      own h i b (old lt e e') d =
          let was : (s.handles h).held ≡ true = ap (λ (z : Handle). z.held) (sym e) ∙ d in
          let was' : (t.handles h).held ≡ true = sym (r.held h lt) ∙ was in
          let lt' : h < t.handed = subst (λ (v : ℕ). h < v) r.handed lt in
          ap (λ (z : Handle). member z.address (lists_of x.1.live i)) e
          ∙ old-lists room p fp s os k hk n x v (s.handles h).address i (os.handles.taken h lt was)
          ∙ r.owned h i lt b was
          ∙ sym (old-lists room q fq t ot l hl n y w (t.handles h).address i (ot.handles.taken h lt' was'))
          ∙ sym (ap (λ (z : Handle). member z.address (lists_of y.1.live i)) e')
      own h i b (fresh j c e e') d =
          ap (λ (z : Handle). member z.address (lists_of x.1.live i)) e
          ∙ ap (λ (a : ℕ). member (a + j) (lists_of x.1.live i)) v.at-is
          ∙ new-lists room p fp s os k hk n x v j i c b
          ∙ ap (λ (a : ℕ). eqb a i) same
          ∙ sym (new-lists room q fq t ot l hl n y w j i c b)
          ∙ sym (ap (λ (a : ℕ). member (a + j) (lists_of y.1.live i)) w.at-is)
          ∙ sym (ap (λ (z : Handle). member z.address (lists_of y.1.live i)) e')

-- ---- a slot goes back

pub record Back (c : Scopes) (a : ℕ) (d : Scopes) : Type 0 where
  pub top : Found
  pub is : top_scope c ≡ some top
  pub mine : member a top.scope.owned ≡ true
  pub live-is : d.live ≡ put c.live top.index (some (top.scope ▹ owned≔ (without a top.scope.owned)))

pub back_is : (dangles : Bool) (a : ℕ) (c : Scopes) → All (Back c a) (give_back dangles a c)
unfolding give_back set_scope
back_is dangles a c = all-unless 12 λ t e. all-when 12 _ λ m. all-given (record { top = t; is = e; mine = not-false _ m; live-is = refl })

back-lists : (c : Scopes) (a : ℕ) (d : Scopes) → Back c a d → (b i : ℕ) → (b ≡ a → ⊥) → member b (lists_of d.live i) ≡ member b (lists_of c.live i)
back-lists c a d w b i ne =
    let l : List ℕ = w.top.scope.owned in
    let left : member b (without a l) ≡ member b l
    = decided (member b l) (λ p. without-keeps a b l ne p ∙ sym p) (λ p. is_false _ (λ z. clash (without-member a b l z).0 p) ∙ sym p) in
    ap (λ (f : ℕ → Option Scope). member b (lists_of f i)) w.live-is
    ∙ ap (member b) (lists-put c.live w.top.index (some (w.top.scope ▹ owned≔ (without a l))) i)
    ∙ put-alike (lists_of c.live) w.top.index (without a l) (member b) (left ∙ ap (member b) (sym (owned_at c.live w.top (top-at c w.top w.is).1))) i

-- both slots of h go back
pub back-rest : (room : Room) (s t : State) → StateSound room s → StateSound room t → Rest room.scopes s t → (h : ℕ) → h < s.handed → (s.handles h).held ≡ true → (c d : Scopes)
    → Back s.scopes (s.handles h).address c → Back t.scopes (t.handles h).address d
    → Rest room.scopes (s ▹ scopes≔ c ▹ set_handle h (s.handles h ▹ held≔ false ▹ kind≔ freed)) (t ▹ scopes≔ d ▹ set_handle h (t.handles h ▹ held≔ false ▹ kind≔ freed))
unfolding set_handle
back-rest room s t os ot r h lt held c d v w =
    let x : Handle = s.handles h ▹ held≔ false ▹ kind≔ freed in
    let y : Handle = t.handles h ▹ held≔ false ▹ kind≔ freed in
    record {
      handed = r.handed;
      kind = λ j m. put_both s.handles t.handles h x y (λ z. z.kind) refl j (r.kind j m);
      held = λ j m. put_both s.handles t.handles h x y (λ z. z.held) refl j (r.held j m);
      written = λ j m. put_both s.handles t.handles h x y (λ z. z.written) (r.written h lt) j (r.written j m);
      owned = λ j i m b p.
          by_eqb h j
          (λ e. clash p (subst (λ (u : ℕ). (put s.handles h x u).held ≡ false) e (ap (λ (z : Handle). z.held) (put_same s.handles h x))))
          (λ ne.
          let was : (s.handles j).held ≡ true = ap (λ (z : Handle). z.held) (sym (put_other s.handles h x j ne)) ∙ p in
          let was' : (t.handles j).held ≡ true = sym (r.held j m) ∙ was in
          let held' : (t.handles h).held ≡ true = sym (r.held h lt) ∙ held in
          let m' : j < t.handed = subst (λ (u : ℕ). j < u) r.handed m in
          let lt' : h < t.handed = subst (λ (u : ℕ). h < u) r.handed lt in
          ap (λ (z : Handle). member z.address (lists_of c.live i)) (put_other s.handles h x j ne)
          ∙ back-lists s.scopes (s.handles h).address c v (s.handles j).address i (λ e. ne (os.handles.apart h j lt m held was (sym e)))
          ∙ r.owned j i m b was
          ∙ sym (back-lists t.scopes (t.handles h).address d w (t.handles j).address i (λ e. ne (ot.handles.apart h j lt' m' held' was' (sym e))))
          ∙ sym (ap (λ (z : Handle). member z.address (lists_of d.live i)) (put_other t.handles h y j ne)));
      needed = r.needed;
      needs = r.needs;
    }
