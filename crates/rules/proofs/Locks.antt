-- Two runs of a script, placed otherwise, with the same names and the rest alike: what allots, frees and adds needs in the one does so in
-- the other, or allotting is refused there by 7 because its placement has no place. Assumes nothing.
use mathlib.Core.Path.{◌≡◌, refl, sym, ap, subst, ◌∙◌, fun_ext}
use mathlib.Core.Bool.{Bool, true, false, not, ◌&&◌, ◌||◌}
use mathlib.Core.Option.{Option, none, some}
use Prim.Native.Nat.{ℕ, ◌+◌, ◌<◌}
use native.Mathlib.Omega.{arith}
use lib.Dec.{eqb, leb, ltb}
use borrow.Author.Tests.{not-false}
use Rattle.rules.specs.Notation.{Answer, given, refused, ◌>>=◌, refuse◌unless◌, is_some, ◌▹◌, first}
use Rattle.rules.specs.Sizes.{Room}
use Rattle.rules.specs.Slots.{Slots, Placement}
use Rattle.rules.specs.AddressSets.{member}
use Rattle.rules.specs.Scopes.{Id, Scopes, Found, top_scope, set_scope, allocate}
use Rattle.rules.specs.Needs.{Kind, local, dangling, assigned, freed, scope, is_freed, is_scope, goes_back, give_back, Need, output_of}
use Rattle.rules.specs.Frames.{kind≔, Remembered, is_scope_kind, owns, is_gone, State, set_handle, unknown, spent, keeps, belongs, barred, allot, hand_back, free_as, free_handle, add_need, lost, free_own}
use Rattle.rules.specs.Demand3.{Fair}
use Rattle.rules.proofs.Chains.{All, all-as, all-given, all_then, all-when, all-if, if-true, if-false, none-some, unless-some, when_false}
use Rattle.rules.proofs.Tells.{neither}
use Rattle.rules.proofs.Sound.{SlotsSound, lists_of, NeedAgrees, StateSound}
use Rattle.rules.proofs.Naming.{Here, top-at, top-here}
use Rattle.rules.proofs.Owners.{owned_at}
use Rattle.rules.proofs.KeepsSteps.{unspent, unbarred}
use Rattle.rules.proofs.Blanks.{then-given, blank}
use Rattle.rules.proofs.Lockstep.{Also, Whatever, top-met}
use Rattle.rules.proofs.Rests.{NeedAlike, defers, addresses, ignores, gone, RememberedAlike, Rest, one-more-need, with-handle}
use Rattle.rules.proofs.SlotRests.{SlotsGiven, slots-given, granting, Back, back_is, back-rest}

-- ---- given, or refused by 7

-- the placement has no place for n slots
abbrev pub NoPlace : Placement → Slots → ℕ → Type 0
NoPlace place s n = place n s ≡ none

-- given with R, or refused by 7 because of N
pub record Or7 {B : Type 0} (N : Type 0) (R : B → Type 0) (m : Answer B) : Type 0 where
  pub gives : (b : B) → m ≡ given b → R b
  pub only : (n : ℕ) → m ≡ refused n → (n ≡ 7) × N

pub or7-is : {B : Type 0} {N : Type 0} {R : B → Type 0} {m : Answer B} {b : B} → m ≡ given b → R b → Or7 N R m
or7-is {R = R} {b = b} p h =
    record {
      gives = λ x e. let z : given b ≡ given x = sym p ∙ e in subst R (cc) h;
      only = λ n e. absurd (let z : given b ≡ refused n = sym p ∙ e in let y : ◌≡◌ {A = ℕ} 0 1 = cc in omega arith);
    }

pub or7-as : {B : Type 0} {N : Type 0} {R : B → Type 0} {m k : Answer B} → m ≡ k → Or7 N R k → Or7 N R m
or7-as {N = N} {R = R} e h = subst (Or7 N R) (sym e) h

pub or7-then : {A B : Type 0} {N : Type 0} {Q : A → Type 0} {R : B → Type 0} {m : Answer A} {f : A → Answer B} → Or7 N Q m → ((a : A) → Q a → Or7 N R (f a)) → Or7 N R (m >>= f)
unfolding ◌>>=◌
or7-then {m = given a} h k = k a (h.gives a refl)
or7-then {m = refused n} h k = record {
  gives = λ b e. absurd (let z : ◌≡◌ {A = ℕ} 0 1 = cc in omega arith);
  only = λ i e. let z : n ≡ i = cc in let w = h.only n refl in (sym z ∙ w.0, w.1);
}

or7-unless : {A B : Type 0} {N : Type 0} {R : B → Type 0} {o : Option A} {f : A → Answer B} → (o ≡ none → N) → ((a : A) → o ≡ some a → Or7 N R (f a)) → Or7 N R ((refuse 7 unless o) >>= f)
unfolding ◌>>=◌ refuse◌unless◌
or7-unless {o = some a} why h = h a refl
or7-unless {o = none} why h = record {
  gives = λ b e. absurd (let z : ◌≡◌ {A = ℕ} 0 1 = cc in omega arith);
  only = λ i e. let z : 7 ≡ i = cc in (sym z, why refl);
}

-- ---- slots are given

module _ (room : Room) (p q : Placement) (fp : Fair room p (SlotsSound room.segments)) (fq : Fair room q (SlotsSound room.segments))
    (s t : State) (os : StateSound room s) (ot : StateSound room t) (r : Rest room.scopes s t)
    (k l : Found) (hk : Here room.scopes s.scopes.live k) (hl : Here room.scopes t.scopes.live l) (same : k.index ≡ l.index)
    (kind : Kind) (n : ℕ) where
  seven : Or7 (NoPlace q t.scopes.slots n) (SlotsGiven room q fq t ot l hl n) (allocate q l n t.scopes)
  unfolding allocate set_scope
  seven = or7-unless (λ e. e) (λ w e. or7-is refl (record { placed = w; from = e; at-is = refl; live-is = refl }))

  pub allot-lock : All (λ x. Or7 (NoPlace q t.scopes.slots n) (λ u. Rest room.scopes x.1 u.1) (allot room q l kind n t)) (allot room p k kind n s)
  unfolding allot
  allot-lock =
      all-when 16 _ λ h. all_then λ x e.
      all-given
      (or7-as (when_false 16 _ (ap (λ (v : ℕ). ltb room.handles (v + n)) (sym r.handed) ∙ h))
      (or7-then seven (λ y w. or7-is refl (granting room p q fp fq s t os ot r k l hk hl same kind n x y ((slots-given room p fp s os k hk n).at x e) w))))

-- ---- tests tell the same of both

owns-alike : {d e : Need} → NeedAlike d e → owns e ≡ owns d
owns-alike (defers i j x) = refl
owns-alike (addresses a b x) = ap is_scope_kind (sym x)
owns-alike ignores = refl
owns-alike gone = refl

gone-alike : {d e : Need} → NeedAlike d e → is_gone e ≡ is_gone d
gone-alike (defers i j x) = refl
gone-alike (addresses a b x) = refl
gone-alike ignores = refl
gone-alike gone = refl

pub output-alike : {d e : Need} → NeedAlike d e → All (λ o. Also Whatever (output_of e)) (output_of d)
unfolding output_of
output-alike (defers i j x) = record { at = λ o e. absurd (let z : ◌≡◌ {A = ℕ} 0 1 = cc in omega arith) }
output-alike (addresses a b x) = all-given (record { it = _; is = refl; so = tt })
output-alike ignores = all-given (record { it = _; is = refl; so = tt })
output-alike gone = record { at = λ o e. absurd (let z : ◌≡◌ {A = ℕ} 0 1 = cc in omega arith) }

module _ (room : Room) (s t : State) (names : blank s.scopes ≡ blank t.scopes) (os : StateSound room s) (ot : StateSound room t) (r : Rest room.scopes s t) where
  pub unknown-too : (h : ℕ) → unknown t h ≡ unknown s h
  unfolding unknown
  unknown-too h = ap (λ (v : ℕ). leb v h) (sym r.handed)

  pub spent-too : (h : ℕ) → spent s h ≡ false → spent t h ≡ false
  unfolding spent
  spent-too h e =
      ap (λ (x : Bool). x || is_freed (t.handles h).kind) (unknown-too h)
      ∙ ap (λ (x : Kind). unknown s h || is_freed x) (sym (r.kind h (unspent s h e)))
      ∙ e

  belongs-too : (h : ℕ) → belongs t h ≡ belongs s h
  unfolding belongs
  belongs-too h =
      ap (λ (k : ℕ). is_some (first (λ n. keeps (t.needs n) h) 0 k)) (sym r.needed)
      ∙ ap (λ (f : ℕ → Bool). is_some (first f 0 s.needed))
      (fun_ext (λ n.
      ap (λ (b : Bool). b && eqb (t.needs n).handle h) (owns-alike (r.needs n).need)
      ∙ ap (λ (g : ℕ). owns (s.needs n).need && eqb g h) (sym (r.needs n).handle)))

  pub barred-too : (h : ℕ) → barred s h ≡ false → barred t h ≡ false
  unfolding barred
  barred-too h e =
      let w = neither (spent s h) (belongs s h) e in
      ap (λ (x : Bool). x || belongs t h) (spent-too h w.0) ∙ belongs-too h ∙ w.1

  pub lost-too : (n : ℕ) → lost t n ≡ lost s n
  unfolding lost
  lost-too n =
      ap (λ (k : ℕ). leb k n || is_gone (t.needs n).need) (sym r.needed)
      ∙ ap (λ (b : Bool). leb s.needed n || b) (gone-alike (r.needs n).need)

  top-same : (id : Id) → is_scope id (top_scope s.scopes) ≡ is_scope id (top_scope t.scopes)
  top-same id = go (top_scope s.scopes) (top_scope t.scopes) refl refl
    where
      go : (x y : Option Found) → top_scope s.scopes ≡ x → top_scope t.scopes ≡ y → is_scope id (top_scope s.scopes) ≡ is_scope id (top_scope t.scopes)
      go none none e q = ap (is_scope id) e ∙ sym (ap (is_scope id) q)
      go none (some l) e q = none-some (sym e ∙ (top-met t.scopes s.scopes (sym names) l q).is)
      go (some k) y e q =
          let w = top-met s.scopes t.scopes names k e in
          ap (is_scope id) e
          ∙ ap (λ (z : Found). is_scope id (some z)) w.same
          ∙ sym (ap (is_scope id) w.is)

  goes-too : (k : Kind) → goes_back t.scopes k ≡ goes_back s.scopes k
  unfolding goes_back
  goes-too local = refl
  goes-too dangling = refl
  goes-too assigned = refl
  goes-too freed = refl
  goes-too (scope id) = sym (top-same id)

  -- ---- freeing

  -- giving back is not refused there, if it isn't here
  back-too : (dangles : Bool) (h : ℕ) → h < s.handed → (s.handles h).held ≡ true → (c : Scopes) → Back s.scopes (s.handles h).address c → Also Whatever (give_back dangles (t.handles h).address t.scopes)
  unfolding give_back
  back-too dangles h lt held c v =
      let w = top-met s.scopes t.scopes names v.top v.is in
      let here = top-here s.scopes v.top v.is room.scopes os.scopes.top in
      let index : v.top.index ≡ w.it.index = ap (λ (z : Found). z.index) w.same in
      let m : member (t.handles h).address w.it.scope.owned ≡ true
      = ap (member (t.handles h).address) (sym (owned_at t.scopes.live w.it (top-at t.scopes w.it w.is).1) ∙ ap (lists_of t.scopes.live) (sym index))
      ∙ sym (r.owned h v.top.index lt here.below held)
      ∙ ap (member (s.handles h).address) (owned_at s.scopes.live v.top here.is)
      ∙ v.mine in
      record { it = _; is = unless-some 12 _ w.is ∙ when_false 12 _ (ap not m); so = tt }

  pub forget-rest : (h : ℕ) → h < s.handed → Rest room.scopes (s ▹ set_handle h (s.handles h ▹ kind≔ freed)) (t ▹ set_handle h (t.handles h ▹ kind≔ freed))
  forget-rest h lt = with-handle r h (s.handles h ▹ kind≔ freed) (t.handles h ▹ kind≔ freed) refl refl refl (r.held h lt) (r.written h lt) (λ z. z)

  free-as-lock : (k : Kind) (dangles : Bool) (h : ℕ) → h < s.handed → All (λ x. Also (Rest room.scopes x) (free_as k dangles h t)) (free_as k dangles h s)
  unfolding free_as hand_back
  free-as-lock k dangles h lt =
      all-if
      (λ b. all-when 14 _ λ q. all_then λ c e.
      let held : (s.handles h).held ≡ true = not-false _ q in
      let v = (back_is dangles (s.handles h).address s.scopes).at c e in
      let g = back-too dangles h lt held c v in
      all-given
      (record {
        it = _;
        is = if-true _ _ (goes-too k ∙ b) ∙ when_false 14 _ (ap not (sym (r.held h lt)) ∙ q) ∙ then-given _ g.is;
        so = back-rest room s t os ot r h lt held c g.it v ((back_is dangles (t.handles h).address t.scopes).at g.it g.is);
      }))
      (λ b. all-given (record { it = _; is = if-false _ _ (goes-too k ∙ b); so = forget-rest h lt }))

  pub free-lock : (dangles : Bool) (h : ℕ) → All (λ x. Also (Rest room.scopes x) (free_handle dangles h t)) (free_handle dangles h s)
  unfolding free_handle
  free-lock dangles h =
      all-when 13 _ λ p.
      let lt = unbarred s h p in
      all-as
      (λ x g. record { it = g.it; is = when_false 13 _ (barred-too h p) ∙ ap (λ (k : Kind). free_as k dangles h t) (sym (r.kind h lt)) ∙ g.is; so = g.so })
      (free-as-lock (s.handles h).kind dangles h lt)

  -- ---- needs

  pub add-lock : (x y : Remembered) → RememberedAlike x y → All (λ u. Also (Rest room.scopes u) (add_need room y t)) (add_need room x s)
  unfolding add_need
  add-lock x y e = all-when 22 _ λ q. all-given (record { it = _; is = when_false 22 _ (ap (leb room.needs) (sym r.needed) ∙ q); so = one-more-need r x y e })

  pub own-lock : (h : ℕ) {d e : Need} → NeedAlike d e → NeedAgrees s.handles s.handed h d → All (λ x. Also (Rest room.scopes x) (free_own h t e)) (free_own h s d)
  unfolding free_own
  own-lock h (defers i j x) w = all-given (record { it = t; is = refl; so = r })
  own-lock h (addresses a b x) w =
      all-if
      (λ y. all-as
      (λ u g. record { it = g.it; is = if-true _ _ (ap is_scope_kind (sym x) ∙ y) ∙ ap (λ (k : Kind). free_as k true h t) (sym x) ∙ g.is; so = g.so })
      (free-as-lock a.kind true h w.0))
      (λ y. all-given (record { it = t; is = if-false _ _ (ap is_scope_kind (sym x) ∙ y); so = r }))
  own-lock h ignores w = all-given (record { it = t; is = refl; so = r })
  own-lock h gone w = all-given (record { it = t; is = refl; so = r })
