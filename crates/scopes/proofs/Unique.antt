-- A sound state is told by its view, so any two results that a promise admits are equal. Assumes nothing.
use Rattle.std.proofs.Common.{◌≡◌, ℕ, ◌+◌, ◌*◌, ◌/◌, ◌%◌, ◌<◌, ◌≤◌, Bool, true, false, eqb, List, [], ◌∷◌, map, length, get_or, take, sym, refl, ap, ◌∙◌, ⊎_elim, arith, length-take-le, get_or-take, ext_get_or, le-ltb, lt-ltb, eq-eqb, ne_eqb, eqb-true}
use mathlib.Core.Logic.{by_cases}
use mathlib.Core.Option.{Option, none, some}
use native.Mathlib.Decide.{ℕ_discrete, dec_lt}
use lib.ListN.{length-map}
use Rattle.std.specs.Prelude as code
use Rattle.std.specs.Prelude.{Result}
use Rattle.rules.specs.Notation.{is_some}
use Rattle.rules.specs.Options.{option_of}
use Rattle.rules.specs.Refusals.{says}
use Rattle.rules.specs.declared.refusal.Refusal.{Refusal}
use Rattle.rules.proofs.Says.{says-one}
use Rattle.rules.proofs.Tells.{clash}
use Rattle.rules.specs.Sizes.{LISTS, SCOPES, SLOTS, WORD}
use Rattle.rules.specs.AddressSets.{member}
use Rattle.rules.specs.Scopes as rule
use Rattle.slots.proofs.Occupied.{halves-ext}
use Rattle.links.proofs.Rings.{chains-alike}
use Rattle.links.proofs.Same.{same-cells}
use Rattle.scopes.specs.View.{list_of, view, index, id_of, address_of, bound_to, binding, bindings_of, Seen, ADDRESS_PART, HANDLE_PART, NAME_PART, SCOPE_PART}
use Rattle.scopes.specs.Sound.{Sound, Sized, Typed}
use Rattle.scopes.specs.Steps.{Drains}
use Rattle.scopes.specs.declared.Bound.{Bound}
use Rattle.scopes.specs.declared.ScopeId.{ScopeId}
use Rattle.scopes.specs.declared.Scopes.{Scopes}
use Rattle.slots.specs.declared.SlotAddress.{SlotAddress}
use Rattle.scopes.proofs.Opens.{owns_none}
use Rattle.scopes.proofs.Closes.{parent-fits}

-- ---- what the arrays hold, read off the view

from_index : Option ℕ → ℕ
from_index none = SCOPES
from_index (some n) = n

from-index : (n : ℕ) → n ≤ SCOPES → from_index (index n) ≡ n
unfolding from_index
from-index n h = by_cases (dec_lt n SCOPES) (λ l. rw (lt-ltb n SCOPES l, from_index)) (λ l. rw (le-ltb n SCOPES (omega arith), from_index) (omega arith))

live_of : Option rule.Scope → Bool
live_of none = false
live_of (some k) = true

dangles_of : Option rule.Scope → Bool
dangles_of none = false
dangles_of (some k) = k.dangled

parent_of : Option rule.Scope → ℕ
parent_of none = SCOPES
parent_of (some k) = from_index k.parent

number_of : Option rule.Scope → ℕ
number_of none = 0
number_of (some k) = k.number

owned_of : Option rule.Scope → List ℕ
owned_of none = []
owned_of (some k) = k.owned

record Read (s : Scopes) (i : ℕ) : Type 0 where
  live : get_or s.live i false ≡ live_of ((view s).live i)
  dangled : get_or s.dangled i false ≡ dangles_of ((view s).live i)
  parent : get_or s.parent i 0 ≡ parent_of ((view s).live i)
  number : get_or s.number i 0 ≡ number_of ((view s).live i)
  owned : list_of s.links i ≡ owned_of ((view s).live i)

read : (s : Scopes) → Sound s → Sized s → (i : ℕ) → i < SCOPES → Read s i
unfolding live_of dangles_of parent_of number_of owned_of
read s h z i hi = go (get_or s.live i false) refl
  where
    go : (b : Bool) → get_or s.live i false ≡ b → Read s i
    go true e = record { live = rw e; dangled = rw e; parent = rw e (sym (from-index (get_or s.parent i 0) (parent-fits s h i e z.live))); number = rw e; owned = rw e }
    go false e =
        let d = h.rooted.dead i hi e in
        record { live = rw e; dangled = rw e d.0; parent = rw e d.1; number = rw e d.2; owned = rw e (owns_none s h i hi e) }

-- a binding says its number
pack : rule.Binding → ℕ
pack b = (((b.scope * WORD + b.name) * WORD + b.address) * WORD + b.handle) * 2 + elim b.moved [ true ↦ 1 | false ↦ 0 ]

pack-binding : (b : ℕ) → pack (binding b) ≡ b
unfolding pack
pack-binding b =
    let x : b / SCOPE_PART * WORD + b / NAME_PART % WORD ≡ b / NAME_PART = omega arith in
    let y : b / NAME_PART * WORD + b / ADDRESS_PART % WORD ≡ b / ADDRESS_PART = omega arith in
    let w : b / ADDRESS_PART * WORD + b / HANDLE_PART % WORD ≡ b / 2 = omega arith in
    by_cases (ℕ_discrete (b % 2) 1) (λ e. rw (eq-eqb (b % 2) 1 e, x, y, w) (omega arith)) (λ n. rw (ne_eqb (b % 2) 1 n, x, y, w) (omega arith))

packs : (l : List ℕ) → map pack (map binding l) ≡ l
packs [] = refl
packs (b ∷ l) = λ t. pack-binding b t ∷ packs l t

same-owner : (o p : ℕ) → o ≤ LISTS → p ≤ LISTS → ((i : ℕ) → i < LISTS → eqb o i ≡ eqb p i) → o ≡ p
same-owner o p ho hp f =
    by_cases (dec_lt o LISTS) (λ l. sym (eqb-true p o (sym (f o l) ∙ eq-eqb o o refl)))
    (λ n. by_cases (dec_lt p LISTS) (λ l. eqb-true o p (f p l ∙ eq-eqb p p refl)) (λ q. omega arith))

-- ---- equal views are equal states

module _ (s t : Scopes) (h : Sound s) (k : Sound t) (ts : Typed s) (tt' : Typed t) (e : view s ≡ view t) where
  abbrev z : Sized s
  z = ts.sized

  abbrev y : Sized t
  y = tt'.sized

  at : (i : ℕ) → (view s).live i ≡ (view t).live i
  at i = ap (λ (c : rule.Scopes). c.live i) e

  lists : (i : ℕ) → i < LISTS → list_of s.links i ≡ list_of t.links i
  lists i hi =
      by_cases (dec_lt i SCOPES)
      (λ l. (read s h z i l).owned ∙ ap owned_of (at i) ∙ sym (read t k y i l).owned)
      (λ n. let q : i ≡ SCOPES = omega arith in rw q (ap (λ (c : rule.Scopes). c.dangling) e))

  links : s.links ≡ t.links
  links =
      same-cells SLOTS LISTS s.links t.links (list_of t.links) z.links y.links
      (chains-alike SLOTS LISTS _ _ (list_of s.links) (list_of t.links) (λ i hi. sym (lists i hi)) h.ringed.rings) k.ringed.rings

  owner : s.owner ≡ t.owner
  owner =
      ext_get_or 0 s.owner t.owner (z.owner ∙ sym y.owner)
      (λ a l.
      let ha : a < SLOTS = omega (arith, z.owner) in
      same-owner (get_or s.owner a 0) (get_or t.owner a 0) (h.ringed.most a ha) (k.ringed.most a ha)
      (λ i hi. sym (h.ringed.tells a i ha hi) ∙ ap (member a) (lists i hi) ∙ k.ringed.tells a i ha hi))

  halves : s.halves ≡ t.halves
  halves = halves-ext s.halves t.halves (z.halves ∙ sym y.halves) ts.halves tt'.halves (ap (λ (c : rule.Scopes). c.slots.occupied) e)

  -- an array of SCOPES that is read off the scopes
  by-scope : {A : Type 0} (d : A) (f g : List A) (p : Option rule.Scope → A) → length f ≡ SCOPES → length g ≡ SCOPES
      → ((i : ℕ) → i < SCOPES → get_or f i d ≡ p ((view s).live i)) → ((i : ℕ) → i < SCOPES → get_or g i d ≡ p ((view t).live i)) → f ≡ g
  by-scope d f g p lf lg rf rg = ext_get_or d f g (lf ∙ sym lg) (λ i l. let hi : i < SCOPES = omega arith in rf i hi ∙ ap p (at i) ∙ sym (rg i hi))

  len : (u : Scopes) → Sound u → Sized u → length (bindings_of u.bindings u.count) ≡ u.count
  len u g x = length-map (take u.count u.bindings) binding ∙ length-take-le u.count u.bindings (omega (arith, g.named.most, x.bindings))

  count : s.count ≡ t.count
  count = sym (len s h z) ∙ ap (λ (c : rule.Scopes). length c.bindings) e ∙ len t k y

  taken : take s.count s.bindings ≡ take t.count t.bindings
  taken = sym (packs (take s.count s.bindings)) ∙ ap (λ (c : rule.Scopes). map pack c.bindings) e ∙ packs (take t.count t.bindings)

  bindings : s.bindings ≡ t.bindings
  bindings =
      ext_get_or 0 s.bindings t.bindings (z.bindings ∙ sym y.bindings)
      (λ i l. by_cases (dec_lt i s.count)
      (λ q. sym (get_or-take s.count s.bindings i 0 q) ∙ ap (λ (x : List ℕ). get_or x i 0) taken ∙ get_or-take t.count t.bindings i 0 (omega (arith, count)))
      (λ q. h.named.clear i (omega arith) ∙ sym (k.named.clear i (omega (arith, count)))))

  top-most : (u : Scopes) → Sound u → u.top ≤ SCOPES
  top-most u g = ⊎_elim (λ x. omega (arith, x.0)) (λ x. omega (arith, x.0)) g.rooted.topped

  top : s.top ≡ t.top
  top = sym (from-index s.top (top-most s h)) ∙ ap (λ (c : rule.Scopes). from_index c.top) e ∙ from-index t.top (top-most t k)

  pub same-state : s ≡ t
  same-state =
      let lv : s.live ≡ t.live = by-scope false s.live t.live live_of z.live y.live (λ i hi. (read s h z i hi).live) (λ i hi. (read t k y i hi).live) in
      let dg : s.dangled ≡ t.dangled = by-scope false s.dangled t.dangled dangles_of z.dangled y.dangled (λ i hi. (read s h z i hi).dangled) (λ i hi. (read t k y i hi).dangled) in
      let pr : s.parent ≡ t.parent = by-scope 0 s.parent t.parent parent_of z.parent y.parent (λ i hi. (read s h z i hi).parent) (λ i hi. (read t k y i hi).parent) in
      let nm : s.number ≡ t.number = by-scope 0 s.number t.number number_of z.number y.number (λ i hi. (read s h z i hi).number) (λ i hi. (read t k y i hi).number) in
      λ i. record {
        halves = halves i;
        links = links i;
        owner = owner i;
        live = lv i;
        dangled = dg i;
        parent = pr i;
        number = nm i;
        bindings = bindings i;
        count = count i;
        segments = (e i).slots.segments;
        head = (e i).slots.head;
        top = top i;
        counter = (e i).counter;
        size = (e i).size;
      }

-- ---- any two results that a promise admits are equal

-- an operation's promise is `(what it did and said ≡ x) × Sound` of the state that it leaves: it is in `Becomes`
abbrev pub AdmitsOne : {T B : Type 0} → (T → B) → Type 0
AdmitsOne {T} {B} g =
    (x : Seen B) (t u : Scopes) (r q : Result T Refusal) → Typed t → Typed u
    → (record { next = view t; says = says g r } ≡ x) × Sound t → (record { next = view u; says = says g q } ≡ x) × Sound u → (t ≡ u) × (r ≡ q)

-- the code's own results are equal, where `g` tells its values apart
pub admits-one : {T B : Type 0} (g : T → B) → ((v w : T) → g v ≡ g w → v ≡ w) → AdmitsOne g
admits-one {T} {B} g one x t u r q tt' tu ht hu =
    let e : ◌≡◌ {A = Seen B} (record { next = view t; says = says g r }) (record { next = view u; says = says g q }) = ht.0 ∙ sym hu.0 in
    (same-state t u ht.1 hu.1 tt' tu (ap (λ (z : Seen B). z.next) e), says-one g one r q (ap (λ (z : Seen B). z.says) e))

pub id-one : (i j : ScopeId) → id_of i ≡ id_of j → i ≡ j
id-one i j e = λ t. record { index = (e t).index; number = (e t).number }

pub bound-one : (b d : Bound) → bound_to b ≡ bound_to d → b ≡ d
bound-one b d e = λ t. record { address = record { 0 = (e t).0 }; handle = record { 0 = (e t).1 } }

slot-one : (a b : SlotAddress) → address_of a ≡ address_of b → a ≡ b
slot-one a b e = λ t. record { 0 = e t }

-- an option's rule is told by the option
slot-or : SlotAddress → Option ℕ → SlotAddress
slot-or a none = a
slot-or a (some n) = record { 0 = n }

first-one : (a b : code.Option SlotAddress) → option_of address_of a ≡ option_of address_of b → a ≡ b
unfolding slot-or
first-one code.None code.None e = refl
first-one code.None (code.Some b) e = clash refl (ap is_some (sym e))
first-one (code.Some a) code.None e = clash refl (ap is_some e)
first-one (code.Some a) (code.Some b) e = λ t. code.Some (slot-or a (e t))

-- .. closed, for each kind of value that an operation gives
pub id-admits-one : AdmitsOne id_of
id-admits-one = admits-one id_of id-one

pub done-admits-one : AdmitsOne (λ (u : Unit {0}). u)
done-admits-one = admits-one (λ u. u) (λ v w e. e)

pub bound-admits-one : AdmitsOne bound_to
bound-admits-one = admits-one bound_to bound-one

pub slot-admits-one : AdmitsOne address_of
slot-admits-one = admits-one address_of slot-one

pub first-admits-one : AdmitsOne (option_of address_of)
first-admits-one = admits-one (option_of address_of) first-one

-- a question's promise is `says g r ≡ x`: `says-one` of the rules; fresh's is `(view r ≡ c) × Sound r`
pub fresh-one : (c : rule.Scopes) (r q : Scopes) → Typed r → Typed q → (view r ≡ c) × Sound r → (view q ≡ c) × Sound q → r ≡ q
fresh-one c r q tr tq hr hq = same-state r q hr.1 hq.1 tr tq (hr.0 ∙ sym hq.0)

-- drain: the state, the count, and the memory that it was lent
pub record DrainPromise (s t : Scopes) (lent : List ℕ) (n : ℕ) (out : List ℕ) : Type 0 where
  pub promise : Drains s t n out
  pub kept : (k : ℕ) → n ≤ k → get_or out k 0 ≡ get_or lent k 0
  pub long : length out ≡ SLOTS
  pub fits : n ≤ SLOTS

pub drain-one : (s : Scopes) (lent : List ℕ) (t u : Scopes) (n m : ℕ) (out other : List ℕ) → Typed t → Typed u → DrainPromise s t lent n out → DrainPromise s u lent m other → (t ≡ u) × (n ≡ m) × (out ≡ other)
drain-one s lent t u n m out other tt' tu ht hu =
    let st : t ≡ u = same-state t u ht.promise.whole.sound hu.promise.whole.sound tt' tu (ht.promise.next ∙ sym hu.promise.next) in
    let tk : take n out ≡ take m other = ht.promise.first ∙ sym hu.promise.first in
    let ln : n ≡ m =
    sym (length-take-le n out (omega (arith, ht.long, ht.fits))) ∙ ap length tk ∙ length-take-le m other (omega (arith, hu.long, hu.fits)) in (
      st,
      ln,
      ext_get_or 0 out other (ht.long ∙ sym hu.long)
          (λ k l. by_cases (dec_lt k n)
          (λ b. sym (get_or-take n out k 0 b) ∙ ap (λ (x : List ℕ). get_or x k 0) tk ∙ get_or-take m other k 0 (omega arith))
          (λ b. ht.kept k (omega arith) ∙ sym (hu.kept k (omega arith)))),
    )
