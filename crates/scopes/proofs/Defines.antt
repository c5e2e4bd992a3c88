-- A name is bound in the top scope. Assumes nothing.
use Rattle.std.proofs.Common.{Ok, Err, ◌≡◌, ℕ, ◌+◌, ◌<◌, ◌≤◌, Bool, true, false, not, ◌&&◌, leb, ◌≢◌, List, [], ◌∷◌, map, length, get_or, take, set, sym, ap, ◌∙◌, subst, add-one, arith, length-set, length-take-le, get_or-set_other, take-suc-set, le-leb}
use mathlib.Core.List.{map-append}
use lib.ListN.{length-map}
use borrow.Author.Tests.{lt-leb}
use Rattle.rules.specs.Notation.{given, refused, ◌>>=◌, refuse◌when◌, is_some}
use Rattle.rules.specs.Refusals.{number_of}
use Rattle.rules.specs.declared.refusal.Refusal.{Refusal}
use Rattle.rules.specs.Sizes.{base, BINDINGS}
use Rattle.rules.specs.Scopes as rule
use Rattle.scopes.specs.View.{view, index, binding, bindings_of, Seen, told_only}
use Rattle.scopes.specs.Sound.{Sound, Sized}
use Rattle.scopes.specs.Leaves.{There, Missing, Tops}
use Rattle.scopes.specs.Steps.{Becomes}
use Rattle.scopes.specs.declared.Scopes.{Scopes}
use Rattle.scopes.proofs.Tables.{and-false}
use Rattle.scopes.proofs.Becoming.{does}
use Rattle.scopes.proofs.Bindings.{each-rebound, once-rebound}

abbrev pub with_bindings : Scopes → List ℕ → ℕ → Scopes
with_bindings s bindings count =
    record s { bindings = bindings; count = count }

pub sized-with : (s : Scopes) → Sized s → (bindings : List ℕ) (count : ℕ) → length bindings ≡ BINDINGS → Sized (with_bindings s bindings count)
sized-with s z bindings count l = record { halves = z.halves; links = z.links; owner = z.owner; live = z.live; dangled = z.dangled; parent = z.parent; number = z.number; bindings = l }

abbrev pub Rebound : Scopes → ℕ → List ℕ → ℕ → Type 0
Rebound s b bindings count = bindings_of bindings count ≡ rule.rebound (binding b) (bindings_of s.bindings s.count)

-- a binding of a live scope takes its place among the others
pub rebound-sound : (s : Scopes) → Sound s → (b : ℕ) → get_or s.live (binding b).scope false ≡ true → (bindings : List ℕ) (count : ℕ) → count ≤ BINDINGS → Rebound s b bindings count → ((j : ℕ) → count ≤ j → get_or bindings j 0 ≡ 0)
    → Sound (with_bindings s bindings count)
rebound-sound s h b l bindings count most q clear =
    record {
      slotted = h.slotted;
      ringed = h.ringed;
      owned = h.owned;
      rooted = h.rooted;
      named = record {
        most = most;
        alive = rw q (each-rebound (λ x. get_or s.live x.scope false ≡ true) (binding b) l (bindings_of s.bindings s.count) h.named.alive);
        once = rw q (once-rebound (binding b) (bindings_of s.bindings s.count) h.named.once);
        clear = clear;
      };
    }

-- places from the count on stay clear
pub set-clear : (s : Scopes) → Sound s → (r b : ℕ) → r < s.count → (j : ℕ) → s.count ≤ j → get_or (set s.bindings r b) j 0 ≡ 0
set-clear s h r b l j a = get_or-set_other s.bindings r j b 0 (omega arith) ∙ h.named.clear j a

module _ (s : Scopes) (name address handle : ℕ) where
  abbrev Defines : rule.Scopes → Seen (Unit {0})
  Defines c = told_only c (rule.define_name base name address handle c)

  pub define-no-top : (e : Refusal) → Tops s (Err e) → record { next = view s; says = refused (number_of e) } ≡ Defines (view s)
  unfolding ◌>>=◌
  define-no-top e t = rw (sym t.is)

  module _ (h : Sound s) (i : ℕ) (t : Tops s (Ok i)) (b : ℕ) (is : binding b ≡ record { scope = i; name = name; address = address; handle = handle; moved = false }) (z : Sized s) where
    len : length (bindings_of s.bindings s.count) ≡ s.count
    len = length-map (take s.count s.bindings) binding ∙ length-take-le s.count s.bindings (omega (arith, h.named.most, z.bindings))

    for-scope : (binding b).scope ≡ i
    for-scope = ap (λ (x : rule.Binding). x.scope) is

    for-name : (binding b).name ≡ name
    for-name = ap (λ (x : rule.Binding). x.name) is

    alive : get_or s.live (binding b).scope false ≡ true
    alive = subst (λ (x : ℕ). get_or s.live x false ≡ true) (sym for-scope) t.lives.1

    abbrev no_room : Bool
    no_room = leb BINDINGS (length (bindings_of s.bindings s.count)) && not (is_some (rule.bound_in i name (bindings_of s.bindings s.count)))

    told : (bindings : List ℕ) (count : ℕ) → no_room ≡ false → Rebound s b bindings count → record { next = view (with_bindings s bindings count); says = given tt } ≡ Defines (view s)
    unfolding rule.bind_in base ◌>>=◌ refuse◌when◌
    told bindings count e q =
        let n = q ∙ ap (λ (x : rule.Binding). rule.rebound x (bindings_of s.bindings s.count)) is in
        rw (sym t.is, e) (λ u. record {
          next = record { slots = (view s).slots; live = (view s).live; top = index s.top; counter = s.counter; bindings = n u; dangling = (view s).dangling; size = s.size };
          says = given tt;
        })

    pub define-there : (r : ℕ) → There s.bindings s.count i name r → Becomes s (with_bindings s (set s.bindings r b) s.count) (given tt) Defines
    define-there r f =
        let q = f.replaced b for-scope for-name in
        does s (with_bindings s (set s.bindings r b) s.count) tt Defines
        (told (set s.bindings r b) s.count (rw (f.is, and-false)) q)
        (record {
          sound = rebound-sound s h b alive (set s.bindings r b) s.count h.named.most q (set-clear s h r b f.inside);
          sized = sized-with s z (set s.bindings r b) s.count (length-set s.bindings r b ∙ z.bindings);
        })

    module _ (m : Missing s.bindings s.count i name) where
      at-end : s.count < BINDINGS → Rebound s b (set s.bindings s.count b) (s.count + 1)
      at-end c =
          rw add-one
          (ap (map binding) (take-suc-set s.bindings s.count b (omega (arith, z.bindings))) ∙ map-append binding (take s.count s.bindings) (b ∷ []) ∙ sym (m.appended b for-scope for-name))

      pub define-new : s.count ≢ BINDINGS → Becomes s (with_bindings s (set s.bindings s.count b) (s.count + 1)) (given tt) Defines
      define-new n =
          let c : s.count < BINDINGS = omega (arith, h.named.most) in
          does s (with_bindings s (set s.bindings s.count b) (s.count + 1)) tt Defines
          (told (set s.bindings s.count b) (s.count + 1) (rw (len, lt-leb BINDINGS s.count c)) (at-end c))
          (record {
            sound = rebound-sound s h b alive (set s.bindings s.count b) (s.count + 1) (omega arith) (at-end c)
                (λ j a. get_or-set_other s.bindings s.count j b 0 (omega arith) ∙ h.named.clear j (omega arith));
            sized = sized-with s z (set s.bindings s.count b) (s.count + 1) (length-set s.bindings s.count b ∙ z.bindings);
          })

      pub define-full : s.count ≡ BINDINGS → record { next = view s; says = refused 9 } ≡ Defines (view s)
      unfolding rule.bind_in base ◌>>=◌ refuse◌when◌
      define-full e =
          let q : leb BINDINGS (length (bindings_of s.bindings s.count)) ≡ true = le-leb BINDINGS (length (bindings_of s.bindings s.count)) (omega (arith, len)) in
          rw (sym t.is, q, m.is)
