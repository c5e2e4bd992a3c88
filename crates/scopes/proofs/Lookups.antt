-- A name is looked for, scope by scope; what get and take answer. Assumes nothing.
use Rattle.std.proofs.Common.{Ok, Err, ◌≡◌, ℕ, zero, suc, ◌+◌, ◌%◌, ◌<◌, ◌≤◌, true, false, ◌≢◌, get_or, set, sym, refl, ap, ◌∙◌, subst, length-set, le-ltb, lt-ltb, eq-eqb, ne_eqb}
use Rattle.std.specs.Prelude as code
use Rattle.rules.specs.Notation.{given, refused, ◌>>=◌, refuse◌unless◌, refuse◌when◌}
use Rattle.rules.specs.Refusals.{number_of}
use Rattle.rules.specs.declared.refusal.Refusal.{Refusal}
use Rattle.rules.specs.Sizes.{base, BINDINGS, SCOPES}
use Rattle.rules.specs.Scopes as rule
use Rattle.scopes.specs.View.{view, index, binding, bindings_of, target, Seen, told}
use Rattle.scopes.specs.Sound.{Sound, Sized}
use Rattle.scopes.specs.Leaves.{There, Missing, place_in, Nearest, Readable, Tops}
use Rattle.scopes.specs.Steps.{Whole, Becomes}
use Rattle.scopes.specs.declared.Scopes.{Scopes}
use Rattle.scopes.proofs.Finds.{Topped}
use Rattle.scopes.proofs.Becoming.{does}
use Rattle.scopes.proofs.Bindings.{marked-moved, each-bound}
use Rattle.scopes.proofs.Defines.{with_bindings, sized-with, Rebound, rebound-sound, set-clear}

-- ---- a place as a number, and as an option

pub place-some : (r : ℕ) → r < BINDINGS → place_in r ≡ code.Some r
place-some r l = rw (lt-ltb r BINDINGS l, place_in)

-- ---- one scope, then its parent

module _ (s : Scopes) (name i : ℕ) where
  -- no scope is left, i is none, or no scope is live there
  pub climb-zero : Nearest s name i 0 code.None
  unfolding rule.lookup
  climb-zero = record { is = refl; spot = tt }

  pub climb-none : (left : ℕ) → SCOPES ≤ i → Nearest s name i left code.None
  unfolding rule.lookup
  climb-none zero l = climb-zero
  climb-none (suc k) l = record { is = sym (rw (le-ltb i SCOPES l, rule.lookup)); spot = tt }

  pub climb-dead : (left : ℕ) → i < SCOPES → get_or s.live i false ≡ false → Nearest s name i left code.None
  unfolding rule.lookup
  climb-dead zero l a = climb-zero
  climb-dead (suc k) l a = record { is = sym (rw (lt-ltb i SCOPES l, a, rule.lookup)); spot = tt }

  module _ (left : ℕ) (l : i < SCOPES) (a : get_or s.live i false ≡ true) where
    pub climb-here : (r : ℕ) → There s.bindings s.count i name r → Nearest s name i (suc left) (code.Some r)
    unfolding rule.lookup
    climb-here r t = record { is = sym (rw (lt-ltb i SCOPES l, a, t.is, rule.lookup)); spot = (i, t) }

    pub climb-up : Missing s.bindings s.count i name → (up : ℕ) → up ≡ get_or s.parent i 0 → (r : code.Option ℕ) → Nearest s name up left r → Nearest s name i (suc left) r
    unfolding rule.lookup
    climb-up m up e r g =
        record {
          is = g.is ∙ ap (λ (x : ℕ). rule.lookup left (view s) name (index x)) e ∙ sym (rw (lt-ltb i SCOPES l, a, m.is, rule.lookup));
          spot = g.spot;
        }

-- ---- get

module _ (s : Scopes) (name : ℕ) where
  pub get-no-top : (e : Refusal) → Tops s (Err e) → refused (number_of e) ≡ rule.get_name base name (view s)
  unfolding rule.get_name ◌>>=◌
  get-no-top e t = rw (sym t.is)

  module _ (t : Topped s) where
    pub get-missing : Nearest s name s.top SCOPES code.None → refused 10 ≡ rule.get_name base name (view s)
    unfolding rule.get_name ◌>>=◌ refuse◌unless◌ refuse◌when◌ base
    get-missing f = rw (t.is, sym f.is)

    module _ (r : ℕ) (f : Nearest s name s.top SCOPES (code.Some r)) where
      abbrev b : ℕ
      b = get_or s.bindings r 0

      pub get-moved : b % 2 ≡ 1 → refused 11 ≡ rule.get_name base name (view s)
      unfolding rule.get_name ◌>>=◌ refuse◌unless◌ refuse◌when◌ base
      get-moved e = rw (t.is, sym f.is, eq-eqb (b % 2) 1 e)

      pub get-found : b % 2 ≢ 1 → given (binding b) ≡ rule.get_name base name (view s)
      unfolding rule.get_name ◌>>=◌ refuse◌unless◌ refuse◌when◌ base
      get-found e = rw (t.is, sym f.is, ne_eqb (b % 2) 1 e)

  -- ---- take: what get refuses is refused, and else the binding is moved

  abbrev Takes : rule.Scopes → Seen (ℕ × ℕ)
  Takes c = told target c (rule.take_name base name c)

  pub take-refused : (e : Refusal) → Readable s name (Err e) → record { next = view s; says = refused (number_of e) } ≡ Takes (view s)
  unfolding rule.take_name ◌>>=◌
  take-refused e g = rw (sym g.is)

  module _ (h : Sound s) (r : ℕ) (g : Readable s name (Ok r)) where
    abbrev x : ℕ
    x = get_or s.bindings r 0

    replaced : Rebound s (x + 1) (set s.bindings r (x + 1)) s.count
    replaced =
        g.spot.1.replaced (x + 1)
        (ap (λ (y : rule.Binding). y.scope) (marked-moved x g.unmoved) ∙ g.spot.1.in_scope)
        (ap (λ (y : rule.Binding). y.name) (marked-moved x g.unmoved) ∙ g.spot.1.of-name)

    alive : get_or s.live (binding x).scope false ≡ true
    alive = each-bound (λ (y : rule.Binding). get_or s.live y.scope false ≡ true) g.spot.0 name (binding x) (bindings_of s.bindings s.count) g.spot.1.is h.named.alive

    take_whole : Sized s → Whole (with_bindings s (set s.bindings r (x + 1)) s.count)
    take_whole z =
        record {
          sound = rebound-sound s h (x + 1)
              (subst (λ (y : rule.Binding). get_or s.live y.scope false ≡ true) (sym (marked-moved x g.unmoved)) alive)
              (set s.bindings r (x + 1)) s.count h.named.most replaced (set-clear s h r (x + 1) g.spot.1.inside);
          sized = sized-with s z (set s.bindings r (x + 1)) s.count (length-set s.bindings r (x + 1) ∙ z.bindings);
        }

    take_found : record { next = view (with_bindings s (set s.bindings r (x + 1)) s.count); says = given (target (binding x)) } ≡ Takes (view s)
    unfolding rule.take_name ◌>>=◌
    take_found =
        let n = replaced ∙ ap (λ (y : rule.Binding). rule.rebound y (bindings_of s.bindings s.count)) (marked-moved x g.unmoved) in
        rw (sym g.is) (λ u. record {
          next = record { slots = (view s).slots; live = (view s).live; top = index s.top; counter = s.counter; bindings = n u; dangling = (view s).dangling; size = s.size };
          says = given (target (binding x));
        })

    pub take-moves : Sized s → (y : ℕ × ℕ) → y ≡ target (binding x) → Becomes s (with_bindings s (set s.bindings r (x + 1)) s.count) (given y) Takes
    take-moves z y e =
        does s (with_bindings s (set s.bindings r (x + 1)) s.count) y Takes
        ((λ u. record { next = view (with_bindings s (set s.bindings r (x + 1)) s.count); says = given (e u) }) ∙ take_found)
        (take_whole z)
