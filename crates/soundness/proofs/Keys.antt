-- The bindings, place by place: scope and name tell them apart. Assumes nothing.
use mathlib.Core.Path.{◌≡◌}
use mathlib.Core.Logic.{◌≢◌}
use mathlib.Core.Bool.{Bool, true, false}
use mathlib.Core.List.{List, [], ◌∷◌}
use Prim.Native.Nat.{ℕ, zero, suc, ◌≤◌}
use native.Mathlib.Omega.{arith}
use lib.ListN.{length, get_or}
use Rattle.rules.specs.Sizes.{BINDINGS}
use Rattle.rules.specs.Scopes.{Binding, is_for}
use Rattle.rules.specs.Tells.{Tells}
use Rattle.rules.proofs.Tells.{is_false, clash, tells-and, tells-eq}
use Rattle.scopes.specs.View.{binding, bindings_of}
use Rattle.scopes.specs.Sound.{Each, BoundOnce, Named}
use Rattle.soundness.specs.Parts.{Below, LiveAt, Distinct}

-- each of the first n
each_of : (P : Binding → Type 0) (n : ℕ) (l : List ℕ) → n ≤ length l → Below n (λ j. P (binding (get_or l j 0))) → Each P (bindings_of l n)
each_of P zero l le h = tt
each_of P (suc n) [] le h = absurd (omega arith)
each_of P (suc n) (b ∷ l) le h = (h 0 (omega arith), each_of P n l (omega arith) (λ j lt. h (suc j) (omega arith)))

of-each : (P : Binding → Type 0) (n : ℕ) (l : List ℕ) → n ≤ length l → Each P (bindings_of l n) → Below n (λ j. P (binding (get_or l j 0)))
of-each P zero l le h j lt = absurd (omega arith)
of-each P (suc n) [] le h j lt = absurd (omega arith)
of-each P (suc n) (b ∷ l) le h zero lt = h.0
of-each P (suc n) (b ∷ l) le h (suc j) lt = of-each P n l (omega arith) h.1 j (omega arith)

for-tells : (b c : ℕ) → Tells (is_for (binding c).scope (binding c).name (binding b)) (((binding b).scope ≡ (binding c).scope) × ((binding b).name ≡ (binding c).name))
for-tells b c = tells-and (tells-eq (binding b).scope (binding c).scope) (tells-eq (binding b).name (binding c).name)

apart : (b c : ℕ) → ((binding b).scope ≡ (binding c).scope → (binding b).name ≢ (binding c).name) → is_for (binding c).scope (binding c).name (binding b) ≡ false
apart b c n = is_false _ (λ e. let q = (for-tells b c).holds e in n q.0 q.1)

once-of : (n : ℕ) (l : List ℕ) → n ≤ length l → Distinct l n → BoundOnce (bindings_of l n)
once-of zero l le h = tt
once-of (suc n) [] le h = absurd (omega arith)
once-of (suc n) (b ∷ l) le h = (
  each_of (λ x. is_for (binding b).scope (binding b).name x ≡ false) n l (omega arith) (λ j lt. apart (get_or l j 0) b (h 0 (suc j) (omega arith) (omega arith))),
  once-of n l (omega arith) (λ j k jk kn. h (suc j) (suc k) (omega arith) (omega arith)),
)

of-once : (n : ℕ) (l : List ℕ) → n ≤ length l → BoundOnce (bindings_of l n) → Distinct l n
of-once zero l le h j k jk kn s q = absurd (omega arith)
of-once (suc n) [] le h j k jk kn s q = absurd (omega arith)
of-once (suc n) (b ∷ l) le h j zero jk kn s q = absurd (omega arith)
of-once (suc n) (b ∷ l) le h zero (suc k) jk kn s q =
    clash ((for-tells (get_or l k 0) b).shows (s, q)) (of-each (λ x. is_for (binding b).scope (binding b).name x ≡ false) n l (omega arith) h.0 k (omega arith))
of-once (suc n) (b ∷ l) le h (suc j) (suc k) jk kn s q = of-once n l (omega arith) h.1 j k (omega arith) (omega arith) s q

module _ (bindings : List ℕ) (live : List Bool) (count : ℕ) (len : length bindings ≡ BINDINGS) where
  -- all but that no two are alike
  abbrev pub Listed : Type 0
  Listed = (count ≤ BINDINGS) × ((j : ℕ) → count ≤ j → get_or bindings j 0 ≡ 0) × Below count (LiveAt bindings live)

  pub named-of : Listed → Distinct bindings count → Named bindings live count
  named-of h d =
      record {
        most = h.0;
        alive = each_of (λ b. get_or live b.scope false ≡ true) count bindings (omega (arith, h.0)) h.2;
        once = once-of count bindings (omega (arith, h.0)) d;
        clear = h.1;
      }

  pub listed-of : Named bindings live count → Listed
  listed-of s = (s.most, s.clear, of-each (λ b. get_or live b.scope false ≡ true) count bindings (omega (arith, s.most)) s.alive)

  pub named-distinct : Named bindings live count → Distinct bindings count
  named-distinct s = of-once count bindings (omega (arith, s.most)) s.once
