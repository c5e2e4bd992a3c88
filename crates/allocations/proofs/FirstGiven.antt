-- A run that is allocated: an empty one has no first address. Assumes nothing.
use mathlib.Core.Path.{◌≡◌, ap, ◌∙◌}
use mathlib.Core.Option.{Option, none, some}
use Prim.Native.Nat.{ℕ}
use Rattle.rules.specs.Notation.{Answer, given, refused, ◌>>=◌, refuse◌unless◌}
use Rattle.rules.specs.Slots.{Placement}
use Rattle.rules.specs.Scopes.{Scopes, Found, top_scope, alloc_run}
use Rattle.scopes.specs.View.{view, Seen, told}
use Rattle.scopes.specs.Steps.{Becomes}
use Rattle.scopes.specs.declared.Scopes as state

abbrev no_first : Scopes → Found → Answer (Option ℕ × Scopes)
no_first c t = given (none, c)

first-given : (c : Scopes) (x : Seen (Option ℕ)) (a : ℕ) (o : Option Found) → x.says ≡ given (some a) → x ≡ told (λ b. b) c ((refuse 3 unless o) >>= no_first c) → ⊥
unfolding ◌>>=◌ refuse◌unless◌
first-given c x a none p e = let s : x.says ≡ refused 3 = ap (λ (y : Seen (Option ℕ)). y.says) e in cc
first-given c x a (some t) p e = let s : x.says ≡ given none = ap (λ (y : Seen (Option ℕ)). y.says) e in cc

pub no-first : {s t : state.Scopes} (place : Placement) (n a : ℕ) → Becomes s t (given (some a)) (λ c. told (λ b. b) c (alloc_run place n c)) → n ≡ 0 → ⊥
unfolding alloc_run
no-first {s} {t} place n a h z =
    first-given (view s) _ a (top_scope (view s)) (λ i. given (some a)) (h.is ∙ ap (λ (m : ℕ). told (λ b. b) (view s) (alloc_run place m (view s))) z)
