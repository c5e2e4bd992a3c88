-- A live scope is changed to x, which has its parent and its number: the top, the parents and the bindings stay sound. Assumes nothing.
use mathlib.Core.Path.{◌≡◌}
use mathlib.Core.List.{List}
use mathlib.Core.Option.{Option, some}
use Prim.Native.Nat.{ℕ}
use Rattle.rules.specs.Notation.{is_some, put}
use Rattle.rules.specs.Scopes.{Scope, Binding, Found}
use Rattle.rules.proofs.Sound.{TopSound, Rooted, BindingsSound}
use Rattle.rules.proofs.Naming.{Here}
use Rattle.rules.proofs.Parents.{live_alike, top-alike, changed-alike, changed-rooted}
use Rattle.rules.proofs.Names.{every-as}

module _ {n : ℕ} {live : ℕ → Option Scope} (k : Found) (x : Scope) (h : Here n live k) where
  abbrev pub after : ℕ → Option Scope
  after = put live k.index (some x)

  alike : (j : ℕ) → is_some (after j) ≡ is_some (live j)
  alike = changed-alike n live k.index k.scope x h.is

  pub after-top : {top : Option ℕ} → TopSound n live top → TopSound n after top
  after-top {top = top} t = top-alike n live after alike top t

  pub after-rooted : x.parent ≡ k.scope.parent → x.number ≡ k.scope.number → Rooted n live → Rooted n after
  after-rooted parent number r = changed-rooted n live k.index k.scope x h.is parent number r

  pub after-bindings : {most : ℕ} {bindings : List Binding} → BindingsSound n most live bindings → BindingsSound n most after bindings
  after-bindings b = record { once = b.once; of_live = every-as (λ a. live_alike n live after alike a.scope) b.of_live; few = b.few }
