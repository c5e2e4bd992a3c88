-- Whether a kind's slot goes back: of a sound state the rules' answer. Assumes nothing.
use mathlib.Core.Path.{◌≡◌, refl, sym, ap, ◌∙◌}
use mathlib.Core.Bool.{Bool, false, ◌&&◌}
use Prim.Native.Nat.{ℕ, ◌≤◌}
use native.Mathlib.Omega.{arith}
use lib.Dec.{eqb, ltb}
use lib.ListN.{get_or}
use borrow.Author.Tests.{lt-ltb, le-ltb}
use Rattle.rules.specs.Sizes.{SCOPES}
use Rattle.rules.specs.Needs as need
use Rattle.rules.proofs.Tables.{by_eqb}
use Rattle.scopes.specs.View.{view, id_of}
use Rattle.scopes.specs.Sound.{Sound}
use Rattle.scopes.proofs.Finds.{no_top, Topped, topped}
use Rattle.scopes.specs.declared.Scopes as state
use Rattle.needs.specs.Kinds.{kind_of}
use Rattle.needs.specs.Inner.{back_from}
use Rattle.needs.specs.declared.AddressKind.{AddressKind}
use Rattle.needs.specs.declared.AddressKind.TheVariants as kind

top_far : (t i : ℕ) (b : Bool) → SCOPES ≤ t → (ltb t SCOPES && eqb t i && b) ≡ false
top_far t i b h = rw (le-ltb t SCOPES h)

module _ (s : state.Scopes) (sound : Sound s) where
  -- the top's number is read off the arrays
  pub back_from_lem : (k : AddressKind) → back_from s.number s.top k ≡ need.goes_back (view s) (kind_of k)
  unfolding need.goes_back
  back_from_lem kind.Local = refl
  back_from_lem kind.Dangling = refl
  back_from_lem kind.Assigned = refl
  back_from_lem kind.Freed = refl
  back_from_lem (kind.Scope id) =
      by_eqb s.top SCOPES
      (λ e. top_far s.top id.index (eqb (get_or s.number s.top 0) id.number) (omega arith) ∙ sym (ap (need.is_scope (id_of id)) (no_top s e)))
      (λ n.
      let t : Topped s = topped s sound n in
      sym (ap (λ (b : Bool). b && eqb s.top id.index && eqb (get_or s.number s.top 0) id.number) (sym (lt-ltb s.top SCOPES t.small)))
      ∙ sym (ap (need.is_scope (id_of id)) t.is))
