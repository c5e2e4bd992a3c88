-- What a call leaves where the rule gives something, and which scope is the top. Assumes nothing.
use mathlib.Core.Path.{◌≡◌, refl, sym, ap, subst, ◌∙◌}
use mathlib.Core.Bool.{true}
use mathlib.Core.Option.{some}
use Prim.Native.Nat.{ℕ}
use lib.ListN.{length}
use Rattle.rules.specs.Notation.{Answer}
use Rattle.rules.specs.Sizes.{base, BINDINGS, SCOPES}
use Rattle.rules.specs.Scopes as rule
use Rattle.rules.specs.Sound.{sound_slots}
use Rattle.rules.proofs.Tells.{tells-yes}
use Rattle.rules.proofs.Lockstep.{Also}
use Rattle.scopes.specs.View.{view, Seen, told, told_only}
use Rattle.scopes.specs.Sound.{Sound}
use Rattle.scopes.specs.declared.Scopes.{Scopes}
use Rattle.soundness.proofs.Places.{slots-tells}
use Rattle.soundness.proofs.Agrees.{tells_both}
use Rattle.allocator.specs.Entries.{Checked, turned, taken}

pub top-is : (c : rule.Scopes) (i : ℕ) (k : rule.Scope) → c.top ≡ some i → c.live i ≡ some k → rule.top_scope c ≡ some (record { index = i; scope = k })
unfolding rule.top_scope
top-is c i k e f = rw (e, f, rule.top_scope)

pub slots-sound : (s : Scopes) → Sound s → sound_slots base.segments (view s).slots ≡ true
slots-sound s h = (slots-tells s.halves s.segments s.head _ refl).shows h.slotted

-- ---- operations of `scopes`

module _ {B : Type 0} (P : rule.Scopes → Type 0) (c : rule.Scopes) (x : Seen B) where
  pub next : {A : Type 0} {m : Answer (A × rule.Scopes)} (f : A → B) → x ≡ told f c m → Also (λ r. P r.1) m → P x.next
  next f e g = subst P (sym (ap (λ (y : Seen B). y.next) (e ∙ ap (told f c) g.is))) g.so

pub next-only : (P : rule.Scopes → Type 0) (c : rule.Scopes) (x : Seen (Unit {0})) {m : Answer rule.Scopes} → x ≡ told_only c m → Also P m → P x.next
next-only P c x e g = subst P (sym (ap (λ (y : Seen (Unit {0})). y.next) (e ∙ ap (told_only c) g.is))) g.so

-- ---- entries of `allocator`

-- one that is handed a sound state takes it
pub enters : {R : Type 0} (s : Scopes) (refusal : R) (Gives : R → Type 0) (r : R) → length s.live ≡ SCOPES → length s.bindings ≡ BINDINGS → Sound s → Checked s refusal Gives r → Gives r
enters s refusal Gives r l b h (turned n e) = absurd (n ((tells_both s l b true (tells-yes h)).holds refl))
enters s refusal Gives r l b h (taken g y) = y

pub gave : {A : Type 0} {R : A × rule.Scopes → Type 0} {m : Answer (A × rule.Scopes)} (c : rule.Scopes) (x : Seen A) → x ≡ told (λ a. a) c m → Also R m → Also (λ a. R (a, x.next)) x.says
gave {A} {R} c x e g =
    let q = e ∙ ap (told (λ a. a) c) g.is in
    record { it = g.it.0; is = ap (λ (y : Seen A). y.says) q; so = subst (λ (n : rule.Scopes). R (g.it.0, n)) (sym (ap (λ (y : Seen A). y.next) q)) g.so }
