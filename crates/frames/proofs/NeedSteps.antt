-- The steps that make a need, or ask one: 20, 21, 22, 24. Assumes nothing.
use mathlib.Core.Path.{◌≡◌, refl, sym, ap, ◌∙◌}
use mathlib.Core.Bool.{Bool, true, false, ◌||◌}
use mathlib.Core.List.{List, [], ◌∷◌}
use mathlib.Core.Logic.{⊎_elim}
use Prim.Native.Nat.{ℕ, ◌≤◌, ◌<◌}
use lib.ListN.{get_or}
use borrow.Author.Tests.{le-leb, lt-leb}
use Rattle.std.specs.Prelude.{Result, Ok, Err}
use Rattle.rules.specs.Notation.{Answer, given, refused, ◌>>=◌, refuse◌unless◌}
use Rattle.rules.specs.Refusals.{number_of, says}
use Rattle.rules.specs.declared.refusal.Refusal.{Refusal}
use Rattle.rules.specs.Sizes.{base}
use Rattle.rules.specs.Slots.{Placement}
use Rattle.rules.specs.Scopes as rule
use Rattle.rules.specs.Scopes.{by_number}
use Rattle.rules.specs.Needs as need
use Rattle.rules.specs.Needs.{defer, at, assigned}
use Rattle.rules.specs.Frames.{Frame, new_defer, new_assigned, new_ignore, output_need, Remembered, is_gone, lost, output_shown, State, add_need, shows, one_line, step}
use Rattle.rules.proofs.Chains.{unless-some, unless-none, when_true, when_false}
use Rattle.rules.proofs.Tells.{clash, or-second}
use Rattle.scopes.specs.View.{view, id_of, replied}
use Rattle.scopes.specs.declared.ScopeId.{ScopeId}
use Rattle.needs.specs.Kinds.{need_of}
use Rattle.needs.specs.Answers.{output_of}
use Rattle.needs.specs.declared.Output.{Output}
use Rattle.needs.specs.declared.Output.TheVariants as output
use Rattle.needs.specs.declared.Need.{Need as Need'}
use Rattle.handles.specs.Handles.{Knows, KnownAs}
use Rattle.handles.specs.NeedTable.{need_in, state_with, KnowsNeed, AddsNeed}
use Rattle.handles.specs.declared.Handle.{Handle as Known}
use Rattle.handles.specs.declared.remembered.Needs.{Needs}
use Rattle.handles.specs.declared.remembered.NeedNumber.{NeedNumber}
use Rattle.frames.specs.Steps.{nowhere, stepped, Few}
use Rattle.frames.specs.Needing.{script, standing, StandsWith, WorksWith}
use Rattle.frames.specs.declared.steps.Script.{Script}
use Rattle.frames.specs.declared.steps.Adds.{Adds}
use Rattle.frames.specs.declared.steps.Adds.TheVariants.{Slot, NoSlot, Number}
use Rattle.frames.proofs.Told.{adding, few-adding}
use Rattle.frames.proofs.Moving.{numbered-some, numbered-none}
use Rattle.frames.proofs.Handling.{is-unknown, is_known}
use Rattle.frames.proofs.Beside.{refused-with}

-- what 24 shows
abbrev pub shown_as : Output → Adds
shown_as (output.Keep a) = Slot a
shown_as output.Discard = NoSlot

shown_few : (a : Output) → Few (Ok (shown_as a))
shown_few (output.Keep a) = tt
shown_few output.Discard = tt

module _ {p : Script} (stands : StandsWith p) where
  abbrev here : State
  here = standing p

  -- ---- a step that only makes a need, or is refused

  module _ (f : Frame) (o : ℕ) (y : Remembered) (e : step base nowhere here f ≡ (add_need base y here >>= λ u. one_line (shows o (p.needs.needed ∷ [])) u)) where
    pub made-works : (k : NeedNumber) {t : Needs} → AddsNeed y p.needs (Ok k) t → (drained : List ℕ) → WorksWith nowhere f o p (Ok (Number k.0)) (script p.scopes p.handles t) drained
    unfolding ◌>>=◌
    made-works k {t} a drained = record {
      does = e ∙ ap (λ (m : Answer State). m >>= λ u. one_line (shows o (p.needs.needed ∷ [])) u) (a.does (view p.scopes) p.handles) ∙ λ i. one_line (shows o (sym a.numbered i ∷ [])) (state_with (view p.scopes) p.handles t);
      stays = λ q. clash q refl;
      needs_stay = λ q. clash q refl;
      whole = stands.stands.whole;
      few = tt;
      handles-length = stands.stands.handles-length;
      holders-length = stands.stands.holders-length;
      needs-length = a.needs-length;
      remembers-length = a.remembers-length;
    }

    pub full-works : (x : Refusal) {t : Needs} → AddsNeed y p.needs (Err x) t → (drained : List ℕ) → WorksWith nowhere f o p (Err x) (script p.scopes p.handles t) drained
    unfolding ◌>>=◌
    full-works x {t} a drained = record {
      does = e ∙ ap (λ (m : Answer State). m >>= λ u. one_line (shows o (p.needs.needed ∷ [])) u) (a.does (view p.scopes) p.handles);
      stays = λ _. (refl, refl);
      needs_stay = a.stays;
      whole = stands.stands.whole;
      few = tt;
      handles-length = stands.stands.handles-length;
      holders-length = stands.stands.holders-length;
      needs-length = a.needs-length;
      remembers-length = a.remembers-length;
    }

  -- ---- 20, of a number that the code has as m

  module _ (n : ℕ) {m : ℕ} (same : m ≡ n) where
    pub defer-4 : (e : Refusal) → refused (number_of e) ≡ replied rule.id_of (refuse 4 unless (by_number base (view p.scopes) m)) → (drained : List ℕ) → WorksWith nowhere (new_defer n) 0x20 p (Err e) p drained
    unfolding step
    defer-4 e is drained =
        let z = numbered-none p.scopes m (Err e) is e refl in
        refused-with stands (new_defer n) 0x20 e (unless-none 4 _ (ap (by_number base (view p.scopes)) (sym same) ∙ z.0) ∙ ap refused (sym z.1)) drained

    pub defer-as : (id : ScopeId) → given (id_of id) ≡ replied rule.id_of (refuse 4 unless (by_number base (view p.scopes) m)) → (b : ℕ) → need_in b ≡ defer (id_of id)
        → step base nowhere here (new_defer n) ≡ (add_need base (record { need = need_in b; handle = 0 }) here >>= λ u. one_line (shows 0x20 (p.needs.needed ∷ [])) u)
    unfolding step
    defer-as id is b q =
        let k = numbered-some p.scopes m (Ok id) is id refl in
        unless-some 4 _ (ap (by_number base (view p.scopes)) (sym same) ∙ k.1.0)
        ∙ λ t. add_need base (record { need = (ap defer (sym k.1.1) ∙ sym q) t; handle = 0 }) here >>= λ u. one_line (shows 0x20 (p.needs.needed ∷ [])) u

  -- ---- 21

  module _ (h : ℕ) where
    pub assigned-13 : (e : Refusal) → Knows p.handles h (Err e) → (drained : List ℕ) → WorksWith nowhere (new_assigned h) 0x21 p (Err e) p drained
    unfolding step
    assigned-13 e k drained = refused-with stands (new_assigned h) 0x21 e (when_true 13 _ (is-unknown here h k.0) ∙ ap (λ (x : Refusal). refused (number_of x)) (sym k.1)) drained

    pub assigned-as : (x : Known) → KnownAs p.handles h x → (b : ℕ) → need_in b ≡ at (record { slot = x.address.slot.0; kind = assigned })
        → step base nowhere here (new_assigned h) ≡ (add_need base (record { need = need_in b; handle = h }) here >>= λ u. one_line (shows 0x21 (p.needs.needed ∷ [])) u)
    unfolding step
    assigned-as x k b q =
        when_false 13 _ (is_known here h k.0)
        ∙ λ t. add_need base (record { need = ((λ i. at (record { slot = k.1.slot i; kind = assigned })) ∙ sym q) t; handle = h }) here >>= λ u. one_line (shows 0x21 (p.needs.needed ∷ [])) u

  -- ---- 22

  pub ignore-as : step base nowhere here new_ignore ≡ (add_need base (record { need = need.ignore; handle = 0 }) here >>= λ u. one_line (shows 0x22 (p.needs.needed ∷ [])) u)
  unfolding step
  ignore-as = refl

  -- ---- 21 of a need that isn't there any more, or never was

  module _ (n : ℕ) where
    lost-unknown : p.needs.needed ≤ n → lost here n ≡ true
    unfolding lost
    lost-unknown l = ap (λ (b : Bool). b || is_gone (here.needs n).need) (le-leb p.needs.needed n l)

    lost-freed : is_gone (need_in (get_or p.needs.table n 0)) ≡ true → lost here n ≡ true
    unfolding lost
    lost-freed e = or-second _ _ e

    pub lost-one : (e : Refusal) → KnowsNeed p.needs n (Err e) → lost here n ≡ true
    lost-one e k = ⊎_elim lost-unknown lost-freed k.0

    pub not-lost : n < p.needs.needed → is_gone (need_in (get_or p.needs.table n 0)) ≡ false → lost here n ≡ false
    unfolding lost
    not-lost l e = rw (lt-leb p.needs.needed n l, e)

    pub there : (d : Need') → KnowsNeed p.needs n (Ok d) → lost here n ≡ false
    there d k = not-lost k.0 (ap is_gone (sym k.1) ∙ k.2)

    -- 23, 24, 25 of it
    pub need-21 : {place : Placement} (f : Frame) (o : ℕ) → (lost here n ≡ true → step base place here f ≡ refused 21) → (e : Refusal) → KnowsNeed p.needs n (Err e) → (drained : List ℕ) → WorksWith place f o p (Err e) p drained
    need-21 f o q e k drained = refused-with stands f o e (q (lost-one e k) ∙ ap (λ (x : Refusal). refused (number_of x)) (sym k.1)) drained

    -- ---- 24

    pub output-21 : (e : Refusal) → KnowsNeed p.needs n (Err e) → (drained : List ℕ) → WorksWith nowhere (output_need n) 0x24 p (Err e) p drained
    unfolding step
    output-21 = need-21 (output_need n) 0x24 (λ q. when_true 21 _ q)

    shows_it : (r : Result Output Refusal) (drained : List ℕ) → (says output_of r >>= λ o. one_line (shows 0x24 (output_shown o ∷ [])) here) ≡ stepped 0x24 (adding shown_as r) here drained
    unfolding ◌>>=◌
    shows_it (Ok (output.Keep a)) drained = refl
    shows_it (Ok output.Discard) drained = refl
    shows_it (Err x) drained = refl

    module _ (d : Need') (k : KnowsNeed p.needs n (Ok d)) where
      output-as : {a : Answer need.Output} → a ≡ need.output_of (need_of d) → step base nowhere here (output_need n) ≡ (a >>= λ o. one_line (shows 0x24 (output_shown o ∷ [])) here)
      unfolding step
      output-as e = when_false 21 _ (there d k) ∙ λ t. (ap need.output_of (sym k.1) ∙ sym e) t >>= λ o. one_line (shows 0x24 (output_shown o ∷ [])) here

      pub output-works : (r : Result Output Refusal) → says output_of r ≡ need.output_of (need_of d) → (drained : List ℕ) → WorksWith nowhere (output_need n) 0x24 p (adding shown_as r) p drained
      output-works r e drained = record {
        does = output-as e ∙ shows_it r drained;
        stays = λ _. (refl, refl);
        needs_stay = λ _. refl;
        whole = stands.stands.whole;
        few = few-adding shown_as shown_few r;
        handles-length = stands.stands.handles-length;
        holders-length = stands.stands.holders-length;
        needs-length = stands.needs-length;
        remembers-length = stands.remembers-length;
      }
