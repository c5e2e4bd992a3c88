-- A step beside needs: what is done over the scopes and the handles alone, then what becomes of the needs. 01 to 0b, 0f to 12 and 14, and 0c, 0d, 0e of
-- a handle that belongs to no need, leave them. Assumes nothing.
use mathlib.Core.Path.{◌≡◌, refl, ap, ◌∙◌}
use mathlib.Core.Bool.{Bool, true, false}
use mathlib.Core.List.{List}
use Prim.Native.Nat.{ℕ, ◌≤◌, ◌<◌}
use native.Mathlib.Omega.{arith}
use lib.ListN.{length}
use Rattle.std.specs.Prelude.{Result, Ok, Err}
use Rattle.std.specs.Result.{is_err}
use Rattle.rules.specs.Notation.{refused, first}
use Rattle.rules.specs.Refusals.{number_of}
use Rattle.rules.specs.declared.refusal.Refusal.{Refusal}
use Rattle.rules.specs.declared.refusal.Refusal.TheVariants.{HandleUnknown}
use Rattle.rules.specs.Sizes.{base, HANDLES, NEEDS, SLOTS, WORD}
use Rattle.rules.specs.Slots.{Placement}
use Rattle.rules.specs.Frames.{Frame, forget, Remembered, State, spent, belongs, barred, free_handle, Step, step}
use Rattle.rules.proofs.Chains.{when_true, refused-on}
use Rattle.rules.proofs.Apart.{plain, mapped, within, apart, apart-free, apart-quietly, apart-forget}
use Rattle.rules.proofs.Sound.{StateSound}
use Rattle.rules.proofs.Tells.{or-second}
use Rattle.scopes.specs.View.{view}
use Rattle.scopes.specs.Steps.{Whole}
use Rattle.scopes.specs.declared.Scopes.{Scopes}
use Rattle.handles.specs.Handles.{state_of}
use Rattle.handles.specs.declared.Handles.{Handles}
use Rattle.handles.specs.NeedTable.{remembered_at, belongs_in, state_with}
use Rattle.handles.specs.declared.remembered.Needs.{Needs}
use Rattle.frames.specs.Steps.{nowhere, stepped, freeing, free_code, Works, Comes}
use Rattle.frames.specs.Needing.{script, standing, StandsWith, WorksWith}
use Rattle.frames.specs.declared.steps.Script.{Script}
use Rattle.frames.specs.declared.steps.Adds.{Adds}
use Rattle.frames.proofs.Freeing.{chain}

-- the state is changed by g, and comes to u, unless the step was refused
stepped-as : (g : State → State) (o : ℕ) (r : Result Adds Refusal) (t u : State) (drained : List ℕ) → (is_err r ≡ false → g t ≡ u) → mapped (λ r. (r.0, g r.1)) (stepped o r t drained) ≡ stepped o r u drained
unfolding mapped
stepped-as g o (Ok a) t u drained e = ap (λ (x : State). stepped o (Ok a) x drained) (e refl)
stepped-as g o (Err n) t u drained e = refl

-- no more needs were made than the tables have
pub needed-few : {p : Script} → StandsWith p → p.needs.needed ≤ NEEDS
unfolding base
needed-few stands = stands.needing.few

module _ {p : Script} (stands : StandsWith p) where
  abbrev needs : ℕ → Remembered
  needs = remembered_at p.needs

  abbrev bare : State
  bare = state_of (view p.scopes) p.handles

  -- the needs become t'
  pub beside : {place : Placement} (f : Frame) (o : ℕ) {m : Step} (g : State → State) → step base place (standing p) f ≡ mapped (λ r. (r.0, g r.1)) m
      → {r : Result Adds Refusal} {s' : Scopes} {handles' : Handles} {drained : List ℕ} → Comes p.scopes p.handles m o r s' handles' drained
      → (t' : Needs) → (is_err r ≡ false → g (state_of (view s') handles') ≡ state_with (view s') handles' t') → (is_err r ≡ true → t' ≡ p.needs)
      → length t'.table ≡ NEEDS → length t'.remembers ≡ NEEDS → WorksWith place f o p r (script s' handles' t') drained
  beside f o g e {r} {s'} {handles'} {drained} w t' q k l l' = record {
    does = e ∙ ap (mapped (λ (x : _ × State). (x.0, g x.1))) w.does ∙ stepped-as g o r _ _ drained q;
    stays = w.stays;
    needs_stay = k;
    whole = w.whole;
    few = w.few;
    handles-length = w.handles-length;
    holders-length = w.holders-length;
    needs-length = l;
    remembers-length = l';
  }

  pub refused-with : {place : Placement} (f : Frame) (o : ℕ) (e : Refusal) → step base place (standing p) f ≡ refused (number_of e) → (drained : List ℕ) → WorksWith place f o p (Err e) p drained
  refused-with f o e q drained = record {
    does = q;
    stays = λ _. (refl, refl);
    needs_stay = λ _. refl;
    whole = stands.stands.whole;
    few = tt;
    handles-length = stands.stands.handles-length;
    holders-length = stands.stands.holders-length;
    needs-length = stands.needs-length;
    remembers-length = stands.remembers-length;
  }

  -- they stay as they were
  left : {place : Placement} (f : Frame) (o : ℕ) {r : Result Adds Refusal} {s' : Scopes} {handles' : Handles} {drained : List ℕ} → step base place (standing p) f ≡ mapped (λ r. (r.0, within needs p.needs.needed r.1)) (step base place bare f)
      → Works place f o p.scopes p.handles r s' handles' drained → WorksWith place f o p r (script s' handles' p.needs) drained
  left {place = place} f o e w =
      beside {place = place} f o (within needs p.needs.needed) e
      (record { does = w.does; stays = w.stays; whole = w.whole; few = w.few; handles-length = w.handles-length; holders-length = w.holders-length })
      p.needs (λ _. refl) (λ _. refl) stands.needs-length stands.remembers-length

  -- 01 to 0b, 0f to 12, 14
  pub plain-works : {place : Placement} (f : Frame) (o : ℕ) {r : Result Adds Refusal} {s' : Scopes} {handles' : Handles} {drained : List ℕ} → plain f ≡ true
      → Works place f o p.scopes p.handles r s' handles' drained → WorksWith place f o p r (script s' handles' p.needs) drained
  plain-works {place = place} f o q w = left f o (apart needs p.needs.needed base place bare f q) w

  -- 0c, 0d, 0e
  module _ (h : ℕ) where
    no-needs : belongs bare h ≡ false
    unfolding belongs first
    no-needs = refl

    belongs-is : belongs (standing p) h ≡ belongs_in p.needs h
    unfolding belongs belongs_in
    belongs-is = refl

    barred-by : belongs_in p.needs h ≡ true → barred (standing p) h ≡ true
    unfolding barred
    barred-by e = or-second (spent (standing p) h) (belongs (standing p) h) (belongs-is ∙ e)

    pub free-barred : (dangles : Bool) → belongs_in p.needs h ≡ true → (drained : List ℕ) → WorksWith nowhere (freeing dangles h) (free_code dangles) p (Err HandleUnknown) p drained
    unfolding free_handle
    free-barred dangles e drained = refused-with (freeing dangles h) (free_code dangles) HandleUnknown (chain dangles h (standing p) ∙ refused-on 13 _ (when_true 13 _ (barred-by e))) drained

    pub forget-barred : belongs_in p.needs h ≡ true → (drained : List ℕ) → WorksWith nowhere (forget h) 0x0e p (Err HandleUnknown) p drained
    unfolding step
    forget-barred e drained = refused-with (forget h) 0x0e HandleUnknown (when_true 13 _ (barred-by e)) drained

    module _ (free : belongs_in p.needs h ≡ false) {r : Result Adds Refusal} {s' : Scopes} {handles' : Handles} {drained : List ℕ} where
      pub freeing-works : (dangles : Bool) → Works nowhere (freeing dangles h) (free_code dangles) p.scopes p.handles r s' handles' drained
          → WorksWith nowhere (freeing dangles h) (free_code dangles) p r (script s' handles' p.needs) drained
      freeing-works true w = left _ _ (apart-free needs p.needs.needed base nowhere bare h (belongs-is ∙ free) no-needs) w
      freeing-works false w = left _ _ (apart-quietly needs p.needs.needed base nowhere bare h (belongs-is ∙ free) no-needs) w

      pub forget-works-with : Works nowhere (forget h) 0x0e p.scopes p.handles r s' handles' drained → WorksWith nowhere (forget h) 0x0e p r (script s' handles' p.needs) drained
      forget-works-with w = left (forget h) 0x0e (apart-forget needs p.needs.needed base nowhere bare h (belongs-is ∙ free) no-needs) w

-- ---- where a script stands, as a sound state

pub stands-sound : (p : Script) → StandsWith p → StateSound base (standing p)
stands-sound p w = record {
  scopes = w.stands.state.scopes;
  handles = w.stands.state.handles;
  agreeing = w.stands.state.agreeing;
  needing = w.needing;
}

pub sound-stands : (p : Script) → StateSound base (standing p) → Whole p.scopes → p.scopes.counter < WORD → length p.handles.table ≡ HANDLES → length p.handles.holders ≡ SLOTS → length p.needs.table ≡ NEEDS → length p.needs.remembers ≡ NEEDS
    → StandsWith p
sound-stands p ok whole counted hl ol nl rl = record {
  stands = record {
    whole = whole;
    state = record {
      scopes = ok.scopes;
      handles = ok.handles;
      agreeing = ok.agreeing;
      needing = record { few = omega arith; agree = λ n l. absurd (omega (arith, l)); apart = λ i j l _ _ _ _. absurd (omega (arith, l)) };
    };
    counted = counted;
    handles-length = hl;
    holders-length = ol;
  };
  needing = ok.needing;
  needs-length = nl;
  remembers-length = rl;
}
