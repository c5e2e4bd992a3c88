-- The steps of a script with needs, W-201 of document 02: what the frames 20 to 25, and 0c, 0d, 0e beside needs, promise. Assumes nothing.
use Rattle.std.specs.Prelude.{◌≡◌, true, List, ℕ, length, Result}
use Rattle.std.specs.Result.{is_err}
use Rattle.rules.specs.declared.refusal.Refusal.{Refusal}
use Rattle.rules.specs.Sizes.{base, HANDLES, NEEDS, SLOTS}
use Rattle.rules.specs.Slots.{Placement}
use Rattle.rules.specs.Frames as rules
use Rattle.rules.proofs.Sound.{NeedsSound}
use Rattle.scopes.specs.View.{view}
use Rattle.scopes.specs.Steps.{Whole}
use Rattle.scopes.specs.declared.Scopes.{Scopes}
use Rattle.handles.specs.Handles.{handle_at}
use Rattle.handles.specs.NeedTable.{remembered_at, state_with}
use Rattle.handles.specs.declared.Handles.{Handles}
use Rattle.handles.specs.declared.remembered.Needs.{Needs}
use Rattle.frames.specs.Steps.{nowhere, stepped, Few, Stands, RefusedStays}
use Rattle.frames.specs.declared.steps.Adds.{Adds}
use Rattle.frames.specs.declared.steps.Script.{Script}

-- a script, of its parts
abbrev pub script : Scopes → Handles → Needs → Script
script s handles t = record { scopes = s; handles = handles; needs = t }

-- as the rules see it
abbrev pub standing : Script → rules.State
standing p = state_with (view p.scopes) p.handles p.needs

-- where a script with needs stands
pub record StandsWith (p : Script) : Type 0 where
  pub stands : Stands p.scopes p.handles
  pub needing : NeedsSound base.needs (handle_at (view p.scopes).slots.occupied p.handles) p.handles.handed (remembered_at p.needs) p.needs.needed
  pub needs-length : length p.needs.table ≡ NEEDS
  pub remembers-length : length p.needs.remembers ≡ NEEDS

-- The frame f, of opcode o, leads from the script p to p', and its answer is r, as the rules say where slots go by `place`. A refused step
-- leaves it.
pub record WorksWith (place : Placement) (f : rules.Frame) (o : ℕ) (p : Script) (r : Result Adds Refusal) (p' : Script) (drained : List ℕ) : Type 0 where
  pub does : rules.step base place (standing p) f ≡ stepped o r (standing p') drained
  pub stays : RefusedStays p.scopes p.handles r p'.scopes p'.handles
  pub needs_stay : is_err r ≡ true → p'.needs ≡ p.needs
  pub whole : Whole p'.scopes
  pub few : Few r
  pub handles-length : length p'.handles.table ≡ HANDLES
  pub holders-length : length p'.handles.holders ≡ SLOTS
  pub needs-length : length p'.needs.table ≡ NEEDS
  pub remembers-length : length p'.needs.remembers ≡ NEEDS

-- the frame f leads there, where slots go by `place`, whatever the table of drained slots has
abbrev pub LeadsWithBy : Placement → rules.Frame → ℕ → Script → Result Adds Refusal → Script → Type 0
LeadsWithBy place f o p r p' = (drained : List ℕ) → WorksWith place f o p r p' drained

-- .. by a frame that asks for no slot
abbrev pub LeadsWith : rules.Frame → ℕ → Script → Result Adds Refusal → Script → Type 0
LeadsWith f o p r p' = LeadsWithBy nowhere f o p r p'

-- .. of a script that stands where the rules' can
abbrev pub LeadsFrom : rules.Frame → ℕ → Script → Result Adds Refusal → Script → Type 0
LeadsFrom f o p r p' = StandsWith p → LeadsWith f o p r p'
