-- Which frame of the rules an opcode and two operands are, and what holds of the step of the frame that was read. Assumes nothing.
use mathlib.Core.Path.{◌≡◌, refl, sym, ap, subst, ◌∙◌}
use mathlib.Core.Option.{some}
use mathlib.Core.Bool.{true}
use mathlib.Core.List.{List}
use Prim.Native.Nat.{ℕ, ◌≤◌}
use native.Mathlib.Omega.{arith}
use mathlib.Core.Logic.{◌⊎◌, inl, inr}
use Rattle.std.specs.Prelude.{Result}
use Rattle.rules.specs.declared.refusal.Refusal.{Refusal}
use Rattle.rules.specs.Slots.{Placement}
use Rattle.rules.specs.Frames.{Frame, child, pop, dangle, restore, pop_last, alloc, alloc_in, linear, define, get, take_from, free, free_quietly, forget, drain, write, constant, next_sample, read, read_name, new_defer, new_assigned, new_ignore, alloc_need, output_need, drop_need}
use Rattle.rules.proofs.Apart.{plain}
use Rattle.rules.proofs.Placeless.{asks_no_slot, any_place}
use Rattle.text.specs.Lines.{code_of, frame_of}
use Rattle.text.proofs.Rows.{opcode-told}
use Rattle.text.specs.declared.lines.Frame.{Frame as Code}
use Rattle.scopes.specs.declared.Scopes.{Scopes}
use Rattle.handles.specs.declared.Handles.{Handles}
use Rattle.frames.specs.Steps.{nowhere, Works}
use Rattle.frames.specs.Needing.{script, StandsWith, WorksWith}
use Rattle.frames.specs.declared.steps.Script.{Script}
use Rattle.frames.specs.declared.steps.Adds.{Adds}
use Rattle.frames.proofs.Beside.{plain-works}
use Rattle.dispatch.specs.Dispatched.{StepsOn}

-- ---- a frame that asks for no slot leads where it leads by any placement

pub works-any : {place : Placement} {s s' : Scopes} {handles handles' : Handles} {r : Result Adds Refusal} {drained : List ℕ} {o : ℕ} (g : Frame) → asks_no_slot g ≡ true
    → Works nowhere g o s handles r s' handles' drained → Works place g o s handles r s' handles' drained
works-any g slotless w = record {
  does = any_place _ _ _ _ g slotless ∙ w.does;
  stays = w.stays;
  whole = w.whole;
  few = w.few;
  handles-length = w.handles-length;
  holders-length = w.holders-length;
}

pub with-any : {place : Placement} {p p' : Script} {r : Result Adds Refusal} {drained : List ℕ} {o : ℕ} (g : Frame) → asks_no_slot g ≡ true → WorksWith nowhere g o p r p' drained
    → WorksWith place g o p r p' drained
with-any g slotless w = record {
  does = any_place _ _ _ _ g slotless ∙ w.does;
  stays = w.stays;
  needs_stay = w.needs_stay;
  whole = w.whole;
  few = w.few;
  handles-length = w.handles-length;
  holders-length = w.holders-length;
  needs-length = w.needs-length;
  remembers-length = w.remembers-length;
}

-- ---- f was read, and its opcode is k: it is the frame h

module _ (f : Code) (k : ℕ) (h : Frame) (is : f.opcode ≡ k) (told : frame_of (record { opcode = k; a = f.a; b = f.b }) ≡ some h) where
  -- what holds of h and k, holds of the frame that was read
  told-as : (P : Frame → ℕ → Type 0) → P h k → (g : Frame) → frame_of f ≡ some g → P g f.opcode
  told-as P x g e =
      let known : frame_of f ≡ some h = ap (λ (o : ℕ). frame_of (record { opcode = o; a = f.a; b = f.b })) is ∙ told in
      let same : h ≡ g = cc in
      subst (λ (o : ℕ). P g o) (sym is) (subst (λ (y : Frame). P y k) same x)

  -- a frame that looks at needs, and asks for a slot or for none
  pub by-place : {place : Placement} {p p' : Script} {r : Result Adds Refusal} {drained : List ℕ} → WorksWith place h k p r p' drained → StepsOn place f p r p' drained
  by-place {place} {p} {p'} {r} {drained} w = told-as (λ g o. WorksWith place g o p r p' drained) w

  pub with-needs : {place : Placement} {p p' : Script} {r : Result Adds Refusal} {drained : List ℕ} → asks_no_slot h ≡ true → WorksWith nowhere h k p r p' drained → StepsOn place f p r p' drained
  with-needs slotless w = by-place (with-any h slotless w)

  -- a frame that doesn't look at needs
  module _ {p : Script} (stands : StandsWith p) (apart : plain h ≡ true) where
    pub plain-by-place : {place : Placement} {r : Result Adds Refusal} {s' : Scopes} {handles' : Handles} {drained : List ℕ} → Works place h k p.scopes p.handles r s' handles' drained → StepsOn place f p r (script s' handles' p.needs) drained
    plain-by-place w = by-place (plain-works stands h k apart w)

    pub plainly : {place : Placement} {r : Result Adds Refusal} {s' : Scopes} {handles' : Handles} {drained : List ℕ} → asks_no_slot h ≡ true → Works nowhere h k p.scopes p.handles r s' handles' drained → StepsOn place f p r (script s' handles' p.needs) drained
    plainly slotless w = with-needs slotless (plain-works stands h k apart w)

-- ---- the opcodes that frames have: 01 to 12, 14, and 20 to 25

abbrev pub Opcode : ℕ → Type 0
Opcode o = ((1 ≤ o) × (o ≤ 18)) ⊎ ((o ≡ 20) ⊎ ((32 ≤ o) × (o ≤ 37)))

pub has-opcode : (f : Code) (g : Frame) → frame_of f ≡ some g → Opcode f.opcode
has-opcode f g e = subst Opcode (opcode-told f g e) (go g)
  where
    first : (o : ℕ) → 1 ≤ o → o ≤ 18 → Opcode o
    first o a b = inl (a, b)

    last : (o : ℕ) → 32 ≤ o → o ≤ 37 → Opcode o
    last o a b = inr (inr (a, b))

    go : (g : Frame) → Opcode (code_of g).opcode
    go child = first 1 (omega arith) (omega arith)
    go (pop n) = first 2 (omega arith) (omega arith)
    go (dangle n) = first 3 (omega arith) (omega arith)
    go (restore n) = first 4 (omega arith) (omega arith)
    go pop_last = first 5 (omega arith) (omega arith)
    go alloc = first 6 (omega arith) (omega arith)
    go (alloc_in n) = first 7 (omega arith) (omega arith)
    go (linear n) = first 8 (omega arith) (omega arith)
    go (define name h) = first 9 (omega arith) (omega arith)
    go (get name) = first 10 (omega arith) (omega arith)
    go (take_from name) = first 11 (omega arith) (omega arith)
    go (free h) = first 12 (omega arith) (omega arith)
    go (free_quietly h) = first 13 (omega arith) (omega arith)
    go (forget h) = first 14 (omega arith) (omega arith)
    go drain = first 15 (omega arith) (omega arith)
    go (write h (constant v)) = first 16 (omega arith) (omega arith)
    go (write h next_sample) = inr (inl refl)
    go (read h) = first 17 (omega arith) (omega arith)
    go (read_name name) = first 18 (omega arith) (omega arith)
    go (new_defer n) = last 32 (omega arith) (omega arith)
    go (new_assigned h) = last 33 (omega arith) (omega arith)
    go new_ignore = last 34 (omega arith) (omega arith)
    go (alloc_need n) = last 35 (omega arith) (omega arith)
    go (output_need n) = last 36 (omega arith) (omega arith)
    go (drop_need n) = last 37 (omega arith) (omega arith)
