-- The needs of a script as the code keeps them: two numbers for each need, and how many there are. Assumes nothing.
use Rattle.std.specs.Prelude.{◌≡◌, ◌⊎◌, Bool, true, false, ℕ, ◌/◌, ◌%◌, ◌≤◌, ◌<◌, eqb, length, get_or, set, replicate, Result, Ok, Err, IfOk}
use Rattle.std.specs.Result.{is_err}
use Rattle.rules.specs.Sizes.{base, NEEDS}
use Rattle.rules.specs.Notation.{is_some, first}
use Rattle.rules.specs.Scopes.{Scopes}
use Rattle.rules.specs.Needs.{assigned, scope, Need, defer, at, ignore, freed_need}
use Rattle.rules.specs.Frames.{Remembered, keeps, is_gone, add_need, State}
use Rattle.rules.specs.Refusals.{says}
use Rattle.rules.specs.declared.refusal.Refusal.{Refusal}
use Rattle.rules.specs.declared.refusal.Refusal.TheVariants.{NeedUnknown}
use Rattle.needs.specs.Kinds.{need_of}
use Rattle.needs.specs.declared.Need.{Need as Need'}
use Rattle.handles.specs.declared.Handles.{Handles}
use Rattle.handles.specs.declared.remembered.Needs.{Needs}
use Rattle.handles.specs.declared.remembered.NeedNumber.{NeedNumber}
use Rattle.handles.specs.Handles.{slot_in, id_in, handle_at, KIND_PART, KINDS}

-- A need in one number, laid out as a handle's is: code 3 an Assigned address, 4 a Scope address, 5 Defer, 6 Ignore; any other is Freed.
abbrev pub code_in : ℕ → ℕ
code_in b = b / KIND_PART % KINDS

abbrev pub need_by : Bool → Bool → Bool → Bool → ℕ → Need
need_by true _ _ _ b = defer (id_in b)
need_by false true _ _ b = ignore
need_by false false true _ b = at (record { slot = slot_in b; kind = assigned })
need_by false false false true b = at (record { slot = slot_in b; kind = scope (id_in b) })
need_by false false false false b = freed_need

abbrev pub need_in : ℕ → Need
need_in b = need_by (eqb (code_in b) 5) (eqb (code_in b) 6) (eqb (code_in b) 3) (eqb (code_in b) 4) b

-- the need n, and the handle that it remembers
abbrev pub remembered_at : Needs → ℕ → Remembered
remembered_at t n = record { need = need_in (get_or t.table n 0); handle = get_or t.remembers n 0 }

-- whether h belongs to a need
unfoldable pub belongs_in : Needs → ℕ → Bool
belongs_in t h = is_some (first (λ n. keeps (remembered_at t n) h) 0 t.needed)

-- where a script with needs stands
abbrev pub state_with : Scopes → Handles → Needs → State
state_with c handles t =
    record {
      scopes = c;
      handles = handle_at c.slots.occupied handles;
      handed = handles.handed;
      needs = remembered_at t;
      needed = t.needed;
    }

-- where no need was made
abbrev pub fresh_needs : Needs
fresh_needs = record { table = replicate NEEDS 0; remembers = replicate NEEDS 0; needed = 0 }

-- ---- of the need n: it was made, and is d now; or it was never made

abbrev pub MadeNeed : Needs → ℕ → Result Need' Refusal → Type 0
MadeNeed t n (Ok d) = (n < t.needed) × (need_of d ≡ need_in (get_or t.table n 0))
MadeNeed t n (Err e) = (t.needed ≤ n) × (e ≡ NeedUnknown)

-- ---- it is known as d; or it was never made, or is freed

abbrev pub KnowsNeed : Needs → ℕ → Result Need' Refusal → Type 0
KnowsNeed t n (Ok d) = (n < t.needed) × (need_of d ≡ need_in (get_or t.table n 0)) × (is_gone (need_of d) ≡ false)
KnowsNeed t n (Err e) = ((t.needed ≤ n) ⊎ (is_gone (need_in (get_or t.table n 0)) ≡ true)) × (e ≡ NeedUnknown)

-- it is of number b now, and remembers h
abbrev pub with_need : Needs → (n b h : ℕ) → Needs
with_need t n b h = record { table = set t.table n b; remembers = set t.remembers n h; needed = t.needed }

-- One more need, x, was asked for, whatever the scopes and handles are: its number is the next one, or it is refused, and the needs stay.
pub record AddsNeed (x : Remembered) (t : Needs) (r : Result NeedNumber Refusal) (t' : Needs) : Type 0 where
  pub does : (c : Scopes) (handles : Handles) → add_need base x (state_with c handles t) ≡ says (λ n. state_with c handles t') r
  pub numbered : IfOk r (λ n. n.0 ≡ t.needed)
  pub stays : is_err r ≡ true → t' ≡ t
  pub needs-length : length t'.table ≡ NEEDS
  pub remembers-length : length t'.remembers ≡ NEEDS
