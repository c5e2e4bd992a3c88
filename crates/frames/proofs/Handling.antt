-- One handle, known by its number in the table: whether it is spent, whether it is held, and what the table's handles are once its number
-- is another one. Assumes nothing.
use mathlib.Core.Path.{◌≡◌, refl, sym, ap, subst, ◌∙◌}
use mathlib.Core.Bool.{Bool, true, false, not, ◌&&◌, ◌||◌}
use mathlib.Core.List.{List, []}
use mathlib.Core.Logic.{◌⊎◌, ⊎_elim}
use Prim.Native.Nat.{ℕ, ◌≤◌, ◌<◌}
use native.Mathlib.Omega.{arith}
use lib.Dec.{eqb}
use lib.ListN.{length, get_or, length-set}
use borrow.Author.Tests.{le-leb, lt-leb}
use Rattle.std.specs.Prelude.{Ok, Err}
use Rattle.rules.specs.Notation.{refused, ◌▹◌, put, first}
use Rattle.rules.specs.Refusals.{number_of}
use Rattle.rules.specs.declared.refusal.Refusal.{Refusal}
use Rattle.rules.specs.Sizes.{base, HANDLES, SLOTS}
use Rattle.rules.specs.Scopes as rule
use Rattle.rules.specs.Needs.{Kind, Address, address, freed, allocated_kind, is_freed}
use Rattle.rules.specs.Frames.{no_need, State, kind≔, Frame, forget, Source, write, read, shows, stores, loads, one_line, unknown, spent, belongs, barred, set_handle, step}
use Rattle.rules.proofs.Chains.{when_true, when_false}
use Rattle.rules.proofs.Tells.{clash, or-second}
use Rattle.scopes.specs.View.{view}
use Rattle.scopes.specs.declared.Scopes.{Scopes}
use Rattle.needs.specs.Kinds.{kind_of, address_of}
use Rattle.handles.specs.Handles.{held_by, slot_in, kind_in, handle_at, state_of, Coded, freed_as, KnownAs, Knows, KnowsUnspent, SetsTo, with_number}
use Rattle.handles.specs.declared.Handles.{Handles}
use Rattle.handles.specs.declared.Handle.{Handle as Known}
use Rattle.handles.proofs.Changes.{recoding}
use Rattle.frames.specs.Steps.{nowhere, source_of, LoadsOf, Stands, Works}
use Rattle.frames.specs.declared.steps.Source.{Source as Kept}
use Rattle.frames.specs.declared.steps.Adds.TheVariants.{Nothing, Store, Load}
use Rattle.frames.proofs.Moving.{works-refused}

-- ---- 13

module _ (t : State) (h : ℕ) where
  pub spent-unknown : t.handed ≤ h → spent t h ≡ true
  unfolding spent unknown
  spent-unknown l = ap (λ (b : Bool). b || is_freed (t.handles h).kind) (le-leb t.handed h l)

  pub spent-freed : is_freed (t.handles h).kind ≡ true → spent t h ≡ true
  unfolding spent
  spent-freed e = or-second (unknown t h) (is_freed (t.handles h).kind) e

  pub unspent : h < t.handed → is_freed (t.handles h).kind ≡ false → spent t h ≡ false
  unfolding spent unknown
  unspent l e = ap (λ (b : Bool). b || is_freed (t.handles h).kind) (lt-leb t.handed h l) ∙ e

  pub barred-spent : spent t h ≡ true → barred t h ≡ true
  unfolding barred
  barred-spent e = ap (λ (b : Bool). b || belongs t h) e

  -- where there are no needs
  pub unbarred : t.needed ≡ 0 → spent t h ≡ false → barred t h ≡ false
  unfolding barred belongs first
  unbarred z e = rw (e, z)

  pub is-unknown : t.handed ≤ h → unknown t h ≡ true
  unfolding unknown
  is-unknown l = le-leb t.handed h l

  pub is_known : h < t.handed → unknown t h ≡ false
  unfolding unknown
  is_known l = lt-leb t.handed h l

-- a handle that can't be freed: never handed out, or Freed
pub spent-one : (c : rule.Scopes) (handles : Handles) (h : ℕ) → (handles.handed ≤ h) ⊎ (is_freed (kind_in (get_or handles.table h 0)) ≡ true) → spent (state_of c handles) h ≡ true
spent-one c handles h w = ⊎_elim (λ l. spent-unknown (state_of c handles) h l) (λ e. spent-freed (state_of c handles) h e) w

-- no more are handed out than the table has
pub handed-few : {s : Scopes} {handles : Handles} → Stands s handles → handles.handed ≤ HANDLES
unfolding base
handed-few stands = stands.state.handles.few

-- ---- a handle that is known as x

module _ (handles : Handles) (h : ℕ) (x : Known) (knows : KnownAs handles h x) where
  -- its slot is a slot
  pub slot-low : x.address.slot.0 < SLOTS
  slot-low = subst (λ (a : ℕ). a < SLOTS) knows.1.slot (low (get_or handles.table h 0))
    where
      low : (b : ℕ) → slot_in b < SLOTS
      low b = omega arith

  -- and its number is below the table's length
  pub below : handles.handed ≤ HANDLES → h < HANDLES
  below few = omega (arith, knows.0)

module _ {s : Scopes} {handles : Handles} (stands : Stands s handles) (h : ℕ) (x : Known) (knows : KnownAs handles h x) where
  abbrev c : rule.Scopes
  c = view s

  abbrev standing : State
  standing = state_of c handles

  abbrev slot : ℕ
  slot = x.address.slot.0

  abbrev pub coded : Coded (get_or handles.table h 0) x
  coded = knows.1

  pub held-is : {q : Bool} → q ≡ held_by s.halves handles.holders slot h → (standing.handles h).held ≡ q
  held-is p = (λ t. held_by s.halves handles.holders (coded.slot t) h) ∙ sym p

  pub unspent-one : is_freed (kind_of x.address.kind) ≡ false → barred standing h ≡ false
  unspent-one live = unbarred standing h refl (unspent standing h knows.0 (ap is_freed coded.kind ∙ live))

  -- ---- another number for the same slot

  module _ (y : Known) (t : Handles) (sets : SetsTo handles h y t) where
    pub now-long : (length t.table ≡ HANDLES) × (length t.holders ≡ SLOTS)
    now-long = subst (λ (u : Handles). (length u.table ≡ HANDLES) × (length u.holders ≡ SLOTS)) (sym sets.1.1) (simp length-set stands.handles-length, stands.holders-length)

    module _ (same : y.address.slot.0 ≡ slot) where
      slots : slot_in sets.0 ≡ slot_in (get_or handles.table h 0)
      slots = sets.1.0.slot ∙ same ∙ sym coded.slot

      changed : (k : Kind) (w : Bool) → kind_of y.address.kind ≡ k → y.written ≡ w
          → handle_at c.slots.occupied (with_number handles h sets.0) ≡ put standing.handles h (record { address = (standing.handles h).address; kind = k; held = (standing.handles h).held; written = w })
      changed k w p q =
          recoding c.slots.occupied handles h sets.0 (omega (arith, below handles h x knows (handed-few stands), stands.handles-length))
          ∙ λ t. put standing.handles h (record {
            address = slots t;
            kind = (sets.1.0.kind ∙ p) t;
            held = c.slots.occupied (slots t) && eqb (get_or handles.holders (slots t) 0) h;
            written = (sets.1.0.written ∙ q) t;
          })

      -- the state with the handle h changed
      pub set-changed : (k : Kind) (w : Bool) → kind_of y.address.kind ≡ k → y.written ≡ w
          → set_handle h (record { address = (standing.handles h).address; kind = k; held = (standing.handles h).held; written = w }) standing ≡ state_of c t
      unfolding set_handle
      set-changed k w p q = (λ t. record { scopes = c; handles = sym (changed k w p q) t; handed = handles.handed; needs = λ n. no_need; needed = 0 }) ∙ ap (state_of c) (sym sets.1.1)

    -- ---- freed, its slot kept

    module _ (is : y ≡ freed_as x) where
      pub set-freed : set_handle h (standing.handles h ▹ kind≔ freed) standing ≡ state_of c t
      set-freed = set-changed (ap (λ (z : Known). z.address.slot.0) is) freed (standing.handles h).written (ap (λ (z : Known). kind_of z.address.kind) is) (ap (λ (z : Known). z.written) is ∙ sym coded.written)

      pub forget-works : is_freed (kind_of x.address.kind) ≡ false → (drained : List ℕ) → Works nowhere (forget h) 0x0e s handles (Ok Nothing) s t drained
      unfolding step
      forget-works live drained = record {
        does = when_false 13 _ (unspent-one live) ∙ ap (one_line (shows 0x0e [])) set-freed;
        stays = λ q. clash q refl;
        whole = stands.whole;
        few = tt;
        handles-length = now-long.0;
        holders-length = now-long.1;
      }

    -- ---- written

    pub write-works : (o : ℕ) (v : Kept) → address_of y.address ≡ address slot (allocated_kind (kind_of x.address.kind)) → y.written ≡ true → (standing.handles h).held ≡ true
        → (drained : List ℕ) → Works nowhere (write h (source_of v)) o s handles (Ok (Store x.address.slot v)) s t drained
    unfolding step
    write-works o v is written held drained = record {
      does =
          when_false 13 _ (is_known standing h knows.0) ∙ when_false 14 _ (ap not held)
          ∙ λ t. one_line (stores (coded.slot t) (source_of v)) (set-changed (ap (λ (a : Address). a.slot) is) (allocated_kind (standing.handles h).kind) true
          (ap (λ (a : Address). a.kind) is ∙ ap allocated_kind (sym coded.kind)) written t);
      stays = λ q. clash q refl;
      whole = stands.whole;
      few = tt;
      handles-length = now-long.0;
      holders-length = now-long.1;
    }

  pub write-14 : (v : Source) → (standing.handles h).held ≡ false → step base nowhere standing (write h v) ≡ refused 14
  unfolding step
  write-14 v e = when_false 13 _ (is_known standing h knows.0) ∙ when_true 14 _ (ap not e)

  -- ---- loaded

  module _ (f : Frame) (o : ℕ) (loads-it : LoadsOf f o s handles h) where
    pub load-14 : (standing.handles h).held ≡ false → step base nowhere standing f ≡ refused 14
    load-14 e = loads-it ∙ when_true 14 _ (ap not e)

    pub load-15 : (standing.handles h).held ≡ true → x.written ≡ false → step base nowhere standing f ≡ refused 15
    load-15 e w = loads-it ∙ when_false 14 _ (ap not e) ∙ when_true 15 _ (ap not (coded.written ∙ w))

    pub load-works : (standing.handles h).held ≡ true → x.written ≡ true → (drained : List ℕ) → Works nowhere f o s handles (Ok (Load x.address.slot)) s handles drained
    load-works e w drained = record {
      does = loads-it ∙ when_false 14 _ (ap not e) ∙ when_false 15 _ (ap not (coded.written ∙ w)) ∙ λ t. one_line (loads o (coded.slot t)) standing;
      stays = λ q. clash q refl;
      whole = stands.whole;
      few = tt;
      handles-length = stands.handles-length;
      holders-length = stands.holders-length;
    }

  -- read of a handle that was handed out is its load
  pub read-loads : LoadsOf (read h) 0x11 s handles h
  unfolding step
  read-loads = when_false 13 _ (is_known standing h knows.0)

-- ---- of a handle that was never handed out, or that is spent

module _ {s : Scopes} {handles : Handles} (stands : Stands s handles) (h : ℕ) (e : Refusal) (drained : List ℕ) where
  pub forget-spent : KnowsUnspent handles h (Err e) → Works nowhere (forget h) 0x0e s handles (Err e) s handles drained
  unfolding step
  forget-spent k = works-refused stands (forget h) 0x0e e (when_true 13 _ (barred-spent (state_of (view s) handles) h (spent-one (view s) handles h k.0)) ∙ ap (λ (x : Refusal). refused (number_of x)) (sym k.1)) drained

  pub write-unknown : (o : ℕ) (v : Source) → Knows handles h (Err e) → Works nowhere (write h v) o s handles (Err e) s handles drained
  unfolding step
  write-unknown o v k = works-refused stands (write h v) o e (when_true 13 _ (is-unknown (state_of (view s) handles) h k.0) ∙ ap (λ (x : Refusal). refused (number_of x)) (sym k.1)) drained

  pub read-unknown : Knows handles h (Err e) → Works nowhere (read h) 0x11 s handles (Err e) s handles drained
  unfolding step
  read-unknown k = works-refused stands (read h) 0x11 e (when_true 13 _ (is-unknown (state_of (view s) handles) h k.0) ∙ ap (λ (x : Refusal). refused (number_of x)) (sym k.1)) drained
