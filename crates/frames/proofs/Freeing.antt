-- 0c free and 0d free without dangling: 13, then where the slot goes back 14, 12. What comes after 13 is also what 25 does to a need's handle.
-- Assumes nothing.
use mathlib.Core.Path.{◌≡◌, refl, sym, ap, ◌∙◌}
use mathlib.Core.Bool.{Bool, true, false, not, ◌&&◌}
use mathlib.Core.List.{List, []}
use Prim.Native.Nat.{ℕ, ◌%◌}
use native.Mathlib.Omega.{arith}
use lib.Dec.{eqb}
use lib.ListN.{get_or}
use Rattle.std.specs.Prelude.{Ok, Err}
use Rattle.rules.specs.Notation.{Answer, given, refused, ◌>>=◌, provided◌then◌else◌, ◌▹◌, put}
use Rattle.rules.specs.Refusals.{number_of}
use Rattle.rules.specs.declared.refusal.Refusal.{Refusal}
use Rattle.rules.specs.declared.refusal.Refusal.TheVariants.{NotHeld}
use Rattle.rules.specs.Sizes.{base}
use Rattle.rules.specs.Slots.{Slots, remove}
use Rattle.rules.specs.Scopes as rule
use Rattle.rules.specs.Needs.{Kind, freed, is_freed, goes_back, give_back}
use Rattle.rules.specs.Frames.{no_need, State, scopes≔, Handle, held≔, kind≔, shows, one_line, set_handle, hand_back, free_as, free_handle, step}
use Rattle.rules.proofs.Chains.{when_true, when_false, refused-on}
use Rattle.rules.proofs.Tables.{put_same, put_other, put-ext, remove-other}
use Rattle.rules.proofs.Tells.{decided, clash, tells-and, tells-true, tells-eq}
use Rattle.rules.proofs.Removing.{remove-stays, remove-clears}
use Rattle.rules.proofs.Leaves.{back-leaves}
use Rattle.scopes.specs.View.{view, Seen, told_only}
use Rattle.scopes.specs.Steps.{Becomes}
use Rattle.scopes.specs.declared.Scopes.{Scopes}
use Rattle.needs.specs.Kinds.{kind_of}
use Rattle.handles.specs.Handles.{slot_in, handle_at, state_of, freed_as, KnownAs, KnowsUnspent, SetsTo, with_number}
use Rattle.handles.specs.declared.Handles.{Handles}
use Rattle.handles.specs.declared.Handle.{Handle as Known}
use Rattle.handles.proofs.Changes.{recoding, clearing}
use Rattle.frames.specs.Steps.{nowhere, freeing, free_code, freed_then, Stands, Works, Comes}
use Rattle.frames.specs.declared.steps.Adds.TheVariants.{Nothing}
use Rattle.frames.proofs.Told.{given-refused}
use Rattle.frames.proofs.Moving.{works-refused, comes-refused}
use Rattle.frames.proofs.Handling.{barred-spent, spent-one, unspent-one, below, handed-few, set-freed, now-long}

-- both frames
pub chain : (dangles : Bool) (h : ℕ) (t : State) → step base nowhere t (freeing dangles h) ≡ freed_then (free_code dangles) (free_handle dangles h t)
unfolding step
chain true h t = refl
chain false h t = refl

module _ {s : Scopes} {handles : Handles} (stands : Stands s handles) (dangles : Bool) (h : ℕ) where
  abbrev c : rule.Scopes
  c = view s

  abbrev standing : State
  standing = state_of c handles

  pub free-13 : (e : Refusal) → KnowsUnspent handles h (Err e) → (drained : List ℕ) → Works nowhere (freeing dangles h) (free_code dangles) s handles (Err e) s handles drained
  unfolding free_handle
  free-13 e k drained =
      works-refused stands (freeing dangles h) (free_code dangles) e
      (chain dangles h standing ∙ refused-on 13 _ (when_true 13 _ (barred-spent standing h (spent-one c handles h k.0))) ∙ ap (λ (x : Refusal). refused (number_of x)) (sym k.1)) drained

  module _ (x : Known) (knows : KnownAs handles h x) where
    -- past 13, it is freed as what it is
    pub free-then : is_freed (kind_of x.address.kind) ≡ false → step base nowhere standing (freeing dangles h) ≡ freed_then (free_code dangles) (free_as (kind_of x.address.kind) dangles h standing)
    unfolding free_handle
    free-then live =
        chain dangles h standing
        ∙ ap (freed_then (free_code dangles)) (when_false 13 _ (unspent-one stands h x knows live))
        ∙ λ t. freed_then (free_code dangles) (free_as (knows.1.kind t) dangles h standing)

    module _ (k : Kind) where
      -- where the slot goes back and where not
      pub goes_back_lem : goes_back c k ≡ true → free_as k dangles h standing ≡ hand_back dangles h standing
      unfolding free_as provided◌then◌else◌
      goes_back_lem e = rw (e, free_as)

      stays : goes_back c k ≡ false → free_as k dangles h standing ≡ given (standing ▹ set_handle h (standing.handles h ▹ kind≔ freed))
      unfolding free_as provided◌then◌else◌
      stays e = rw (e, free_as)

      pub kept-comes : goes_back c k ≡ false → (y : Known) (t : Handles) → y ≡ freed_as x → SetsTo handles h y t → (o : ℕ) (drained : List ℕ) → Comes s handles (freed_then o (free_as k dangles h standing)) o (Ok Nothing) s t drained
      unfolding ◌>>=◌
      kept-comes e y t is sets o drained =
          let long = now-long stands h x knows y t sets in
          record {
            does = ap (freed_then o) (stays e) ∙ ap (one_line (shows o [])) (set-freed stands h x knows y t sets is);
            stays = λ q. clash q refl;
            whole = stands.whole;
            few = tt;
            handles-length = long.0;
            holders-length = long.1;
          }

    -- ---- the slot goes back

    pub back-14 : (standing.handles h).held ≡ false → (o : ℕ) (drained : List ℕ) → Comes s handles (freed_then o (hand_back dangles h standing)) o (Err NotHeld) s handles drained
    unfolding hand_back
    back-14 e o drained = comes-refused stands _ o NotHeld (refused-on 14 _ (when_true 14 _ (ap not e))) drained

    module _ (held : (standing.handles h).held ≡ true) where
      abbrev at : ℕ
      at = slot_in (get_or handles.table h 0)

      abbrev handed-back : rule.Scopes → State
      handed-back d = standing ▹ scopes≔ d ▹ set_handle h (standing.handles h ▹ held≔ false ▹ kind≔ freed)

      backs : (m : Answer rule.Scopes) → give_back dangles at c ≡ m → (o : ℕ) → freed_then o (hand_back dangles h standing) ≡ freed_then o (m >>= λ d. given (handed-back d))
      unfolding hand_back
      backs m e o = ap (freed_then o) (when_false 14 _ (ap not held) ∙ ap (λ (z : Answer rule.Scopes). z >>= λ d. given (handed-back d)) e)

      -- the table's handles once the slot is clear and the number is another one
      module _ (y : Known) (t : Handles) (is : y ≡ freed_as x) (sets : SetsTo handles h y t) where
        abbrev gone : Slots
        gone = remove at c.slots

        slots : slot_in sets.0 ≡ at
        slots = sets.1.0.slot ∙ ap (λ (z : Known). z.address.slot.0) is ∙ sym knows.1.slot

        clear : gone.occupied at ≡ false
        clear = remove-clears at c.slots base.segments stands.state.scopes.slots (stands.state.handles.within h knows.0 held)

        kept : (a : ℕ) → (at ≡ a → ⊥) → gone.occupied a ≡ c.slots.occupied a
        kept a ne = decided (c.slots.occupied a) (λ e. remove-other at a c.slots ne e ∙ sym e) (λ e. remove-stays at c.slots a e ∙ sym e)

        holds : get_or handles.holders at 0 ≡ h
        holds = ((tells-and (tells-true (c.slots.occupied at)) (tells-eq (get_or handles.holders at 0) h)).holds held).1

        abbrev z : Handle
        z = standing.handles h ▹ held≔ false ▹ kind≔ freed

        cleared : handle_at gone.occupied t ≡ put standing.handles h z
        cleared =
            let code = recoding gone.occupied handles h sets.0 (omega (arith, below handles h x knows (handed-few stands), stands.handles-length)) in
            let clears = clearing c.slots.occupied gone.occupied handles h clear kept holds in
            ap (handle_at gone.occupied) sets.1.1
            ∙ put-ext standing.handles h z (handle_at gone.occupied (with_number handles h sets.0))
            (ap (λ (f : ℕ → Handle). f h) code ∙ put_same (handle_at gone.occupied handles) h _
            ∙ (λ u. record {
              address = slots u;
              kind = (sets.1.0.kind ∙ ap (λ (z : Known). kind_of z.address.kind) is) u;
              held = gone.occupied (slots u) && eqb (get_or handles.holders (slots u) 0) h;
              written = (sets.1.0.written ∙ ap (λ (z : Known). z.written) is ∙ sym knows.1.written) u;
            })
            ∙ λ u. record { address = at; kind = freed; held = clear u && eqb (get_or handles.holders at 0) h; written = eqb (get_or handles.table h 0 % 2) 1 })
            (λ j ne. ap (λ (f : ℕ → Handle). f j) code ∙ put_other (handle_at gone.occupied handles) h _ j ne ∙ ap (λ (f : ℕ → Handle). f j) clears ∙ put_other standing.handles h _ j ne)

        after-back : (d e : rule.Scopes) → d ≡ e → d.slots ≡ gone → handed-back d ≡ state_of e t
        unfolding set_handle
        after-back d e q k =
            let p : gone ≡ e.slots = sym k ∙ ap (λ (y : rule.Scopes). y.slots) q in
            (λ u. record { scopes = d; handles = sym cleared u; handed = sym (ap (λ (w : Handles). w.handed) sets.1.1) u; needs = λ n. no_need; needed = 0 })
            ∙ λ u. record { scopes = q u; handles = handle_at (p u).occupied t; handed = t.handed; needs = λ n. no_need; needed = 0 }

        pub back-comes : {s' : Scopes} → Becomes s s' (given tt) (λ c. told_only c (give_back dangles x.address.slot.0 c)) → (op : ℕ) (drained : List ℕ)
            → Comes s handles (freed_then op (hand_back dangles h standing)) op (Ok Nothing) s' t drained
        unfolding ◌>>=◌
        back-comes {s'} b op drained =
            let long = now-long stands h x knows y t sets in
            record {
              does = go (give_back dangles at c) refl;
              stays = λ q. clash q refl;
              whole = b.whole;
              few = tt;
              handles-length = long.0;
              holders-length = long.1;
            }
          where
            there : record { next = view s'; says = given tt } ≡ told_only c (give_back dangles at c)
            there = b.is ∙ λ u. told_only c (give_back dangles (sym knows.1.slot u) c)

            go : (m : Answer rule.Scopes) → give_back dangles at c ≡ m → freed_then op (hand_back dangles h standing) ≡ one_line (shows op []) (state_of (view s') t)
            go (given d) q =
                let same : view s' ≡ d = ap (λ (y : Seen (Unit {0})). y.next) (there ∙ ap (told_only c) q) in
                backs (given d) q op ∙ ap (one_line (shows op [])) (after-back d (view s') (sym same) ((back-leaves c dangles at).at d q).slots-are)
            go (refused n) q = given-refused (ap (λ (y : Seen (Unit {0})). y.says) (there ∙ ap (told_only c) q))

      pub back-12 : (e : Refusal) {s' : Scopes} → Becomes s s' (refused (number_of e)) (λ c. told_only c (give_back dangles x.address.slot.0 c)) → (op : ℕ) (drained : List ℕ)
          → Comes s handles (freed_then op (hand_back dangles h standing)) op (Err e) s' handles drained
      unfolding ◌>>=◌
      back-12 e {s'} b op drained = record {
        does = go (give_back dangles at c) refl;
        stays = λ _. (b.kept refl, refl);
        whole = b.whole;
        few = tt;
        handles-length = stands.handles-length;
        holders-length = stands.holders-length;
      }
        where
          there : record { next = view s'; says = refused (number_of e) } ≡ told_only c (give_back dangles at c)
          there = b.is ∙ λ u. told_only c (give_back dangles (sym knows.1.slot u) c)

          go : (m : Answer rule.Scopes) → give_back dangles at c ≡ m → freed_then op (hand_back dangles h standing) ≡ refused (number_of e)
          go (given d) q = given-refused (sym (ap (λ (y : Seen (Unit {0})). y.says) (there ∙ ap (told_only c) q)))
          go (refused n) q =
              let z : ◌≡◌ {A = Answer (Unit {0})} (refused (number_of e)) (refused n) = ap (λ (y : Seen (Unit {0})). y.says) (there ∙ ap (told_only c) q) in
              let same : number_of e ≡ n = cc in
              backs (refused n) q op ∙ ap refused (sym same)
