-- 09 define, 0a get, 0b take, 0f drain and 12 read name. Assumes nothing.
use mathlib.Core.Path.{◌≡◌, refl, sym, ap, ◌∙◌}
use mathlib.Core.List.{List, [], ◌∷◌}
use Prim.Native.Nat.{ℕ, ◌≤◌, ◌<◌}
use native.Mathlib.Omega.{arith}
use lib.ListN.{length, length-take}
use Rattle.std.specs.Prelude.{Result, Ok, Err}
use Rattle.rules.specs.Notation.{Answer, given, refused, ◌>>=◌}
use Rattle.rules.specs.Refusals.{number_of, says}
use Rattle.rules.specs.declared.refusal.Refusal.{Refusal}
use Rattle.rules.specs.Sizes.{base, SLOTS}
use Rattle.rules.specs.Scopes as rule
use Rattle.rules.specs.Needs.{is_freed}
use Rattle.rules.specs.Frames as frame
use Rattle.rules.specs.Frames.{State, scopes≔, shows, one_line, Step, step}
use Rattle.rules.proofs.Chains.{unless-some, unless-none, when_true, when_false}
use Rattle.rules.proofs.Leaves.{bind-leaves, take-leaves}
use Rattle.rules.proofs.Held.{got-agrees}
use Rattle.rules.proofs.Tells.{clash}
use Rattle.scopes.specs.View.{view, bound_to, target, told, told_only, replied}
use Rattle.scopes.specs.Steps.{Becomes, Drains}
use Rattle.scopes.specs.Leaves.{Tops}
use Rattle.scopes.specs.declared.Scopes.{Scopes}
use Rattle.scopes.specs.declared.Bound.{Bound}
use Rattle.handles.specs.Handles.{state_of, KnowsUnspent}
use Rattle.handles.specs.declared.Handles.{Handles}
use Rattle.handles.specs.declared.Handle.{Handle as Known}
use Rattle.frames.specs.Steps.{nowhere, loading, LoadsOf, Stands, Works}
use Rattle.frames.specs.declared.steps.Adds.{Adds}
use Rattle.frames.specs.declared.steps.Adds.TheVariants.{Nothing, Slot, Drained}
use Rattle.frames.proofs.Told.{adding, few-adding, given-refused, unless-ok, unless-err, told-then, replied-then}
use Rattle.frames.proofs.Moving.{over-same, works-refused, moved-works, nothing-does}
use Rattle.frames.proofs.Handling.{spent-one, unspent, coded}

-- read name, of what the name's lookup answers
named-chain : (name : ℕ) (t : State) (m : Answer rule.Binding) → rule.get_name base name t.scopes ≡ m → step base nowhere t (frame.read_name name) ≡ (m >>= λ b. loading 0x12 t b.handle)
unfolding step
named-chain name t m e = ap (λ (x : Answer rule.Binding). x >>= λ b. loading 0x12 t b.handle) e

-- what a binding gives is its address
abbrev pub slot_adds : Bound → Adds
slot_adds b = Slot b.address

module _ {s : Scopes} {handles : Handles} (stands : Stands s handles) where
  abbrev c : rule.Scopes
  c = view s

  abbrev standing : State
  standing = state_of c handles

  -- ---- get

  pub get-works : (name : ℕ) (r : Result Bound Refusal) → says bound_to r ≡ replied target (rule.get_name base name c) → (drained : List ℕ) → Works nowhere (frame.get name) 0x0a s handles (adding slot_adds r) s handles drained
  unfolding step
  get-works name r e drained = record {
    does = replied-then bound_to slot_adds 0x0a standing drained target r (rule.get_name base name c) e _ (λ x v _ _ q t. one_line (shows 0x0a ((sym q t).0 ∷ [])) standing);
    stays = λ _. (refl, refl);
    whole = stands.whole;
    few = few-adding slot_adds (λ _. tt) r;
    handles-length = stands.handles-length;
    holders-length = stands.holders-length;
  }

  -- ---- take

  pub take-works : (name : ℕ) (r : Result Bound Refusal) → {s' : Scopes} → Becomes s s' (says bound_to r) (λ c. told target c (rule.take_name base name c)) → (drained : List ℕ)
      → Works nowhere (frame.take_from name) 0x0b s handles (adding slot_adds r) s' handles drained
  unfolding step
  take-works name r {s'} b drained =
      moved-works stands bound_to slot_adds (λ _. tt) r b (frame.take_from name) 0x0b drained
      (told-then bound_to slot_adds 0x0b (state_of (view s') handles) drained target c (view s') r (rule.take_name base name c) b.is _
      (λ x v q d _ i t. one_line (shows 0x0b ((sym i t).0 ∷ [])) (over-same s s' handles drained x.1 (view s') d ((take-leaves base c name).at x q).1.slots-are t)))

  -- ---- drain

  pub drain-works : {s' : Scopes} {n : ℕ} (drained : List ℕ) → Drains s s' n drained → length drained ≡ SLOTS → n ≤ SLOTS → Works nowhere frame.drain 0x0f s handles (Ok (Drained n)) s' handles drained
  unfolding step rule.drain_dangling
  drain-works {s'} {n} drained d long few =
      let m : length c.dangling ≡ n = sym (ap length d.first) ∙ length-take n drained ∙ omega arith in
      record {
        does = λ u. one_line (shows 0x0f (m u ∷ sym d.first u)) (over-same s s' handles drained (rule.dangling≔ [] c) (view s') d.next refl u);
        stays = λ q. clash q refl;
        whole = d.whole;
        few = few;
        handles-length = stands.handles-length;
        holders-length = stands.holders-length;
      }

  -- ---- define

  pub define-3 : (name h : ℕ) (e : Refusal) → Tops s (Err e) → (drained : List ℕ) → Works nowhere (frame.define name h) 0x09 s handles (Err e) s handles drained
  unfolding step
  define-3 name h e t drained = let n = unless-err 3 (rule.top_scope c) e t.is in works-refused stands (frame.define name h) 0x09 e (unless-none 3 _ n.0 ∙ ap refused (sym n.1)) drained

  module _ (name h : ℕ) {i : ℕ} (t : Tops s (Ok i)) where
    pub define-13 : (e : Refusal) → KnowsUnspent handles h (Err e) → (drained : List ℕ) → Works nowhere (frame.define name h) 0x09 s handles (Err e) s handles drained
    unfolding step
    define-13 e k drained =
        works-refused stands (frame.define name h) 0x09 e
        (unless-some 3 _ (unless-ok 3 (rule.top_scope c) t.is) ∙ when_true 13 _ (spent-one c handles h k.0) ∙ ap (λ (x : Refusal). refused (number_of x)) (sym k.1)) drained

    pub define-works : (x : Known) → KnowsUnspent handles h (Ok x) → (r : Result (Unit {0}) Refusal) → {s' : Scopes} → Becomes s s' (says (λ u. u) r) (λ c. told_only c (rule.define_name base name x.address.slot.0 h c)) → (drained : List ℕ)
        → Works nowhere (frame.define name h) 0x09 s handles (adding (λ _. Nothing) r) s' handles drained
    unfolding step
    define-works x k r {s'} b drained =
        let top = unless-ok 3 (rule.top_scope c) t.is in
        let known = coded stands h x k.0 in
        let is = b.is ∙ (λ u. told_only c (rule.define_name base name (sym known.slot u) h c)) ∙ ap (told_only c) (unless-some 3 _ top) in
        moved-works stands (λ (u : Unit {0}). u) (λ _. Nothing) (λ _. tt) r b (frame.define name h) 0x09 drained
        (unless-some 3 _ top ∙ when_false 13 _ (unspent standing h k.0.0 (ap is_freed known.kind ∙ k.1))
        ∙ nothing-does s s' handles drained 0x09 r (rule.bind_in base _ name (standing.handles h).address h c) is (λ y q. ((bind-leaves base c _ name (standing.handles h).address h).at y q).slots-are))

  -- ---- read name

  module _ (name : ℕ) where
    pub named-refused : (e : Refusal) → refused (number_of e) ≡ replied target (rule.get_name base name c) → (drained : List ℕ) → Works nowhere (frame.read_name name) 0x12 s handles (Err e) s handles drained
    unfolding ◌>>=◌
    named-refused e q drained = works-refused stands (frame.read_name name) 0x12 e (go (rule.get_name base name c) refl) drained
      where
        go : (m : Answer rule.Binding) → rule.get_name base name c ≡ m → step base nowhere standing (frame.read_name name) ≡ refused (number_of e)
        go (given b) p = given-refused (sym (q ∙ ap (replied target) p))
        go (refused n) p =
            let z : refused (number_of e) ≡ replied target (refused n) = q ∙ ap (replied target) p in
            let same : number_of e ≡ n = cc in
            named-chain name standing (refused n) p ∙ ap refused (sym same)

    module _ (b : Bound) (is : given (bound_to b) ≡ replied target (rule.get_name base name c)) where
      found : (x : rule.Binding) × ((rule.get_name base name c ≡ given x) × (x.handle ≡ b.handle.0))
      found = go (rule.get_name base name c) refl
        where
          go : (m : Answer rule.Binding) → rule.get_name base name c ≡ m → (x : rule.Binding) × ((rule.get_name base name c ≡ given x) × (x.handle ≡ b.handle.0))
          go (given x) p =
              let z : given (bound_to b) ≡ replied target (given x) = is ∙ ap (replied target) p in
              let same : bound_to b ≡ target x = cc in
              (x, (p, sym (ap (λ (y : ℕ × ℕ). y.1) same)))
          go (refused n) p = given-refused (is ∙ ap (replied target) p)

      -- its handle was handed out
      pub named-known : b.handle.0 < handles.handed
      named-known = let f = found in omega (arith, f.1.1, ((got-agrees base standing stands.state name).at f.0 f.1.0).0)

      pub named-loads : LoadsOf (frame.read_name name) 0x12 s handles b.handle.0
      unfolding ◌>>=◌
      named-loads = let f = found in go f.0 f.1.0 f.1.1
        where
          go : (x : rule.Binding) → rule.get_name base name c ≡ given x → x.handle ≡ b.handle.0 → LoadsOf (frame.read_name name) 0x12 s handles b.handle.0
          go x p q = named-chain name standing (given x) p ∙ λ t. loading 0x12 standing (q t)
