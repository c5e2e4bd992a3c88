-- Document 02, W-201: 25 is refused by 21 alone, in every room that is wide enough and for every fair placement; where it gives a slot
-- back, the handle is held and the top owns the slot, by OwnHandles. Assumes nothing.
use mathlib.Core.Path.{◌≡◌, refl, sym, ap, ◌∙◌}
use mathlib.Core.Bool.{Bool, true, false}
use mathlib.Core.Option.{Option, none, some}
use mathlib.Core.List.{List, [], ◌∷◌, ◌++◌}
use Prim.Native.Nat.{ℕ, suc, ◌+◌, ◌<◌}
use native.Mathlib.Omega.{arith}
use lib.ListN.{length, length-append}
use Rattle.rules.specs.Notation.{Answer, given, refused, ◌>>=◌, refuse◌when◌, refuse◌unless◌, provided◌then◌else◌}
use Rattle.rules.specs.Sizes.{Room, base}
use Rattle.rules.specs.Slots.{Placement, Place, placing}
use Rattle.rules.specs.AddressSets.{member}
use Rattle.rules.specs.Scopes.{Id, Scopes, Found, top_scope}
use Rattle.rules.specs.Needs.{Kind, local, dangling, assigned, freed, scope, address, is_scope, goes_back, give_back, Need, defer, at, ignore, freed_need}
use Rattle.rules.specs.Frames.{Frame, drop_need, is_scope_kind, State, start, lost, hand_back, free_as, free_own, Step, step, refused_at, onward, steps}
use Rattle.rules.specs.Text.{split, titled, title, read_script}
use Rattle.rules.specs.Entries.{outcome, translated}
use Rattle.rules.specs.Demand3.{Fair}
use Rattle.rules.specs.Drops.{DropsUnlessLost, DropsUnlessLostBytes}
use Rattle.rules.proofs.Tells.{clash, tells-and, tells-eq}
use Rattle.rules.proofs.Sound.{SlotsSound, StateSound}
use Rattle.rules.proofs.Naming.{top-at}
use Rattle.rules.proofs.Needing.{found}
use Rattle.rules.proofs.Demand3.{next-frame}
use Rattle.rules.proofs.Refusals.{behind, refused-from}
use Rattle.rules.proofs.Small.{Small, small-start, small-step}
use Rattle.rules.proofs.Fits.{Wide, base-wide}
use Rattle.rules.proofs.Scripts.{read-well}
use Rattle.rules.proofs.Editions.{placing-fair-sound}
use Rattle.rules.proofs.Bytes.{title-short}
use Rattle.rules.proofs.KeepsSteps.{keeps-step}
use Rattle.rules.proofs.Reached.{start-sound}
use Rattle.rules.proofs.OwnHandles.{Kept, Owned, start-owned, owned-step}

-- given, not refused
abbrev accepts : {A : Type 0} → Answer A → Bool
accepts (given a) = true
accepts (refused n) = false

-- ---- a step

module _ (room : Room) (s : State) (own : Owned room s) where
  abbrev c : Scopes
  c = s.scopes

  back-accepted : (h : ℕ) (t : Found) → top_scope c ≡ some t → (s.handles h).held ≡ true → member (s.handles h).address t.scope.owned ≡ true → accepts (hand_back true h s) ≡ true
  unfolding hand_back give_back ◌>>=◌ refuse◌when◌ refuse◌unless◌
  back-accepted h t top held has = rw (held, top, has)

  -- the slot goes back where the scope of id is the top, and so is live
  free-accepted : (h : ℕ) (id : Id) → Kept room c s.handles id h → accepts (free_as (scope id) true h s) ≡ true
  unfolding free_as goes_back provided◌then◌else◌
  free-accepted h id k = go (top_scope c) refl (is_scope id (top_scope c)) refl
    where
      go : (o : Option Found) → top_scope c ≡ o → (b : Bool) → is_scope id (top_scope c) ≡ b → accepts (free_as (scope id) true h s) ≡ true
      go o e false q = rw (q, free_as)
      go none e true q = clash q (rw e)
      go (some t) e true q =
          let w = (tells-and (tells-eq t.index id.index) (tells-eq t.scope.number id.number)).holds (rw e at q) in
          let r = k.holds t.scope (ap c.live (sym w.0) ∙ (top-at c t e).1) w.1 in
          rw (q, free_as) (back-accepted h t e r.0 r.1)

  own-accepted : (n : ℕ) → n < s.needed → (d : Need) → (s.needs n).need ≡ d → accepts (free_own (s.needs n).handle s d) ≡ true
  unfolding free_own provided◌then◌else◌
  own-accepted n l (defer id) e = refl
  own-accepted n l (at a) e = go a.kind refl
    where
      go : (k : Kind) → a.kind ≡ k → accepts (provided is_scope_kind k then free_as k true (s.needs n).handle s else given s) ≡ true
      go local q = refl
      go dangling q = refl
      go assigned q = refl
      go freed q = refl
      go (scope id) q = free-accepted (s.needs n).handle id (own.kept n a.slot id l (e ∙ ap (λ (k : Kind). at (address a.slot k)) q))
  own-accepted n l ignore e = refl
  own-accepted n l freed_need e = refl

  -- so only the test for 21 can refuse
  drop-refused : (place : Placement) (need n : ℕ) → step room place s (drop_need need) ≡ refused n → n ≡ 21
  unfolding step ◌>>=◌ refuse◌when◌
  drop-refused place need n e = go (lost s need) refl (free_own (s.needs need).handle s (s.needs need).need) refl
    where
      go : (b : Bool) → lost s need ≡ b → (m : Answer State) → free_own (s.needs need).handle s (s.needs need).need ≡ m → n ≡ 21
      go true p m q = let x : ◌≡◌ {A = Step} (refused 21) (refused n) = rw (p, step) at e in cc
      go false p (given t) q = clash refl (ap accepts (rw (p, q, step) at e))
      go false p (refused k) q = clash (own-accepted need (found s need p) (s.needs need).need refl) (ap accepts q)

-- ---- scripts

module _ (room : Room) (wide : Wide room) (place : Placement) (fair : Fair room place (SlotsSound room.segments)) where
  -- from line i on: each state before the 25 is sound, holds its needs' handles, and has a counter of at most one more than its line
  drops : (fs : List Frame) (i : ℕ) (s : State) (need : ℕ) (more : List Frame) (n : ℕ) → i + length fs < room.lines → StateSound room s → Owned room s → Small i s
      → steps room place i s (fs ++ (drop_need need ∷ more)) ≡ refused_at n (i + length fs) → n ≡ 21
  unfolding onward
  drops [] i s need more n few ok own small e = go (step room place s (drop_need need)) refl (sym (next-frame room place i s (drop_need need) more) ∙ e)
    where
      go : (a : Step) → step room place s (drop_need need) ≡ a → onward i a (λ t. steps room place (suc i) t more) ≡ refused_at n (i + 0) → n ≡ 21
      go (refused m) p q = let x : m ≡ n = cc in drop-refused room s own place need n (p ∙ ap refused x)
      go (given r) p q = absurd (omega (arith, refused-from room place more (suc i) r.1 n (i + 0) (behind room place r.0 (steps room place (suc i) r.1 more) n (i + 0) q)))
  drops (f ∷ fs) i s need more n few ok own small e =
      go (step room place s f) refl (sym (next-frame room place i s f (fs ++ (drop_need need ∷ more))) ∙ e) (λ t ok' own' small' q. drops fs (suc i) t need more n (omega arith) ok' own' small' q)
    where
      rest : List Frame
      rest = fs ++ (drop_need need ∷ more)

      go : (a : Step) → step room place s f ≡ a → onward i a (λ t. steps room place (suc i) t rest) ≡ refused_at n (i + suc (length fs))
          → ((t : State) → StateSound room t → Owned room t → Small (suc i) t → steps room place (suc i) t rest ≡ refused_at n (suc i + length fs) → n ≡ 21) → n ≡ 21
      go (refused m) p q ih = absurd (let x : i ≡ i + suc (length fs) = cc in omega arith)
      go (given r) p q ih =
          let line : i + suc (length fs) ≡ suc i + length fs = omega arith in
          ih r.1
          ((keeps-step room s ok wide.slots place fair f).at r p)
          ((owned-step room s ok own (omega (arith, small.count, wide.lines)) place f).at r p)
          ((small-step room place fair (omega (arith, wide.slots, wide.size)) i s ok.scopes.slots small f).at r p)
          (behind room place r.0 (steps room place (suc i) r.1 rest) n (i + suc (length fs)) q ∙ ap (refused_at n) line)

  pub drops-unless-lost : DropsUnlessLost room place
  unfolding DropsUnlessLost
  drops-unless-lost i fs need more n few e = drops fs i start need more n few (start-sound room wide.segments wide.scopes) (start-owned room) (small-start i) e

pub drops-unless-lost-bytes : (room : Room) → Wide room → DropsUnlessLostBytes room
unfolding DropsUnlessLost DropsUnlessLostBytes translated outcome read_script
drops-unless-lost-bytes room wide script fs need more n r e =
    let p : Place = (read_script room script).place in
    let i : ℕ = length (title p) in
    let all : List Frame = fs ++ (drop_need need ∷ more) in
    drops-unless-lost room wide (placing room.segments p) (placing-fair-sound room wide.segments p) i fs need more n
    (omega (arith, (read-well room (titled (split script)).rest i all (title-short room wide p) r).few, length-append fs (drop_need need ∷ more)))
    (behind room (placing room.segments p) (title p) (steps room (placing room.segments p) i start all) n (i + length fs) (sym (rw r) ∙ e))

-- in our room
pub drops-base : (p : Place) → DropsUnlessLost base (placing base.segments p)
unfolding base
drops-base p = drops-unless-lost base base-wide (placing base.segments p) (placing-fair-sound base base-wide.segments p)

pub drops-bytes-base : DropsUnlessLostBytes base
drops-bytes-base = drops-unless-lost-bytes base base-wide
