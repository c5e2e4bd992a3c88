-- Clear slots are given to a scope, one after another: from here, what is left to give comes to the same. Assumes nothing.
use Rattle.std.proofs.Common.{◌≡◌, ℕ, suc, ◌+◌, ◌-◌, ◌<◌, ◌≤◌, max, Bool, true, false, List, length, get_or, sym, refl, ap, ◌∙◌, add-one, arith}
use mathlib.Core.Option.{Option, some}
use Rattle.rules.specs.Sizes.{HALVES, LINKS, LISTS, SCOPES, SEGMENTS, SLOTS}
use Rattle.rules.specs.Notation.{put}
use Rattle.rules.specs.AddressSets.{added, without, added_all, without_all, run}
use Rattle.rules.specs.Scopes as rule
use Rattle.rules.proofs.Tables.{put_other}
use Rattle.slots.specs.Halves.{occ}
use Rattle.slots.specs.Spots.{Vacant, filled}
use Rattle.links.specs.Links.{Held, leaves, gains}
use Rattle.scopes.specs.View.{list_of, index, view, scope_of, run_for}
use Rattle.scopes.specs.Sound.{Slotted, Sound, Sized}
use Rattle.scopes.specs.Steps.{Whole, Lives, roomy, Handed}
use Rattle.scopes.specs.declared.Scopes.{Scopes}
use Rattle.scopes.proofs.Tables.{put-nothing, put-again}
use Rattle.scopes.proofs.Places.{taken, at-k, at-64, live-is, sound, sized}

-- ---- one slot

module _ (t : Scopes) (h : Sound t) (z : Sized t) (k : ℕ) (hk : k < SCOPES) (lk : get_or t.live k false ≡ true) (a : ℕ) (ha : a < SLOTS) (clear : occ t.halves a ≡ false)
    (halves links : List ℕ) (slot : occ halves ≡ put (occ t.halves) a true) (c : Held SLOTS LISTS links (gains k a (leaves a (list_of t.links)))) where
  abbrev then : Scopes
  then = taken t k a halves links t.segments t.head t.size

  given-one : (m : ℕ) → run_for then k (suc a) m ≡ run_for t k a (suc m)
  unfolding rule.set_scope filled added_all without_all run
  given-one m =
      let o : added_all (run (suc a) m) (list_of links k) ≡ added_all (run (suc a) m) (added a (list_of t.links k)) = ap (added_all (run (suc a) m)) (at-k t h z k hk lk a ha clear halves links slot c) in
      let l : put (view then).live k (some (rule.owned≔ (added_all (run (suc a) m) (list_of links k)) (scope_of t k)))
      ≡ put (view t).live k (some (rule.owned≔ (added_all (run (suc a) m) (added a (list_of t.links k))) (scope_of t k))) =
      ap (λ (f : ℕ → Option rule.Scope). put f k (some (rule.owned≔ (added_all (run (suc a) m) (list_of links k)) (scope_of t k)))) (live-is t h z k hk lk a ha clear halves links slot c t.segments t.head t.size)
      ∙ put-again (view t).live k _ _
      ∙ ap (λ (x : List ℕ). put (view t).live k (some (rule.owned≔ x (scope_of t k)))) o in
      let d : without_all (run (suc a) m) (list_of links SCOPES) ≡ without_all (run (suc a) m) (without a (list_of t.links SCOPES)) = ap (without_all (run (suc a) m)) (at-64 t h z k hk lk a ha clear halves links slot c) in
      let e : max t.size (suc a + m) ≡ max t.size (a + suc m) = omega arith in
      λ u. record {
        slots = record { occupied = filled (suc a) m (slot u); segments = t.segments; head = t.head };
        live = l u;
        top = index t.top;
        counter = t.counter;
        bindings = (view t).bindings;
        dangling = d u;
        size = e u;
      }

-- ---- the loop: t has come from s, and a is next; g + n is one past the run

pub record Running (s : Scopes) (k g n : ℕ) (t : Scopes) (a : ℕ) : Type 0 where
  pub sound : Sound t
  pub sized : Sized t
  pub live : get_or t.live k false ≡ true
  pub low : g ≤ a
  pub high : a ≤ g + n
  pub clear : (b : ℕ) → a ≤ b → b < g + n → occ t.halves b ≡ false
  pub whole : t.segments ≡ SEGMENTS
  pub above : g + n ≤ t.size
  pub same : run_for t k a (g + n - a) ≡ run_for s k g n

module _ (s : Scopes) (k g n : ℕ) (hk : k < SCOPES) (fits : g + n ≤ SLOTS) (t : Scopes) (a : ℕ) (r : Running s k g n t a) where
  pub running-on : (lt : a < g + n) (halves links : List ℕ) → length halves ≡ HALVES → length links ≡ LINKS → occ halves ≡ put (occ t.halves) a true
      → Held SLOTS LISTS links (gains k a (leaves a (list_of t.links)))
      → Running s k g n (taken t k a halves links t.segments t.head t.size) (a + 1)
  running-on lt halves links lh ll slot c =
      record {
        sound = sound t r.sound r.sized k hk r.live a ha clear halves links slot c t.segments t.head t.size slotted (omega (arith, r.above)) (omega arith) r.sound.owned.most;
        sized = sized t r.sound r.sized k hk r.live a ha clear halves links slot c t.segments t.head t.size lh ll;
        live = r.live;
        low = omega (arith, r.low);
        high = omega arith;
        clear = λ b lo hi. ap (λ (f : ℕ → Bool). f b) slot ∙ put_other (occ t.halves) a true b (omega arith) ∙ r.clear b (omega arith) hi;
        whole = r.whole;
        above = r.above;
        same =
            let e : g + n - (a + 1) ≡ g + n - a - 1 = omega arith in
            let f : suc (g + n - a - 1) ≡ g + n - a = omega arith in
            rw (add-one a) (ap (run_for (taken t k a halves links t.segments t.head t.size) k (suc a)) (ap (λ (x : ℕ). g + n - x) (sym (add-one a)) ∙ e)
            ∙ given-one t r.sound r.sized k hk r.live a ha clear halves links slot c (g + n - a - 1)
            ∙ ap (run_for t k a) f ∙ r.same);
      }
    where
      ha : a < SLOTS
      ha = omega arith

      clear : occ t.halves a ≡ false
      clear = r.clear a (omega arith) lt

      -- no slot is past all segments
      slotted : Slotted halves t.segments t.head
      slotted = record { most = r.sound.slotted.most; front = r.sound.slotted.front; none = λ b lo hi. absurd (omega (arith, r.whole)) }

  pub running-done : g + n ≤ a → view t ≡ run_for s k g n
  unfolding rule.set_scope filled added_all without_all run
  running-done l =
      let z : g + n - a ≡ 0 = omega arith in
      let e : t.size ≡ max t.size (a + 0) = omega (arith, r.above, r.high) in
      let q : (view t).live ≡ put (view t).live k (some (scope_of t k)) = sym (put-nothing (view t).live k (some (scope_of t k)) (rw r.live)) in
      (λ u. record { slots = (view t).slots; live = q u; top = index t.top; counter = t.counter; bindings = (view t).bindings; dangling = (view t).dangling; size = e u })
      ∙ ap (run_for t k a) (sym z) ∙ r.same

pub running_none : (s : Scopes) (k g n : ℕ) → Whole s → Lives s k → Vacant (occ s.halves) g n → (size : ℕ) → size ≡ max s.size (g + n) → Running (roomy s size) k g n (roomy s size) g
running_none s k g n w l v size es =
    let h = w.sound in
    let z = w.sized in
    let fits = v.0 in
    record {
      sound = record {
        slotted = record { most = omega arith; front = h.slotted.front; none = λ b lo hi. absurd (omega arith) };
        ringed = h.ringed;
        owned = record { taken = h.owned.taken; alive = h.owned.alive; above = λ a ha o. omega (arith, h.owned.above a ha o); most = omega (arith, h.owned.most) };
        rooted = h.rooted;
        named = h.named;
      };
      sized = record { halves = z.halves; links = z.links; owner = z.owner; live = z.live; dangled = z.dangled; parent = z.parent; number = z.number; bindings = z.bindings };
      live = l.1;
      low = omega arith;
      high = omega arith;
      clear = λ b lo hi. let e : g + (b - g) ≡ b = omega arith in ap (occ s.halves) (sym e) ∙ v.1 (b - g) (omega arith);
      whole = refl;
      above = omega arith;
      same = let e : g + n - g ≡ n = omega arith in ap (run_for (roomy s size) k g) e;
    }

-- all are given
pub handed : (s : Scopes) (k g n : ℕ) → k < SCOPES → g + n ≤ SLOTS → (t : Scopes) (a size : ℕ) → Running (roomy s size) k g n (roomy t size) a → g + n ≤ a → Handed s k g n t size
handed s k g n hk fits t a size r l = record { is = running-done (roomy s size) k g n hk fits (roomy t size) a r l; whole = record { sound = r.sound; sized = r.sized } }
