-- The dangling list is handed out and emptied. Assumes nothing.
use Rattle.std.proofs.Common.{◌≡◌, ℕ, suc, ◌+◌, ◌<◌, ◌≤◌, false, List, [], ◌++◌, length, get_or, take, set, sym, refl, ap, ◌∙◌, append-nil, add-one, arith, length-set, get_or-set_other, take-suc-set, ne_eqb}
use lib.Seq.{append_snoc}
use Rattle.rules.specs.Sizes.{LINKS, LISTS, SCOPES, SLOTS}
use Rattle.rules.specs.Notation.{put}
use Rattle.rules.specs.AddressSets.{without}
use Rattle.rules.specs.Scopes as rule
use Rattle.rules.proofs.Sets.{without-none}
use Rattle.slots.specs.Halves.{occ}
use Rattle.links.specs.Links.{Held, On, leaves}
use Rattle.std.specs.Prelude.{Some}
use Rattle.links.proofs.Walks.{chains-lists, walk}
use Rattle.links.proofs.Moves.{told-on, leaves-tells}
use Rattle.scopes.specs.View.{list_of, index, view}
use Rattle.scopes.specs.Sound.{Sound, Sized}
use Rattle.scopes.specs.Steps.{Drains}
use Rattle.scopes.specs.declared.Scopes.{Scopes}
use Rattle.scopes.proofs.Tables.{put-nothing}
use Rattle.scopes.proofs.Finds.{in-range}
use Rattle.scopes.proofs.Moves.{owners, ringed, owned, scopes-other}
use Rattle.scopes.proofs.Closes.{Firsts, Turn, turn}

abbrev pub lighter : Scopes → ℕ → List ℕ → Scopes
lighter t a links =
    record t { links = links; owner = set t.owner a LISTS }

-- the loop: n addresses have gone from t₀ into `out`
pub record Draining (t₀ : Scopes) (out₀ : List ℕ) (t : Scopes) (n : ℕ) (out : List ℕ) : Type 0 where
  pub sound : Sound t
  pub sized : Sized t
  pub rest : (rule.drain_dangling (view t)).1 ≡ (rule.drain_dangling (view t₀)).1
  pub done : (view t₀).dangling ≡ take n out ++ (view t).dangling
  pub room : n + length (view t).dangling ≤ SLOTS
  pub long : length out ≡ SLOTS
  pub kept : (k : ℕ) → n ≤ k → get_or out k 0 ≡ get_or out₀ k 0

pub draining-none : (t : Scopes) (out : List ℕ) → Sound t → Sized t → length out ≡ SLOTS → Draining t out t 0 out
draining-none t out h z l =
    record { sound = h; sized = z; rest = refl; done = refl; room = omega (arith, (walk SLOTS LISTS t.links (list_of t.links) h.ringed.rings SCOPES (omega arith)).1); long = l; kept = λ k _. refl }

pub draining-turn : (t₀ : Scopes) (out₀ : List ℕ) (t : Scopes) (a n : ℕ) (out : List ℕ) → Draining t₀ out₀ t n out → Firsts t SCOPES (Some a) → Turn t SCOPES a
draining-turn t₀ out₀ t a n out g = turn t g.sound SCOPES (omega arith) a

module _ (t₀ : Scopes) (out₀ : List ℕ) (t : Scopes) (a n : ℕ) (out : List ℕ) (g : Draining t₀ out₀ t n out) (u : Turn t SCOPES a) where
  pub on : On LISTS (list_of t.links) a
  on = told-on SLOTS LISTS (owners t.owner) (list_of t.links) g.sound.ringed.tells a u.small (omega (arith, u.owner))

  pub has_room : n < SLOTS
  has_room = let e : length (view t).dangling ≡ suc (length u.zs) = ap length u.is in omega (arith, g.room)

  module _ (links : List ℕ) (ll : length links ≡ LINKS) (c : Held SLOTS LISTS links (leaves a (list_of t.links))) where
    now : (j : ℕ) → j < LISTS → list_of links j ≡ without a (list_of t.links j)
    now j hj = chains-lists SLOTS LISTS links (leaves a (list_of t.links)) c j hj

    now-64 : list_of links SCOPES ≡ u.zs
    now-64 = now SCOPES (omega arith) ∙ u.rest

    slot : occ t.halves ≡ put (occ t.halves) a false
    slot = sym (put-nothing (occ t.halves) a false (g.sound.owned.taken a u.small ∙ rw u.owner))

    sound : Sound (lighter t a links)
    sound =
        record {
          slotted = g.sound.slotted;
          ringed = ringed t.links t.owner links (leaves a (list_of t.links)) a LISTS g.sound.ringed u.small g.sized.owner (omega arith) c
              (leaves-tells SLOTS LISTS (owners t.owner) (list_of t.links) g.sound.ringed.tells a u.small LISTS (omega arith));
          owned = owned t.halves t.owner t.live t.size t.halves a LISTS false t.size g.sound.owned u.small g.sized.owner slot refl (λ z. absurd (omega arith)) (λ z. absurd (omega arith)) (omega arith) g.sound.owned.most;
          rooted = g.sound.rooted;
          named = g.sound.named;
        }

    rest : (rule.drain_dangling (view (lighter t a links))).1 ≡ (rule.drain_dangling (view t)).1
    unfolding rule.drain_dangling
    rest =
        λ v. record {
          slots = (view t).slots;
          live = λ j.
              scopes-other t.live t.dangled t.parent t.number (list_of t.links) (list_of links) j
              (λ lj. let hj : j < SCOPES = in-range t g.sized.live j lj in
              now j (omega arith) ∙ without-none a (list_of t.links j) (g.sound.ringed.tells a j u.small (omega arith) ∙ ne_eqb (get_or t.owner a 0) j (omega (arith, u.owner)))) v;
          top = index t.top;
          counter = t.counter;
          bindings = (view t).bindings;
          dangling = [];
          size = t.size;
        }

    pub draining-on : Draining t₀ out₀ (lighter t a links) (n + 1) (set out n a)
    draining-on =
        record {
          sound = sound;
          sized = record { halves = g.sized.halves; links = ll; owner = length-set t.owner a LISTS ∙ g.sized.owner; live = g.sized.live; dangled = g.sized.dangled; parent = g.sized.parent; number = g.sized.number; bindings = g.sized.bindings };
          rest = rest ∙ g.rest;
          done = rw (add-one n, take-suc-set out n a (omega (arith, g.long, has_room)), append_snoc, now-64) (g.done ∙ ap (λ (l : List ℕ). take n out ++ l) u.is);
          room = rw now-64 (let e : length (view t).dangling ≡ suc (length u.zs) = ap length u.is in omega (arith, g.room));
          long = length-set out n a ∙ g.long;
          kept = λ k l. get_or-set_other out n k a 0 (omega arith) ∙ g.kept k (omega arith);
        }

    pub draining-less : length (list_of links SCOPES) < length (list_of t.links SCOPES)
    draining-less = rw (now-64, u.is) (omega arith)

pub drained : (t₀ : Scopes) (out₀ : List ℕ) (t : Scopes) (n : ℕ) (out : List ℕ) → Draining t₀ out₀ t n out → list_of t.links SCOPES ≡ []
    → Drains t₀ t n out
unfolding rule.drain_dangling
drained t₀ out₀ t n out g e = record {
  next = (λ v. record { slots = (view t).slots; live = (view t).live; top = (view t).top; counter = t.counter; bindings = (view t).bindings; dangling = e v; size = t.size }) ∙ g.rest;
  first = sym (g.done ∙ ap (λ (l : List ℕ). take n out ++ l) e ∙ append-nil (take n out));
  whole = record { sound = g.sound; sized = g.sized };
}
