-- A clear slot is given to a scope: one after another, those that a placement chose. Assumes nothing.
use Rattle.std.proofs.Common.{◌≡◌, ℕ, ◌<◌, ◌≤◌, true, false, List, length, get_or, set, sym, ap, ◌∙◌, arith, length-set, ltb-false, lt-ltb, ne_eqb}
use mathlib.Core.Option.{some}
use Rattle.rules.specs.Sizes.{HALVES, LINKS, LISTS, SCOPES, SLOTS}
use Rattle.rules.specs.Notation.{put}
use Rattle.rules.specs.AddressSets.{added, without}
use Rattle.rules.specs.Scopes as rule
use Rattle.rules.proofs.Tables.{put_same, put_other}
use Rattle.rules.proofs.Sets.{without-none}
use Rattle.slots.specs.Halves.{occ}
use Rattle.links.specs.Links.{Held, leaves, gains}
use Rattle.links.proofs.Walks.{chains-lists}
use Rattle.links.proofs.Moves.{places-tells}
use Rattle.scopes.specs.View.{list_of, scope_of, view}
use Rattle.scopes.specs.Sound.{Slotted, Sound, Sized}
use Rattle.scopes.specs.declared.Scopes.{Scopes}
use Rattle.scopes.proofs.Finds.{in-range}
use Rattle.scopes.proofs.Moves.{owners, ringed, owned, scopes-put}

-- the state s with slot a given to scope k
abbrev pub taken : Scopes → ℕ → ℕ → List ℕ → List ℕ → ℕ → ℕ → ℕ → Scopes
taken s k a halves links segments head size =
    record s { halves = halves; links = links; owner = set s.owner a k; segments = segments; head = head; size = size }

module _ (s : Scopes) (h : Sound s) (z : Sized s) (k : ℕ) (hk : k < SCOPES) (lk : get_or s.live k false ≡ true) (a : ℕ) (ha : a < SLOTS) (clear : occ s.halves a ≡ false)
    (halves links : List ℕ) (slot : occ halves ≡ put (occ s.halves) a true) (c : Held SLOTS LISTS links (gains k a (leaves a (list_of s.links)))) where
  -- no scope owns it
  free : SCOPES ≤ get_or s.owner a 0
  free = ltb-false _ _ (sym (h.owned.taken a ha) ∙ clear)

  unowned : (j : ℕ) → j < SCOPES → without a (list_of s.links j) ≡ list_of s.links j
  unowned j hj = without-none a (list_of s.links j) (h.ringed.tells a j ha (omega arith) ∙ ne_eqb (get_or s.owner a 0) j (omega (arith, free)))

  now : (j : ℕ) → j < LISTS → list_of links j ≡ gains k a (leaves a (list_of s.links)) j
  now j hj = chains-lists SLOTS LISTS links _ c j hj

  pub at-k : list_of links k ≡ added a (list_of s.links k)
  at-k = now k (omega arith) ∙ put_same (leaves a (list_of s.links)) k _ ∙ ap (added a) (unowned k hk)

  pub at-64 : list_of links SCOPES ≡ without a (list_of s.links SCOPES)
  at-64 = now SCOPES (omega arith) ∙ put_other (leaves a (list_of s.links)) k _ SCOPES (omega arith)

  pub live-is : (segments head size : ℕ) → (view (taken s k a halves links segments head size)).live ≡ put (view s).live k (some (rule.owned≔ (added a (list_of s.links k)) (scope_of s k)))
  live-is segments head size =
      scopes-put s.live s.dangled s.parent s.number (list_of s.links) (list_of links) k (added a (list_of s.links k)) lk at-k
      (λ j lj n. let hj : j < SCOPES = in-range s z.live j lj in now j (omega arith) ∙ put_other (leaves a (list_of s.links)) k _ j (λ e. n (sym e)) ∙ unowned j hj)

  pub sound : (segments head size : ℕ) → Slotted halves segments head → a < size → s.size ≤ size → size ≤ SLOTS → Sound (taken s k a halves links segments head size)
  sound segments head size sl above grows most =
      record {
        slotted = sl;
        ringed = ringed s.links s.owner links _ a k h.ringed ha z.owner (omega arith) c (places-tells SLOTS LISTS (owners s.owner) (list_of s.links) h.ringed.tells a ha k (omega arith));
        owned = owned s.halves s.owner s.live s.size halves a k true size h.owned ha z.owner slot (sym (lt-ltb k SCOPES hk)) (λ _. lk) (λ _. above) grows most;
        rooted = h.rooted;
        named = h.named;
      }

  pub sized : (segments head size : ℕ) → length halves ≡ HALVES → length links ≡ LINKS → Sized (taken s k a halves links segments head size)
  sized segments head size lh ll =
      record { halves = lh; links = ll; owner = length-set s.owner a k ∙ z.owner; live = z.live; dangled = z.dangled; parent = z.parent; number = z.number; bindings = z.bindings }
